use Rattle.px_trials.proofs.library.totals_of.Given as goal

abbrev pub ghosts-totals_with_counters-L-Ledger : goal.ghosts-totals_with_counters-L-Ledger
ghosts-totals_with_counters-L-Ledger a = record { name = a.kernels.name; parts = a.kernels.parts }

abbrev pub ghosts-totals_with_counters-M-Ledger : goal.ghosts-totals_with_counters-M-Ledger
ghosts-totals_with_counters-M-Ledger a = record { name = a.groupings.name; parts = a.groupings.parts }
