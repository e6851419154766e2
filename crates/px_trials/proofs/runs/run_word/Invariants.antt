use Rattle.px_trials.proofs.runs.run_word.Given as goal

abbrev pub ghosts-run_with_counters-L-Ledger : goal.ghosts-run_with_counters-L-Ledger
ghosts-run_with_counters-L-Ledger a = record { name = a.kernels.name; parts = a.kernels.parts }

abbrev pub ghosts-run_with_counters-M-Ledger : goal.ghosts-run_with_counters-M-Ledger
ghosts-run_with_counters-M-Ledger a = record { name = a.groupings.name; parts = a.groupings.parts }
