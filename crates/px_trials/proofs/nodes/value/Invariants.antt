use Rattle.px_trials.proofs.nodes.value.Given as goal

abbrev pub ghosts-value_with_counters-L-Ledger : goal.ghosts-value_with_counters-L-Ledger
ghosts-value_with_counters-L-Ledger a = record { name = a.kernels.name; parts = a.kernels.parts }

abbrev pub ghosts-value_with_counters-M-Ledger : goal.ghosts-value_with_counters-M-Ledger
ghosts-value_with_counters-M-Ledger a = record { name = a.groupings.name; parts = a.groupings.parts }
