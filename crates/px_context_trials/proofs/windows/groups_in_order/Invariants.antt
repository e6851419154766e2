use Rattle.px_context_trials.proofs.windows.groups_in_order.Given as goal

abbrev pub ghosts-groups_with_counters-L-Ledger : goal.ghosts-groups_with_counters-L-Ledger
ghosts-groups_with_counters-L-Ledger a = record { name = a.kernels.name; parts = a.kernels.parts }

abbrev pub ghosts-groups_with_counters-M-Ledger : goal.ghosts-groups_with_counters-M-Ledger
ghosts-groups_with_counters-M-Ledger a = record { name = a.groupings.name; parts = a.groupings.parts }
