use Rattle.px_context_trials.proofs.kept.kept.Given as goal

abbrev pub ghosts-keep_all-L-Ledger : goal.ghosts-keep_all-L-Ledger
ghosts-keep_all-L-Ledger a = record { name = a.kernels.name; parts = a.kernels.parts }

abbrev pub ghosts-keep_all-M-Ledger : goal.ghosts-keep_all-M-Ledger
ghosts-keep_all-M-Ledger a = record { name = a.groupings.name; parts = a.groupings.parts }
