use Rattle.px_trials.proofs.on_groups.on_group.Given as goal

abbrev pub ghosts-on_frame-L-Ledger : goal.ghosts-on_frame-L-Ledger
ghosts-on_frame-L-Ledger a = record { name = a.kernels.name; parts = a.kernels.parts }

abbrev pub ghosts-on_frame-M-Ledger : goal.ghosts-on_frame-M-Ledger
ghosts-on_frame-M-Ledger a = record { name = a.groupings.name; parts = a.groupings.parts }
