use Rattle.px_trials.proofs.runs.run_beside.Given as goal

abbrev pub ghosts-beside_outside-L-Ledger : goal.ghosts-beside_outside-L-Ledger
ghosts-beside_outside-L-Ledger a = record { name = a.kernels.name; parts = a.kernels.parts }

abbrev pub ghosts-beside_outside-M-Ledger : goal.ghosts-beside_outside-M-Ledger
ghosts-beside_outside-M-Ledger a = record { name = a.groupings.name; parts = a.groupings.parts }
