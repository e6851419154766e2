use Rattle.px_trials.proofs.on_groups.both_ways.Given as goal

abbrev pub ghosts-on_groups-L-Ledger : goal.ghosts-on_groups-L-Ledger
ghosts-on_groups-L-Ledger a = record { name = a.kernels.name; parts = a.kernels.parts }

abbrev pub ghosts-on_groups-M-Ledger : goal.ghosts-on_groups-M-Ledger
ghosts-on_groups-M-Ledger a = record { name = a.groupings.name; parts = a.groupings.parts }
