use Rattle.px_trials.proofs.plain.rows_of_groups.Given as goal

abbrev pub ghosts-groups_with_counter : goal.ghosts-groups_with_counter
ghosts-groups_with_counter a = record { name = a.groupings.name; parts = a.groupings.parts }
