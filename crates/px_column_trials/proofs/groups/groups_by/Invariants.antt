use Rattle.px_column_trials.proofs.groups.groups_by.Given as goal

abbrev pub ghosts-groups_with_counter : goal.ghosts-groups_with_counter
ghosts-groups_with_counter a = record { name = a.blank.name; parts = a.blank.parts }
