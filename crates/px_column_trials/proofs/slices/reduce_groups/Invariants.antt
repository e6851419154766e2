use Rattle.px_column_trials.proofs.slices.reduce_groups.Given as goal

abbrev pub ghosts-reduction_with_counter : goal.ghosts-reduction_with_counter
ghosts-reduction_with_counter a = record { name = a.blank.name; parts = a.blank.parts }
