use Rattle.px_column_trials.proofs.random_columns.fast_text.Given as goal

abbrev pub ghosts-fast : goal.ghosts-fast
ghosts-fast a = record { name = a.blank.name; parts = a.blank.parts }
