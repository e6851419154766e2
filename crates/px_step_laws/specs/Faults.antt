-- The faults of steps whose types are accepted.
use Rattle.std.specs.Prelude.{◌≡◌, true, List, [], ◌∷◌, ◌++◌, None}
use Rattle.std.specs.List.{list_all}
use Rattle.px_frame.specs.External.{Frame}
use Rattle.px_laws.specs.Faults.{is_value_fault}
use Rattle.px_laws.specs.Fitting.{has_fitting_columns, has_fitting_literals}
use Rattle.px_steps.specs.Plain.{first_refusal, step_faults}
use Rattle.px_tree.specs.Step.{PlainStep, select, filter, group}
use Rattle.px_tree.specs.Tree.{Tree}

-- the expressions of a step
abbrev pub step_trees : PlainStep → List Tree
step_trees (select es) = es
step_trees (filter e) = e ∷ []
step_trees (group keys aggs chunks) = keys ++ aggs

-- a step that is not refused has faults of values, or of how many there are, alone on each frame whose columns fit their
-- types
abbrev pub StepFailsByValue : PlainStep → Type 0
StepFailsByValue s =
    (frame : Frame) → has_fitting_columns frame ≡ true → list_all has_fitting_literals (step_trees s) ≡ true
    → first_refusal s frame ≡ None → list_all is_value_fault (step_faults s frame) ≡ true
