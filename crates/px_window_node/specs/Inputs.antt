-- What a window has of its inputs.
use Rattle.std.specs.Prelude.{◌≡◌, ℕ, List, Option, Some, None}
use Rattle.px_column.specs.Prelude.{Series}
use Rattle.px_value.specs.declared.sort_options.SortOptions.{SortOptions}
use Rattle.px_frame.specs.External.{Frame}
use Rattle.px_tree.specs.Window.{OrderCell}
use Rattle.px_answers.specs.Counted.{GroupedAtMost, RunAtMost}
use Rattle.px_answers.specs.Planned.{Planned}
use Rattle.px_answers.specs.Value.{IsCellOf}

-- a cell is the value of what rows are ordered by, beside how; there is none where nothing orders them
abbrev pub IsOrderOf : Option (Planned × SortOptions) → Frame → OrderCell → Type 0
IsOrderOf None frame None = Unit {0}
IsOrderOf (Some o) frame (Some c) = IsCellOf o.0 frame c.0 × (c.1 ≡ o.1)
IsOrderOf _ frame _ = ⊥

-- a count rose by no more than the cost of what rows are ordered by, where it has one; without an order it stayed
abbrev pub RunOrderAtMost : Option (Planned × SortOptions) → Frame → ℕ → ℕ → Type 0
RunOrderAtMost None frame old new = new ≡ old
RunOrderAtMost (Some o) frame old new = RunAtMost o.0.tree frame old new

-- and by no more than the windows of what rows are ordered by
abbrev pub GroupedOrderAtMost : Option (Planned × SortOptions) → ℕ → ℕ → Type 0
GroupedOrderAtMost None old new = new ≡ old
GroupedOrderAtMost (Some o) old new = GroupedAtMost o.0.tree old new

-- a column under the name that it is given, if any
abbrev pub named_out : Option (List ℕ) → Series → Series
named_out None s = s
named_out (Some n) s = record s { name = n }
