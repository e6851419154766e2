-- The measure by which the calls of a node's children end.
use Rattle.std.specs.Prelude.{ℕ}
use Rattle.px_tree.specs.Nodes.{nodes_of}
use Rattle.px_answers.specs.Parts.{PlannedBinary, PlannedTernary, PlannedCast, PlannedApply, PlannedFilter, PlannedSlice, PlannedGather, PlannedSort, PlannedSortBy, PlannedReduction, PlannedWindow, binary_plan, ternary_plan, cast_plan, apply_plan, filter_plan, slice_plan, gather_plan, sort_plan, sort_by_plan, reduction_plan, window_plan}
use Rattle.px_answers.specs.Planned.{Planned}

-- the number of nodes of an expression
abbrev pub plan_size : Planned → ℕ
plan_size p = nodes_of p.tree

-- the same of each kind of node
abbrev pub binary_size : PlannedBinary → ℕ
binary_size p = plan_size (binary_plan p)

abbrev pub ternary_size : PlannedTernary → ℕ
ternary_size p = plan_size (ternary_plan p)

abbrev pub cast_size : PlannedCast → ℕ
cast_size p = plan_size (cast_plan p)

abbrev pub apply_size : PlannedApply → ℕ
apply_size p = plan_size (apply_plan p)

abbrev pub filter_size : PlannedFilter → ℕ
filter_size p = plan_size (filter_plan p)

abbrev pub slice_size : PlannedSlice → ℕ
slice_size p = plan_size (slice_plan p)

abbrev pub gather_size : PlannedGather → ℕ
gather_size p = plan_size (gather_plan p)

abbrev pub sort_size : PlannedSort → ℕ
sort_size p = plan_size (sort_plan p)

abbrev pub sort_by_size : PlannedSortBy → ℕ
sort_by_size p = plan_size (sort_by_plan p)

abbrev pub reduction_size : PlannedReduction → ℕ
reduction_size p = plan_size (reduction_plan p)

abbrev pub window_size : PlannedWindow → ℕ
window_size p = plan_size (window_plan p)
