-- What contracts see of a node of any kind.
use Rattle.std.specs.Prelude.{Option, option_map}
use Rattle.std.specs.declared.alloc.Global.{Global}
use Rattle.std.specs.declared.boxed.Box.{Box}
use Rattle.px_value.specs.declared.sort_options.SortOptions.{SortOptions}
use Rattle.px_answers.specs.Parts.{binary_plan, ternary_plan, cast_plan, apply_plan, filter_plan, slice_plan, gather_plan, sort_plan, sort_by_plan, reduction_plan, window_plan}
use Rattle.px_answers.specs.Planned.{Planned}
use Rattle.px_physical.specs.declared.phys_expr.PhysExpr.{PhysExpr}
use Rattle.px_physical.specs.declared.phys_expr.PhysExpr.TheVariants.{Column, Literal, Alias, Binary, Ternary, Cast, Apply, Filter, Slice, Gather, Sort, SortBy, Aggregation, Count, Window}

-- a node of any kind as its expression
abbrev pub plan_of : PhysExpr → Planned
plan_of (Column e) = e
plan_of (Literal e) = e
plan_of (Alias e) = e
plan_of (Binary e) = binary_plan e
plan_of (Ternary e) = ternary_plan e
plan_of (Cast e) = cast_plan e
plan_of (Apply e) = apply_plan e
plan_of (Filter e) = filter_plan e
plan_of (Slice e) = slice_plan e
plan_of (Gather e) = gather_plan e
plan_of (Sort e) = sort_plan e
plan_of (SortBy e) = sort_by_plan e
plan_of (Aggregation e) = reduction_plan e
plan_of (Count e) = e
plan_of (Window e) = window_plan e

-- what rows are ordered by, as a node of any kind
abbrev pub order_of : Option (Box PhysExpr Global × SortOptions) → Option (Planned × SortOptions)
order_of order = option_map (λ o. (plan_of o.0.value, o.1)) order
