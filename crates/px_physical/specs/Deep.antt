-- A node's children are smaller than the node.
use Rattle.std.specs.Prelude.{⊤, ◌≡◌, ℕ, ◌+◌, ◌≤◌, List, [], ◌∷◌, Option, Some, None, map}
use Rattle.std.proofs.Common.{arith}
use Rattle.std.specs.declared.alloc.Global.{Global}
use Rattle.std.specs.declared.boxed.Box.{Box}
use Rattle.px_value.specs.declared.sort_options.SortOptions.{SortOptions}
use denote.Param.Weighed.{most}
use Rattle.px_tree.specs.Nodes.{nodes_of, all_nodes_of, order_nodes_of}
use Rattle.px_column.specs.Prelude.{kind_of}
use Rattle.px_tree.specs.Shape.{is_unit}
use Rattle.px_tree.specs.Tree.{Tree, called, binary, ternary, cast, function, filter, slice, gather, sort, sort_by, window}
use Rattle.px_tree.specs.View.{tree}
use Rattle.px_physical.specs.NodeView.{order_of, plan_of}
use Rattle.px_answers.specs.Parts.{call_in, plan_order, plan_trees, under}
use Rattle.px_physical.specs.declared.phys_expr.PhysExpr.{PhysExpr}
use Rattle.px_physical.specs.declared.phys_expr.PhysExpr.TheVariants.{Column, Literal, Alias, Binary, Ternary, Cast, Apply, Filter, Slice, Gather, Sort, SortBy, Aggregation, Count, Window}
use Rattle.px_physical.specs.declared.alias.AliasExpr.TheInside.{Inside as AliasInside}
use Rattle.px_physical.specs.declared.binary.BinaryExpr.TheInside.{Inside as BinaryInside}
use Rattle.px_physical.specs.declared.ternary.TernaryExpr.TheInside.{Inside as TernaryInside}
use Rattle.px_physical.specs.declared.cast.CastExpr.TheInside.{Inside as CastInside}
use Rattle.px_physical.specs.declared.apply.ApplyExpr.TheInside.{Inside as ApplyInside}
use Rattle.px_physical.specs.declared.filter.FilterExpr.TheInside.{Inside as FilterInside}
use Rattle.px_physical.specs.declared.slice.SliceExpr.TheInside.{Inside as SliceInside}
use Rattle.px_physical.specs.declared.gather.GatherExpr.TheInside.{Inside as GatherInside}
use Rattle.px_physical.specs.declared.sort.SortExpr.TheInside.{Inside as SortInside}
use Rattle.px_physical.specs.declared.sort_by.SortByExpr.TheInside.{Inside as SortByInside}
use Rattle.px_physical.specs.declared.aggregation.AggregationExpr.TheInside.{Inside as AggregationInside}
use Rattle.px_physical.specs.declared.window.WindowExpr.TheInside.{Inside as WindowInside}
use Rattle.px_physical.specs.declared.aggregation.AggregationExpr.TheDeep.{deep-PhysExpr, deep-AliasExpr, deep-BinaryExpr, deep-TernaryExpr, deep-CastExpr, deep-ApplyExpr, deep-FilterExpr, deep-SliceExpr, deep-GatherExpr, deep-SortExpr, deep-SortByExpr, deep-AggregationExpr, deep-WindowExpr}

-- a node is no deeper than its expression has nodes
pub deep_le : (p : PhysExpr) → deep-PhysExpr p ≤ nodes_of (plan_of p).tree + 1
deep_le (Column e) = omega arith
deep_le (Literal e) = omega arith
deep_le (Alias e) = omega arith
deep_le (Binary e) = omega arith
deep_le (Ternary e) = omega arith
deep_le (Cast e) = omega arith
deep_le (Apply e) = omega arith
deep_le (Filter e) = omega arith
deep_le (Slice e) = omega arith
deep_le (Gather e) = omega arith
deep_le (Sort e) = omega arith
deep_le (SortBy e) = omega arith
deep_le (Aggregation e) = omega arith
deep_le (Count e) = omega arith
deep_le (Window e) = omega arith

-- nor is any of some nodes
pub most_le : (ps : List PhysExpr) → most deep-PhysExpr ps ≤ all_nodes_of (plan_trees (map plan_of ps)) + 1
most_le [] = omega arith
most_le (p ∷ ps) = omega (arith, deep_le p, most_le ps)

-- what each kind of node stands over is smaller
pub falls_alias : (a : AliasInside) → tree a.expr.value ≡ (plan_of a.physical_expr.node.value).tree → deep-AliasExpr a ≤ nodes_of (plan_of a.physical_expr.node.value).tree + 1
falls_alias a h = omega (arith, deep_le a.physical_expr.node.value)

pub falls_binary : (a : BinaryInside) → (tree a.expr.value ≡ binary (plan_of a.left.node.value).tree a.op (plan_of a.right.node.value).tree) × (a.is_scalar ≡ is_unit (tree a.expr.value)) → deep-BinaryExpr a ≤ nodes_of (plan_of a.left.node.value).tree + nodes_of (plan_of a.right.node.value).tree + 1
falls_binary a h = omega (arith, deep_le a.left.node.value, deep_le a.right.node.value)

pub falls_ternary : (a : TernaryInside) → (tree a.expr.value ≡ ternary (plan_of a.predicate.node.value).tree (plan_of a.truthy.node.value).tree (plan_of a.falsy.node.value).tree) × (a.returns_scalar ≡ is_unit (tree a.expr.value)) → deep-TernaryExpr a ≤ nodes_of (plan_of a.predicate.node.value).tree + nodes_of (plan_of a.truthy.node.value).tree + nodes_of (plan_of a.falsy.node.value).tree + 1
falls_ternary a h = omega (arith, deep_le a.predicate.node.value, deep_le a.truthy.node.value, deep_le a.falsy.node.value)

pub falls_cast : (a : CastInside) → tree a.expr.value ≡ cast (plan_of a.input.node.value).tree (kind_of a.dtype) a.options → deep-CastExpr a ≤ nodes_of (plan_of a.input.node.value).tree + 1
falls_cast a h = omega (arith, deep_le a.input.node.value)

pub falls_apply : (a : ApplyInside) → (tree a.expr.value ≡ function (plan_trees (map plan_of a.inputs.items)) (call_in (tree a.expr.value))) × ((called (call_in (tree a.expr.value)) ≡ a.function) × (a.returns_scalar ≡ is_unit (tree a.expr.value))) → deep-ApplyExpr a ≤ all_nodes_of (plan_trees (map plan_of a.inputs.items)) + 1
falls_apply a h = omega (arith, most_le a.inputs.items)

pub falls_filter : (a : FilterInside) → tree a.expr.value ≡ filter (plan_of a.input.node.value).tree (plan_of a.by.node.value).tree → deep-FilterExpr a ≤ nodes_of (plan_of a.input.node.value).tree + nodes_of (plan_of a.by.node.value).tree + 1
falls_filter a h = omega (arith, deep_le a.input.node.value, deep_le a.by.node.value)

pub falls_slice : (a : SliceInside) → tree a.expr.value ≡ slice (plan_of a.input.node.value).tree (plan_of a.offset.node.value).tree (plan_of a.length.node.value).tree → deep-SliceExpr a ≤ nodes_of (plan_of a.input.node.value).tree + nodes_of (plan_of a.offset.node.value).tree + nodes_of (plan_of a.length.node.value).tree + 1
falls_slice a h = omega (arith, deep_le a.input.node.value, deep_le a.offset.node.value, deep_le a.length.node.value)

pub falls_gather : (a : GatherInside) → tree a.expr.value ≡ gather (plan_of a.phys_expr.node.value).tree (plan_of a.idx.node.value).tree a.returns_scalar → deep-GatherExpr a ≤ nodes_of (plan_of a.phys_expr.node.value).tree + nodes_of (plan_of a.idx.node.value).tree + 1
falls_gather a h = omega (arith, deep_le a.phys_expr.node.value, deep_le a.idx.node.value)

pub falls_sort : (a : SortInside) → tree a.expr.value ≡ sort (plan_of a.physical_expr.node.value).tree a.options → deep-SortExpr a ≤ nodes_of (plan_of a.physical_expr.node.value).tree + 1
falls_sort a h = omega (arith, deep_le a.physical_expr.node.value)

pub falls_sort_by : (a : SortByInside) → tree a.expr.value ≡ sort_by (plan_of a.input.node.value).tree (plan_trees (map plan_of a.by.items)) a.sort_options → deep-SortByExpr a ≤ nodes_of (plan_of a.input.node.value).tree + all_nodes_of (plan_trees (map plan_of a.by.items)) + 1
falls_sort_by a h = omega (arith, deep_le a.input.node.value, most_le a.by.items)

pub falls_reduction : (a : AggregationInside) → ⊤ → deep-AggregationExpr a ≤ nodes_of (plan_of a.expr.node.value).tree + 1
falls_reduction a h = omega (arith, deep_le a.expr.node.value)

-- an expression has no fewer nodes under a name
under_le : (n : Option (List ℕ)) (t : Tree) → nodes_of t ≤ nodes_of (under n t)
under_le None t = omega arith
under_le (Some n) t = omega arith

pub falls_window : (a : WindowInside) → (tree a.expr.value ≡ window (under a.out_name (plan_of a.phys_function.node.value).tree) (plan_trees (map plan_of a.group_by.items)) (plan_order (order_of a.order_by)) a.mapping) × (tree a.function.value ≡ (plan_of a.phys_function.node.value).tree)
    → deep-WindowExpr a ≤ nodes_of (under a.out_name (plan_of a.phys_function.node.value).tree) + all_nodes_of (plan_trees (map plan_of a.group_by.items)) + order_nodes_of (plan_order (order_of a.order_by)) + 1
falls_window a h = by a.order_by
  where
    by : (o : Option (Box PhysExpr Global × SortOptions)) → deep-WindowExpr (record a { order_by = o }) ≤ nodes_of (under a.out_name (plan_of a.phys_function.node.value).tree) + all_nodes_of (plan_trees (map plan_of a.group_by.items)) + order_nodes_of (plan_order (order_of o)) + 1
    by None = omega (arith, most_le a.group_by.items, deep_le a.phys_function.node.value, under_le a.out_name (plan_of a.phys_function.node.value).tree)
    by (Some o) = omega (arith, most_le a.group_by.items, deep_le a.phys_function.node.value, under_le a.out_name (plan_of a.phys_function.node.value).tree, deep_le o.0.value)
