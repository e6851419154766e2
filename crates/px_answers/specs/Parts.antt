-- What contracts see of a node with inputs: these, and what else it holds.
use Rattle.std.specs.Prelude.{ℕ, Bool, List, [], ◌++◌, Option, Some, None, map, refl}
use Rattle.std.specs.List.{flat_map}
use Rattle.std.specs.Coded.{Coded, code_by, coded×, coded_ℕ, coded_bool, coded_list, coded_option}
use Rattle.px_column.specs.Kind.{coded_kind}
use Rattle.px_column.specs.Prelude.{Kind}
use Rattle.px_value.specs.declared.cast_options.CastOptions.{CastOptions}
use Rattle.px_value.specs.declared.method.GroupByMethod.{GroupByMethod}
use Rattle.px_value.specs.declared.operator.Operator.{Operator}
use Rattle.px_value.specs.declared.sort_options.SortMultipleOptions.{SortMultipleOptions}
use Rattle.px_value.specs.declared.sort_options.SortOptions.{SortOptions}
use Rattle.px_value.specs.contracts.cast_options.CastOptions as cast_options
use Rattle.px_value.specs.contracts.method.GroupByMethod as method
use Rattle.px_value.specs.contracts.operator.Operator as operator
use Rattle.px_value.specs.contracts.sort_options.SortMultipleOptions as sort_multiple_options
use Rattle.px_value.specs.contracts.sort_options.SortOptions as sort_options
use Rattle.px_frame.specs.Schema.{FieldKind, coded_field}
use Rattle.px_tree.specs.Tree.{Tree, Call, Trees, Order, trees_of, no_order, ordered, alias, binary, ternary, cast, function, filter, slice, gather, sort, sort_by, agg, window, as_explode}
use Rattle.px_tree.specs.TreeCode.{coded_call}
use Rattle.px_tree.specs.contracts.window.WindowMapping as window_mapping
use Rattle.px_tree.specs.declared.window.WindowMapping.{WindowMapping}
use Rattle.px_answers.specs.Planned.{Planned, PlannedColumn, coded_planned}

-- an operator on two nodes, and whether one of them is a literal
pub record PlannedBinary : Type 0 where
  pub left : Planned
  pub op : Operator
  pub right : Planned
  pub has_literal : Bool

-- one node or another, as a third says
pub record PlannedTernary : Type 0 where
  pub predicate : Planned
  pub truthy : Planned
  pub falsy : Planned

-- a node in another type
pub record PlannedCast : Type 0 where
  pub input : Planned
  pub dtype : Kind
  pub options : CastOptions

-- a function of nodes, with the schema and the field that it was told, which change nothing
pub record PlannedApply : Type 0 where
  pub inputs : List Planned
  pub call : Call
  pub input_schema : List FieldKind
  pub output_field : FieldKind

-- the rows of a node whose mask is true
pub record PlannedFilter : Type 0 where
  pub input : Planned
  pub by : Planned

-- a window of a node's rows
pub record PlannedSlice : Type 0 where
  pub input : Planned
  pub offset : Planned
  pub length : Planned

-- the rows of a node that others name, or the one row
pub record PlannedGather : Type 0 where
  pub phys_expr : Planned
  pub idx : Planned
  pub returns_scalar : Bool

-- a node's rows in sorted order
pub record PlannedSort : Type 0 where
  pub physical_expr : Planned
  pub options : SortOptions

-- a node's rows in the order of others
pub record PlannedSortBy : Type 0 where
  pub input : Planned
  pub by : List Planned
  pub sort_options : SortMultipleOptions

-- a reduction: its input, how it reduces, and the field that it was told, which changes nothing
pub record PlannedReduction : Type 0 where
  pub input : Planned
  pub method : GroupByMethod
  pub field : Option FieldKind

-- a function of the parts of the rows by some nodes, each part in the order of another; the result's name, where it is another than
-- the function's; and where what the function has for each part stands
pub record PlannedWindow : Type 0 where
  pub group_by : List Planned
  pub order_by : Option (Planned × SortOptions)
  pub out_name : Option (List ℕ)
  pub phys_function : Planned
  pub mapping : WindowMapping

-- how a function stands in an expression
abbrev pub call_in : Tree → Call
call_in (function es c) = c
call_in _ = as_explode

-- a function of some expressions
abbrev pub call_on : Trees → Call → Tree
call_on es c = function es c

-- the codes by which the logic keeps these
abbrev pub coded_binary : Coded PlannedBinary
coded_binary = code_by (Planned × (Operator × (Planned × Bool))) (coded× coded_planned (coded× operator.the_row.coded (coded× coded_planned coded_bool))) (λ b. (b.left, (b.op, (b.right, b.has_literal)))) (λ p. record { left = p.0; op = p.1.0; right = p.1.1.0; has_literal = p.1.1.1 }) (λ _. refl)

abbrev pub coded_ternary : Coded PlannedTernary
coded_ternary = code_by (Planned × (Planned × Planned)) (coded× coded_planned (coded× coded_planned coded_planned)) (λ t. (t.predicate, (t.truthy, t.falsy))) (λ p. record { predicate = p.0; truthy = p.1.0; falsy = p.1.1 }) (λ _. refl)

abbrev pub coded_cast : Coded PlannedCast
coded_cast = code_by (Planned × (Kind × CastOptions)) (coded× coded_planned (coded× coded_kind cast_options.the_row.coded)) (λ c. (c.input, (c.dtype, c.options))) (λ p. record { input = p.0; dtype = p.1.0; options = p.1.1 }) (λ _. refl)

abbrev pub coded_apply : Coded PlannedApply
coded_apply = code_by (List Planned × (Call × (List FieldKind × FieldKind))) (coded× (coded_list coded_planned) (coded× coded_call (coded× (coded_list coded_field) coded_field))) (λ a. (a.inputs, (a.call, (a.input_schema, a.output_field)))) (λ p. record { inputs = p.0; call = p.1.0; input_schema = p.1.1.0; output_field = p.1.1.1 }) (λ _. refl)

abbrev pub coded_filter : Coded PlannedFilter
coded_filter = code_by (Planned × Planned) (coded× coded_planned coded_planned) (λ f. (f.input, f.by)) (λ p. record { input = p.0; by = p.1 }) (λ _. refl)

abbrev pub coded_slice : Coded PlannedSlice
coded_slice = code_by (Planned × (Planned × Planned)) (coded× coded_planned (coded× coded_planned coded_planned)) (λ s. (s.input, (s.offset, s.length))) (λ p. record { input = p.0; offset = p.1.0; length = p.1.1 }) (λ _. refl)

abbrev pub coded_gather : Coded PlannedGather
coded_gather = code_by (Planned × (Planned × Bool)) (coded× coded_planned (coded× coded_planned coded_bool)) (λ g. (g.phys_expr, (g.idx, g.returns_scalar))) (λ p. record { phys_expr = p.0; idx = p.1.0; returns_scalar = p.1.1 }) (λ _. refl)

abbrev pub coded_sort : Coded PlannedSort
coded_sort = code_by (Planned × SortOptions) (coded× coded_planned sort_options.the_row.coded) (λ s. (s.physical_expr, s.options)) (λ p. record { physical_expr = p.0; options = p.1 }) (λ _. refl)

abbrev pub coded_sort_by : Coded PlannedSortBy
coded_sort_by = code_by (Planned × (List Planned × SortMultipleOptions)) (coded× coded_planned (coded× (coded_list coded_planned) sort_multiple_options.the_row.coded)) (λ s. (s.input, (s.by, s.sort_options))) (λ p. record { input = p.0; by = p.1.0; sort_options = p.1.1 }) (λ _. refl)

abbrev pub coded_reduction : Coded PlannedReduction
coded_reduction = code_by (Planned × (GroupByMethod × Option FieldKind)) (coded× coded_planned (coded× method.the_row.coded (coded_option coded_field))) (λ r. (r.input, (r.method, r.field))) (λ p. record { input = p.0; method = p.1.0; field = p.1.1 }) (λ _. refl)

abbrev pub coded_window : Coded PlannedWindow
coded_window = code_by (List Planned × (Option (Planned × SortOptions) × (Option (List ℕ) × (Planned × WindowMapping)))) (coded× (coded_list coded_planned) (coded× (coded_option (coded× coded_planned sort_options.the_row.coded)) (coded× (coded_option (coded_list coded_ℕ)) (coded× coded_planned window_mapping.the_row.coded)))) (λ w. (w.group_by, (w.order_by, (w.out_name, (w.phys_function, w.mapping))))) (λ p. record { group_by = p.0; order_by = p.1.0; out_name = p.1.1.0; phys_function = p.1.1.1.0; mapping = p.1.1.1.1 }) (λ _. refl)

-- the trees of some nodes
abbrev pub plan_trees : List Planned → Trees
plan_trees ps = trees_of (map (λ p. p.tree) ps)

-- the column nodes in some nodes, from left to right
abbrev pub plan_columns : List Planned → List PlannedColumn
plan_columns ps = flat_map (λ p. p.columns) ps

-- a node's expression under another name
abbrev pub alias_plan : Planned → List ℕ → Planned
alias_plan p n = record p { tree = alias p.tree n }

-- each kind of node as its expression and its column nodes
abbrev pub binary_plan : PlannedBinary → Planned
binary_plan b = record { tree = binary b.left.tree b.op b.right.tree; columns = b.left.columns ++ b.right.columns }

abbrev pub ternary_plan : PlannedTernary → Planned
ternary_plan t = record { tree = ternary t.predicate.tree t.truthy.tree t.falsy.tree; columns = t.predicate.columns ++ (t.truthy.columns ++ t.falsy.columns) }

abbrev pub cast_plan : PlannedCast → Planned
cast_plan c = record { tree = cast c.input.tree c.dtype c.options; columns = c.input.columns }

abbrev pub apply_plan : PlannedApply → Planned
apply_plan a = record { tree = function (plan_trees a.inputs) a.call; columns = plan_columns a.inputs }

abbrev pub filter_plan : PlannedFilter → Planned
filter_plan f = record { tree = filter f.input.tree f.by.tree; columns = f.input.columns ++ f.by.columns }

abbrev pub slice_plan : PlannedSlice → Planned
slice_plan s = record { tree = slice s.input.tree s.offset.tree s.length.tree; columns = s.input.columns ++ (s.offset.columns ++ s.length.columns) }

abbrev pub gather_plan : PlannedGather → Planned
gather_plan g = record { tree = gather g.phys_expr.tree g.idx.tree g.returns_scalar; columns = g.phys_expr.columns ++ g.idx.columns }

abbrev pub sort_plan : PlannedSort → Planned
sort_plan s = record { tree = sort s.physical_expr.tree s.options; columns = s.physical_expr.columns }

abbrev pub sort_by_plan : PlannedSortBy → Planned
sort_by_plan s = record { tree = sort_by s.input.tree (plan_trees s.by) s.sort_options; columns = s.input.columns ++ plan_columns s.by }

abbrev pub reduction_plan : PlannedReduction → Planned
reduction_plan r = record { tree = agg r.method r.input.tree; columns = r.input.columns }

-- an expression under the name that it is given, if any
abbrev pub under : Option (List ℕ) → Tree → Tree
under None e = e
under (Some n) e = alias e n

-- what rows are ordered by, as an expression
abbrev pub plan_order : Option (Planned × SortOptions) → Order
plan_order None = no_order
plan_order (Some o) = ordered o.0.tree o.1

-- the column nodes in what rows are ordered by
abbrev pub order_columns : Option (Planned × SortOptions) → List PlannedColumn
order_columns None = []
order_columns (Some o) = o.0.columns

abbrev pub window_plan : PlannedWindow → Planned
window_plan w = record {
  tree = window (under w.out_name w.phys_function.tree) (plan_trees w.group_by) (plan_order w.order_by) w.mapping;
  columns = w.phys_function.columns ++ (plan_columns w.group_by ++ order_columns w.order_by);
}
