-- Expressions whose values on the chunks of a group can be merged.
use Rattle.std.specs.Prelude.{Bool, true, false, ◌&&◌, List, [], ◌∷◌, Some, is_some}
use Rattle.std.specs.List.{flat_map}
use Rattle.px_column.specs.Prelude.{list, Slot, slots, items, Kind}
use Rattle.px_column.specs.Reduction.{reduced_slot}
use Rattle.px_column.specs.Sum.{summed}
use Rattle.px_value.specs.declared.method.GroupByMethod.{GroupByMethod}
use Rattle.px_value.specs.declared.method.GroupByMethod.TheVariants.{Sum, NUnique, Count, Implode}
use Rattle.px_tree.specs.Shape.{is_single}
use Rattle.px_tree.specs.Tree.{Tree, called, Trees, no_trees, one_tree, column, literal, alias, binary, ternary, cast, function, agg, len}
use Rattle.px_tree.specs.Typing.{Scope, kind_of_name}
use Rattle.px_tree.specs.declared.function.FunctionExpr.{FunctionExpr}
use Rattle.px_tree.specs.declared.function.FunctionExpr.TheVariants.{IsNull, IsNotNull, Not, IsBetween}

-- functions that look at one row at a time
abbrev pub is_row_function : FunctionExpr → Bool
is_row_function IsNull = true
is_row_function IsNotNull = true
is_row_function Not = true
is_row_function (IsBetween closed) = true
is_row_function _ = false

abbrev mutual
  -- each row of the result comes from that row alone
  pub is_elementwise : Tree → Scope → Bool
  is_elementwise (column n) scope = is_some (kind_of_name n scope)
  is_elementwise (literal v) scope = is_single v
  is_elementwise (alias e n) scope = is_elementwise e scope
  is_elementwise (binary l op r) scope = is_elementwise l scope && is_elementwise r scope
  is_elementwise (ternary p a b) scope = is_elementwise p scope && (is_elementwise a scope && is_elementwise b scope)
  is_elementwise (cast e k options) scope = is_elementwise e scope
  is_elementwise (function es f) scope = is_row_function (called f) && are_elementwise es scope
  is_elementwise _ scope = false

  -- each of some expressions is elementwise
  pub are_elementwise : Trees → Scope → Bool
  are_elementwise no_trees scope = true
  are_elementwise (one_tree t ts) scope = is_elementwise t scope && are_elementwise ts scope

-- reductions that can be merged
abbrev pub is_merged_method : GroupByMethod → Bool
is_merged_method NUnique = false
is_merged_method _ = true

-- a length or such a reduction of an elementwise expression, under any aliases
abbrev pub is_partition_safe : Tree → Scope → Bool
is_partition_safe (alias e n) scope = is_partition_safe e scope
is_partition_safe (agg m e) scope = is_merged_method m && is_elementwise e scope
is_partition_safe len scope = true
is_partition_safe _ scope = false

-- the rows of a list, where there is one
abbrev pub rows_of_list : Slot → List Slot
rows_of_list (Some (list xs)) = items xs
rows_of_list _ = []

-- the rows in the list that a list of one list holds
abbrev pub inner_rows : Slot → List Slot
inner_rows s = flat_map rows_of_list (rows_of_list s)

-- values of a reduction on chunks as that on all of them: sums and counts are added in the result's type k
abbrev pub merged_by : GroupByMethod → Kind → List Slot → Slot
merged_by Sum k values = summed k values
merged_by (Count include_nulls) k values = summed k values
merged_by Implode k values = Some (list (slots (Some (list (slots (flat_map inner_rows values))) ∷ [])))
merged_by m k values = reduced_slot m k values

-- values of an expression on chunks as its value on all of them, of type k
abbrev pub merged : Tree → Kind → List Slot → Slot
merged (alias e n) k values = merged e k values
merged (agg m e) k values = merged_by m k values
merged _ k values = summed k values
