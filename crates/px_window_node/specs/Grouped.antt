-- The groups of a window, from the cells of its keys and of its order.
use Rattle.std.specs.Prelude.{ℕ, List, Option, Result, length, option_map, Some}
use Rattle.px_column.specs.Result.{◌>>=◌}
use Rattle.px_value.specs.declared.error.PxError.{PxError}
use Rattle.px_value.specs.declared.sort_options.SortOptions.{SortOptions}
use Rattle.px_frame.specs.CellView.{named_cell}
use Rattle.px_frame.specs.Groups.{Groups}
use Rattle.px_frame.specs.Spread.{NamedCell, spread_all}
use Rattle.px_frame.specs.declared.cell.Cell.{Cell}
use Rattle.px_tree.specs.Value.{parts_in}
use Rattle.px_tree.specs.Window.{OrderCell, order_column, parts_by}
use Rattle.px_window.specs.Key.{grouped_in}

-- what a cell of the program stands for, beside how it orders
abbrev pub order_cell : Option (Cell × SortOptions) → OrderCell
order_cell order = option_map (λ o. (named_cell o.0, o.1)) order

-- the groups of n rows by some keys, each in an order: keys and order are first brought to n rows
abbrev pub window_groups : ℕ → List NamedCell → OrderCell → Result Groups PxError
window_groups n keys order = do
  by ← spread_all n keys
  o ← order_column n order
  grouped_in n by o

-- how many parts there are, none where the keys or the order cannot stand at n rows
abbrev pub part_count : ℕ → List NamedCell → OrderCell → ℕ
part_count n keys order = length (parts_in (Some (parts_by keys order n)))
