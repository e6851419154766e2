-- Windows: the parts of a frame by keys, and where a function's cells for them stand.
use Rattle.std.specs.Prelude.{ℕ, ◌==◌, List, [], ◌∷◌, ◌++◌, Option, Some, None, Result, Ok, Err, length, map, find, replicate, if◌then◌else◌}
use Rattle.std.specs.List.{flat_map, range_with_len, zip}
use Rattle.std.specs.Option.{option_map_or}
use Rattle.px_column.specs.Prelude.{Slot, Series}
use Rattle.px_column.specs.Result.{◌>>=◌}
use Rattle.px_value.specs.declared.error.PxError.{PxError}
use Rattle.px_value.specs.declared.error.PxError.TheVariants.{ComputeError}
use Rattle.px_value.specs.declared.error.ComputeWhy.TheVariants.{WindowLength}
use Rattle.px_value.specs.declared.sort_options.SortOptions.{SortOptions}
use Rattle.px_frame.specs.Cell.{Cell, unit, rows, list_of, value_of_cell}
use Rattle.px_frame.specs.Ordered.{ordered_parts}
use Rattle.px_frame.specs.Spread.{NamedCell, spread_column, spread_all}
use Rattle.px_tree.specs.declared.window.WindowMapping.{WindowMapping}
use Rattle.px_tree.specs.declared.window.WindowMapping.TheVariants.{GroupsToRows, Join, Explode}

-- what the rows of a part are ordered by: a cell, and how
abbrev pub OrderCell : Type 0
OrderCell = Option (NamedCell × SortOptions)

-- the order key as a column of n rows
abbrev pub order_column : ℕ → OrderCell → Result (Option (Series × SortOptions)) PxError
order_column n None = Ok None
order_column n (Some o) = do
  s ← spread_column n o.0
  Ok (Some (s, o.1))

-- the parts of n rows by keys, each in its order: a unit is repeated, and a list of another length is refused
abbrev pub parts_by : List NamedCell → OrderCell → ℕ → Result (List (List ℕ)) PxError
parts_by keys order n = do
  by ← spread_all n keys
  by_order ← order_column n order
  Ok (ordered_parts by by_order n)

-- a list has as many rows as its part; a unit stands at all of them
abbrev pub part_slots : List ℕ → Cell → Result (List Slot) PxError
part_slots part (unit s) = Ok (replicate (length part) s)
part_slots part (rows xs) = if length xs == length part then Ok xs else Err (ComputeError WindowLength)

-- for each part its rows' numbers, each beside what the part's cell has for it
abbrev pub placed : List (List ℕ × Cell) → Result (List (ℕ × Slot)) PxError
placed [] = Ok []
placed (p ∷ parts) = do
  xs ← part_slots p.0 p.1
  others ← placed parts
  Ok (zip p.0 xs ++ others)

-- what stands at a row
abbrev pub slot_of_row : List (ℕ × Slot) → ℕ → Slot
slot_of_row places row = option_map_or (λ p. p.1) (find (λ p. p.0 == row) places) None

-- what stands at each of n rows
abbrev pub in_row_order : ℕ → List (ℕ × Slot) → List Slot
in_row_order n places = map (slot_of_row places) (range_with_len 0 n)

-- a part's rows, with the cell's whole value at each
abbrev pub joined : List ℕ × Cell → List (ℕ × Slot)
joined p = map (λ row. (row, value_of_cell p.1)) p.0

-- the cells of the parts of n rows, each at its part's rows, as a whole at each of them, or one after another
abbrev pub window_cell : WindowMapping → ℕ → List (List ℕ × Cell) → Result Cell PxError
window_cell GroupsToRows n parts = do
  places ← placed parts
  Ok (rows (in_row_order n places))
window_cell Join n parts = Ok (rows (in_row_order n (flat_map joined parts)))
window_cell Explode n parts = Ok (rows (flat_map (λ p. list_of p.1) parts))
