-- What one node makes of its inputs' cells: a cell, or the node's own fault.
use Rattle.std.specs.Prelude.{ℕ, ◌+◌, ◌-◌, ℤ, pos, negsuc, ◌+ℤ◌, ◌-ℤ◌, Bool, true, false, ◌&&◌, not, List, [], ◌∷◌, Option, Some, None, Result, Ok, Err, length, map, filter, reverse, nat_lt, if◌then◌else◌}
use Rattle.std.specs.List.{list_all, range_with_len, zip}
use Rattle.px_column.specs.Cast.{cast_slot, cast_slots}
use Rattle.px_column.specs.Chosen.{chosen}
use Rattle.px_column.specs.Column.{null_count}
use Rattle.px_column.specs.Prelude.{boolean, integer, Slot, Kind, fits, slot_at}
use Rattle.px_column.specs.Function.{is_null_slot, is_not_null_slot, not_slot, between_slot, in_slot, shifted, present_slots, exploded, window_of}
use Rattle.px_column.specs.Operator.{operated}
use Rattle.px_column.specs.Order.{sorted_rows, sort_keys}
use Rattle.px_column.specs.Reduction.{reduced_slot, count_slot}
use Rattle.px_column.specs.Result.{◌>>=◌}
use Rattle.px_column.specs.Rows.{kept_rows}
use Rattle.px_value.specs.declared.cast_options.CastOptions.{CastOptions}
use Rattle.px_value.specs.declared.error.PxError.{PxError}
use Rattle.px_value.specs.declared.error.PxError.TheVariants.{InvalidOperation, ComputeError, OutOfBounds}
use Rattle.px_value.specs.declared.error.InvalidWhy.TheVariants.{Types}
use Rattle.px_value.specs.declared.error.ComputeWhy.TheVariants.{SliceArgument, NullIndex, RangeBound}
use Rattle.px_value.specs.declared.method.GroupByMethod.{GroupByMethod}
use Rattle.px_value.specs.declared.operator.Operator.{Operator}
use Rattle.px_value.specs.declared.sort_options.SortMultipleOptions.{SortMultipleOptions}
use Rattle.px_value.specs.declared.sort_options.SortOptions.{SortOptions}
use Rattle.px_frame.specs.Cell.{Cell, unit, rows, list_of, is_unit_cell, cell_of}
use Rattle.px_frame.specs.Frame.{slots_at}
use Rattle.px_frame.specs.Spread.{spread, rows_beside}
use Rattle.px_tree.specs.Shape.{is_implode}
use Rattle.px_tree.specs.Tree.{Literal, single, range, series}
use Rattle.px_tree.specs.declared.function.FunctionExpr.{FunctionExpr}
use Rattle.px_tree.specs.declared.function.FunctionExpr.TheVariants.{IsNull, IsNotNull, Not, IsBetween, IsIn, Reverse, Shift, DropNulls, NullCount, Explode}

-- each row by itself
abbrev pub map_cell : (Slot → Slot) → Cell → Cell
map_cell f (unit s) = unit (f s)
map_cell f (rows xs) = rows (map f xs)

-- two cells row by row, units beside lists spread
abbrev pub zip_cells : (Slot → Slot → Slot) → Cell → Cell → Result Cell PxError
zip_cells f a b = do
  xs ← spread (rows_beside (a ∷ b ∷ [])) a
  ys ← spread (rows_beside (a ∷ b ∷ [])) b
  Ok (cell_of (is_unit_cell a && is_unit_cell b) (map (λ p. f p.0 p.1) (zip xs ys)))

-- three cells row by row
abbrev pub zip_three_cells : (Slot → Slot → Slot → Slot) → Cell → Cell → Cell → Result Cell PxError
zip_three_cells f a b c = do
  xs ← spread (rows_beside (a ∷ b ∷ c ∷ [])) a
  ys ← spread (rows_beside (a ∷ b ∷ c ∷ [])) b
  zs ← spread (rows_beside (a ∷ b ∷ c ∷ [])) c
  Ok (cell_of (is_unit_cell a && (is_unit_cell b && is_unit_cell c)) (map (λ p. f p.0 p.1.0 p.1.1) (zip xs (zip ys zs))))

-- a number, with 0 for those below
abbrev pub natural : ℤ → ℕ
natural (pos n) = n
natural (negsuc n) = 0

-- the integers from low to high - 1, none where high is not above low
abbrev pub integers : ℤ → ℤ → List Slot
integers low high = map (λ i. Some (integer (low +ℤ pos i))) (range_with_len 0 (natural (high -ℤ low)))

-- a single value is a unit, a column its rows, a range its integers where both bounds lie in its type
abbrev pub literal_cell : Literal → Result Cell PxError
literal_cell (single k s) = Ok (unit s)
literal_cell (range low high k) =
    if fits k (integer low) && fits k (integer high) then Ok (rows (integers low high)) else Err (ComputeError RangeBound)
literal_cell (series s) = Ok (rows s.slots)

-- an operator on two cells row by row
abbrev pub binary_cell : Kind → Operator → Cell → Cell → Result Cell PxError
binary_cell k op a b = zip_cells (operated k op) a b

-- row by row one value or the other, as the predicate says
abbrev pub ternary_cell : Cell → Cell → Cell → Result Cell PxError
ternary_cell p a b = zip_three_cells chosen p a b

-- row by row, in the new type
abbrev pub cast_cell : Kind → Kind → CastOptions → Cell → Result Cell PxError
cast_cell from to options (unit s) = do
  t ← cast_slot from to options s
  Ok (unit t)
cast_cell from to options (rows xs) = do
  ys ← cast_slots from to options xs
  Ok (rows ys)

-- a function of cells, the first of which has values of type k
abbrev pub function_cell : FunctionExpr → Kind → List Cell → Result Cell PxError
function_cell IsNull k (c ∷ []) = Ok (map_cell is_null_slot c)
function_cell IsNotNull k (c ∷ []) = Ok (map_cell is_not_null_slot c)
function_cell Not k (c ∷ []) = Ok (map_cell not_slot c)
function_cell (IsBetween closed) k (c ∷ low ∷ high ∷ []) = zip_three_cells (between_slot k closed) c low high
function_cell IsIn k (c ∷ among ∷ []) = Ok (map_cell (in_slot (list_of among)) c)
function_cell Reverse k (c ∷ []) = Ok (rows (reverse (list_of c)))
function_cell (Shift periods) k (c ∷ []) = Ok (rows (shifted periods (list_of c)))
function_cell DropNulls k (c ∷ []) = Ok (rows (present_slots (list_of c)))
function_cell NullCount k (c ∷ []) = Ok (unit (count_slot (null_count (list_of c))))
function_cell Explode k (c ∷ []) = Ok (rows (exploded (list_of c)))
function_cell _ k cells = Err (InvalidOperation Types)

-- the rows whose mask is true; a unit mask stands for every row
abbrev pub filter_cell : Cell → Cell → Result Cell PxError
filter_cell c mask = do
  truths ← spread (length (list_of c)) mask
  Ok (rows (kept_rows truths (list_of c)))

-- an argument holds exactly one value
abbrev pub one_value : Cell → Result Slot PxError
one_value (unit s) = Ok s
one_value (rows (s ∷ [])) = Ok s
one_value (rows _) = Err (ComputeError SliceArgument)

-- an offset is there
abbrev pub offset_of : Slot → Result ℤ PxError
offset_of (Some (integer z)) = Ok z
offset_of _ = Err (ComputeError SliceArgument)

-- a length is not negative; a null is no limit
abbrev pub length_of : Slot → Result (Option ℤ) PxError
length_of None = Ok None
length_of (Some (integer (pos n))) = Ok (Some (pos n))
length_of _ = Err (ComputeError SliceArgument)

-- the rows from an offset on, so many
abbrev pub slice_cell : Cell → Cell → Cell → Result Cell PxError
slice_cell c offset length = do
  o ← one_value offset
  l ← one_value length
  start ← offset_of o
  limit ← length_of l
  Ok (rows (window_of start limit (list_of c)))

-- the number of the row that an index below the length names; a negative one counts from the end
abbrev pub row_of_index : ℕ → ℤ → ℕ
row_of_index n (pos i) = i
row_of_index n (negsuc i) = n - (i + 1)

-- from -n to n - 1, or a null
abbrev pub is_index : ℕ → Slot → Bool
is_index n (Some (integer (pos i))) = nat_lt i n
is_index n (Some (integer (negsuc i))) = nat_lt i n
is_index n None = true
is_index n _ = false

-- the row that an index names, a null for a null
abbrev pub indexed : List Slot → Slot → Slot
indexed xs (Some (integer z)) = slot_at xs (row_of_index (length xs) z)
indexed xs _ = None

-- one value, a null
abbrev pub is_null_unit : Cell → Bool
is_null_unit (unit None) = true
is_null_unit _ = false

-- the rows that indices name, in their order, a null for a null; one row as a unit where one is asked for. A null that is
-- made of literals alone names none
abbrev pub gather_cell : Bool → Bool → Cell → Cell → Result Cell PxError
gather_cell one idx_is_literal c idx =
    if idx_is_literal && is_null_unit idx then Err (ComputeError NullIndex)
    else if list_all (is_index (length (list_of c))) (list_of idx) then Ok (cell_of one (map (indexed (list_of c)) (list_of idx)))
    else Err OutOfBounds

-- the rows in sorted order, equal rows as they stand
abbrev pub sort_cell : SortOptions → Cell → Result Cell PxError
sort_cell options c = Ok (rows (slots_at (list_of c) (sorted_rows ((options, list_of c) ∷ []) (length (list_of c)))))

-- each key at n rows
abbrev pub spread_keys : ℕ → List Cell → Result (List (List Slot)) PxError
spread_keys n [] = Ok []
spread_keys n (c ∷ cells) = do
  xs ← spread n c
  others ← spread_keys n cells
  Ok (xs ∷ others)

-- the rows in the order of the keys; without keys as they are
abbrev pub sort_by_cell : SortMultipleOptions → Cell → List Cell → Result Cell PxError
sort_by_cell options c by = do
  keys ← spread_keys (length (list_of c)) by
  Ok (rows (slots_at (list_of c) (sorted_rows (sort_keys options keys) (length (list_of c)))))

-- a reduction of all rows: a unit, or for an Implode one row
abbrev pub reduction_cell : GroupByMethod → Kind → Cell → Cell
reduction_cell m k c = cell_of (not (is_implode m)) (reduced_slot m k (list_of c) ∷ [])
