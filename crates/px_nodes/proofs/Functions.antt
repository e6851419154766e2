-- Functions of cells are their kernels on the cells' columns.
use Rattle.std.proofs.Common.{◌≡◌, ℕ, ◌^◌, Bool, true, false, cond, if◌then◌else◌, List, [], ◌∷◌, Result, Ok, Err, length, map, nat_lt, refl, sym, ◌∙◌, ap, ◌<◌, ◌≤◌, arith}
use Rattle.px_column.specs.Beside.{length_of_three, rows_to, zipped_three}
use Rattle.px_column.specs.Function.{between_slot, in_slot, not_slot}
use Rattle.px_column.specs.Interval.{between_column, compared_kind}
use Rattle.px_column.specs.Member.{member_column}
use Rattle.px_column.specs.Operator.{is_boolean_kind, kind_where}
use Rattle.px_column.specs.Prelude.{Slot, Kind, Series, booleans}
use Rattle.px_column.specs.Result.{◌>>=◌}
use Rattle.px_column.specs.Rows.{not_column, truths_of}
use Rattle.px_value.specs.declared.closed_interval.ClosedInterval.{ClosedInterval}
use Rattle.px_value.specs.declared.error.ComputeWhy.TheVariants.{TooLong}
use Rattle.px_value.specs.declared.error.InvalidWhy.TheVariants.{Types}
use Rattle.px_value.specs.declared.error.PxError.{PxError}
use Rattle.px_value.specs.declared.error.PxError.TheVariants.{ComputeError, InvalidOperation}
use Rattle.px_frame.specs.Cell.{Cell, unit, rows, list_of, count_of, is_unit_cell, cell_of}
use Rattle.px_frame.specs.CellView.{named_cell}
use Rattle.px_frame.specs.Spread.{NamedCell, column_of_cell}
use Rattle.px_frame.specs.declared.cell.Cell.{Cell as ProgramCell}
use Rattle.px_tree.specs.Node.{map_cell, zip_three_cells}
use Rattle.px_tree.specs.declared.function.FunctionExpr.{FunctionExpr}
use Rattle.px_tree.specs.declared.function.FunctionExpr.TheVariants.{IsNull, IsNotNull, Not, IsBetween, IsIn, Reverse, Shift, DropNulls, NullCount, Explode}
use Rattle.px_nodes.specs.Named.{as_short_cell, function_named, short, short_named, under, unequal}
use Rattle.px_nodes.specs.Together.{rows_or, are_three_beside, are_three_units}
use Rattle.px_nodes.proofs.Alongside.{three_beside, three_apart, common_three}
use Rattle.px_nodes.proofs.Operated.{one_of_three}

-- a named cell is too long where the cell is
pub short_under : (name : List ℕ) (kind : Kind) (x : Cell) → short_named (record { name = name; kind = kind; cell = x }) ≡ under name kind (short x)
short_under name kind x = by (nat_lt (count_of x) (2 ^ 32))
  where
    by : (b : Bool) → cond b (Ok (record { name = name; kind = kind; cell = x })) (Err (ComputeError TooLong)) ≡ under name kind (cond b (Ok x) (Err (ComputeError TooLong)))
    by true = refl
    by false = refl

-- each row by itself
mapped : (f : Slot → Slot) (c : Cell) → cell_of (is_unit_cell c) (map f (list_of c)) ≡ map_cell f c
mapped f (unit s) = refl
mapped f (rows xs) = refl

mapped_under : (name : List ℕ) (kind : Kind) (f : Slot → Slot) (c : Cell)
    → short_named (record { name = name; kind = kind; cell = cell_of (is_unit_cell c) (map f (list_of c)) }) ≡ under name kind (Ok (map_cell f c) >>= short)
mapped_under name kind f c = ap (λ (x : Cell). short_named (record { name = name; kind = kind; cell = x })) (mapped f c) ∙ short_under name kind (map_cell f c)

pub not_made : (c : NamedCell) → as_short_cell (is_unit_cell c.cell) (not_column (column_of_cell c)) ≡ function_named Not (c ∷ [])
not_made c = by (is_boolean_kind c.kind)
  where
    by : (b : Bool) → as_short_cell (is_unit_cell c.cell) (if b then Ok (truths_of not_slot (column_of_cell c)) else Err (InvalidOperation Types)) ≡ (kind_where b booleans >>= λ k. under c.name k (Ok (map_cell not_slot c.cell) >>= short))
    by true = mapped_under c.name booleans not_slot c.cell
    by false = refl

pub member_made : (c among : NamedCell) → as_short_cell (is_unit_cell c.cell) (member_column (column_of_cell c) (column_of_cell among)) ≡ function_named IsIn (c ∷ among ∷ [])
member_made c among = by (compared_kind c.kind (among.kind ∷ []))
  where
    by : (o : Result Kind PxError)
        → as_short_cell (is_unit_cell c.cell) (o >>= λ k. Ok (record { name = c.name; kind = k; slots = map (in_slot (list_of among.cell)) (list_of c.cell) }))
        ≡ (o >>= λ k. under c.name k (Ok (map_cell (in_slot (list_of among.cell)) c.cell) >>= short))
    by (Err e) = refl
    by (Ok k) = mapped_under c.name k (in_slot (list_of among.cell)) c.cell

-- an interval's test of cells side by side
pub between_made : (closed : ClosedInterval) (c low high : NamedCell) → are_three_beside c.cell low.cell high.cell ≡ true
    → as_short_cell (are_three_units c.cell low.cell high.cell) (between_column closed (column_of_cell c) (column_of_cell low) (column_of_cell high))
    ≡ function_named (IsBetween closed) (c ∷ low ∷ high ∷ [])
between_made closed c low high h = by (compared_kind c.kind (low.kind ∷ high.kind ∷ []))
  where
    by : (o : Result Kind PxError)
        → as_short_cell (are_three_units c.cell low.cell high.cell) (o >>= λ k. length_of_three (count_of c.cell) (count_of low.cell) (count_of high.cell) >>= λ m. Ok (record { name = c.name; kind = k; slots = zipped_three (between_slot c.kind closed) (rows_to m (list_of c.cell)) (rows_to m (list_of low.cell)) (rows_to m (list_of high.cell)) }))
        ≡ (o >>= λ k. under c.name k (zip_three_cells (between_slot c.kind closed) c.cell low.cell high.cell >>= short))
    by (Err e) = refl
    by (Ok k) =
        ap (λ (r : Result ℕ PxError). as_short_cell (are_three_units c.cell low.cell high.cell) (r >>= λ m. Ok (record { name = c.name; kind = k; slots = zipped_three (between_slot c.kind closed) (rows_to m (list_of c.cell)) (rows_to m (list_of low.cell)) (rows_to m (list_of high.cell)) }))) (common_three c.cell low.cell high.cell h)
        ∙ short_under c.name k (cell_of (are_three_units c.cell low.cell high.cell) (zipped_three (between_slot c.kind closed) (rows_to (rows_or (rows_or (rows_or 1 high.cell) low.cell) c.cell) (list_of c.cell)) (rows_to (rows_or (rows_or (rows_or 1 high.cell) low.cell) c.cell) (list_of low.cell)) (rows_to (rows_or (rows_or (rows_or 1 high.cell) low.cell) c.cell) (list_of high.cell))))
        ∙ sym (ap (λ r. under c.name k (r >>= short)) (three_beside (between_slot c.kind closed) c.cell low.cell high.cell h))

-- and of lists that differ in length
pub between_unequal : (closed : ClosedInterval) (c low high : NamedCell) → are_three_beside c.cell low.cell high.cell ≡ false
    → unequal (compared_kind c.kind (low.kind ∷ high.kind ∷ [])) ≡ function_named (IsBetween closed) (c ∷ low ∷ high ∷ [])
between_unequal closed c low high h = by (compared_kind c.kind (low.kind ∷ high.kind ∷ []))
  where
    by : (o : Result Kind PxError) → unequal o ≡ (o >>= λ k. under c.name k (zip_three_cells (between_slot c.kind closed) c.cell low.cell high.cell >>= short))
    by (Err e) = refl
    by (Ok k) = sym (ap (λ r. under c.name k (r >>= short)) (three_apart (between_slot c.kind closed) c.cell low.cell high.cell h))

pub between_one : (closed : ClosedInterval) (c low high : NamedCell) (s : Series) → between_column closed (column_of_cell c) (column_of_cell low) (column_of_cell high) ≡ Ok s
    → are_three_units c.cell low.cell high.cell ≡ true → length s.slots ≡ 1
between_one closed c low high s h u = one_of_three c.name (compared_kind c.kind (low.kind ∷ high.kind ∷ [])) (between_slot c.kind closed) c.cell low.cell high.cell s h u

-- no function takes no cell
pub none_named : (f : FunctionExpr) (cs : List ProgramCell) → length cs < 1 → function_named f (map named_cell cs) ≡ Err (InvalidOperation Types)
none_named f (c ∷ cs) h = absurd (omega (arith, h))
none_named IsNull [] h = refl
none_named IsNotNull [] h = refl
none_named Not [] h = refl
none_named (IsBetween closed) [] h = refl
none_named IsIn [] h = refl
none_named Reverse [] h = refl
none_named (Shift periods) [] h = refl
none_named DropNulls [] h = refl
none_named NullCount [] h = refl
none_named Explode [] h = refl

-- or more than three
pub many_named : (f : FunctionExpr) (cs : List ProgramCell) → 4 ≤ length cs → function_named f (map named_cell cs) ≡ Err (InvalidOperation Types)
many_named f [] h = absurd (omega (arith, h))
many_named f (a ∷ []) h = absurd (omega (arith, h))
many_named f (a ∷ b ∷ []) h = absurd (omega (arith, h))
many_named f (a ∷ b ∷ c ∷ []) h = absurd (omega (arith, h))
many_named IsNull (a ∷ b ∷ c ∷ d ∷ cs) h = refl
many_named IsNotNull (a ∷ b ∷ c ∷ d ∷ cs) h = refl
many_named Not (a ∷ b ∷ c ∷ d ∷ cs) h = refl
many_named (IsBetween closed) (a ∷ b ∷ c ∷ d ∷ cs) h = refl
many_named IsIn (a ∷ b ∷ c ∷ d ∷ cs) h = refl
many_named Reverse (a ∷ b ∷ c ∷ d ∷ cs) h = refl
many_named (Shift periods) (a ∷ b ∷ c ∷ d ∷ cs) h = refl
many_named DropNulls (a ∷ b ∷ c ∷ d ∷ cs) h = refl
many_named NullCount (a ∷ b ∷ c ∷ d ∷ cs) h = refl
many_named Explode (a ∷ b ∷ c ∷ d ∷ cs) h = refl
