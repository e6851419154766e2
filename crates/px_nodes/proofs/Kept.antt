-- The rows of a cell that a mask keeps are those of its column.
use Rattle.std.proofs.Common.{◌≡◌, ℕ, ◌==◌, ◌||◌, Bool, true, false, cond, if◌then◌else◌, Ok, Err, length, refl, sym, ◌∙◌, ap}
use Rattle.px_column.specs.Beside.{rows_to}
use Rattle.px_column.specs.Operator.{is_boolean_kind}
use Rattle.px_column.specs.Result.{◌>>=◌}
use Rattle.px_column.specs.Rows.{kept_column, kept_rows, with_rows}
use Rattle.px_value.specs.declared.error.PxError.TheVariants.{SchemaMismatch, ShapeMismatch}
use Rattle.px_frame.specs.Cell.{Cell, unit, rows, list_of, count_of}
use Rattle.px_frame.specs.Spread.{NamedCell, column_of_cell}
use Rattle.px_tree.specs.Node.{filter_cell}
use Rattle.px_nodes.specs.Named.{as_cell, filter_named, under}
use Rattle.px_nodes.specs.Together.{stands_at}
use Rattle.px_nodes.proofs.Alongside.{spread_there}

or_right : (a b : Bool) → b ≡ true → (a || b) ≡ true
or_right true b h = refl
or_right false b h = h

-- a mask of one row, or of as many as there are
is_long : (n : ℕ) (mask : Cell) → stands_at n mask ≡ true → (count_of mask == 1 || count_of mask == n) ≡ true
is_long n (unit s) h = refl
is_long n (rows xs) h = or_right (length xs == 1) (length xs == n) h

pub filter_made : (c by : NamedCell) → is_boolean_kind by.kind ≡ true → stands_at (count_of c.cell) by.cell ≡ true → as_cell false (kept_column (column_of_cell c) (column_of_cell by)) ≡ filter_named c by
filter_made c by truths h = tested (is_boolean_kind by.kind) truths
  where
    tested : (x : Bool) → x ≡ true
        → as_cell false (if x then (if count_of by.cell == 1 || count_of by.cell == count_of c.cell then Ok (with_rows (column_of_cell c) (kept_rows (rows_to (count_of c.cell) (list_of by.cell)) (list_of c.cell))) else Err ShapeMismatch) else Err SchemaMismatch)
        ≡ (if x then under c.name c.kind (filter_cell c.cell by.cell) else Err SchemaMismatch)
    tested false g = cc
    tested true g =
        ap (λ (b : Bool). as_cell false (cond b (Ok (with_rows (column_of_cell c) (kept_rows (rows_to (count_of c.cell) (list_of by.cell)) (list_of c.cell)))) (Err ShapeMismatch))) (is_long (count_of c.cell) by.cell h)
        ∙ sym (ap (λ r. under c.name c.kind (r >>= λ ms. Ok (rows (kept_rows ms (list_of c.cell))))) (spread_there (count_of c.cell) by.cell h))
