-- Casts and reductions of cells are those of their columns.
use Rattle.std.proofs.Common.{◌≡◌, ℕ, Bool, true, false, not, List, [], ◌∷◌, Some, None, Result, Ok, Err, length, refl, sym, ap}
use Rattle.std.specs.Result.{result_map_both}
use Rattle.px_column.specs.Cast.{before, cast_slots, datum_cast, is_cast}
use Rattle.px_column.specs.Operator.{kind_where}
use Rattle.px_column.specs.Prelude.{Slot, no_slots, Kind, Series, items}
use Rattle.px_column.specs.Reduction.{reduced, reduced_as, reduced_kind, reduced_slot}
use Rattle.px_column.specs.Result.{◌>>=◌}
use Rattle.px_column.specs.Retyped.{cast_column, cast_rows}
use Rattle.px_value.specs.declared.cast_options.CastOptions.{CastOptions}
use Rattle.px_value.specs.declared.error.PxError.{PxError}
use Rattle.px_value.specs.declared.method.GroupByMethod.{GroupByMethod}
use Rattle.px_frame.specs.Cell.{Cell, unit, rows, list_of, is_unit_cell}
use Rattle.px_frame.specs.Spread.{NamedCell, column_of_cell}
use Rattle.px_tree.specs.Node.{cast_cell, reduction_cell}
use Rattle.px_tree.specs.Shape.{is_implode}
use Rattle.px_nodes.specs.Named.{aggregation_named, as_cell, cast_named, under}

-- the cast of one place as that of a column
one_cast : (name : List ℕ) (to : Kind) (made : Result Slot PxError)
    → as_cell true (result_map_both items (λ e. e) (before made (Ok no_slots)) >>= λ ys. Ok (record { name = name; kind = to; slots = ys })) ≡ under name to (made >>= λ t. Ok (unit t))
one_cast name to (Err e) = refl
one_cast name to (Ok None) = refl
one_cast name to (Ok (Some d)) = refl

-- the cast of a cell as that of its column
cell_cast : (name : List ℕ) (from to : Kind) (options : CastOptions) (c : Cell)
    → as_cell (is_unit_cell c) (cast_slots from to options (list_of c) >>= λ ys. Ok (record { name = name; kind = to; slots = ys })) ≡ under name to (cast_cell from to options c)
cell_cast name from to options (unit None) = refl
cell_cast name from to options (unit (Some d)) = one_cast name to (datum_cast to options d)
cell_cast name from to options (rows xs) = by (cast_slots from to options xs)
  where
    by : (r : Result (List Slot) PxError) → as_cell false (r >>= λ ys. Ok (record { name = name; kind = to; slots = ys })) ≡ under name to (r >>= λ ys. Ok (rows ys))
    by (Err e) = refl
    by (Ok ys) = refl

pub cast_made : (to : Kind) (options : CastOptions) (c : NamedCell) → as_cell (is_unit_cell c.cell) (cast_column to options (column_of_cell c)) ≡ cast_named to options c
cast_made to options c = by (is_cast c.kind to)
  where
    by : (b : Bool) → as_cell (is_unit_cell c.cell) (kind_where b to >>= λ k. cast_rows k options (column_of_cell c)) ≡ (kind_where b to >>= λ k. under c.name k (cast_cell c.kind to options c.cell))
    by true = cell_cast c.name c.kind to options c.cell
    by false = refl

-- a reduction is one row
pub reduction_made : (m : GroupByMethod) (c : NamedCell) → as_cell (not (is_implode m)) (reduced m (column_of_cell c)) ≡ aggregation_named m c
reduction_made m c = by (reduced_kind m c.kind)
  where
    by : (o : Result Kind PxError) → as_cell (not (is_implode m)) (reduced_as m (column_of_cell c) o) ≡ (o >>= λ k. Ok (record { name = c.name; kind = k; cell = reduction_cell m c.kind c.cell }))
    by (Err e) = refl
    by (Ok k) = refl

pub reduction_one : (m : GroupByMethod) (c : NamedCell) (s : Series) → reduced m (column_of_cell c) ≡ Ok s → length s.slots ≡ 1
reduction_one m c s h = by (reduced_kind m c.kind) h
  where
    by : (o : Result Kind PxError) → reduced_as m (column_of_cell c) o ≡ Ok s → length s.slots ≡ 1
    by (Err e) g = absurd (cc)
    by (Ok k) g =
        let same : record { name = c.name; kind = k; slots = reduced_slot m c.kind (list_of c.cell) ∷ [] } ≡ s = cc in
        sym (ap (λ (t : Series). length t.slots) same)
