-- A unit is its column's one row.
use Rattle.std.proofs.Common.{◌≡◌, List, [], ◌∷◌, length, refl, arith}
use Rattle.px_column.specs.Prelude.{Slot, Series, slot_at}
use Rattle.px_frame.specs.CellView.{unit_cell}
use Rattle.px_frame.specs.Spread.{column_of_cell}

one_slot : (xs : List Slot) → length xs ≡ 1 → xs ≡ slot_at xs 0 ∷ []
one_slot [] h = absurd (omega (arith, h))
one_slot (x ∷ []) h = refl
one_slot (x ∷ y ∷ xs) h = absurd (omega (arith, h))

-- the cell of a column of one row has that row
pub unit_column : (s : Series) → length s.slots ≡ 1 → s ≡ column_of_cell (unit_cell s)
unit_column s h = λ i. record s { slots = one_slot s.slots h i }
