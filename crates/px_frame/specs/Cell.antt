-- The value of an expression on a frame: one value, or one for each of some rows.
use Rattle.std.specs.Prelude.{ℕ, Bool, true, false, List, [], ◌∷◌, Some, length}
use Rattle.px_column.specs.Prelude.{list, Slot, slots, slot_at}

-- one value, or one for each of some rows
pub data Cell : Type 0 where
  unit : Slot → Cell
  rows : List Slot → Cell

-- a unit counts as one row
abbrev pub list_of : Cell → List Slot
list_of (unit s) = s ∷ []
list_of (rows xs) = xs

-- the unit's value, or the rows as one list
abbrev pub value_of_cell : Cell → Slot
value_of_cell (unit s) = s
value_of_cell (rows xs) = Some (list (slots xs))

-- the number of values of a cell, one for a unit
abbrev pub count_of : Cell → ℕ
count_of cell = length (list_of cell)

-- a cell that is a unit
abbrev pub is_unit_cell : Cell → Bool
is_unit_cell (unit s) = true
is_unit_cell (rows xs) = false

-- some rows as a unit or as a list
abbrev pub cell_of : Bool → List Slot → Cell
cell_of true xs = unit (slot_at xs 0)
cell_of false xs = rows xs
