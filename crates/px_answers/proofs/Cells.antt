-- A node's value as a column and as a cell.
use Rattle.std.proofs.Common.{◌≡◌, Bool, true, false, List, Some, length, refl, sym, ◌∙◌, ap}
use Rattle.px_column.specs.Prelude.{Slot, Series}
use Rattle.px_frame.specs.Cell.{Cell, unit, rows, cell_of, is_unit_cell, list_of}
use Rattle.px_frame.specs.External.{Frame}
use Rattle.px_frame.specs.Spread.{NamedCell, column_of_cell}
use Rattle.px_tree.specs.Shape.{is_unit}
use Rattle.px_answers.specs.Planned.{Planned}
use Rattle.px_answers.specs.Value.{IsCellOf, IsValue}

-- rows as a cell are a unit where that is asked for
pub unit_cell_of : (b : Bool) (xs : List Slot) → is_unit_cell (cell_of b xs) ≡ b
unit_cell_of true xs = refl
unit_cell_of false xs = refl

cell_back : (c : Cell) → cell_of (is_unit_cell c) (list_of c) ≡ c
cell_back (unit s) = refl
cell_back (rows xs) = refl

one_value : (c : Cell) → is_unit_cell c ≡ true → length (list_of c) ≡ 1
one_value (unit s) h = refl
one_value (rows xs) h = absurd (cc h)

-- a cell is the value as a column, a unit as one row
pub cell_is_value : (p : Planned) (f : Frame) (c : NamedCell) → IsCellOf p f c → IsValue p f (column_of_cell c)
cell_is_value p f c h = record {
  sound = h.sound;
  name = h.name;
  kind = h.kind;
  value = h.value ∙ ap Some (sym (cell_back c.cell)) ∙ ap (λ b. Some (cell_of b (list_of c.cell))) h.shape;
  unit = λ u. one_value c.cell (h.shape ∙ u);
}

-- a column is the value as a cell
pub value_is_cell : (p : Planned) (f : Frame) (s : Series) (c : NamedCell) → IsValue p f s → c ≡ record { name = s.name; kind = s.kind; cell = cell_of (is_unit p.tree) s.slots } → IsCellOf p f c
value_is_cell p f s c h e = rw e (record {
  sound = h.sound;
  name = h.name;
  kind = h.kind;
  value = h.value;
  shape = unit_cell_of (is_unit p.tree) s.slots;
})
