-- What contracts see of the cells that are lent one after another.
use Rattle.std.specs.Prelude.{◌≡◌, Bool, true, false, List, [], ◌∷◌, map, refl}
use Rattle.std.specs.Coded.{Coded, code_by, coded×, coded_bool}
use Rattle.px_column.specs.Datum.{Slot}
use Rattle.px_column.specs.DatumCode.{coded_slots}
use Rattle.px_column.specs.Kind.{Kind, coded_kind}
use Rattle.px_column.specs.Series.{Series, slot_at}
use Rattle.px_frame.specs.Cell.{Cell, unit, rows}
use Rattle.px_frame.specs.Groups.{Groups}
use Rattle.px_context.specs.Context.{cells_in, kind_in}
use Rattle.px_context.specs.declared.agg_state.Layout.{Layout}

-- a cell, with the type of its values
pub record Part : Type 0 where
  pub kind : Kind
  pub cell : Cell

-- a cell of these values
abbrev pub part : Kind → Cell → Part
part k c = record { kind = k; cell = c }

-- whether a cell is a unit
abbrev pub is_unit_cell : Cell → Bool
is_unit_cell (unit s) = true
is_unit_cell (rows xs) = false

-- the cells of a layout, with the type of their values
abbrev pub parts_in : Layout → Series → Groups → List Part
parts_in l s g = map (part (kind_in l s.kind)) (cells_in l s g)

abbrev cell_code : Cell → Bool × List Slot
cell_code (unit s) = (true, s ∷ [])
cell_code (rows xs) = (false, xs)

abbrev cell_made : Bool → List Slot → Cell
cell_made true xs = unit (slot_at xs 0)
cell_made false xs = rows xs

pub cell_round : (c : Cell) → cell_made (cell_code c).0 (cell_code c).1 ≡ c
cell_round (unit s) = refl
cell_round (rows xs) = refl

abbrev coded_cell : Coded Cell
coded_cell = code_by (Bool × List Slot) (coded× coded_bool coded_slots) cell_code (λ p. cell_made p.0 p.1) cell_round

-- parts are told apart by their types and cells
abbrev pub coded_part : Coded Part
coded_part = code_by (Kind × Cell) (coded× coded_kind coded_cell) (λ p. (p.kind, p.cell)) (λ p. record { kind = p.0; cell = p.1 }) (λ _. refl)
