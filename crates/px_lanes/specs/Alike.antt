-- Cells of one name, one type and one shape, and their values.
use Rattle.std.specs.Prelude.{◌≡◌, ℕ, Bool, false, List, [], ◌∷◌, map}
use Rattle.std.specs.List.{flat_map}
use Rattle.px_column.specs.Prelude.{Kind, Series, Slot}
use Rattle.px_frame.specs.Cell.{count_of, is_unit_cell, list_of}
use Rattle.px_frame.specs.Groups.{Groups}
use Rattle.px_frame.specs.Spread.{NamedCell}
use Rattle.px_context.specs.Built.{new_context, with_other_groups}
use Rattle.px_context.specs.Context.{Context}

-- a cell of this name, type and shape
pub record IsLike (name : List ℕ) (kind : Kind) (one : Bool) (c : NamedCell) : Type 0 where
  pub name_is : c.name ≡ name
  pub kind_is : c.kind ≡ kind
  pub shape : is_unit_cell c.cell ≡ one

-- each cell is of this name, type and shape
abbrev pub AreLike : List ℕ → Kind → Bool → List NamedCell → Type 0
AreLike name kind one [] = Unit {0}
AreLike name kind one (c ∷ cs) = IsLike name kind one c × AreLike name kind one cs

-- each cell has values of this type
abbrev pub AreOf : Kind → List NamedCell → Type 0
AreOf kind [] = Unit {0}
AreOf kind (c ∷ cs) = (c.kind ≡ kind) × AreOf kind cs

-- the values of all cells, one after another
abbrev pub values_in : List NamedCell → List Slot
values_in cs = flat_map (λ c. list_of c.cell) cs

-- the number of values of each cell
abbrev pub lengths_in : List NamedCell → List ℕ
lengths_in cs = map (λ c. count_of c.cell) cs

-- the context of the rows of a column at groups that are not the frame's own
abbrev pub flat_over : Series → Groups → Context
flat_over s g = with_other_groups (new_context false s g) g
