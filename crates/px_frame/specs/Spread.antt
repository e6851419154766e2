-- Units beside lists: a unit takes the length of the lists beside it, which are all equally long. A list of one row is a
-- list, and takes no other length.
use Rattle.std.specs.Prelude.{ℕ, ◌==◌, List, [], ◌∷◌, length, map, replicate, Result, Ok, Err, if◌then◌else◌}
use Rattle.px_column.specs.Prelude.{Slot, Kind, Series}
use Rattle.px_value.specs.declared.error.PxError.{PxError}
use Rattle.px_value.specs.declared.error.PxError.TheVariants.{ShapeMismatch}
use Rattle.px_frame.specs.Cell.{Cell, unit, rows, list_of}
use Rattle.px_frame.specs.Frame.{first_repeat, unless_repeated}

-- a cell at n rows: a unit stands at each, a list must have as many
abbrev pub spread : ℕ → Cell → Result (List Slot) PxError
spread n (unit s) = Ok (replicate n s)
spread n (rows xs) = if length xs == n then Ok xs else Err ShapeMismatch

-- the number of rows of some cells side by side: the first list's, or one row for units alone
abbrev pub rows_beside : List Cell → ℕ
rows_beside [] = 1
rows_beside (unit s ∷ cells) = rows_beside cells
rows_beside (rows xs ∷ cells) = length xs

-- a cell under a name, with the type of its values
pub record NamedCell : Type 0 where
  pub name : List ℕ
  pub kind : Kind
  pub cell : Cell

-- a value under its name and type as a column; a unit is one row
abbrev pub column_of_cell : NamedCell → Series
column_of_cell c = record { name = c.name; kind = c.kind; slots = list_of c.cell }

-- a named cell's column of these places, or the refusal
abbrev pub with_slots : NamedCell → Result (List Slot) PxError → Result Series PxError
with_slots c (Ok xs) = Ok (record { name = c.name; kind = c.kind; slots = xs })
with_slots c (Err e) = Err e

-- a named cell as a column of n rows
abbrev pub spread_column : ℕ → NamedCell → Result Series PxError
spread_column n c = with_slots c (spread n c.cell)

-- a column and those after it, or the first refusal
abbrev pub before_all : Result Series PxError → Result (List Series) PxError → Result (List Series) PxError
before_all (Ok s) (Ok ss) = Ok (s ∷ ss)
before_all (Ok s) (Err e) = Err e
before_all (Err e) others = Err e

-- each named cell as a column of n rows, or the first refusal
abbrev pub spread_all : ℕ → List NamedCell → Result (List Series) PxError
spread_all n [] = Ok []
spread_all n (c ∷ cells) = before_all (spread_column n c) (spread_all n cells)

-- the frame of some cells side by side; a name that stands twice is refused before lists that differ in length
abbrev pub assembled : List NamedCell → Result (List Series) PxError
assembled cells = unless_repeated (first_repeat [] (map (λ c. c.name) cells)) (spread_all (rows_beside (map (λ c. c.cell) cells)) cells)
