-- What contracts see of a frame: its columns, with distinct names and of one height.
use Rattle.std.specs.Prelude.{◌≡◌, ℕ, ◌==◌, Bool, true, List, [], ◌∷◌, ◌++◌, Option, Some, None, Result, Ok, Err, length, map, find, nat_lt, if◌then◌else◌}
use Rattle.std.specs.List.{list_any, list_all}
use lib.Pointwise.{pointwise}
use Rattle.px_column.specs.Prelude.{Slot, Series, slot_at}
use Rattle.px_column.specs.Column.{taken_at, all_within}
use Rattle.px_column.specs.Operator.{is_boolean_kind}
use Rattle.px_column.specs.Rows.{kept_rows}
use Rattle.px_value.specs.declared.error.PxError.{PxError}
use Rattle.px_value.specs.declared.error.PxError.TheVariants.{Duplicate, ShapeMismatch, SchemaMismatch}

-- the same name
abbrev pub name_eq : List ℕ → List ℕ → Bool
name_eq = pointwise ◌==◌

-- a column has this name
abbrev pub has_name : List ℕ → Series → Bool
has_name n s = name_eq n s.name

-- the column of a name
abbrev pub look : List ℕ → List Series → Option Series
look n frame = find (has_name n) frame

-- the names of the columns, in their order
abbrev pub names_of : List Series → List (List ℕ)
names_of frame = map (λ s. s.name) frame

-- the number of rows, 0 without columns
abbrev pub height_of : List Series → ℕ
height_of [] = 0
height_of (s ∷ frame) = length s.slots

-- the first name that stands among those seen or earlier in the list
abbrev pub first_repeat : List (List ℕ) → List (List ℕ) → Option (List ℕ)
first_repeat seen [] = None
first_repeat seen (n ∷ ns) = if list_any (name_eq n) seen then Some n else first_repeat (seen ++ n ∷ []) ns

-- a column has n rows
abbrev pub has_height : ℕ → Series → Bool
has_height n s = length s.slots == n

-- each column has n rows
abbrev pub all_have_height : ℕ → List Series → Bool
all_have_height n frame = list_all (has_height n) frame

-- all columns are as long as the first
abbrev pub is_even : List Series → Bool
is_even frame = all_have_height (height_of frame) frame

-- names that are distinct, and one height
pub record IsFrame (frame : List Series) : Type 0 where
  pub distinct : first_repeat [] (names_of frame) ≡ None
  pub even : is_even frame ≡ true

-- a value, unless a name stands twice
abbrev pub unless_repeated : {X : Type 0} → Option (List ℕ) → Result X PxError → Result X PxError
unless_repeated None made = made
unless_repeated (Some n) made = Err (Duplicate n)

-- the frame of some columns; a name that stands twice is refused before lengths that differ
abbrev pub frame_of : List Series → Result (List Series) PxError
frame_of columns = unless_repeated (first_repeat [] (names_of columns)) (if is_even columns then Ok columns else Err ShapeMismatch)

-- each row number is below n
abbrev pub are_below : ℕ → List ℕ → Bool
are_below n rows = list_all (λ r. nat_lt r n) rows

-- what stands at these rows, in this order
abbrev pub slots_at : List Slot → List ℕ → List Slot
slots_at xs rows = map (slot_at xs) rows

-- the rows that are asked for stand in each of the columns
abbrev pub are_in_all : List (Option ℕ) → List Series → Bool
are_in_all rows frame = list_all (λ s. all_within (length s.slots) rows) frame

-- a column's rows as they are asked for
abbrev pub taken_series : List (Option ℕ) → Series → Series
taken_series rows s = record s { slots = map (taken_at s.slots) rows }

-- a column's rows, in this order
abbrev pub series_at : List ℕ → Series → Series
series_at rows s = record s { slots = slots_at s.slots rows }

-- the frame of these rows, in this order
abbrev pub subframe : List Series → List ℕ → List Series
subframe frame rows = map (series_at rows) frame

-- a column's rows whose mask is true
abbrev pub kept_series : List Slot → Series → Series
kept_series mask s = record s { slots = kept_rows mask s.slots }

-- the frame of the rows whose mask is true; a mask of no truths is refused before one of another height
abbrev pub kept_frame : List Series → Series → Result (List Series) PxError
kept_frame frame mask =
    if is_boolean_kind mask.kind then
    (if length mask.slots == height_of frame then Ok (map (kept_series mask.slots) frame) else Err ShapeMismatch)
    else Err SchemaMismatch
