-- Frames with columns beside them, which other frames hand in.
use Rattle.std.specs.Prelude.{ℕ, ◌==◌, List, [], ◌∷◌, ◌++◌, Option, fold, length, map, if◌then◌else◌}
use Rattle.std.specs.Option.{option_or}
use Rattle.px_column.specs.Prelude.{Series}
use Rattle.px_frame.specs.Frame.{look, height_of, series_at}
use Rattle.px_frame.specs.Schema.{FieldKind, column_field, is_field_name}

-- columns with distinct names and one height, and the columns beside them in order, of any names and lengths
pub record Frame : Type 0 where
  pub columns : List Series
  pub external : List Series

-- a frame with nothing beside it
abbrev pub alone : List Series → Frame
alone columns = record { columns = columns; external = [] }

-- the number of the frame's rows
abbrev pub height : Frame → ℕ
height frame = height_of frame.columns

-- the column of a name: the frame's, or else the first one beside it
abbrev pub look_in : List ℕ → Frame → Option Series
look_in n frame = option_or (look n frame.columns) (look n frame.external)

-- one more field, where its name is new
abbrev pub with_field : List FieldKind → Series → List FieldKind
with_field fields s = if is_field_name s.name fields then fields else fields ++ column_field s ∷ []

-- the frame's fields, then those of the columns beside it that are not named yet
abbrev pub scope_of : Frame → List FieldKind
scope_of frame = fold with_field (map column_field frame.columns) frame.external

-- a column beside a frame of height n: where it has that height these rows, else all of it
abbrev pub external_at : ℕ → List ℕ → Series → Series
external_at n rows s = if length s.slots == n then series_at rows s else s

-- the frame of these rows, in this order
abbrev pub rows_of_frame : Frame → List ℕ → Frame
rows_of_frame frame rows = record {
  columns = map (series_at rows) frame.columns;
  external = map (external_at (height frame) rows) frame.external;
}
