-- What stands beside a frame, and the columns that are the frame's own.
use Rattle.std.specs.Prelude.{ℕ, Bool, List, is_some}
use Rattle.std.specs.List.{list_all}
use Rattle.px_column.specs.Prelude.{Series}
use Rattle.px_frame.specs.External.{Frame}
use Rattle.px_frame.specs.Frame.{look}

-- the frame's columns, with these beside them
abbrev pub beside : List Series → List Series → Frame
beside columns external = record { columns = columns; external = external }

-- a name of the frame's columns
abbrev pub is_column_of : List Series → List ℕ → Bool
is_column_of columns n = is_some (look n columns)

-- each of the names is
abbrev pub are_columns_of : List Series → List (List ℕ) → Bool
are_columns_of columns names = list_all (is_column_of columns) names
