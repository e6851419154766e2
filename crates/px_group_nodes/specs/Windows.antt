-- Groups of some of their rows.
use Rattle.std.specs.Prelude.{ℕ, ℤ, List, Option, Result, Ok, drop, length, map, take}
use Rattle.px_column.specs.Function.{slice_window}
use Rattle.px_column.specs.Prelude.{Slot}
use Rattle.px_column.specs.Result.{◌>>=◌}
use Rattle.px_value.specs.declared.error.PxError.{PxError}
use Rattle.px_frame.specs.Groups.{Groups, rows_of}
use Rattle.px_tree.specs.Node.{length_of, offset_of}

-- the rows of a group from an offset on, so many
abbrev pub rows_window : ℤ → Option ℤ → List ℕ → List ℕ
rows_window offset limit rows = let window = slice_window offset limit (length rows) in take window.1 (drop window.0 rows)

-- these of each group
abbrev pub windows_of : ℤ → Option ℤ → Groups → List (List ℕ)
windows_of offset limit g = map (rows_window offset limit) (rows_of g)

-- the offset and the length that two values say
abbrev pub window_by : Slot → Slot → Result (ℤ × Option ℤ) PxError
window_by offset limit = do
  start ← offset_of offset
  count ← length_of limit
  Ok (start, count)
