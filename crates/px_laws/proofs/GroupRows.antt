-- The frame of some rows.
use Rattle.std.proofs.Common.{◌≡◌, ℕ, zero, suc, ◌<◌, List, [], ◌∷◌, length, map, refl, arith}
use Rattle.std.proofs.lemmas.List.{length-map}
use Rattle.std.specs.List.{slice_index}
use Rattle.px_column.specs.Prelude.{Slot, Series, slot_at}
use Rattle.px_frame.specs.External.{Frame, height, rows_of_frame}
use Rattle.px_frame.specs.Frame.{height_of, series_at, slots_at}

-- a frame with a column has as many of the rows as are asked for
height_at : (columns : List Series) (rows : List ℕ) → 0 < length columns → height_of (map (series_at rows) columns) ≡ length rows
height_at [] rows h = absurd (omega arith)
height_at (s ∷ columns) rows h = length-map rows (slot_at s.slots)

-- the same of a whole frame
pub height_of_rows : (frame : Frame) (rows : List ℕ) → 0 < length frame.columns → height (rows_of_frame frame rows) ≡ length rows
height_of_rows frame rows h = height_at frame.columns rows h

-- at each of the rows a column holds what it holds at that row of the whole
values_at : (xs : List Slot) (rows : List ℕ) (i : ℕ) → i < length rows → slot_at (slots_at xs rows) i ≡ slot_at xs (slice_index rows i)
values_at xs [] i lt = absurd (omega arith)
values_at xs (r ∷ rows) zero lt = refl
values_at xs (r ∷ rows) (suc i) lt = values_at xs rows i (omega arith)

-- the same of a column
pub values_of_rows : (s : Series) (rows : List ℕ) (i : ℕ) → i < length rows → slot_at (series_at rows s).slots i ≡ slot_at s.slots (slice_index rows i)
values_of_rows s rows i lt = values_at s.slots rows i lt
