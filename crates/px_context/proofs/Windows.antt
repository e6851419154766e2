-- Values that stand one after another in a column.
use Rattle.std.proofs.Common.{◌≡◌, ◌∙◌, ℕ, ◌+◌, ◌-◌, ◌<◌, ◌≤◌, true, List, [], ◌∷◌, drop, length, slice_index, take, ap, arith, subst, sym}
use Rattle.std.specs.List.{range_with_len}
use Rattle.std.proofs.lemmas.List.FromFn.{length-range_with_len}
use Rattle.px_column.specs.Prelude.{Series, slot_at}
use Rattle.px_frame.specs.Frame.{are_below, slots_at}
use Rattle.px_frame.proofs.Ranges.{range_slots}
use Rattle.px_frame.proofs.Slices.{range_at, row_below}

range_end : (h a n : ℕ) → 0 < n → are_below h (range_with_len a n) ≡ true → a + n ≤ h
range_end h a n some below =
    let within : n - 1 < length (range_with_len a n) = omega (arith, some, length-range_with_len a n) in
    let last : slice_index (range_with_len a n) (n - 1) < h = row_below h (range_with_len a n) (n - 1) below within in
    omega (arith, some, last, range_at a n (n - 1) within)

-- rows that are there one after another end within the height
pub rows_end : (h : ℕ) (rows : List ℕ) (a : ℕ) → 0 < length rows → rows ≡ range_with_len a (length rows) → are_below h rows ≡ true → a + length rows ≤ h
rows_end h rows a some e below = range_end h a (length rows) some (subst (λ (rs : List ℕ). are_below h rs ≡ true) e below)

-- and what they hold is a part of the column
pub rows_stand : (s : Series) (rows : List ℕ) (a : ℕ) → a + length rows ≤ length s.slots → rows ≡ range_with_len a (length rows) → take (length rows) (drop a s.slots) ≡ slots_at s.slots rows
rows_stand s rows a h e = sym (ap (λ (t : Series). t.slots) (range_slots s a (length rows) h)) ∙ ap (slots_at s.slots) (sym e)

-- so is what one row holds
pub row_stands : (s : Series) (row : ℕ) → row < length s.slots → take 1 (drop row s.slots) ≡ slot_at s.slots row ∷ []
row_stands s row h = sym (ap (λ (t : Series). t.slots) (range_slots s row 1 (omega (arith, h))))
