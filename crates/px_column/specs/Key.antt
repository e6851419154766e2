-- The key of a row: what some columns hold there.
use Rattle.std.specs.Prelude.{ℕ, List, [], ◌∷◌, map}
use Rattle.std.specs.List.{range_with_len}
use Rattle.px_value.specs.Datum.{Slot}
use Rattle.px_value.specs.Series.{Series, slot_at}

-- what the columns hold at a row
abbrev pub key_at : List Series → ℕ → List Slot
key_at by row = map (λ s. slot_at s.slots row) by

-- the keys of the first n rows
abbrev pub keys_of : List Series → ℕ → List (List Slot)
keys_of by n = map (key_at by) (range_with_len 0 n)

-- the key of a row of one column
abbrev pub row_of : Slot → List Slot
row_of s = s ∷ []
