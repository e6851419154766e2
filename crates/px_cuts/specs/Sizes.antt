-- How many rows a list of rows counts for.
use Rattle.std.specs.Prelude.{ℕ, List, length, max}

-- the number of a list's rows, an empty list counting for one
abbrev pub rows_or_one : List ℕ → ℕ
rows_or_one p = max 1 (length p)
