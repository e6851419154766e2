-- Cells side by side: the number of rows that they have together, and whether each of them has it.
use Rattle.std.specs.Prelude.{ℕ, ◌==◌, Bool, true, ◌&&◌, length}
use Rattle.px_frame.specs.Cell.{Cell, unit, rows, is_unit_cell}

-- the number of rows of a list, for a unit that of what stands beside it
abbrev pub rows_or : ℕ → Cell → ℕ
rows_or n (unit s) = n
rows_or n (rows xs) = length xs

-- a unit, or a list of n rows
abbrev pub stands_at : ℕ → Cell → Bool
stands_at n (unit s) = true
stands_at n (rows xs) = length xs == n

-- units, and lists of one length
abbrev pub are_two_beside : Cell → Cell → Bool
are_two_beside a b = stands_at (rows_or (rows_or 1 b) a) a && stands_at (rows_or (rows_or 1 b) a) b

-- the same of three cells
abbrev pub are_three_beside : Cell → Cell → Cell → Bool
are_three_beside a b c =
    stands_at (rows_or (rows_or (rows_or 1 c) b) a) a
    && (stands_at (rows_or (rows_or (rows_or 1 c) b) a) b && stands_at (rows_or (rows_or (rows_or 1 c) b) a) c)

-- two cells are units
abbrev pub are_two_units : Cell → Cell → Bool
are_two_units a b = is_unit_cell a && is_unit_cell b

-- three cells are units
abbrev pub are_three_units : Cell → Cell → Cell → Bool
are_three_units a b c = is_unit_cell a && (is_unit_cell b && is_unit_cell c)
