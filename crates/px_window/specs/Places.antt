-- The places of rows when the rows of groups are joined.
use Rattle.std.specs.Prelude.{ℕ, ◌+◌, ◌==◌, List, [], ◌∷◌, ◌++◌, length, map, replicate, slice_index}
use Rattle.std.specs.List.{concat, position_or_len, range_with_len}
use Rattle.std.specs.List.Sorted.{IsPermutation}
use Rattle.px_frame.specs.Groups.{Groups, rows_of}

-- each row of the height stands in the groups once
abbrev pub HoldsEachRowOnce : Groups → Type 0
HoldsEachRowOnce g = IsPermutation (range_with_len 0 g.height) (concat (rows_of g))

-- the place of a row among some rows, and their number where it is none of them
abbrev pub place_of : List ℕ → ℕ → ℕ
place_of rows row = position_or_len (λ r. r == row) rows

-- each row's place when the groups' rows are joined
abbrev pub row_places : Groups → List ℕ
row_places g = map (place_of (concat (rows_of g))) (range_with_len 0 g.height)

-- of some numbers, which stand beside rows, the one beside each row below n
abbrev pub put_at : ℕ → List ℕ → List ℕ → List ℕ
put_at n rows numbers = map (λ row. slice_index numbers (place_of rows row)) (range_with_len 0 n)

-- the number of each part, the first one being number n, once for each of its rows
abbrev pub numbers_from : ℕ → List (List ℕ) → List ℕ
numbers_from n [] = []
numbers_from n (p ∷ ps) = replicate (length p) n ++ numbers_from (n + 1) ps

-- the number of each row's group
abbrev pub part_numbers : Groups → List ℕ
part_numbers g = put_at g.height (concat (rows_of g)) (numbers_from 0 (rows_of g))
