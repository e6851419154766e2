-- The parts of a frame by keys: for each key, in order of first appearance, the numbers of the rows that have it, rising.
use Rattle.std.specs.Prelude.{ℕ, ◌+◌, Bool, List, [], ◌∷◌, ◌++◌, fold, map, if◌then◌else◌}
use Rattle.std.specs.List.{list_any}
use Rattle.px_column.specs.Equality.{row_eq}
use Rattle.px_column.specs.Key.{keys_of}
use Rattle.px_column.specs.Prelude.{Series}

module _ {K : Type 0} where
  -- the numbers of the items that pass the test, the first item being number n
  abbrev pub numbers : (K → Bool) → ℕ → List K → List ℕ
  numbers test n [] = []
  numbers test n (k ∷ ks) = if test k then n ∷ numbers test (n + 1) ks else numbers test (n + 1) ks

  module _ (eq : K → K → Bool) where
    -- the keys with one more, which goes last if it is new
    abbrev pub with_key : List K → K → List K
    with_key seen k = if list_any (eq k) seen then seen else seen ++ k ∷ []

    -- each key once, in order of first appearance
    abbrev pub distinct : List K → List K
    distinct ks = fold with_key [] ks

    -- for each of these keys the rows that have it
    abbrev pub rows_of_keys : List K → List K → List (List ℕ)
    rows_of_keys firsts ks = map (λ k. numbers (eq k) 0 ks) firsts

    -- for each key, in order of first appearance, the numbers of the rows that have it, rising
    abbrev pub parts : List K → List (List ℕ)
    parts ks = rows_of_keys (distinct ks) ks

-- the parts of n rows by these columns: rows are together where all columns hold the same, a null being the same as a null
abbrev pub parts_of : List Series → ℕ → List (List ℕ)
parts_of by n = parts row_eq (keys_of by n)
