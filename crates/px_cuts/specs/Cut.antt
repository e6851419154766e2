-- Rows in chunks: the parts of each chunk, one chunk after another, and the keys that stand at them.
use Rattle.std.specs.Prelude.{ℕ, ◌+◌, Bool, List, [], ◌∷◌, ◌++◌, map, length}
use Rattle.std.specs.List.{flat_map, range_with_len, slice_index_or}
use Rattle.px_frame.specs.Parts.{numbers, distinct}

-- lists one after another
abbrev pub joined : {X : Type 0} → List (List X) → List X
joined xss = flat_map (λ xs. xs) xss

-- the row numbers of each chunk, the first of which begins with row a
abbrev pub ranges : ℕ → List ℕ → List (List ℕ)
ranges a [] = []
ranges a (n ∷ lengths) = range_with_len a n ∷ ranges (a + n) lengths

-- the rows of the parts at these places, one part after another
abbrev pub rows_at : List (List ℕ) → List ℕ → List ℕ
rows_at parts places = flat_map (λ i. slice_index_or parts i []) places

module _ {K : Type 0} (eq : K → K → Bool) where
  -- the parts of a chunk whose first row is number n
  abbrev pub parts_from : ℕ → List K → List (List ℕ)
  parts_from n ks = map (λ k. numbers (eq k) n ks) (distinct eq ks)

  -- the key at each part of each chunk
  abbrev pub chunk_keys : List (List K) → List K
  chunk_keys kss = flat_map (distinct eq) kss

  -- the parts of each chunk, the first of which begins with row n
  abbrev pub chunk_parts : ℕ → List (List K) → List (List ℕ)
  chunk_parts n [] = []
  chunk_parts n (ks ∷ kss) = parts_from n ks ++ chunk_parts (n + length ks) kss
