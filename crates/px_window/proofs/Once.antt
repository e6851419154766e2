-- Rows that each stand once.
use Rattle.std.proofs.Common.{◌≡◌, ◌≢◌, ℕ, zero, suc, ◌+◌, ◌<◌, ◌==◌, true, false, List, below_more, zero-add, length, get_or, slice_index, sym, ◌∙◌, ap, arith}
use Rattle.std.proofs.Math.ListN.{set}
use Rattle.std.specs.List.{AllByRecursion, Contains, IsDistinct, range_with_len}
use Rattle.std.specs.List.Sorted.{IsPermutation}
use Rattle.std.proofs.lemmas.Bool.Decides.{nat_tests}
use Rattle.std.proofs.lemmas.List.{get_or-set_other, get_or-set_same, get_or_default}
use Rattle.std.proofs.lemmas.List.FromFn.{fill_by_all, get_or-range_with_len, length-range_with_len}
use Rattle.std.proofs.lemmas.List.Sorted.{All-permutation, Contains-permutation, length_permutation}
use Rattle.std.proofs.lemmas.List.Sums.{position_or_len_is}
use Rattle.std.proofs.lemmas.Map.Keys.{IsDistinct-IsPermutation, apart_from_distinct}
use Rattle.px_window.specs.Places.{place_of, put_at}

same_test : (x y : ℕ) → (x == y) ≡ (y == x)
same_test x y = grind (arith, nat_tests)

differ : (x y : ℕ) → (x == y) ≡ false → x ≢ y
differ x y h = grind (arith, nat_tests)

apart_range : (x a n : ℕ) → x < a → AllByRecursion (λ y. (x == y) ≡ false) (range_with_len a n)
apart_range x a zero h = tt
apart_range x a (suc n) h = (grind (arith, nat_tests), apart_range x (a + 1) n (omega (arith, h)))

distinct_range : (a n : ℕ) → IsDistinct ◌==◌ (range_with_len a n)
unfolding IsDistinct
distinct_range a zero = tt
distinct_range a (suc n) = (apart_range a (a + 1) n (omega arith), distinct_range (a + 1) n)

module _ (n : ℕ) (rows : List ℕ) (once : IsPermutation (range_with_len 0 n) rows) where
  -- there are as many
  pub as_many : length rows ≡ n
  as_many = length_permutation (range_with_len 0 n) rows once ∙ length-range_with_len 0 n

  distinct_rows : IsDistinct ◌==◌ rows
  distinct_rows = IsDistinct-IsPermutation ◌==◌ same_test (range_with_len 0 n) rows once (distinct_range 0 n)

  -- no two are the same
  pub rows_apart : (i j : ℕ) → i < j → j < length rows → (get_or rows i 0 == get_or rows j 0) ≡ false
  rows_apart i j h k = apart_from_distinct ◌==◌ rows i j 0 distinct_rows h k

  -- each is below n
  pub row_below : (i : ℕ) → i < length rows → get_or rows i 0 < n
  row_below i h = All-permutation (λ r. r < n) (range_with_len 0 n) rows once (λ k d lt. let at = get_or-range_with_len 0 n k d (omega (arith, length-range_with_len 0 n, lt)) in omega (arith, at, length-range_with_len 0 n, lt)) i 0 h

  -- the place of the row at a place
  pub place_at : (i : ℕ) → i < length rows → place_of rows (get_or rows i 0) ≡ i
  place_at i h =
      let here : (get_or rows i 0 == get_or rows i 0) ≡ true = grind (arith, nat_tests) in
      position_or_len_is (λ r. r == get_or rows i 0) rows i 0 (omega (arith, h)) (λ k lt. rows_apart k i lt h) (λ _. here)

  -- each row below n stands at its place
  pub row_there : (row : ℕ) → row < n → (place_of rows row < length rows) × (get_or rows (place_of rows row) 0 ≡ row)
  row_there row h =
      let first : Contains (range_with_len 0 n) row = (row, omega (arith, length-range_with_len 0 n, h), get_or-range_with_len 0 n row row h ∙ zero-add row) in
      let found = Contains-permutation (range_with_len 0 n) rows row once first in
      let lt : found.0 < length rows = found.1 in
      let is : get_or rows found.0 0 ≡ row = get_or_default rows found.0 0 row lt ∙ found.2 in
      let place : place_of rows row ≡ found.0 = ap (place_of rows) (sym is) ∙ place_at found.0 lt in
      (omega (arith, place, lt), ap (λ k. get_or rows k 0) place ∙ is)

  -- numbers that are put at their rows, one by one
  pub put_more : (placed numbers : List ℕ) (i : ℕ) → length placed ≡ n → i < length rows
      → ((k : ℕ) → k < i → get_or placed (get_or rows k 0) 0 ≡ get_or numbers k 0)
      → (k : ℕ) → k < i + 1 → get_or (set placed (get_or rows i 0) (get_or numbers i 0)) (get_or rows k 0) 0 ≡ get_or numbers k 0
  put_more placed numbers i long h so_far =
      let row = get_or rows i 0 in
      let new = get_or numbers i 0 in
      below_more (λ k. get_or (set placed row new) (get_or rows k 0) 0 ≡ get_or numbers k 0) i
      (λ k lt. let other : get_or rows k 0 ≢ row = differ (get_or rows k 0) row (rows_apart k i lt h) in get_or-set_other placed row (get_or rows k 0) new 0 other ∙ so_far k lt)
      (get_or-set_same placed row new 0 (omega (arith, row_below i h, long)))

  pub put_all : (placed numbers : List ℕ) → length placed ≡ n → ((k : ℕ) → k < length rows → get_or placed (get_or rows k 0) 0 ≡ get_or numbers k 0) → placed ≡ put_at n rows numbers
  put_all placed numbers long each =
      fill_by_all (λ row. slice_index numbers (place_of rows row)) placed n 0 long
      (λ row h. let there = row_there row h in ap (λ r. get_or placed r 0) (sym there.1) ∙ each (place_of rows row) there.0)
