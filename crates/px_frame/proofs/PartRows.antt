-- The parts of rows by keys hold each row once.
use Rattle.std.proofs.Common.{◌≡◌, ℕ, zero, suc, ◌+◌, ◌≤◌, ◌<◌, Bool, true, false, cond, ◌||◌, List, [], ◌∷◌, ◌++◌, length, get_or, map, fold, refl, sym, ◌∙◌, ap, subst, arith, zero-add}
use Rattle.std.specs.Cmp.{IsEquivalence}
use Rattle.std.specs.List.{All, AllByRecursion, Contains, concat, filter, flat_map, list_any, range_with_len}
use Rattle.std.specs.List.Sorted.{IsPermutation, IsStrictlyIncreasing}
use Rattle.std.proofs.lemmas.List.Concat.{concat_is}
use Rattle.std.proofs.lemmas.List.Elements.{All-nil, All-head, All-tail, All-push, All-map, All-weaker, All-contains, All-contains_itself, filter_passes}
use Rattle.std.proofs.lemmas.List.Folds.{flat_map-map}
use Rattle.std.proofs.lemmas.List.FromFn.{length-range_with_len, get_or-range_with_len, length-map-range_with_len}
use Rattle.std.proofs.lemmas.List.Kept.{IsStrictlyIncreasing-filter}
use Rattle.std.proofs.lemmas.List.Sorted.{IsPermutation-refl, IsPermutation-sym, IsPermutation-trans, IsPermutation-cons, IsPermutation-append_right, IsPermutation-middle}
use Rattle.px_column.specs.Prelude.{Slot, Series}
use Rattle.px_value.specs.Decided.{IsEquivalence-decides, row_decides}
use Rattle.px_column.specs.Equality.{row_eq}
use Rattle.px_column.specs.Key.{key_at, keys_of}
use Rattle.px_frame.specs.Parts.{numbers, with_key, distinct, parts, parts_of}
use Rattle.px_frame.specs.Keyed.{HasOneKey, HasWholeKey}

module _ {K : Type 0} where
  -- how many pass the test
  abbrev many : (K → Bool) → List K → ℕ
  many test [] = 0
  many test (k ∷ ks) = cond (test k) (1 + many test ks) (many test ks)

  -- one more item
  many_push : (test : K → Bool) (ks : List K) (k : K) → many test (ks ++ k ∷ []) ≡ many test ks + cond (test k) 1 0
  many_push test [] k = by (test k)
    where
      by : (b : Bool) → cond b (1 + 0) 0 ≡ 0 + cond b 1 0
      by true = refl
      by false = refl
  many_push test (x ∷ ks) k = by (test x) (many_push test ks k)
    where
      by : (b : Bool) → many test (ks ++ k ∷ []) ≡ many test ks + cond (test k) 1 0 → cond b (1 + many test (ks ++ k ∷ [])) (many test (ks ++ k ∷ [])) ≡ cond b (1 + many test ks) (many test ks) + cond (test k) 1 0
      by true h = omega (arith, h)
      by false h = h

  -- none passes the test
  many_none : (test : K → Bool) (ks : List K) → list_any test ks ≡ false → many test ks ≡ 0
  many_none test [] h = refl
  many_none test (k ∷ ks) h = by (test k) h (many_none test ks)
    where
      by : (b : Bool) → (b || list_any test ks) ≡ false → (list_any test ks ≡ false → many test ks ≡ 0) → cond b (1 + many test ks) (many test ks) ≡ 0
      by true g rest = cc
      by false g rest = rest g

  -- one passes it
  many_some : (test : K → Bool) (ks : List K) → list_any test ks ≡ true → 1 ≤ many test ks
  many_some test [] h = absurd cc
  many_some test (k ∷ ks) h = by (test k) h (many_some test ks)
    where
      by : (b : Bool) → (b || list_any test ks) ≡ true → (list_any test ks ≡ true → 1 ≤ many test ks) → 1 ≤ cond b (1 + many test ks) (many test ks)
      by true g rest = omega arith
      by false g rest = rest g

  -- a number put before none of some lists leaves them
  put_none : (test : K → Bool) (a : ℕ) (lists : K → List ℕ) (fs : List K) → many test fs ≡ 0 → flat_map (λ f. cond (test f) (a ∷ lists f) (lists f)) fs ≡ flat_map lists fs
  put_none test a lists [] h = refl
  put_none test a lists (f ∷ fs) h = by (test f) h (put_none test a lists fs)
    where
      by : (b : Bool) → cond b (1 + many test fs) (many test fs) ≡ 0 → (many test fs ≡ 0 → flat_map (λ f. cond (test f) (a ∷ lists f) (lists f)) fs ≡ flat_map lists fs)
          → cond b (a ∷ lists f) (lists f) ++ flat_map (λ f. cond (test f) (a ∷ lists f) (lists f)) fs ≡ lists f ++ flat_map lists fs
      by true g rest = absurd (omega (arith, g))
      by false g rest = ap (λ ns. lists f ++ ns) (rest g)

  -- a number put before one of some lists stands once more in them
  put_one : (test : K → Bool) (a : ℕ) (lists : K → List ℕ) (fs : List K) → many test fs ≡ 1 → IsPermutation (a ∷ flat_map lists fs) (flat_map (λ f. cond (test f) (a ∷ lists f) (lists f)) fs)
  put_one test a lists [] h = absurd (omega (arith, h))
  put_one test a lists (f ∷ fs) h = by (test f) h (put_one test a lists fs)
    where
      by : (b : Bool) → cond b (1 + many test fs) (many test fs) ≡ 1 → (many test fs ≡ 1 → IsPermutation (a ∷ flat_map lists fs) (flat_map (λ f. cond (test f) (a ∷ lists f) (lists f)) fs))
          → IsPermutation (a ∷ (lists f ++ flat_map lists fs)) (cond b (a ∷ lists f) (lists f) ++ flat_map (λ f. cond (test f) (a ∷ lists f) (lists f)) fs)
      by true g rest =
          let none : many test fs ≡ 0 = omega (arith, g) in
          subst (λ ns. IsPermutation (a ∷ (lists f ++ flat_map lists fs)) (a ∷ (lists f ++ ns))) (sym (put_none test a lists fs none)) (IsPermutation-refl (a ∷ (lists f ++ flat_map lists fs)))
      by false g rest =
          IsPermutation-trans _ _ _ (IsPermutation-sym _ _ (IsPermutation-middle (lists f) a (flat_map lists fs))) (IsPermutation-append_right (lists f) _ _ (rest g))

  -- empty lists joined
  no_list : (fs : List K) → flat_map {A = ℕ} (λ f. []) fs ≡ []
  no_list [] = refl
  no_list (f ∷ fs) = no_list fs

  module _ {eq : K → K → Bool} (laws : IsEquivalence eq) where
    -- each of the keys ks is one of the keys fs, and of no two
    abbrev Once : List K → List K → Type 0
    Once fs ks = AllByRecursion (λ k. many (eq k) fs ≡ 1) ks

    -- no key stands twice among the keys fs
    abbrev AtMost : List K → Type 0
    AtMost fs = (k : K) → many (eq k) fs ≤ 1

    -- the same key stands the same number of times
    same_many : (k l : K) (fs : List K) → eq k l ≡ true → many (eq k) fs ≡ many (eq l) fs
    same_many k l fs e = λ i. many (λ f. laws.congr k l f e i) fs

    -- one more key leaves those that are there
    grows : (k l : K) (fs : List K) → many (eq k) fs ≤ many (eq k) (with_key eq fs l)
    grows k l fs = by (list_any (eq l) fs)
      where
        by : (b : Bool) → many (eq k) fs ≤ many (eq k) (cond b fs (fs ++ l ∷ []))
        by true = omega arith
        by false = omega (arith, many_push (eq k) fs l)

    -- and puts none twice
    still_at_most : (k l : K) (fs : List K) → many (eq k) fs ≤ 1 → many (eq k) (with_key eq fs l) ≤ 1
    still_at_most k l fs h = by (list_any (eq l) fs) refl
      where
        new : (b : Bool) → eq k l ≡ b → list_any (eq l) fs ≡ false → many (eq k) fs + cond b 1 0 ≤ 1
        new true e none = omega (arith, same_many k l fs e, many_none (eq l) fs none)
        new false e none = omega (arith, h)

        by : (b : Bool) → list_any (eq l) fs ≡ b → many (eq k) (cond b fs (fs ++ l ∷ [])) ≤ 1
        by true e = h
        by false e = subst (λ n. n ≤ 1) (sym (many_push (eq k) fs l)) (new (eq k l) refl e)

    -- it stands there then
    there : (k : K) (fs : List K) → many (eq k) fs ≤ 1 → many (eq k) (with_key eq fs k) ≡ 1
    there k fs h = by (list_any (eq k) fs) refl
      where
        by : (b : Bool) → list_any (eq k) fs ≡ b → many (eq k) (cond b fs (fs ++ k ∷ [])) ≡ 1
        by true e = omega (arith, h, many_some (eq k) fs e)
        by false e = many_push (eq k) fs k ∙ (λ i. many_none (eq k) fs e i + cond (laws.refl k i) 1 0)

    -- a key that stands once still does after more keys
    stays : (k : K) (ks fs : List K) → AtMost fs → many (eq k) fs ≡ 1 → many (eq k) (fold (with_key eq) fs ks) ≡ 1
    stays k [] fs few h = h
    stays k (l ∷ ks) fs few h =
        stays k ks (with_key eq fs l) (λ m. still_at_most m l fs (few m)) (let up = grows k l fs in let bound = still_at_most k l fs (few k) in omega (arith, h, up, bound))

    -- each key stands once among the distinct keys
    all_once : (ks fs : List K) → AtMost fs → Once (fold (with_key eq) fs ks) ks
    all_once [] fs few = tt
    all_once (k ∷ ks) fs few =
        let more : AtMost (with_key eq fs k) = (λ m. still_at_most m k fs (few m)) in
        (stays k ks (with_key eq fs k) more (there k fs (few k)), all_once ks (with_key eq fs k) more)

    -- the rows that have one of some keys, where each row has one
    joined : (fs ks : List K) (a : ℕ) → Once fs ks → IsPermutation (range_with_len a (length ks)) (flat_map (λ f. numbers (eq f) a ks) fs)
    joined fs [] a h = subst (λ ns. IsPermutation [] ns) (sym (no_list fs)) (IsPermutation-refl [])
    joined fs (k ∷ ks) a h =
        let one : many (λ f. eq f k) fs ≡ 1 = (λ i. many (λ f. laws.symm f k i) fs) ∙ h.0 in
        IsPermutation-trans _ _ _ (IsPermutation-cons a _ _ (joined fs ks (a + 1) h.1)) (put_one (λ f. eq f k) a (λ f. numbers (eq f) (a + 1) ks) fs one)

    -- the parts joined are the numbers of the keys
    parts_joined : (ks : List K) → IsPermutation (range_with_len 0 (length ks)) (concat (parts eq ks))
    parts_joined ks =
        subst (IsPermutation (range_with_len 0 (length ks))) (sym (concat_is (parts eq ks) ∙ flat_map-map (λ p. p) (λ f. numbers (eq f) 0 ks) (distinct eq ks)))
        (joined (distinct eq ks) ks 0 (all_once ks [] (λ k. omega arith)))

    -- what holds of each key holds of each distinct one
    all_distinct : (P : K → Type 0) (ks fs : List K) → All P fs → All P ks → All P (fold (with_key eq) fs ks)
    all_distinct P [] fs of_fs of_ks = of_fs
    all_distinct P (k ∷ ks) fs of_fs of_ks = all_distinct P ks (with_key eq fs k) (by (list_any (eq k) fs)) (All-tail P k ks of_ks)
      where
        by : (b : Bool) → All P (cond b fs (fs ++ k ∷ []))
        by true = of_fs
        by false = All-push P fs k of_fs (All-head P k ks of_ks)

    -- a key that stands among the keys has a row
    has_row : (f : K) (ks : List K) (i a : ℕ) → i < length ks → get_or ks i f ≡ f → 0 < length (numbers (eq f) a ks)
    has_row f [] i a lt is = absurd (omega arith)
    has_row f (k ∷ ks) zero a lt is =
        subst (λ b. 0 < length (cond b (a ∷ numbers (eq f) (a + 1) ks) (numbers (eq f) (a + 1) ks))) (sym (ap (eq f) is ∙ laws.refl f)) (omega arith)
    has_row f (k ∷ ks) (suc i) a lt is = by (eq f k) (has_row f ks i (a + 1) (omega arith) is)
      where
        by : (b : Bool) → 0 < length (numbers (eq f) (a + 1) ks) → 0 < length (cond b (a ∷ numbers (eq f) (a + 1) ks) (numbers (eq f) (a + 1) ks))
        by true rest = omega arith
        by false rest = rest

    -- a part has a row
    none_empty : (ks : List K) → All (λ p. 0 < length p) (parts eq ks)
    none_empty ks =
        All-map (λ p. 0 < length p) (λ f. numbers (eq f) 0 ks) (distinct eq ks)
        (all_distinct (λ f. 0 < length (numbers (eq f) 0 ks)) ks [] (All-nil _) (All-weaker (Contains ks) (λ f. 0 < length (numbers (eq f) 0 ks)) (λ f c. has_row f ks c.0 0 c.1 c.2) ks (All-contains_itself ks)))

  -- the rows whose key passes a test
  numbers_kept : (test : K → Bool) (key : ℕ → K) (a n : ℕ) → numbers test a (map key (range_with_len a n)) ≡ filter (λ r. test (key r)) (range_with_len a n)
  numbers_kept test key a zero = refl
  numbers_kept test key a (suc n) = λ i. cond (test (key a)) (a ∷ numbers_kept test key (a + 1) n i) (numbers_kept test key (a + 1) n i)

-- a range rises
range_rises : (a n : ℕ) → IsStrictlyIncreasing (range_with_len a n)
range_rises a n k lt = let size = length-range_with_len a n in omega (arith, size, get_or-range_with_len a n k 0, get_or-range_with_len a n (k + 1) 0)

-- and so do the rows whose key passes a test
numbers_rise : {K : Type 0} (test : K → Bool) (key : ℕ → K) (n : ℕ) → IsStrictlyIncreasing (numbers test 0 (map key (range_with_len 0 n)))
numbers_rise test key n = subst IsStrictlyIncreasing (sym (numbers_kept test key 0 n)) (IsStrictlyIncreasing-filter (λ r. test (key r)) (range_with_len 0 n) (range_rises 0 n))

-- the rows of the parts by some columns are the rows, each once
pub each_row_once : (by : List Series) (n : ℕ) → IsPermutation (range_with_len 0 n) (concat (parts_of by n))
each_row_once by n =
    subst (λ m. IsPermutation (range_with_len 0 m) (concat (parts_of by n))) (length-map-range_with_len (key_at by) 0 n)
    (parts_joined (IsEquivalence-decides row_decides) (keys_of by n))

-- no part by some columns is empty
pub no_part_is_empty : (by : List Series) (n : ℕ) → All (λ p. 0 < length p) (parts_of by n)
no_part_is_empty by n = none_empty (IsEquivalence-decides row_decides) (keys_of by n)

-- the rows of each part rise
pub parts_rise : (by : List Series) (n : ℕ) → All IsStrictlyIncreasing (parts_of by n)
parts_rise by n =
    All-map IsStrictlyIncreasing (λ f. numbers (row_eq f) 0 (keys_of by n)) (distinct row_eq (keys_of by n))
    (λ k d lt. numbers_rise (row_eq (get_or (distinct row_eq (keys_of by n)) k d)) (key_at by) n)

-- a number stands in a range from 0 where it is below its end
in_range : (n r : ℕ) → r < n → Contains (range_with_len 0 n) r
in_range n r lt = (r, omega (arith, length-range_with_len 0 n), get_or-range_with_len 0 n r r lt ∙ zero-add r)

-- an item that passes the test is kept
still_there : {X : Type 0} (test : X → Bool) (x : X) (xs : List X) (i : ℕ) → i < length xs → get_or xs i x ≡ x → test x ≡ true → Contains (filter test xs) x
still_there test x [] i lt is e = absurd (omega arith)
still_there test x (y ∷ ys) zero lt is e = subst (λ b. Contains (cond b (y ∷ filter test ys) (filter test ys)) x) (sym (ap test is ∙ e)) (0, omega arith, is)
still_there test x (y ∷ ys) (suc i) lt is e = by (test y) (still_there test x ys i (omega arith) is e)
  where
    by : (b : Bool) → Contains (filter test ys) x → Contains (cond b (y ∷ filter test ys) (filter test ys)) x
    by true c = (suc c.0, omega (arith, c.1), c.2)
    by false c = c

-- a part is the rows below n whose key is the part's
part_kept : (by : List Series) (n : ℕ) (f : List Slot) → numbers (row_eq f) 0 (keys_of by n) ≡ filter (λ r. row_eq f (key_at by r)) (range_with_len 0 n)
part_kept by n f = numbers_kept (row_eq f) (key_at by) 0 n

-- the columns hold the key of the part at each of its rows
key_of_part : (by : List Series) (n : ℕ) (f : List Slot) (r : ℕ) → Contains (numbers (row_eq f) 0 (keys_of by n)) r → f ≡ key_at by r
key_of_part by n f r c =
    let kept : Contains (filter (λ r. row_eq f (key_at by r)) (range_with_len 0 n)) r = subst (λ ns. Contains ns r) (part_kept by n f) c in
    (row_decides f (key_at by r)).0 (All-contains (λ r. row_eq f (key_at by r) ≡ true) _ r (filter_passes (λ r. row_eq f (key_at by r)) (range_with_len 0 n)) kept)

-- a part has one key
pub one_key : (by : List Series) (n : ℕ) → All (HasOneKey by) (parts_of by n)
one_key by n =
    All-map (HasOneKey by) (λ f. numbers (row_eq f) 0 (keys_of by n)) (distinct row_eq (keys_of by n))
    (λ k d lt q r cq cr. let f = get_or (distinct row_eq (keys_of by n)) k d in sym (key_of_part by n f q cq) ∙ key_of_part by n f r cr)

-- and all rows that have it
pub all_of_a_key : (by : List Series) (n : ℕ) → All (HasWholeKey by n) (parts_of by n)
all_of_a_key by n =
    All-map (HasWholeKey by n) (λ f. numbers (row_eq f) 0 (keys_of by n)) (distinct row_eq (keys_of by n))
    (λ k d lt q r cq below same.
    let f = get_or (distinct row_eq (keys_of by n)) k d in
    let here = in_range n r below in
    subst (λ ns. Contains ns r) (sym (part_kept by n f))
    (still_there (λ r. row_eq f (key_at by r)) r (range_with_len 0 n) here.0 here.1 here.2 ((row_decides f (key_at by r)).1 (key_of_part by n f q cq ∙ same))))
