-- Laws of parts: their rows are below n, there are at most n of them, and what one more row changes.
use Rattle.std.proofs.Common.{◌≡◌, ℕ, suc, ◌+◌, ◌^◌, ◌<◌, ◌≤◌, Bool, true, false, ◌&&◌, cond, List, [], ◌∷◌, ◌++◌, length, fold, map, nat_lt, refl, sym, ◌∙◌, ap, arith, add-zero, zero-add, length-append}
use Rattle.std.specs.List.{list_all, list_any}
use Rattle.std.proofs.lemmas.Bool.Decides.{nat_tests}
use Rattle.std.proofs.lemmas.Grind.{fold-append}
use Rattle.std.proofs.lemmas.List.{length-map}
use Rattle.px_column.specs.Key.{key_at, keys_of}
use Rattle.px_column.proofs.KeyLaws.{keys_push}
use Rattle.px_column.specs.Prelude.{Slot, Series}
use Rattle.px_column.specs.Equality.{row_eq}
use Rattle.px_frame.specs.Frame.{are_below}
use Rattle.px_frame.specs.Groups.{group_of, is_group, IsGroups}
use Rattle.px_frame.specs.Parts.{numbers, with_key, distinct, rows_of_keys, parts}

-- a choice before further items
cond_append : {X : Type 0} (b : Bool) (x : X) (xs ys : List X) → cond b (x ∷ xs) xs ++ ys ≡ cond b (x ∷ (xs ++ ys)) (xs ++ ys)
cond_append true x xs ys = refl
cond_append false x xs ys = refl

module _ {K : Type 0} where
  -- numbers from n on are below the end
  numbers_below : (test : K → Bool) (n : ℕ) (ks : List K) (m : ℕ) → n + length ks ≤ m → are_below m (numbers test n ks) ≡ true
  numbers_below test n [] m h = refl
  numbers_below test n (k ∷ ks) m h = by (test k) (numbers_below test (n + 1) ks m (omega (arith, h)))
    where
      first : nat_lt n m ≡ true
      first = let lt : n < m = omega (arith, h) in grind (arith, nat_tests)

      by : (b : Bool) → are_below m (numbers test (n + 1) ks) ≡ true → are_below m (cond b (n ∷ numbers test (n + 1) ks) (numbers test (n + 1) ks)) ≡ true
      by true rest = λ i. first i && rest i
      by false rest = rest

  -- no more numbers than keys
  length-numbers-le : (test : K → Bool) (n : ℕ) (ks : List K) → length (numbers test n ks) ≤ length ks
  length-numbers-le test n [] = omega arith
  length-numbers-le test n (k ∷ ks) = by (test k) (length-numbers-le test (n + 1) ks)
    where
      by : (b : Bool) → length (numbers test (n + 1) ks) ≤ length ks → length (cond b (n ∷ numbers test (n + 1) ks) (numbers test (n + 1) ks)) ≤ suc (length ks)
      by true rest = omega (arith, rest)
      by false rest = omega (arith, rest)

  module _ (eq : K → K → Bool) where
    -- one key more at most
    with_key_le : (seen : List K) (k : K) → length (with_key eq seen k) ≤ length seen + 1
    with_key_le seen k = by (list_any (eq k) seen)
      where
        by : (b : Bool) → length (cond b seen (seen ++ k ∷ [])) ≤ length seen + 1
        by true = omega arith
        by false = omega (arith, length-append seen (k ∷ []))

    -- no more distinct keys than keys
    distinct_le : (seen ks : List K) → length (fold (with_key eq) seen ks) ≤ length seen + length ks
    distinct_le seen [] = omega arith
    distinct_le seen (k ∷ ks) = omega (arith, distinct_le (with_key eq seen k) ks, with_key_le seen k)

    -- each part is a group of rows below their number
    each_group : (firsts ks : List K) → length ks < 2 ^ 32 → list_all (is_group (length ks)) (map group_of (rows_of_keys eq firsts ks)) ≡ true
    each_group [] ks h = refl
    each_group (k ∷ firsts) ks h =
        let short : length (numbers (eq k) 0 ks) < 2 ^ 32 = omega (arith, length-numbers-le (eq k) 0 ks, h) in
        let few : nat_lt (length (numbers (eq k) 0 ks)) (2 ^ 32) ≡ true = grind (arith, nat_tests) in
        λ i. (numbers_below (eq k) 0 ks (length ks) (omega arith) i && few i) && each_group firsts ks h i

    -- the parts of fewer than 2^32 keys are groups
    pub IsGroups-parts : (ks : List K) → length ks < 2 ^ 32 → IsGroups (length ks) (map group_of (parts eq ks))
    IsGroups-parts ks h = record {
      each = each_group (distinct eq ks) ks h;
      few = omega (arith, length-map (parts eq ks) group_of, length-map (distinct eq ks) (λ k. numbers (eq k) 0 ks), distinct_le [] ks, h);
    }

    -- one more key after those so far
    pub distinct_step : (firsts news : List K) (ks : List K) (k : K) → firsts ≡ distinct eq ks → news ≡ with_key eq firsts k → news ≡ distinct eq (ks ++ k ∷ [])
    distinct_step firsts news ks k f n = n ∙ ap (λ fs. with_key eq fs k) f ∙ sym (fold-append (with_key eq) [] ks (k ∷ []))

  -- one more number after those from n on
  pub numbers_more : (p : K → Bool) (n : ℕ) (ks : List K) (k : K) → numbers p n (ks ++ k ∷ []) ≡ numbers p n ks ++ cond (p k) ((n + length ks) ∷ []) []
  numbers_more p n [] k = rw (add-zero n) refl
  numbers_more p n (x ∷ xs) k =
      ap (λ ns. cond (p x) (n ∷ ns) ns) (numbers_more p (n + 1) xs k ∙ ap (λ m. numbers p (n + 1) xs ++ cond (p k) (m ∷ []) []) (let e : n + 1 + length xs ≡ n + suc (length xs) = omega arith in e))
      ∙ sym (cond_append (p x) n (numbers p (n + 1) xs) (cond (p k) ((n + suc (length xs)) ∷ []) []))

  -- one more number after those from 0 on
  pub numbers_end : (p : K → Bool) (ks : List K) (k : K) (b : Bool) → p k ≡ b → numbers p 0 (ks ++ k ∷ []) ≡ numbers p 0 ks ++ cond b (length ks ∷ []) []
  numbers_end p ks k b e = numbers_more p 0 ks k ∙ ap (λ m. numbers p 0 ks ++ cond (p k) (m ∷ []) []) (zero-add (length ks)) ∙ ap (λ c. numbers p 0 ks ++ cond c (length ks ∷ []) []) e

-- the distinct keys of n + 1 rows are those of n rows, and the last row's where it is new
pub keys_step : (by : List Series) (n : ℕ) (firsts news : List (List Slot)) (k : List Slot) → k ≡ key_at by n → firsts ≡ distinct row_eq (keys_of by n) → news ≡ with_key row_eq firsts k
    → news ≡ distinct row_eq (keys_of by (n + 1))
keys_step by n firsts news k e f h =
    distinct_step row_eq firsts news (keys_of by n) k f h ∙ ap (λ (x : List Slot). distinct row_eq (keys_of by n ++ x ∷ [])) e ∙ ap (distinct row_eq) (sym (keys_push by n))
