-- The parts of rows by keys stand in the order of their first rows.
use Rattle.std.proofs.Common.{◌≡◌, ℕ, suc, ◌+◌, ◌<◌, Bool, true, false, cond, ◌||◌, ◌⊎◌, inl, inr, List, [], ◌∷◌, ◌++◌, length, get_or, map, fold, refl, sym, ◌∙◌, ap, subst, arith, add-zero, zero-add, append_assoc, append-nil, length-append}
use Rattle.std.proofs.Math.ListN.{get_or-append}
use Rattle.std.proofs.Math.Nat.{eq-or-lt_of_le}
use Rattle.std.proofs.Math.Seq.{get_or-append_seam}
use Rattle.std.specs.Cmp.{IsEquivalence}
use Rattle.std.specs.List.{All, list_any, slice_index}
use Rattle.std.specs.List.Sorted.{IsStrictlyIncreasing}
use Rattle.std.proofs.lemmas.List.{map_push}
use Rattle.std.proofs.lemmas.Simd.{map-map}
use Rattle.std.proofs.lemmas.List.Elements.{All-nil, All-head, All-tail, All-push, All-weaker}
use Rattle.std.proofs.lemmas.List.Folds.{list_any-append}
use Rattle.px_value.specs.Decided.{IsEquivalence-decides, row_decides}
use Rattle.px_column.specs.Equality.{row_eq}
use Rattle.px_column.specs.Key.{keys_of}
use Rattle.px_column.specs.Prelude.{Series}
use Rattle.px_frame.specs.Groups.{first_row}
use Rattle.px_frame.specs.Parts.{numbers, with_key, distinct, parts_of}
use Rattle.px_laws.proofs.Joining.{neither}

-- a number above all of a rising list may follow them
rises_push : (xs : List ℕ) (m : ℕ) → IsStrictlyIncreasing xs → All (λ x. x < m) xs → IsStrictlyIncreasing (xs ++ m ∷ [])
rises_push xs m rises below k lt = by (eq-or-lt_of_le (omega (arith, size, lt)))
  where
    size : length (xs ++ m ∷ []) ≡ length xs + 1
    size = length-append xs (m ∷ [])

    by : (k + 1 ≡ length xs) ⊎ (k + 1 < length xs) → slice_index (xs ++ m ∷ []) k < slice_index (xs ++ m ∷ []) (k + 1)
    by (inr early) = omega (arith, rises k early, get_or-append xs (m ∷ []) 0 k, get_or-append xs (m ∷ []) 0 (k + 1))
    by (inl last) =
        let seam : get_or (xs ++ m ∷ []) (k + 1) 0 ≡ m = ap (λ j. get_or (xs ++ m ∷ []) j 0) last ∙ get_or-append_seam xs m [] 0 in
        omega (arith, seam, below k 0, get_or-append xs (m ∷ []) 0 k)

-- more rows behind a first one
first_kept : (xs ys : List ℕ) → 0 < length xs → first_row (xs ++ ys) ≡ first_row xs
first_kept [] ys h = absurd (omega arith)
first_kept (x ∷ xs) ys h = refl

module _ {K : Type 0} where
  -- the numbers of one more item
  numbers_push : (test : K → Bool) (a : ℕ) (ks : List K) (k : K) → numbers test a (ks ++ k ∷ []) ≡ numbers test a ks ++ cond (test k) ((a + length ks) ∷ []) []
  numbers_push test a [] k = λ i. cond (test k) ((sym (add-zero a) i) ∷ []) []
  numbers_push test a (x ∷ ks) k =
      let next : a + 1 + length ks ≡ a + suc (length ks) = omega arith in
      by (test x) (numbers_push test (a + 1) ks k ∙ ap (λ (n : ℕ). numbers test (a + 1) ks ++ cond (test k) (n ∷ []) []) next)
    where
      by : (b : Bool) → numbers test (a + 1) (ks ++ k ∷ []) ≡ numbers test (a + 1) ks ++ cond (test k) ((a + suc (length ks)) ∷ []) []
          → cond b (a ∷ numbers test (a + 1) (ks ++ k ∷ [])) (numbers test (a + 1) (ks ++ k ∷ [])) ≡ cond b (a ∷ numbers test (a + 1) ks) (numbers test (a + 1) ks) ++ cond (test k) ((a + suc (length ks)) ∷ []) []
      by true rest = ap (λ ns. a ∷ ns) rest
      by false rest = rest

  module _ {eq : K → K → Bool} (laws : IsEquivalence eq) where
    -- the first row of each key
    abbrev firsts : List K → List K → List ℕ
    firsts ks fs = map (λ f. first_row (numbers (eq f) 0 ks)) fs

    -- a key has a row
    abbrev HasRow : List K → K → Type 0
    HasRow ks f = 0 < length (numbers (eq f) 0 ks)

    -- the keys fs are those of the rows ks, in the order of their first rows
    record InOrder (ks fs : List K) : Type 0 where
      rises : IsStrictlyIncreasing (firsts ks fs)
      below : All (λ r. r < length ks) (firsts ks fs)
      there : All (HasRow ks) fs
      unknown : (k : K) → list_any (eq k) fs ≡ false → numbers (eq k) 0 ks ≡ []

    -- the same key stands in the same lists
    same_any : (k l : K) (fs : List K) → eq k l ≡ true → list_any (eq k) fs ≡ list_any (eq l) fs
    same_any k l fs e = λ i. list_any (λ f. laws.congr k l f e i) fs

    -- one more row leaves the first rows of keys that are there
    same_firsts : (ks fs : List K) (k : K) → All (HasRow ks) fs → firsts (ks ++ k ∷ []) fs ≡ firsts ks fs
    same_firsts ks [] k h = refl
    same_firsts ks (f ∷ fs) k h =
        λ i. (ap first_row (numbers_push (eq f) 0 ks k) ∙ first_kept (numbers (eq f) 0 ks) _ (All-head (HasRow ks) f fs h)) i ∷ same_firsts ks fs k (All-tail (HasRow ks) f fs h) i

    -- a key that has a row still has one
    row_stays : (ks : List K) (k f : K) → HasRow ks f → HasRow (ks ++ k ∷ []) f
    row_stays ks k f h = subst (λ ns. 0 < length ns) (sym (numbers_push (eq f) 0 ks k)) (omega (arith, h, length-append (numbers (eq f) 0 ks) (cond (eq f k) ((0 + length ks) ∷ []) [])))

    -- a row whose key is known
    known : (ks fs : List K) (k : K) → list_any (eq k) fs ≡ true → InOrder ks fs → InOrder (ks ++ k ∷ []) fs
    known ks fs k is o = record {
      rises = subst IsStrictlyIncreasing (sym (same_firsts ks fs k o.there)) o.rises;
      below = subst (All (λ r. r < length (ks ++ k ∷ []))) (sym (same_firsts ks fs k o.there)) (All-weaker (λ r. r < length ks) (λ r. r < length (ks ++ k ∷ [])) (λ r lt. omega (arith, lt, length-append ks (k ∷ []))) (firsts ks fs) o.below);
      there = All-weaker (HasRow ks) (HasRow (ks ++ k ∷ [])) (row_stays ks k) fs o.there;
      unknown = λ l out. numbers_push (eq l) 0 ks k ∙ (λ i. o.unknown l out i ++ cond (other l out (eq l k) refl i) ((0 + length ks) ∷ []) []);
    }
      where
        other : (l : K) → list_any (eq l) fs ≡ false → (b : Bool) → eq l k ≡ b → eq l k ≡ false
        other l out true e = absurd (cc (same_any l k fs e))
        other l out false e = e

    -- a row with a new key
    new : (ks fs : List K) (k : K) → list_any (eq k) fs ≡ false → InOrder ks fs → InOrder (ks ++ k ∷ []) (fs ++ k ∷ [])
    new ks fs k is o =
        record {
          rises = subst IsStrictlyIncreasing (sym more) (rises_push (firsts ks fs) (length ks) o.rises o.below);
          below = subst (All (λ r. r < length (ks ++ k ∷ []))) (sym more) (All-push (λ r. r < length (ks ++ k ∷ [])) (firsts ks fs) (length ks)
              (All-weaker (λ r. r < length ks) (λ r. r < length (ks ++ k ∷ [])) (λ r lt. omega (arith, lt, length-append ks (k ∷ []))) (firsts ks fs) o.below) (omega (arith, length-append ks (k ∷ []))));
          there = All-push (HasRow (ks ++ k ∷ [])) fs k (All-weaker (HasRow ks) (HasRow (ks ++ k ∷ [])) (row_stays ks k) fs o.there) (subst (λ ns. 0 < length ns) (sym own) (omega arith));
          unknown = λ l out.
              let both = neither (list_any (eq l) fs) (eq l k || false) (sym (list_any-append (eq l) fs (k ∷ [])) ∙ out) in
              numbers_push (eq l) 0 ks k ∙ (λ i. o.unknown l both.0 i ++ cond ((neither (eq l k) false both.1).0 i) ((0 + length ks) ∷ []) []);
        }
      where
        own : numbers (eq k) 0 (ks ++ k ∷ []) ≡ length ks ∷ []
        own = numbers_push (eq k) 0 ks k ∙ (λ i. o.unknown k is i ++ cond (laws.refl k i) (zero-add (length ks) i ∷ []) [])

        more : firsts (ks ++ k ∷ []) (fs ++ k ∷ []) ≡ firsts ks fs ++ length ks ∷ []
        more = map_push (λ f. first_row (numbers (eq f) 0 (ks ++ k ∷ []))) fs k ∙ (λ i. same_firsts ks fs k o.there i ++ first_row (own i) ∷ [])

    -- one row after another
    in_order : (more ks fs : List K) → InOrder ks fs → InOrder (ks ++ more) (fold (with_key eq) fs more)
    in_order [] ks fs o = subst (λ rows. InOrder rows fs) (sym (append-nil ks)) o
    in_order (k ∷ more) ks fs o =
        subst (λ rows. InOrder rows (fold (with_key eq) (with_key eq fs k) more)) (append_assoc ks (k ∷ []) more) (in_order more (ks ++ k ∷ []) (with_key eq fs k) (by (list_any (eq k) fs) refl))
      where
        by : (b : Bool) → list_any (eq k) fs ≡ b → InOrder (ks ++ k ∷ []) (cond b fs (fs ++ k ∷ []))
        by true e = known ks fs k e o
        by false e = new ks fs k e o

    -- no row and no key
    in_order_at_first : InOrder [] []
    in_order_at_first = record { rises = λ k lt. absurd (omega arith); below = All-nil _; there = All-nil _; unknown = λ k no. refl }

    -- the distinct keys stand in the order of their first rows
    firsts_rise : (ks : List K) → IsStrictlyIncreasing (firsts ks (distinct eq ks))
    firsts_rise ks = (in_order ks [] [] in_order_at_first).rises

-- the parts by some columns stand in the order of their first rows
pub first_rows_rise : (by : List Series) (n : ℕ) → IsStrictlyIncreasing (map first_row (parts_of by n))
first_rows_rise by n =
    subst IsStrictlyIncreasing (sym (map-map first_row (λ f. numbers (row_eq f) 0 (keys_of by n)) (distinct row_eq (keys_of by n)))) (firsts_rise (IsEquivalence-decides row_decides) (keys_of by n))
