-- Rows that are put one after another before the first that comes after them are in order.
use Rattle.std.proofs.Common.{◌≡◌, inl, inr, ℕ, zero, suc, ◌+◌, ◌<◌, Bool, true, false, cond, List, [], ◌∷◌, fold, refl, ◌∙◌, ap, arith}
use Rattle.std.specs.declared.cmp.Ordering.{Ordering}
use Rattle.std.specs.declared.cmp.Ordering.TheVariants.{Less, Equal, Greater}
use Rattle.std.specs.Cmp.{IsTotalOrder}
use Rattle.std.specs.List.{AllByRecursion, range_with_len}
use Rattle.std.specs.Ordering.{is_lt, nat_cmp, ordering_reverse, ordering_then}
use Rattle.std.proofs.lemmas.Bool.Decides.{nat_tests}
use Rattle.px_column.specs.Order.{row_cmp, place_cmp, with_row, sorted_rows}
use Rattle.px_column.specs.Prelude.{Slot}
use Rattle.px_value.specs.declared.sort_options.SortOptions.{SortOptions}
use Rattle.px_column.proofs.RowOrder.{AreTyped, place_total}
use Rattle.px_laws.specs.Order.{AreInOrder, HaveTypes, Precedes}

typed : (keys : List (SortOptions × List Slot)) → HaveTypes keys → AreTyped keys
typed [] h = tt
typed (key ∷ keys) h = (h.0, typed keys h.1)

lower : (i j : ℕ) → i < j → nat_cmp i j ≡ Less
lower i j h = grind (arith, nat_tests)

is_lower : (i j : ℕ) → nat_cmp i j ≡ Less → i < j
is_lower i j h = grind (arith, nat_tests)

all_more : (P Q : ℕ → Type 0) (xs : List ℕ) → ((x : ℕ) → P x → Q x) → AllByRecursion P xs → AllByRecursion Q xs
all_more P Q [] f h = tt
all_more P Q (x ∷ xs) f h = (f x h.0, all_more P Q xs f h.1)

module _ (keys : List (SortOptions × List Slot)) (total : IsTotalOrder (place_cmp keys)) where
  -- to precede is to come before by the keys and then by the number
  precedes : (i j : ℕ) → place_cmp keys i j ≡ Less → Precedes keys i j
  precedes i j h = by (row_cmp keys i j) refl h
    where
      by : (o : Ordering) → row_cmp keys i j ≡ o → ordering_then o (nat_cmp i j) ≡ Less → Precedes keys i j
      by Less e h = inl e
      by Equal e h = inr (e, is_lower i j h)
      by Greater e h = absurd (cc h)

  placed : (i j : ℕ) → Precedes keys i j → place_cmp keys i j ≡ Less
  placed i j (inl e) = ap (λ o. ordering_then o (nat_cmp i j)) e
  placed i j (inr e) = ap (λ o. ordering_then o (nat_cmp i j)) e.0 ∙ lower i j e.1

  -- where a later row does not come before it, a row precedes it
  not_before : (i j : ℕ) → j < i → is_lt (row_cmp keys i j) ≡ false → Precedes keys j i
  not_before i j l h = by (row_cmp keys i j) refl h
    where
      swapped : (o : Ordering) → place_cmp keys i j ≡ o → place_cmp keys j i ≡ ordering_reverse o
      swapped o e = total.antisymm j i ∙ ap ordering_reverse e

      greater : nat_cmp i j ≡ Greater
      greater = grind (arith, nat_tests)

      by : (o : Ordering) → row_cmp keys i j ≡ o → is_lt o ≡ false → Precedes keys j i
      by Less e h = absurd (cc h)
      by Equal e h = precedes j i (swapped Greater (ap (λ o. ordering_then o (nat_cmp i j)) e ∙ greater))
      by Greater e h = precedes j i (swapped Greater (ap (λ o. ordering_then o (nat_cmp i j)) e))

  further : (i j : ℕ) → Precedes keys i j → (y : ℕ) → Precedes keys j y → Precedes keys i y
  further i j p y q = precedes i y (total.trans i j y (placed i j p) (placed j y q))

  all_with : (P : ℕ → Type 0) (js : List ℕ) (i : ℕ) → P i → AllByRecursion P js → AllByRecursion P (with_row keys js i)
  all_with P [] i p h = (p, tt)
  all_with P (j ∷ js) i p h = by (is_lt (row_cmp keys i j)) (all_with P js i p h.1)
    where
      by : (b : Bool) → AllByRecursion P (with_row keys js i) → AllByRecursion P (cond b (i ∷ j ∷ js) (j ∷ with_row keys js i))
      by true rest = (p, h)
      by false rest = (h.0, rest)

  in_order_with : (js : List ℕ) (i : ℕ) → AllByRecursion (λ j. j < i) js → AreInOrder keys js → AreInOrder keys (with_row keys js i)
  in_order_with [] i b h = (tt, tt)
  in_order_with (j ∷ js) i b h = by (is_lt (row_cmp keys i j)) refl (in_order_with js i b.1 h.1)
    where
      less : (o : Ordering) → is_lt o ≡ true → o ≡ Less
      less Less e = refl
      less Equal e = absurd (cc e)
      less Greater e = absurd (cc e)

      by : (t : Bool) → is_lt (row_cmp keys i j) ≡ t → AreInOrder keys (with_row keys js i) → AreInOrder keys (cond t (i ∷ j ∷ js) (j ∷ with_row keys js i))
      by true e rest =
          let first : Precedes keys i j = inl (less (row_cmp keys i j) e) in
          ((first, all_more (Precedes keys j) (Precedes keys i) js (further i j first) h.0), h)
      by false e rest = (all_with (Precedes keys j) js i (not_before i j b.0 e) h.0, rest)

  in_order_from : (js : List ℕ) (a n : ℕ) → AllByRecursion (λ j. j < a) js → AreInOrder keys js → AreInOrder keys (fold (with_row keys) js (range_with_len a n))
  in_order_from js a zero b h = h
  in_order_from js a (suc n) b h =
      in_order_from (with_row keys js a) (a + 1) n (all_with (λ j. j < a + 1) js a (omega arith) (all_more (λ j. j < a) (λ j. j < a + 1) js (λ j l. omega (arith, l)) b)) (in_order_with js a b h)

-- a sorted order is in order
pub sorted_in_order : (keys : List (SortOptions × List Slot)) (n : ℕ) → HaveTypes keys → AreInOrder keys (sorted_rows keys n)
sorted_in_order keys n h = in_order_from keys (place_total keys (typed keys h)) [] 0 n tt tt
