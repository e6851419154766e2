-- What is read of places that fit a type fits it.
use Rattle.std.proofs.Common.{◌≡◌, ℕ, zero, suc, Bool, true, false, ◌&&◌, List, [], ◌∷◌, ◌++◌, Option, refl, ◌∙◌, ap}
use Rattle.std.specs.List.{list_all}
use Rattle.std.proofs.lemmas.List.{map_push}
use Rattle.std.proofs.lemmas.List.Folds.{list_all-append}
use Rattle.px_value.specs.Datum.{Slot}
use Rattle.px_value.specs.Kind.{Kind, slot_fits, slots_fit}
use Rattle.px_value.specs.Series.{slot_at}
use Rattle.px_value.specs.View.{slot_of, slots_of}
use Rattle.px_value.specs.declared.value.Value.{Value}

-- two tests that hold together hold each
pub both : (a b : Bool) → (a && b) ≡ true → (a ≡ true) × (b ≡ true)
both true b h = (refl, h)
both false b h = cc

-- what stands at a row fits where all rows do
pub fits_at : (k : Kind) (xs : List Slot) (i : ℕ) → slots_fit k xs ≡ true → slot_fits k (slot_at xs i) ≡ true
fits_at k [] i h = refl
fits_at k (x ∷ xs) zero h = (both (slot_fits k x) (slots_fit k xs) h).0
fits_at k (x ∷ xs) (suc i) h = fits_at k xs i (both (slot_fits k x) (slots_fit k xs) h).1

module _ {X : Type 0} where
  -- a test that holds of each item and of one more
  pub all_push : (test : X → Bool) (xs : List X) (x : X) → list_all test xs ≡ true → test x ≡ true → list_all test (xs ++ x ∷ []) ≡ true
  all_push test [] x h e = λ i. e i && true
  all_push test (y ∷ ys) x h e = let p = both (test y) (list_all test ys) h in λ i. p.0 i && all_push test ys x p.1 e i

  -- a test that holds of the items of two lists
  pub all_append : (test : X → Bool) (xs ys : List X) → list_all test xs ≡ true → list_all test ys ≡ true → list_all test (xs ++ ys) ≡ true
  all_append test xs ys h k = list_all-append test xs ys ∙ (λ i. h i && k i)

-- rows that fit, and one more that fits
pub fit_next : (k : Kind) (rows new : List (Option Value)) (v : Option Value) → new ≡ rows ++ v ∷ [] → slots_fit k (slots_of rows) ≡ true → slot_fits k (slot_of v) ≡ true
    → slots_fit k (slots_of new) ≡ true
fit_next k rows new v e fit fits = ap (λ (vs : List (Option Value)). slots_fit k (slots_of vs)) e ∙ ap (slots_fit k) (map_push slot_of rows v) ∙ all_push (slot_fits k) (slots_of rows) (slot_of v) fit fits
