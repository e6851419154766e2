-- Columns compared, and fed to a hash, slot by slot.
use Rattle.std.proofs.Common.{◌≡◌, ◌≢◌, ◌<◌, ℕ, zero, suc, ◌+◌, Bool, true, false, ◌&&◌, List, [], ◌∷◌, Some, None, length, drop, fold, refl, sym, ◌∙◌, ap, arith, add-one}
use Rattle.std.proofs.lemmas.List.Sums.{fold-append}
use Rattle.std.specs.Bool.{Decides}
use Rattle.px_column.specs.Prelude.{Series, Slot, slot_at}
use Rattle.px_value.specs.Equality.{row_eq, slot_eq}
use Rattle.px_window.specs.Key.{all_series_eq, place_hash, places_hash}
use Rattle.px_window.specs.KeyDecided.{all_series_decides}

pub drop_row : (xs : List Slot) (i : ℕ) → i < length xs → drop i xs ≡ slot_at xs i ∷ drop (i + 1) xs
drop_row xs i h = by xs i h ∙ ap (λ n. slot_at xs i ∷ drop n xs) (sym (add-one i))
  where
    by : (xs : List Slot) (i : ℕ) → i < length xs → drop i xs ≡ slot_at xs i ∷ drop (suc i) xs
    by [] i h = absurd (omega (arith, h))
    by (x ∷ xs) zero h = refl
    by (x ∷ xs) (suc i) h = by xs i (omega (arith, h))

row_eq_next : (x y : Slot) (xs ys : List Slot) → row_eq (x ∷ xs) (y ∷ ys) ≡ (slot_eq x y && row_eq xs ys)
row_eq_next None None xs ys = refl
row_eq_next None (Some y) xs ys = refl
row_eq_next (Some x) None xs ys = refl
row_eq_next (Some x) (Some y) xs ys = refl

module _ (xs ys : List Slot) (i : ℕ) (below : i < length xs) (long : length xs ≡ length ys) (so_far : row_eq xs ys ≡ row_eq (drop i xs) (drop i ys)) where
  at_row : row_eq xs ys ≡ (slot_eq (slot_at xs i) (slot_at ys i) && row_eq (drop (i + 1) xs) (drop (i + 1) ys))
  at_row =
      so_far ∙ ap (λ l. row_eq l (drop i ys)) (drop_row xs i below) ∙ ap (λ l. row_eq (slot_at xs i ∷ drop (i + 1) xs) l) (drop_row ys i (omega (arith, below, long)))
      ∙ row_eq_next (slot_at xs i) (slot_at ys i) (drop (i + 1) xs) (drop (i + 1) ys)

  pub same_next : slot_eq (slot_at xs i) (slot_at ys i) ≡ true → row_eq xs ys ≡ row_eq (drop (i + 1) xs) (drop (i + 1) ys)
  same_next h = at_row ∙ ap (λ b. b && row_eq (drop (i + 1) xs) (drop (i + 1) ys)) h

  pub differ_here : slot_eq (slot_at xs i) (slot_at ys i) ≡ false → false ≡ row_eq xs ys
  differ_here h = sym (at_row ∙ ap (λ b. b && row_eq (drop (i + 1) xs) (drop (i + 1) ys)) h)

pub differ_columns : (xs ys : List Series) → length xs ≢ length ys → false ≡ all_series_eq xs ys
differ_columns xs ys h = by (all_series_eq xs ys) (all_series_decides xs ys) (λ e. h (ap (λ l. length l) e))
  where
    by : (r : Bool) → Decides r (xs ≡ ys) → ((xs ≡ ys) → ⊥) → false ≡ r
    by true d n = absurd (n (d.0 refl))
    by false d n = refl

-- what is fed for the first places, once one more of them is fed
pub fed_next : {S : Type 0} (write : S → List ℕ → S) (xs : List Slot) (i : ℕ) (start now new : S) → i < length xs → fold write start (places_hash xs) ≡ fold write now (places_hash (drop i xs))
    → new ≡ fold write now (place_hash (slot_at xs i)) → fold write start (places_hash xs) ≡ fold write new (places_hash (drop (i + 1) xs))
fed_next write xs i start now new below so_far h =
    so_far ∙ ap (λ l. fold write now (places_hash l)) (drop_row xs i below) ∙ fold-append write now (place_hash (slot_at xs i)) (places_hash (drop (i + 1) xs))
    ∙ ap (λ s. fold write s (places_hash (drop (i + 1) xs))) (sym h)
