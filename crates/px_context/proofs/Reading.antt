-- Rows that are read one after another.
use Rattle.std.proofs.Common.{◌≡◌, ℕ, zero, suc, ◌+◌, ◌<◌, Bool, true, ◌&&◌, List, [], ◌∷◌, Some, None, add-one, drop, get_or, slice_get, length, map, replicate, refl, sym, ◌∙◌, ap, arith}
use Rattle.std.specs.List.{list_all}
use Rattle.std.specs.Option.{option_and_then}
use Rattle.std.proofs.lemmas.Option.{slice_get-get_or}
use Rattle.px_column.specs.Datum.{boolean, integer, text, bytes, list, Slot, Slots, no_slots, absent, present, slots, items, items-slots}
use Rattle.px_value.proofs.FitLaws.{both}
use Rattle.px_column.specs.Kind.{Kind, lists, fits, all_fit, is_list_kind, slot_fits, slots_fit}
use Rattle.px_column.specs.Series.{slot_at}
use Rattle.px_context.specs.Context.{item_kind, items_at}

slot_read : (xs : List Slot) (i : ℕ) → i < length xs → slot_at xs i ≡ get_or xs i None
slot_read xs i h = ap (option_and_then (λ (s : Slot). s)) (slice_get-get_or xs i None h)

fit_items : (k : Kind) (ds : Slots) → all_fit k ds ≡ true → slots_fit k (items ds) ≡ true
fit_items k no_slots h = refl
fit_items k (absent ds) h = fit_items k ds h
fit_items k (present d ds) h = let p = both (fits k d) (all_fit k ds) h in λ i. p.0 i && fit_items k ds p.1 i

-- the items of a list that fits
pub fit_items_at : (k : Kind) (x : Slot) → is_list_kind k ≡ true → slot_fits k x ≡ true → slots_fit (item_kind k) (items_at x) ≡ true
fit_items_at (lists k) None h e = refl
fit_items_at (lists k) (Some (boolean b)) h e = cc
fit_items_at (lists k) (Some (integer z)) h e = cc
fit_items_at (lists k) (Some (text s)) h e = cc
fit_items_at (lists k) (Some (bytes s)) h e = cc
fit_items_at (lists k) (Some (list ds)) h e = fit_items k ds e
fit_items_at _ x h e = cc

-- the slot at a row that is there
pub slot_get : (xs : List Slot) (i : ℕ) → i < length xs → slice_get xs i ≡ Some (slot_at xs i)
slot_get xs i h = slice_get-get_or xs i None h ∙ ap Some (sym (slot_read xs i h))

-- what holds of each slot holds of the one at a row
pub all_read : (test : Slot → Bool) (xs : List Slot) (i : ℕ) → list_all test xs ≡ true → i < length xs → test (slot_at xs i) ≡ true
all_read test [] i h lt = absurd (omega (arith, lt))
all_read test (x ∷ xs) zero h lt = (both (test x) (list_all test xs) h).0
all_read test (x ∷ xs) (suc i) h lt = all_read test xs i (both (test x) (list_all test xs) h).1 (omega (arith, lt))

module _ {X Y : Type 0} where
  -- the same for each
  pub same_each : (y : Y) (xs : List X) → replicate (length xs) y ≡ map (λ _. y) xs
  same_each y [] = refl
  same_each y (x ∷ xs) = ap (λ (ys : List Y). y ∷ ys) (same_each y xs)

drop_suc : {X : Type 0} (xs : List X) (i : ℕ) (x : X) → slice_get xs i ≡ Some x → drop i xs ≡ x ∷ drop (suc i) xs
drop_suc [] i x e = cc
drop_suc (y ∷ ys) zero x e = let same : y ≡ x = cc in ap (λ z. z ∷ ys) same
drop_suc (y ∷ ys) (suc i) x e = drop_suc ys i x e

-- the items from a place on
pub drop_get : {X : Type 0} (xs : List X) (i : ℕ) (x : X) → slice_get xs i ≡ Some x → drop i xs ≡ x ∷ drop (i + 1) xs
drop_get xs i x e = drop_suc xs i x e ∙ ap (λ n. x ∷ drop n xs) (sym (add-one i))

-- the items of a list that was made of places are those places
pub slots_back : (xs : List Slot) → xs ≡ items (slots xs)
slots_back xs = sym (items-slots xs)

-- and are as many
pub length_slots : (xs : List Slot) → length xs ≡ length (items (slots xs))
length_slots xs = ap length (slots_back xs)
