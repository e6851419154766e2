-- What a list holds, when it has items and when it has none.
use Rattle.std.proofs.Common.{◌≡◌, ◌∙◌, ℕ, ◌==◌, true, false, List, [], ◌∷◌, Some, None, length, refl, sym, arith}
use Rattle.std.proofs.lemmas.Bool.Decides.{nat_tests}
use Rattle.px_value.specs.Datum.{list, Slot, slots, items-slots}
use Rattle.px_value.proofs.FitLaws.{fits_at}
use Rattle.px_value.specs.Kind.{Kind, all_fit, slot_fits}
use Rattle.px_value.specs.Series.{slot_at}
use Rattle.px_operation.specs.Function.{exploded_slot}
use Rattle.px_column.proofs.Reducing.{fits_slots}

pub exploded_empty : (xs : List Slot) → (length xs == 0) ≡ true → exploded_slot (Some (list (slots xs))) ≡ None ∷ []
exploded_empty [] h = refl
exploded_empty (x ∷ xs) h = let none : length (x ∷ xs) ≡ 0 = grind (arith, nat_tests) in absurd (omega (arith, none))

pub exploded_some : (xs : List Slot) → (length xs == 0) ≡ false → exploded_slot (Some (list (slots xs))) ≡ xs
exploded_some [] h = cc
exploded_some (None ∷ xs) h = items-slots (None ∷ xs)
exploded_some (Some d ∷ xs) h = items-slots (Some d ∷ xs)

-- each item of a list that fits
pub item_fits : (k : Kind) (xs : List Slot) (i : ℕ) → all_fit k (slots xs) ≡ true → slot_fits k (slot_at xs i) ≡ true
item_fits k xs i h = fits_at k xs i (sym (fits_slots k xs) ∙ h)
