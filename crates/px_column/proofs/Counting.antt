-- How many rows are there of a kind.
use Rattle.std.proofs.Common.{◌≡◌, ◌+◌, ◌-◌, ◌≤◌, Bool, true, false, List, [], ◌∷◌, Some, None, length, fold, refl, arith}
use Rattle.std.specs.Prelude.{count_by, cond, is_some, is_none}
use Rattle.std.specs.List.{list_any}
use Rattle.std.proofs.lemmas.List.{length_push}
use Rattle.std.proofs.lemmas.List.Sums.{sum_by-cons}
use Rattle.px_column.specs.Column.{null_count}
use Rattle.px_value.specs.Datum.{Slot}
use Rattle.px_value.specs.Equality.{slot_eq}
use Rattle.px_operation.specs.Reduction.{with_slot, distinct_slots}

pub counted : (xs : List Slot) → count_by is_some xs + null_count xs ≡ length xs
counted [] = refl
counted (None ∷ xs) = omega (arith, counted xs, sum_by-cons (λ s. cond (is_some s) 1 0) None xs, sum_by-cons (λ s. cond (is_none s) 1 0) None xs)
counted (Some d ∷ xs) = omega (arith, counted xs, sum_by-cons (λ s. cond (is_some s) 1 0) (Some d) xs, sum_by-cons (λ s. cond (is_none s) 1 0) (Some d) xs)

pub present_count : (xs : List Slot) → length xs - null_count xs ≡ count_by is_some xs
present_count xs = omega (arith, counted xs)

with_slot_le : (seen : List Slot) (s : Slot) → length (with_slot seen s) ≤ length seen + 1
with_slot_le seen s = by (list_any (slot_eq s) seen) refl
  where
    by : (b : Bool) → list_any (slot_eq s) seen ≡ b → length (with_slot seen s) ≤ length seen + 1
    by true e = rw e (omega arith)
    by false e = rw e (omega (arith, length_push seen s))

distinct_le : (seen xs : List Slot) → length (fold with_slot seen xs) ≤ length seen + length xs
distinct_le seen [] = omega arith
distinct_le seen (x ∷ xs) = omega (arith, with_slot_le seen x, distinct_le (with_slot seen x) xs)

pub distinct_count_le : (xs : List Slot) → length (distinct_slots xs) ≤ length xs
distinct_count_le xs = omega (arith, distinct_le [] xs)
