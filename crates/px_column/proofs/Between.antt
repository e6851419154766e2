-- Comparisons with the ends of an interval give truths.
use Rattle.std.proofs.Common.{◌≡◌, Bool, true, false, not, ◌||◌, if◌then◌else◌, [], ◌∷◌, Ok, Err, Some, None, refl}
use Rattle.std.specs.List.{list_any}
use Rattle.px_value.specs.Datum.{Datum, Slot}
use Rattle.px_value.specs.Kind.{Kind, booleans, is_list_kind, kind_eq, slot_fits}
use Rattle.px_value.specs.declared.closed_interval.ClosedInterval.{ClosedInterval}
use Rattle.px_value.specs.declared.closed_interval.ClosedInterval.TheVariants as ends
use Rattle.px_operation.specs.Function.{above, below, between_slot}
use Rattle.px_operation.specs.Operator.{compared, kind_where, operated}
use Rattle.px_operation.proofs.OperatorLaws.{fits_operated}
use Rattle.px_value.specs.declared.error.InvalidWhy.TheVariants.{ListKey}
use Rattle.px_value.specs.declared.error.PxError.TheVariants.{InvalidOperation}
use Rattle.px_column.specs.Interval.{compared_kind}
use Rattle.px_column.proofs.Operating.{kind_same}
use Rattle.px_value.specs.declared.operator.Operator.TheVariants.{And}

fits_compared : (f : Datum → Datum → Bool) (a b : Slot) → slot_fits booleans (compared f a b) ≡ true
fits_compared f None b = refl
fits_compared f (Some a) None = refl
fits_compared f (Some a) (Some b) = refl

pub fits_above : (k : Kind) (c : ClosedInterval) (a b : Slot) → slot_fits booleans (operated k (above c) a b) ≡ true
fits_above k ends.Both a b = fits_compared _ a b
fits_above k ends.Left a b = fits_compared _ a b
fits_above k ends.Right a b = fits_compared _ a b
fits_above k ends.None a b = fits_compared _ a b

pub fits_below : (k : Kind) (c : ClosedInterval) (a b : Slot) → slot_fits booleans (operated k (below c) a b) ≡ true
fits_below k ends.Both a b = fits_compared _ a b
fits_below k ends.Left a b = fits_compared _ a b
fits_below k ends.Right a b = fits_compared _ a b
fits_below k ends.None a b = fits_compared _ a b

pub fits_between : (k : Kind) (c : ClosedInterval) (s low high : Slot) → slot_fits booleans (between_slot k c s low high) ≡ true
fits_between k c s low high = fits_operated booleans booleans And _ _ (fits_above k c s low) (fits_below k c s high) refl

-- three types that are compared are one type, and give truths
pub compared_three : (a b c r : Kind) → compared_kind a (b ∷ c ∷ []) ≡ Ok r → (a ≡ b) × ((a ≡ c) × (r ≡ booleans))
compared_three a b c r h =
    let p = by (list_any is_list_kind (a ∷ b ∷ c ∷ [])) (kind_eq a b) (kind_eq a c) h in
    (kind_same a b p.0, (kind_same a c p.1.0, p.1.1))
  where
    by : (t e f : Bool) → (if t then Err (InvalidOperation ListKey) else kind_where (not (not e || (not f || false))) booleans) ≡ Ok r → (e ≡ true) × ((f ≡ true) × (r ≡ booleans))
    by true e f h = cc
    by false true true h = (refl, (refl, cc))
    by false true false h = cc
    by false false f h = cc
