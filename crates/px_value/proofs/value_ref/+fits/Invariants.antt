use Rattle.std.proofs.Common.{◌≡◌, ◌+◌, ◌*◌, ◌-◌, ◌≤◌, length, drop}
use Rattle.px_value.specs.Datum.{slots, weight, slot_weight, list_weight}
use Rattle.px_value.specs.Kind.{all_fit}
use Rattle.px_value.specs.KindView.{kind_of}
use Rattle.px_value.specs.LentView.{datum_of_ref, slot_of_ref}
use Rattle.px_value.specs.View.{slots_of}
use Rattle.px_value.proofs.value_ref.+fits.Given as goal

abbrev pub decreases-value_fits : goal.decreases-value_fits
decreases-value_fits l = 3 * weight (datum_of_ref l.value)

abbrev pub decreases-all_fit : goal.decreases-all_fit
decreases-all_fit l = 3 * list_weight l.values.now + 2

abbrev pub decreases-slot_fits : goal.decreases-slot_fits
decreases-slot_fits l = 3 * slot_weight (slot_of_ref l.slot) + 1

abbrev pub invariant-all_fit-loop-i : goal.invariant-all_fit-loop-i
invariant-all_fit-loop-i l =
    (l.i ≤ length l.values-inside.items.items)
    × (all_fit (kind_of l.kind) (slots (slots_of l.values-inside.items.items)) ≡ all_fit (kind_of l.kind) (slots (slots_of (drop l.i l.values-inside.items.items))))

abbrev pub decreases-all_fit-loop-i : goal.decreases-all_fit-loop-i
decreases-all_fit-loop-i l = length l.values-inside.items.items - l.i
