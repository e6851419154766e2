use Rattle.std.proofs.Common.{◌≡◌, ◌+◌, ◌*◌, ◌-◌, ◌≤◌, length, drop}
use Rattle.px_value.specs.Datum.{slots, weight, slot_weight, list_weight}
use Rattle.px_value.specs.Equality.{slots_eq}
use Rattle.px_value.specs.LentView.{datum_of_ref, slot_of_ref}
use Rattle.px_value.specs.View.{slots_of}
use Rattle.px_value.proofs.value_ref.+same.Given as goal

abbrev pub decreases-same_value : goal.decreases-same_value
decreases-same_value l = 3 * weight (datum_of_ref l.a)

abbrev pub decreases-same_values : goal.decreases-same_values
decreases-same_values l = 3 * list_weight l.a.now + 2

abbrev pub decreases-same_slot : goal.decreases-same_slot
decreases-same_slot l = 3 * slot_weight (slot_of_ref l.a) + 1

abbrev pub invariant-same_values-loop-i : goal.invariant-same_values-loop-i
invariant-same_values-loop-i l =
    (l.i ≤ length l.a-inside.items.items) × (length l.a-inside.items.items ≡ length l.b-inside.items.items)
    × (slots_eq (slots (slots_of l.a-inside.items.items)) (slots (slots_of l.b-inside.items.items))
    ≡ slots_eq (slots (slots_of (drop l.i l.a-inside.items.items))) (slots (slots_of (drop l.i l.b-inside.items.items))))

abbrev pub decreases-same_values-loop-i : goal.decreases-same_values-loop-i
decreases-same_values-loop-i l = length l.a-inside.items.items - l.i
