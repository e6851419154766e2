use Rattle.std.proofs.Common.{◌≡◌, ◌+◌, ◌*◌, ◌-◌, ◌≤◌, length, take}
use Rattle.px_value.specs.Datum.{weight, slot_weight, list_weight}
use Rattle.px_value.specs.LentView.{datum_of_ref, slot_of_ref}
use Rattle.px_value.specs.View.{slots_of}
use Rattle.px_value.proofs.value_ref.+copy.Given as goal

abbrev pub decreases-copy_value : goal.decreases-copy_value
decreases-copy_value l = 3 * weight (datum_of_ref l.value)

abbrev pub decreases-copy_values : goal.decreases-copy_values
decreases-copy_values l = 3 * list_weight l.values.now + 2

abbrev pub decreases-copy_slot : goal.decreases-copy_slot
decreases-copy_slot l = 3 * slot_weight (slot_of_ref l.slot) + 1

abbrev pub invariant-copy_values-loop-i : goal.invariant-copy_values-loop-i
invariant-copy_values-loop-i l = (l.i ≤ length l.values-inside.items.items) × (slots_of l.items.items ≡ slots_of (take l.i l.values-inside.items.items))

abbrev pub decreases-copy_values-loop-i : goal.decreases-copy_values-loop-i
decreases-copy_values-loop-i l = length l.values-inside.items.items - l.i
