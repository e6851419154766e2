use Rattle.std.proofs.Common.{◌≡◌, ◌+◌, ◌*◌, ◌-◌, ◌≤◌, length, drop, fold}
use Rattle.px_value.specs.Datum.{slots, weight, slot_weight, list_weight}
use Rattle.px_value.specs.Hashing.{slots_hash}
use Rattle.px_value.specs.LentView.{datum_of_ref, slot_of_ref}
use Rattle.px_value.specs.View.{slots_of}
use Rattle.px_value.proofs.value_ref.+hash.Given as goal

abbrev pub decreases-hash_value : goal.decreases-hash_value
decreases-hash_value g l = 3 * weight (datum_of_ref l.value)

abbrev pub decreases-hash_values : goal.decreases-hash_values
decreases-hash_values g l = 3 * list_weight l.values.now + 2

abbrev pub decreases-hash_slot : goal.decreases-hash_slot
decreases-hash_slot g l = 3 * slot_weight (slot_of_ref l.slot) + 1

abbrev pub invariant-hash_values-loop-i : goal.invariant-hash_values-loop-i
invariant-hash_values-loop-i g l =
    (l.i ≤ length l.values-inside.items.items)
    × (fold g.H.Hasher.write l.initial.state (slots_hash (slots (slots_of l.values-inside.items.items))) ≡ fold g.H.Hasher.write l.state (slots_hash (slots (slots_of (drop l.i l.values-inside.items.items)))))

abbrev pub decreases-hash_values-loop-i : goal.decreases-hash_values-loop-i
decreases-hash_values-loop-i g l = length l.values-inside.items.items - l.i
