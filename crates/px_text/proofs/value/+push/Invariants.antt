use Rattle.std.proofs.Common.{◌≡◌, ◌+◌, ◌*◌, ◌++◌, drop}
use Rattle.px_column.specs.Prelude.{slots, datum_of_ref, slot_of_ref}
use Rattle.px_column.specs.Datum.{weight, slot_weight, list_weight}
use Rattle.px_text.specs.Text.{item_texts}
use Rattle.std.specs.List.{join_with_byte}
use Rattle.px_text.proofs.Separated.{separated}
use Rattle.px_text.proofs.value.+push.Given as goal

abbrev pub decreases-push_value : goal.decreases-push_value
decreases-push_value l = 3 * weight (datum_of_ref l.value)

abbrev pub decreases-push_values : goal.decreases-push_values
decreases-push_values l = 3 * list_weight l.values.now + 2

abbrev pub decreases-push_slot : goal.decreases-push_slot
decreases-push_slot l = 3 * slot_weight (slot_of_ref l.slot) + 1

abbrev pub invariant-push_values-loop-i : goal.invariant-push_values-loop-i
invariant-push_values-loop-i l =
    l.initial.out.items ++ join_with_byte 44 (item_texts (slots l.values)) ≡ l.out.items ++ separated l.i (item_texts (slots (drop l.i l.values)))
