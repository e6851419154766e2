use Rattle.std.proofs.Common.{◌≡◌, take}
use Rattle.px_value.specs.View.{slots_of}
use Rattle.px_value.proofs.value_ref.copy_slots.Given as goal

abbrev pub invariant-loop-row : goal.invariant-loop-row
invariant-loop-row l = slots_of l.copies.items ≡ slots_of (take l.row-index l.rows)
