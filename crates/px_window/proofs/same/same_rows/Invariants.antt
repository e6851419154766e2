use Rattle.std.proofs.Common.{◌≡◌, ◌-◌, ◌≤◌, length, drop}
use Rattle.px_value.specs.Equality.{row_eq}
use Rattle.px_window.proofs.same.same_rows.Given as goal

abbrev pub invariant-loop-i : goal.invariant-loop-i
invariant-loop-i l =
    (l.i ≤ length l.a.slots) × (length l.a.slots ≡ length l.b.slots)
    × (row_eq l.a.slots l.b.slots ≡ row_eq (drop l.i l.a.slots) (drop l.i l.b.slots))

abbrev pub decreases-loop-i : goal.decreases-loop-i
decreases-loop-i l = length l.a.slots - l.i
