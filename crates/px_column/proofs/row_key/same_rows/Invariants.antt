use Rattle.std.proofs.Common.{◌≡◌, ◌-◌, ◌≤◌, length, drop}
use Rattle.px_value.specs.Equality.{row_eq}
use Rattle.px_column.specs.Key.{key_at}
use Rattle.px_column.proofs.row_key.same_rows.Given as goal

abbrev pub invariant-loop-i : goal.invariant-loop-i
invariant-loop-i l =
    (l.i ≤ length l.a) × (length l.a ≡ length l.b)
    × (row_eq (key_at l.a l.a_row) (key_at l.b l.b_row) ≡ row_eq (key_at (drop l.i l.a) l.a_row) (key_at (drop l.i l.b) l.b_row))

abbrev pub decreases-loop-i : goal.decreases-loop-i
decreases-loop-i l = length l.a - l.i
