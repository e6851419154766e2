use Rattle.std.proofs.Common.{◌≡◌, ◌-◌, ◌≤◌, length, drop}
use Rattle.px_window.specs.Key.{all_series_eq}
use Rattle.px_window.proofs.same.same_columns.Given as goal

abbrev pub invariant-loop-i : goal.invariant-loop-i
invariant-loop-i l =
    (l.i ≤ length l.a) × (length l.a ≡ length l.b)
    × (all_series_eq l.a l.b ≡ all_series_eq (drop l.i l.a) (drop l.i l.b))

abbrev pub decreases-loop-i : goal.decreases-loop-i
decreases-loop-i l = length l.a - l.i
