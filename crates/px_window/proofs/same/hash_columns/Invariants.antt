use Rattle.std.proofs.Common.{◌≡◌, ◌-◌, ◌≤◌, length, drop, fold}
use Rattle.px_window.specs.Key.{all_series_hash}
use Rattle.px_window.proofs.same.hash_columns.Given as goal

abbrev pub invariant-loop-i : goal.invariant-loop-i
invariant-loop-i g l =
    (l.i ≤ length l.columns)
    × (fold g.H.Hasher.write l.initial.state (all_series_hash l.columns) ≡ fold g.H.Hasher.write l.state (all_series_hash (drop l.i l.columns)))

abbrev pub decreases-loop-i : goal.decreases-loop-i
decreases-loop-i g l = length l.columns - l.i
