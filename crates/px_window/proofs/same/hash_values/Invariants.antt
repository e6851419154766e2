use Rattle.std.proofs.Common.{◌≡◌, ◌-◌, ◌≤◌, length, drop, fold}
use Rattle.px_window.specs.Key.{places_hash}
use Rattle.px_window.proofs.same.hash_values.Given as goal

abbrev pub invariant-loop-i : goal.invariant-loop-i
invariant-loop-i g l =
    (l.i ≤ length l.column.slots)
    × (fold g.H.Hasher.write l.initial.state (places_hash l.column.slots) ≡ fold g.H.Hasher.write l.state (places_hash (drop l.i l.column.slots)))

abbrev pub decreases-loop-i : goal.decreases-loop-i
decreases-loop-i g l = length l.column.slots - l.i
