use Rattle.std.proofs.Common.{◌≡◌, ◌-◌, ◌≤◌, length, drop, fold}
use Rattle.px_window.specs.Key.{places_hash}
use Rattle.px_window.proofs.same.hash_integers.Given as goal

abbrev pub invariant-loop-i : goal.invariant-loop-i
invariant-loop-i g l =
    (l.i ≤ length l.integers)
    × (fold g.H.Hasher.write l.initial.state (places_hash l.integers) ≡ fold g.H.Hasher.write l.state (places_hash (drop l.i l.integers)))

abbrev pub decreases-loop-i : goal.decreases-loop-i
decreases-loop-i g l = length l.integers - l.i
