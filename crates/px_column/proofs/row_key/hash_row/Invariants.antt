use Rattle.std.proofs.Common.{◌≡◌, ◌-◌, ◌≤◌, length, drop, fold}
use Rattle.px_value.specs.Hashing.{row_hash}
use Rattle.px_column.specs.Key.{key_at}
use Rattle.px_column.proofs.row_key.hash_row.Given as goal

abbrev pub invariant-loop-i : goal.invariant-loop-i
invariant-loop-i g l =
    (l.i ≤ length l.by)
    × (fold g.H.Hasher.write l.initial.state (row_hash (key_at l.by l.row)) ≡ fold g.H.Hasher.write l.state (row_hash (key_at (drop l.i l.by) l.row)))

abbrev pub decreases-loop-i : goal.decreases-loop-i
decreases-loop-i g l = length l.by - l.i
