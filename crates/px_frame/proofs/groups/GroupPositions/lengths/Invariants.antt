use Rattle.std.proofs.Common.{◌≡◌, length, map, take}
use Rattle.px_frame.proofs.groups.GroupPositions.lengths.Given as goal

abbrev pub invariant-loop-index : goal.invariant-loop-index
invariant-loop-index l = l.lengths.items ≡ map (λ p. length p.rows) (take l.index l.self.groups)
