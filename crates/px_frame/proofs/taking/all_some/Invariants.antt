use Rattle.std.proofs.Common.{◌≡◌, Some, map, take}
use Rattle.px_frame.proofs.taking.all_some.Given as goal

abbrev pub invariant-loop-row : goal.invariant-loop-row
invariant-loop-row l = l.indices.items ≡ map Some (take l.row-index l.rows)
