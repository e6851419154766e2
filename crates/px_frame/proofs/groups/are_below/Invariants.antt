use Rattle.std.proofs.Common.{◌≡◌, drop}
use Rattle.px_frame.specs.Frame.{are_below}
use Rattle.px_frame.proofs.groups.are_below.Given as goal

abbrev pub invariant-loop-row : goal.invariant-loop-row
invariant-loop-row l = are_below l.height l.rows ≡ are_below l.height (drop l.row-index l.rows)
