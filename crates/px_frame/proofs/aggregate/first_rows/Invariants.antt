use Rattle.std.proofs.Common.{◌≡◌, Some, map, take}
use Rattle.px_frame.specs.Groups.{first_row}
use Rattle.px_frame.proofs.aggregate.first_rows.Given as goal

abbrev pub invariant-loop-index : goal.invariant-loop-index
invariant-loop-index l = l.rows.items ≡ map (λ g. Some (first_row g.rows)) (take l.index l.groups.groups)
