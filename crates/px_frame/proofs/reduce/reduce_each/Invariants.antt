use Rattle.std.proofs.Common.{◌≡◌, map, take}
use Rattle.px_frame.specs.Reduced.{reduced_at}
use Rattle.px_frame.proofs.reduce.reduce_each.Given as goal

abbrev pub invariant-loop-index : goal.invariant-loop-index
invariant-loop-index g l = l.rows ≡ record { name = l.values.name; kind = l.fn.rows.kind; slots = map (reduced_at g.R.Reduce.method l.values) (take l.index l.groups.groups) }
