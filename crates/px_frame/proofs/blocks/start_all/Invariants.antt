use Rattle.std.proofs.Common.{take}
use Rattle.px_frame.specs.Partial.{ArePartial}
use Rattle.px_frame.proofs.blocks.start_all.Given as goal

abbrev pub invariant-loop-index : goal.invariant-loop-index
invariant-loop-index g l = ArePartial g.R.Reduce.stands_for l.values (take l.index l.groups.groups) l.all.items
