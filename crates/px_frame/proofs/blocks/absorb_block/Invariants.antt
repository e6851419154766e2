use Rattle.px_frame.specs.Partial.{ArePartial}
use Rattle.px_frame.proofs.blocks.absorb_block.Given as goal

abbrev pub invariant-loop-index : goal.invariant-loop-index
invariant-loop-index g l = ArePartial g.R.Reduce.stands_for l.values l.groups.groups l.all.items
