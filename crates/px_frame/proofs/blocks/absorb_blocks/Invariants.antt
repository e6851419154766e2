use Rattle.px_frame.specs.Partial.{ArePartial}
use Rattle.px_frame.proofs.blocks.absorb_blocks.Given as goal

abbrev pub invariant-loop-block : goal.invariant-loop-block
invariant-loop-block g l = ArePartial g.R.Reduce.stands_for l.values l.groups.groups l.all.items
