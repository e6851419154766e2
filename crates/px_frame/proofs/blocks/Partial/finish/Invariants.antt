use Rattle.std.proofs.Common.{take}
use Rattle.px_frame.specs.Frame.{slots_at}
use Rattle.px_frame.specs.GroupsView.{lent_group}
use Rattle.px_frame.proofs.blocks.Partial.finish.Given as goal

abbrev pub invariant-loop-index : goal.invariant-loop-index
invariant-loop-index g l = g.R.Reduce.stands_for l.state l.values.kind (slots_at l.values.slots (take l.index (lent_group l.group).rows))
