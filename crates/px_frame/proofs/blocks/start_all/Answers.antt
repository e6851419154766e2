use Rattle.px_frame.specs.GroupsView.{lent_group}
use Rattle.px_frame.proofs.Partial.{ArePartial-push}
use Rattle.px_frame.proofs.blocks.start_all.Goals as goal

pub loop-index-init : goal.loop-index-init
loop-index-init g c = rw c.in_ok-all.ensures.items tt

pub loop-index-preserved : goal.loop-index-preserved
loop-index-preserved g c =
    rw c.in_ok-push.ensures.items
    (ArePartial-push g.R.Reduce.stands_for c.args.values.now c.args.groups.now.groups c.loop-index.all.items c.loop-index.index (lent_group c.group.result) c.in_ok-new.field-0 c.loop-index.invariant c.group.ensures.group c.in_ok-new.ensures.partial)
