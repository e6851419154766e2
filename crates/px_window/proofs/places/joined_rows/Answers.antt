use Rattle.px_frame.specs.GroupsView.{lent_group}
use Rattle.px_window.proofs.Joining.{rows_more}
use Rattle.px_window.proofs.places.joined_rows.Goals as goal

pub loop-index-preserved : goal.loop-index-preserved
loop-index-preserved c =
    rows_more c.args.parts.now.groups c.loop-index.index (lent_group c.group.result) c.loop-index.rows.items _ _ c.group.ensures.group c.in_ok-push_rows.ensures.ok c.loop-index.invariant
