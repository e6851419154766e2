use Rattle.std.proofs.Common.{◌≡◌, ◌∙◌, ap, filter}
use Rattle.px_frame.specs.Cell.{rows}
use Rattle.px_frame.specs.Groups.{first_row}
use Rattle.px_frame.specs.GroupsView.{idx_group, lent_group}
use Rattle.px_group_nodes.specs.Kept.{kept_group, truth_at}
use Rattle.px_group_nodes.proofs.Keeping.{group_made, kept_next}
use Rattle.px_group_nodes.proofs.kept.keep_each.Goals as goal

pub loop-index-preserved : goal.loop-index-preserved
loop-index-preserved c =
    let mask = rows c.args.mask.now.slots in
    let p = lent_group c.group.result in
    let kept : c.in_ok-rows.rows.items ≡ filter (truth_at mask) p.rows = cc (c.in_ok-rows.ensures) in
    let first : c.first_row.result ≡ first_row c.in_ok-rows.rows.items = c.first_row.ensures ∙ ap first_row c.as_slice.ensures in
    kept_next idx_group (kept_group mask) c.args.groups.now.groups c.loop-index.index p c.loop-index.kept.items _ (c.first_row.result, c.in_ok-rows.rows) c.in_ok-push.ensures.items c.loop-index.invariant c.group.ensures.group
    (group_made c.first_row.result c.in_ok-rows.rows.items (filter (truth_at mask) p.rows) kept first)
