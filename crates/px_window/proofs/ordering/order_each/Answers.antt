use Rattle.std.proofs.Common.{◌≡◌, ◌∙◌, ap, arith}
use Rattle.px_frame.specs.Groups.{first_row}
use Rattle.px_frame.specs.GroupsView.{lent_group}
use Rattle.px_frame.specs.Ordered.{in_order}
use Rattle.px_window.specs.Key.{rows_ordered}
use Rattle.px_window.proofs.Sorted.{group_made, ordered_next}
use Rattle.px_window.proofs.ordering.order_each.Goals as goal

pub loop-index-preserved : goal.loop-index-preserved
loop-index-preserved g c =
    let s = c.args.column.now in
    let o = c.args.options in
    let p = lent_group c.group.result in
    let rows : c.in_ok-rows.rows.items ≡ in_order s o p.rows = cc (c.in_ok-rows.ensures.answer) in
    let first : c.first_of.result ≡ first_row c.in_ok-rows.rows.items = c.first_of.ensures ∙ ap first_row c.as_slice.ensures in
    let inv = c.loop-index.invariant in
    record {
      ordered = ordered_next (rows_ordered s o) c.args.groups.now.groups c.loop-index.index p c.loop-index.ordered.items _ (c.first_of.result, c.in_ok-rows.rows) c.in_ok-push.ensures.items inv.ordered c.group.ensures.group (group_made c.first_of.result c.in_ok-rows.rows.items (in_order s o p.rows) rows first);
      most = omega (arith, inv.most, c.in_ok-rows.ensures.most);
      rises = omega (arith, inv.rises, c.in_ok-rows.ensures.rises);
    }
