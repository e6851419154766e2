use Rattle.std.proofs.Common.{◌≡◌, filter, take}
use Rattle.px_frame.specs.Cell.{rows}
use Rattle.px_frame.specs.GroupsView.{lent_group}
use Rattle.px_group_nodes.specs.Kept.{truth_at}
use Rattle.px_group_nodes.proofs.kept.keep_rows.Given as goal

abbrev pub invariant-loop-index : goal.invariant-loop-index
invariant-loop-index l = l.rows.items ≡ filter (truth_at (rows l.mask.slots)) (take l.index (lent_group l.group).rows)
