use Rattle.std.proofs.Common.{◌≡◌, take}
use Rattle.px_frame.specs.GroupsView.{lent_group}
use Rattle.px_window.proofs.ordering.copy_rows.Given as goal

abbrev pub invariant-loop-index : goal.invariant-loop-index
invariant-loop-index l = l.rows.items ≡ take l.index (lent_group l.group).rows
