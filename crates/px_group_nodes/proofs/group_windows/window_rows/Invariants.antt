use Rattle.std.proofs.Common.{◌≡◌, drop, take}
use Rattle.px_frame.specs.GroupsView.{lent_group}
use Rattle.px_group_nodes.proofs.group_windows.window_rows.Given as goal

abbrev pub invariant-loop-place : goal.invariant-loop-place
invariant-loop-place l = l.rows.items ≡ take l.place (drop l.start (lent_group l.group).rows)
