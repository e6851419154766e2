use Rattle.std.proofs.Common.{◌≡◌, map, take}
use Rattle.px_frame.specs.Groups.{group_of}
use Rattle.px_frame.specs.GroupsView.{idx_group}
use Rattle.px_group_nodes.specs.Windows.{windows_of}
use Rattle.px_group_nodes.proofs.group_windows.window_lists.Given as goal

abbrev pub invariant-loop-index : goal.invariant-loop-index
invariant-loop-index l = map idx_group l.lists.items ≡ take l.index (map group_of (windows_of l.offset l.limit l.groups))
