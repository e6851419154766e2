use Rattle.std.proofs.Common.{◌≡◌, map, take, true}
use Rattle.px_frame.specs.Groups.{group_of}
use Rattle.px_frame.specs.GroupsView.{all_end_within, slice_group}
use Rattle.px_group_nodes.specs.Windows.{windows_of}
use Rattle.px_group_nodes.proofs.group_windows.window_slices.Given as goal

abbrev pub invariant-loop-index : goal.invariant-loop-index
invariant-loop-index l = record {
  rows : map slice_group l.slices.items ≡ take l.index (map group_of (windows_of l.offset l.limit l.groups));
  within : all_end_within l.groups.height l.slices.items ≡ true;
}
