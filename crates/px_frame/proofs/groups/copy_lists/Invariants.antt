use Rattle.std.proofs.Common.{◌≡◌, map, take}
use Rattle.px_frame.specs.GroupsView.{idx_group}
use Rattle.px_frame.proofs.groups.copy_lists.Given as goal

abbrev pub invariant-loop-group : goal.invariant-loop-group
invariant-loop-group l = map idx_group l.copies.items ≡ map idx_group (take l.group-index l.groups)
