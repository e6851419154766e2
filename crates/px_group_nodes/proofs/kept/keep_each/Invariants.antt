use Rattle.std.proofs.Common.{◌≡◌, map, take}
use Rattle.px_frame.specs.Cell.{rows}
use Rattle.px_frame.specs.GroupsView.{idx_group}
use Rattle.px_group_nodes.specs.Kept.{kept_group}
use Rattle.px_group_nodes.proofs.kept.keep_each.Given as goal

abbrev pub invariant-loop-index : goal.invariant-loop-index
invariant-loop-index l = map idx_group l.kept.items ≡ map (kept_group (rows l.mask.slots)) (take l.index l.groups.groups)
