use Rattle.std.proofs.Common.{◌≡◌, drop}
use Rattle.std.specs.List.{list_all}
use Rattle.px_group_nodes.specs.Kept.{has_one_row}
use Rattle.px_group_nodes.proofs.kept.have_one_row.Given as goal

abbrev pub invariant-loop-index : goal.invariant-loop-index
invariant-loop-index l = list_all has_one_row (drop l.index l.groups.groups) ≡ list_all has_one_row l.groups.groups
