use Rattle.std.proofs.Common.{◌≡◌, drop}
use Rattle.px_frame.specs.GroupsView.{all_rows_below}
use Rattle.px_frame.proofs.groups.all_rows_below.Given as goal

abbrev pub invariant-loop-group : goal.invariant-loop-group
invariant-loop-group l = all_rows_below l.height l.groups ≡ all_rows_below l.height (drop l.group-index l.groups)
