use Rattle.std.proofs.Common.{◌≡◌, drop}
use Rattle.px_frame.specs.GroupsView.{all_end_within}
use Rattle.px_frame.proofs.groups.all_end_within.Given as goal

abbrev pub invariant-loop-slice : goal.invariant-loop-slice
invariant-loop-slice l = all_end_within l.height l.slices ≡ all_end_within l.height (drop l.slice-index l.slices)
