use Rattle.std.proofs.Common.{◌≡◌, drop}
use Rattle.px_group_nodes.specs.Lanes.{is_one_untouched}
use Rattle.px_group_nodes.proofs.many_lanes.untouched_place.Given as goal

abbrev pub invariant-loop-place : goal.invariant-loop-place
invariant-loop-place l = is_one_untouched l.inputs ≡ is_one_untouched (drop l.place l.inputs)
