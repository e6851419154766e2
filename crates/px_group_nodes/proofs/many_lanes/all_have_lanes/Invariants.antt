use Rattle.std.proofs.Common.{◌≡◌, drop}
use Rattle.px_group_nodes.specs.Lanes.{have_lanes}
use Rattle.px_group_nodes.proofs.many_lanes.all_have_lanes.Given as goal

abbrev pub invariant-loop-input : goal.invariant-loop-input
invariant-loop-input l = have_lanes l.inputs ≡ have_lanes (drop l.input-index l.inputs)
