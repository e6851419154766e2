use Rattle.std.proofs.Common.{◌∙◌, sym}
use Rattle.px_value.proofs.FitLaws.{both}
use Rattle.px_lanes.specs.Lane.{has_lane}
use Rattle.px_lanes.proofs.binary.binary_groups.Goals as goal

pub operate_lanes-requires-clause-left : goal.operate_lanes-requires-clause-left
operate_lanes-requires-clause-left g c = (both (has_lane c.args.left) (has_lane c.args.right) (sym c.have_lanes.ensures ∙ c.if-have_lanes.true)).0

pub operate_lanes-requires-clause-right : goal.operate_lanes-requires-clause-right
operate_lanes-requires-clause-right g c = (both (has_lane c.args.left) (has_lane c.args.right) (sym c.have_lanes.ensures ∙ c.if-have_lanes.true)).1
