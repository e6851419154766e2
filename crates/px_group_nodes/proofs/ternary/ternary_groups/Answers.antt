use Rattle.std.proofs.Common.{◌∙◌, ◌&&◌, sym}
use Rattle.px_value.proofs.FitLaws.{both}
use Rattle.px_lanes.specs.Lane.{has_lane}
use Rattle.px_group_nodes.proofs.ternary.ternary_groups.Goals as goal

pub choose_lanes-requires-clause-predicate : goal.choose_lanes-requires-clause-predicate
choose_lanes-requires-clause-predicate g c =
    (both (has_lane c.args.predicate) (has_lane c.args.truthy && has_lane c.args.falsy) (sym c.have_three_lanes.ensures ∙ c.if-have_three_lanes.true)).0

pub choose_lanes-requires-clause-truthy : goal.choose_lanes-requires-clause-truthy
choose_lanes-requires-clause-truthy g c =
    (both (has_lane c.args.truthy) (has_lane c.args.falsy) (both (has_lane c.args.predicate) (has_lane c.args.truthy && has_lane c.args.falsy) (sym c.have_three_lanes.ensures ∙ c.if-have_three_lanes.true)).1).0

pub choose_lanes-requires-clause-falsy : goal.choose_lanes-requires-clause-falsy
choose_lanes-requires-clause-falsy g c =
    (both (has_lane c.args.truthy) (has_lane c.args.falsy) (both (has_lane c.args.predicate) (has_lane c.args.truthy && has_lane c.args.falsy) (sym c.have_three_lanes.ensures ∙ c.if-have_three_lanes.true)).1).1
