use Rattle.std.proofs.lemmas.Result.{err_from_is_err_and}
use Rattle.px_frame.specs.CellView.{named_cell}
use Rattle.px_lanes.specs.Made.{counts_in}
use Rattle.px_group_nodes.specs.Ternary.{ternary_answers}
use Rattle.px_group_nodes.proofs.Ternaries.{lanes_denied, lanes_kept, lanes_lane, lanes_made, lanes_stand}
use Rattle.px_group_nodes.proofs.ternary.choose_lanes.Goals as goal

pub with_lane-requires : goal.with_lane-requires
with_lane-requires g c =
    lanes_stand c.args.predicate c.args.truthy c.args.falsy c.requires.paired c.has_lane.ensures.context c.has_lane-2.ensures.context c.has_lane-3.ensures.context c.requires.predicate c.requires.truthy c.requires.falsy
    (named_cell c.in_ok-made.made) c.in_ok-made.ensures.answer c.untouched_of_three.result c.untouched_of_three.ensures

pub returns-clause-made : goal.returns-clause-made
returns-clause-made g c =
    lanes_made c.args.predicate c.args.truthy c.args.falsy c.requires.paired c.has_lane.ensures.context c.has_lane-2.ensures.context c.has_lane-3.ensures.context c.requires.predicate c.requires.truthy c.requires.falsy
    (named_cell c.in_ok-made.made) c.in_ok-made.ensures.answer c.untouched_of_three.result c.untouched_of_three.ensures c.with_lane.result c.with_lane.ensures c.has_lane.ensures.groups c.has_lane-2.ensures.groups
    c.has_lane-3.ensures.groups

pub returns-clause-groups : goal.returns-clause-groups
returns-clause-groups g c =
    lanes_kept c.args.predicate c.args.truthy c.args.falsy c.requires.paired c.has_lane.ensures.context c.has_lane-2.ensures.context c.has_lane-3.ensures.context c.requires.predicate c.requires.truthy c.requires.falsy
    (named_cell c.in_ok-made.made) c.in_ok-made.ensures.answer c.untouched_of_three.result c.untouched_of_three.ensures c.with_lane.result c.with_lane.ensures

pub returns-clause-lane : goal.returns-clause-lane
returns-clause-lane g c =
    lanes_lane c.args.predicate c.args.truthy c.args.falsy c.requires.paired c.has_lane.ensures.context c.has_lane-2.ensures.context c.has_lane-3.ensures.context c.requires.predicate c.requires.truthy c.requires.falsy
    (named_cell c.in_ok-made.made) c.in_ok-made.ensures.answer c.untouched_of_three.result c.untouched_of_three.ensures c.with_lane.result c.with_lane.ensures

pub returns-in_err-made-clause-refused : goal.returns-in_err-made-clause-refused
returns-in_err-made-clause-refused g c =
    let p = c.args.predicate in
    let a = c.args.truthy in
    let b = c.args.falsy in
    let q = err_from_is_err_and c.from_residual.result c.from_residual.ensures.1 in
    rw (q.1, q.2)
    (lanes_denied p a b c.requires.paired c.has_lane.ensures.context c.has_lane-2.ensures.context c.has_lane-3.ensures.context c.requires.predicate c.requires.truthy c.requires.falsy c.in_err-made.field-0.0
    (counts_in (ternary_answers p a b)) c.in_err-made.ensures.answer)
