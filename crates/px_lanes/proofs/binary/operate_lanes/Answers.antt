use Rattle.std.proofs.Common.{◌≡◌, Ok}
use Rattle.std.proofs.lemmas.Result.{err_from_is_err_and}
use Rattle.px_column.specs.Operator.{operator_kind}
use Rattle.px_frame.specs.CellView.{named_cell}
use Rattle.px_nodes.specs.Named.{binary_named}
use Rattle.px_lanes.specs.Lane.{lane_of}
use Rattle.px_lanes.specs.Made.{counts_in}
use Rattle.px_lanes.specs.Operator.{operator_answers}
use Rattle.px_lanes.proofs.Lanes.{kept_two, lane_two, made_two, stands_two}
use Rattle.px_lanes.proofs.Operators.{binary_rows, lanes_refused}
use Rattle.px_lanes.proofs.binary.operate_lanes.Goals as goal

pub with_lane-requires : goal.with_lane-requires
with_lane-requires g c =
    let l = c.args.left in
    let r = c.args.right in
    let op = c.args.op in
    let made : binary_named op (lane_of l) (lane_of r) ≡ Ok (named_cell c.in_ok-made.made) = c.in_ok-made.ensures.answer in
    rw c.untouched_of.ensures (stands_two l r c.requires.paired c.has_lane.ensures.context c.has_lane-2.ensures.context c.requires.left c.requires.right (binary_named op) (operator_kind op) (binary_rows op) (named_cell c.in_ok-made.made) made)

pub returns-clause-made : goal.returns-clause-made
returns-clause-made g c =
    let l = c.args.left in
    let r = c.args.right in
    let op = c.args.op in
    let made : binary_named op (lane_of l) (lane_of r) ≡ Ok (named_cell c.in_ok-made.made) = c.in_ok-made.ensures.answer in
    rw (c.with_lane.ensures, c.untouched_of.ensures) (made_two l r c.requires.paired c.has_lane.ensures.context c.has_lane-2.ensures.context c.requires.left c.requires.right (binary_named op) (operator_kind op) (binary_rows op) (named_cell c.in_ok-made.made) made c.has_lane.ensures.groups c.has_lane-2.ensures.groups)

pub returns-clause-groups : goal.returns-clause-groups
returns-clause-groups g c =
    rw (c.with_lane.ensures, c.untouched_of.ensures) (kept_two c.args.left c.args.right c.requires.paired c.has_lane.ensures.context c.has_lane-2.ensures.context c.requires.left c.requires.right (named_cell c.in_ok-made.made))

pub returns-clause-lane : goal.returns-clause-lane
returns-clause-lane g c =
    let l = c.args.left in
    let r = c.args.right in
    let op = c.args.op in
    let made : binary_named op (lane_of l) (lane_of r) ≡ Ok (named_cell c.in_ok-made.made) = c.in_ok-made.ensures.answer in
    rw (c.with_lane.ensures, c.untouched_of.ensures) (lane_two l r c.requires.paired c.has_lane.ensures.context c.has_lane-2.ensures.context c.requires.left c.requires.right (binary_named op) (operator_kind op) (binary_rows op) (named_cell c.in_ok-made.made) made)

pub returns-in_err-made-clause-refused : goal.returns-in_err-made-clause-refused
returns-in_err-made-clause-refused g c =
    let l = c.args.left in
    let r = c.args.right in
    let op = c.args.op in
    let e = c.in_err-made.field-0.0 in
    let p = err_from_is_err_and c.from_residual.result c.from_residual.ensures.1 in
    rw (p.1, p.2) (lanes_refused l r c.requires.paired c.has_lane.ensures.context c.has_lane-2.ensures.context c.requires.left c.requires.right op e (counts_in (operator_answers op l r)) c.in_err-made.ensures.answer)
