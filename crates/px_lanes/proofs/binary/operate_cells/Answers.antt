use Rattle.std.proofs.Common.{inr}
use Rattle.std.proofs.lemmas.Result.{err_from_is_err_and}
use Rattle.px_column.specs.Operator.{operator_kind}
use Rattle.px_context.specs.Context.{cell_kind}
use Rattle.px_lanes.proofs.Grouping.{refused_kind}
use Rattle.px_lanes.specs.Operator.{operator_answers}
use Rattle.px_lanes.proofs.binary.operate_cells.Goals as goal

pub returns-in_err-cells-clause-refused : goal.returns-in_err-cells-clause-refused
returns-in_err-cells-clause-refused g c =
    let p = err_from_is_err_and c.from_residual-in_err-cells.result c.from_residual-in_err-cells.ensures.1 in
    rw (p.1, p.2) (inr c.in_err-cells.ensures.faults)

pub returns-in_err-dtype-clause-refused : goal.returns-in_err-dtype-clause-refused
returns-in_err-dtype-clause-refused g c =
    let l = c.args.left.now in
    let r = c.args.right.now in
    let op = c.args.op in
    let p = err_from_is_err_and c.from_residual.result c.from_residual.ensures.1 in
    let e = c.in_err-dtype.field-0.0 in
    rw (p.1, p.2) (refused_kind e (operator_kind op (cell_kind l) (cell_kind r)) (operator_answers op l r) c.in_err-dtype.ensures)
