use Rattle.std.proofs.lemmas.Result.{err_from_is_err_and}
use Rattle.px_expr.specs.NodeView.{plan_of}
use Rattle.px_frame.specs.CellView.{named_cell}
use Rattle.px_window.specs.State.{beside}
use Rattle.px_steps.specs.Finds.{node_tree}
use Rattle.px_steps.proofs.GroupStep.{key_finds, key_lacks}
use Rattle.px_steps.proofs.Grouping.{accepted_fits}
use Rattle.px_steps.proofs.Kernels.{least_on_frame}
use Rattle.px_steps.proofs.Members.{on_ok}
use Rattle.px_steps.proofs.Selected.{cell_named, cell_sound}
use Rattle.px_steps.proofs.planning.spread_value.Goals as goal

pub returns-in_err-cell-clause-answer : goal.returns-in_err-cell-clause-answer
returns-in_err-cell-clause-answer g c =
    let p = err_from_is_err_and c.from_residual.result c.from_residual.ensures.1 in
    rw (p.1, p.2) (key_lacks c.in_err-cell.field-0.0 (plan_of c.args.node.now) (beside c.args.frame.now c.args.state.now) c.requires c.in_err-cell.ensures.causes)

pub returns-in_err-cell-clause-risen : goal.returns-in_err-cell-clause-risen
returns-in_err-cell-clause-risen g c = c.in_err-cell.ensures.grouped_most.rises

pub returns-in_err-cell-clause-within : goal.returns-in_err-cell-clause-within
returns-in_err-cell-clause-within g c = c.in_err-cell.ensures.grouped_most.most

pub returns-clause-answer : goal.returns-clause-answer
returns-clause-answer g c =
    let node = plan_of c.args.node.now in
    let F = beside c.args.frame.now c.args.state.now in
    let found = named_cell c.in_ok-cell.cell in
    let value = c.in_ok-cell.ensures.value in
    key_finds F node.tree found c.spread.result _ (cell_named node F found value) (cell_sound node F found value) (accepted_fits node F found c.requires value) (rw c.height.ensures at c.spread.ensures)

pub returns-clause-grouped : goal.returns-clause-grouped
returns-clause-grouped g c = on_ok c.spread.result c.in_ok-cell.ensures.grouped

pub returns-clause-risen : goal.returns-clause-risen
returns-clause-risen g c = c.in_ok-cell.ensures.grouped_most.rises

pub returns-clause-within : goal.returns-clause-within
returns-clause-within g c = c.in_ok-cell.ensures.grouped_most.most

pub returns-clause-ticks : goal.returns-clause-ticks
returns-clause-ticks g c =
    on_ok c.spread.result (least_on_frame (node_tree c.args.node.now) (beside c.args.frame.now c.args.state.now) c.args.kernels.now c.evaluate_cell.new.kernels c.in_ok-cell.ensures.ticks c.in_ok-cell.ensures.cost)

pub returns-clause-most : goal.returns-clause-most
returns-clause-most g c = on_ok c.spread.result c.in_ok-cell.ensures.cost.cost
