use Rattle.std.proofs.Common.{◌≡◌, ◌&&◌, List, Err, length, map, subst, sym}
use Rattle.std.proofs.lemmas.Result.{err_from_is_err_and}
use Rattle.px_column.specs.Operator.{operator_kind}
use Rattle.px_column.specs.Prelude.{kind_of}
use Rattle.px_frame.specs.CellView.{named_cell}
use Rattle.px_frame.specs.declared.cell.Cell.{Cell}
use Rattle.px_context.specs.Context.{cell_kind, has_units}
use Rattle.px_lanes.specs.Alike.{AreLike}
use Rattle.px_lanes.specs.Made.{counts_in}
use Rattle.px_lanes.specs.Operator.{operator_answers}
use Rattle.px_lanes.proofs.Grouping.{made_of, refused_fault, refused_of}
use Rattle.px_lanes.proofs.Operators.{binary_alike}
use Rattle.px_lanes.proofs.binary.operate_each.Goals as goal

pub from_cells-requires-clause-like : goal.from_cells-requires-clause-like
from_cells-requires-clause-like g c =
    let l = c.args.left in
    let r = c.args.right.now in
    let op = c.args.op in
    let m = c.in_ok-made.made in
    let cs = map named_cell m.cells.items in
    let k = kind_of m.dtype in
    let like = binary_alike op l r k cs c.in_ok-made.ensures.kind c.in_ok-made.ensures.cells in
    subst (λ (items : List Cell). AreLike m.name k m.is_unit (map named_cell items)) (sym c.deref.ensures.value)
    (rw (c.in_ok-made.ensures.name, c.in_ok-made.ensures.shape) like)

pub returns-clause-made : goal.returns-clause-made
returns-clause-made g c =
    let l = c.args.left in
    let r = c.args.right.now in
    let op = c.args.op in
    let m = c.in_ok-made.made in
    let cs = map named_cell m.cells.items in
    made_of c.from_cells.result (operator_answers op l r) l.values.name (operator_kind op (cell_kind l) (cell_kind r)) (has_units l.layout && has_units r.layout) (length l.groups.groups) cs (kind_of m.dtype)
    c.in_ok-made.ensures.cells c.in_ok-made.ensures.kind (rw c.deref.ensures.value at c.from_cells.ensures.cells) (rw c.in_ok-made.ensures.name at c.from_cells.ensures.name) c.from_cells.ensures.kind
    (rw c.in_ok-made.ensures.shape at c.from_cells.ensures.shape) (rw (c.deref.ensures.value, c.in_ok-made.ensures.count) at c.from_cells.ensures.count)

pub returns-clause-refused : goal.returns-clause-refused
returns-clause-refused g c =
    let l = c.args.left in
    let r = c.args.right.now in
    let op = c.args.op in
    let cs = map named_cell c.in_ok-made.made.cells.items in
    refused_of c.from_cells.result (operator_answers op l r) (λ e. operator_kind op (cell_kind l) (cell_kind r) ≡ Err e) cs c.in_ok-made.ensures.cells (rw c.deref.ensures.value at c.from_cells.ensures.refused)

pub returns-in_err-made-clause-refused : goal.returns-in_err-made-clause-refused
returns-in_err-made-clause-refused g c =
    let l = c.args.left in
    let r = c.args.right.now in
    let op = c.args.op in
    let p = err_from_is_err_and c.from_residual.result c.from_residual.ensures.1 in
    let e = c.in_err-made.field-0.0 in
    rw (p.1, p.2) (refused_fault e (operator_kind op (cell_kind l) (cell_kind r)) (operator_answers op l r) (counts_in (operator_answers op l r)) c.in_err-made.ensures.refused)
