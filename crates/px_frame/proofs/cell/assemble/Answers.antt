use Rattle.std.proofs.Common.{map, arith}
use Rattle.px_frame.specs.CellView.{named_cell}
use Rattle.px_frame.proofs.Beside.{names_beside, short-beside, IsFrame-beside}
use Rattle.px_frame.proofs.cell.assemble.Goals as goal

pub from_columns-requires-clause-names : goal.from_columns-requires-clause-names
from_columns-requires-clause-names c =
    names_beside c.rows_beside-height.result (map named_cell c.args.cells.items) _ _ (rw c.deref.ensures.value at c.in_ok-names.ensures) c.in_ok-columns.ensures

pub from_columns-requires-clause-frame : goal.from_columns-requires-clause-frame
from_columns-requires-clause-frame c =
    IsFrame-beside c.rows_beside-height.result (map named_cell c.args.cells.items) _ _ (rw c.deref.ensures.value at c.in_ok-names.ensures) c.in_ok-columns.ensures

pub returns-clause-short : goal.returns-clause-short
returns-clause-short c =
    rw c.from_columns.ensures (short-beside c.rows_beside-height.result (map named_cell c.args.cells.items) _ (omega (arith, c.rows_beside-height.type_inv)) c.in_ok-columns.ensures)
