use Rattle.std.proofs.Common.{◌≡◌, drop, map}
use Rattle.px_frame.specs.CellView.{named_cell}
use Rattle.px_frame.specs.Spread.{rows_beside}
use Rattle.px_frame.proofs.cell.rows_beside.Given as goal

abbrev pub invariant-loop-cell : goal.invariant-loop-cell
invariant-loop-cell l = rows_beside (map (λ c. c.cell) (map named_cell l.cells)) ≡ rows_beside (map (λ c. c.cell) (map named_cell (drop l.cell-index l.cells)))
