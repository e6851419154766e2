use Rattle.std.proofs.Common.{◌≡◌, take}
use Rattle.px_column.specs.Beside.{rows_to, zipped}
use Rattle.px_column.proofs.row_by_row.zip_rows.Given as goal

abbrev pub invariant-loop-row : goal.invariant-loop-row
invariant-loop-row g l = l.rows ≡ record l.fn.rows { slots = take l.row (zipped (g.F.OfTwoRows.made l.f) (rows_to l.len l.left.slots) (rows_to l.len l.right.slots)) }
