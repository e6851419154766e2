use Rattle.std.proofs.Common.{◌≡◌, take}
use Rattle.px_operation.specs.Function.{between_slot}
use Rattle.px_column.specs.Beside.{rows_to, zipped_three}
use Rattle.px_column.proofs.column.Column.between_rows.Given as goal

abbrev pub invariant-loop-row : goal.invariant-loop-row
invariant-loop-row l = l.rows ≡ record l.fn.rows { slots = take l.row (zipped_three (between_slot l.self.kind l.closed) (rows_to l.len l.self.slots) (rows_to l.len l.low.slots) (rows_to l.len l.high.slots)) }
