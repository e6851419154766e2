use Rattle.std.proofs.Common.{◌≡◌, ◌++◌, replicate}
use Rattle.px_column.specs.Prelude.{slot_at}
use Rattle.px_frame.specs.Cell.{list_of}
use Rattle.px_window.proofs.placing.push_unit.Given as goal

abbrev pub invariant-loop : goal.invariant-loop
invariant-loop l = l.rows ≡ record l.fn.rows { slots = l.fn.rows.slots ++ replicate l.counter (slot_at (list_of l.piece.cell) 0) }
