use Rattle.std.proofs.Common.{◌≡◌, ◌++◌, take}
use Rattle.px_frame.specs.Cell.{list_of}
use Rattle.px_window.proofs.placing.push_cell.Given as goal

abbrev pub invariant-loop-index : goal.invariant-loop-index
invariant-loop-index l = l.rows ≡ record l.fn.rows { slots = l.fn.rows.slots ++ take l.index (list_of l.piece.cell) }
