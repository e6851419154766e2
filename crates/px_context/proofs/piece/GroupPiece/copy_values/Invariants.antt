use Rattle.std.proofs.Common.{◌≡◌, take}
use Rattle.px_frame.specs.Cell.{list_of}
use Rattle.px_context.proofs.piece.GroupPiece.copy_values.Given as goal

abbrev pub invariant-loop-index : goal.invariant-loop-index
invariant-loop-index l = l.rows ≡ record { name = l.fn.name; kind = l.self.kind; slots = take l.index (list_of l.self.cell) }
