use Rattle.std.proofs.Common.{◌≡◌, ◌+◌, ◌*◌, ◌^◌, ◌<◌, length}
use Rattle.std.specs.List.{flat_map}
use Rattle.px_frame.specs.Cell.{list_of}
use Rattle.px_context.specs.Context.{cells_of}
use Rattle.px_context.specs.IterView.{left_of}
use Rattle.px_window.proofs.Laying.{cells_in}
use Rattle.px_window.proofs.placing.total_count.Given as goal

abbrev pub invariant-loop-piece : goal.invariant-loop-piece
invariant-loop-piece l = record {
  can : goal.iterator-loop-piece.can_next l.piece-iterator;
  ends : goal.iterator-loop-piece.is_finite l.piece-iterator;
  few : l.total + 4294967296 * length (left_of l.piece-iterator) < 2 ^ 64;
  total : l.total + length (flat_map list_of (cells_in (left_of l.piece-iterator))) ≡ length (flat_map list_of (cells_of l.ac));
}
