use Rattle.std.proofs.Common.{◌≡◌, ◌+◌, ◌^◌, ◌<◌, ◌++◌, length}
use Rattle.std.specs.List.{flat_map}
use Rattle.px_frame.specs.Cell.{list_of}
use Rattle.px_context.specs.Context.{cell_kind, cells_of}
use Rattle.px_context.specs.IterView.{left_of}
use Rattle.px_window.proofs.Laying.{AreOfKind, cells_in}
use Rattle.px_window.proofs.placing.join_cells.Given as goal

abbrev pub invariant-loop-piece : goal.invariant-loop-piece
invariant-loop-piece l = record {
  can : goal.iterator-loop-piece.can_next l.piece-iterator;
  ends : goal.iterator-loop-piece.is_finite l.piece-iterator;
  kinds : AreOfKind (cell_kind l.ac) (left_of l.piece-iterator);
  name : l.rows.name ≡ l.fn.rows.name;
  kind : l.rows.kind ≡ l.fn.rows.kind;
  room : length l.rows.slots + length (flat_map list_of (cells_in (left_of l.piece-iterator))) < 2 ^ 32;
  built : l.rows.slots ++ flat_map list_of (cells_in (left_of l.piece-iterator)) ≡ flat_map list_of (cells_of l.ac);
}
