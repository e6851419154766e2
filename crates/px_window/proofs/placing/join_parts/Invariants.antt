use Rattle.std.proofs.Common.{◌≡◌, ◌+◌, ◌^◌, ◌<◌, ◌++◌, Ok, drop, length}
use Rattle.std.specs.List.{concat}
use Rattle.px_column.specs.Result.{◌>>=◌}
use Rattle.px_frame.specs.Groups.{rows_of}
use Rattle.px_context.specs.Context.{cell_kind, cells_of}
use Rattle.px_context.specs.IterView.{left_of}
use Rattle.px_window.specs.Placed.{laid_slots}
use Rattle.px_window.proofs.Laying.{AreOfKind, cells_in}
use Rattle.px_window.proofs.placing.join_parts.Given as goal

abbrev pub invariant-loop-piece : goal.invariant-loop-piece
invariant-loop-piece l = record {
  can : goal.iterator-loop-piece.can_next l.piece-iterator;
  ends : goal.iterator-loop-piece.is_finite l.piece-iterator;
  many : length (left_of l.piece-iterator) + l.index ≡ length l.parts.groups;
  kinds : AreOfKind (cell_kind l.ac) (left_of l.piece-iterator);
  name : l.rows.name ≡ l.ac.values.name;
  kind : l.rows.kind ≡ cell_kind l.ac;
  room : length l.rows.slots + length (concat (drop l.index (rows_of l.parts))) < 2 ^ 32;
  laid : laid_slots (rows_of l.parts) (cells_of l.ac) ≡ (laid_slots (drop l.index (rows_of l.parts)) (cells_in (left_of l.piece-iterator)) >>= λ xs. Ok (l.rows.slots ++ xs));
}
