use Rattle.std.proofs.Common.{◌≡◌, ◌+◌, ◌≤◌, ◌++◌, Ok, map, length}
use Rattle.px_frame.specs.CellView.{named_cell}
use Rattle.px_context.specs.IterView.{left_of}
use Rattle.px_lanes.specs.Made.{named_cells, named_part}
use Rattle.px_lanes.specs.One.{answers_of_one}
use Rattle.px_lanes.proofs.each_one.each_one.Given as goal

abbrev pub invariant-loop-piece : goal.invariant-loop-piece
invariant-loop-piece g l = record {
  can : (goal.iterator-loop-piece g).can_next l.piece-iterator;
  ends : (goal.iterator-loop-piece g).is_finite l.piece-iterator;
  done : map Ok (map named_cell l.cells.items) ++ answers_of_one (g.N.One.node l.node) (map (named_part l.input.values.name) (left_of l.piece-iterator))
      ≡ answers_of_one (g.N.One.node l.node) (named_cells l.input);
  count : length l.cells.items + length (left_of l.piece-iterator) ≡ length l.input.groups.groups;
  most : l.kernels + length (left_of l.piece-iterator) ≤ l.initial.kernels + length l.input.groups.groups;
  rises : l.initial.kernels ≤ l.kernels;
}
