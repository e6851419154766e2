use Rattle.std.proofs.Common.{◌≡◌, ◌+◌, ◌≤◌, ◌++◌, Ok, map, length}
use Rattle.std.specs.Iterator.Adapters.{zip_first, zip_second}
use Rattle.px_frame.specs.CellView.{named_cell}
use Rattle.px_context.specs.IterView.{left_of}
use Rattle.px_lanes.specs.Made.{answers_of_two, named_cells, named_part}
use Rattle.px_lanes.proofs.each.each_two.Given as goal

abbrev pub invariant-loop-x : goal.invariant-loop-x
invariant-loop-x g l = record {
  can : (goal.iterator-loop-x g).can_next l.x-iterator;
  ends : (goal.iterator-loop-x g).is_finite l.x-iterator;
  done : map Ok (map named_cell l.cells.items)
      ++ answers_of_two (g.N.Two.node l.node) (map (named_part l.left.values.name) (left_of (zip_first l.x-iterator))) (map (named_part l.right.values.name) (left_of (zip_second l.x-iterator)))
      ≡ answers_of_two (g.N.Two.node l.node) (named_cells l.left) (named_cells l.right);
  count : length l.cells.items + length (left_of (zip_first l.x-iterator)) ≡ length l.left.groups.groups;
  even : length (left_of (zip_first l.x-iterator)) ≡ length (left_of (zip_second l.x-iterator));
  most : l.kernels + length (left_of (zip_first l.x-iterator)) ≤ l.initial.kernels + length l.left.groups.groups;
  rises : l.initial.kernels ≤ l.kernels;
}
