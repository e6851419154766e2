use Rattle.std.proofs.Common.{◌≡◌, ◌+◌, ◌≤◌, ◌++◌, Ok, drop, map, length}
use Rattle.px_frame.specs.CellView.{named_cell}
use Rattle.px_lanes.specs.Made.{named_cells}
use Rattle.px_group_nodes.specs.Three.{answers_of_three}
use Rattle.px_group_nodes.proofs.each_three.each_three.Given as goal

abbrev pub invariant-loop-group : goal.invariant-loop-group
invariant-loop-group g l = record {
  done : map Ok (map named_cell l.cells.items)
      ++ answers_of_three (g.N.Three.node l.node) (drop l.group (named_cells l.first)) (drop l.group (named_cells l.second)) (drop l.group (named_cells l.third))
      ≡ answers_of_three (g.N.Three.node l.node) (named_cells l.first) (named_cells l.second) (named_cells l.third);
  count : length l.cells.items ≡ l.group;
  most : l.kernels ≤ l.initial.kernels + l.group;
  rises : l.initial.kernels ≤ l.kernels;
}
