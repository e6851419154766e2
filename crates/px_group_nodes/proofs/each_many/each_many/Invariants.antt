use Rattle.std.proofs.Common.{◌≡◌, ◌+◌, ◌≤◌, ◌++◌, Ok, drop, length, map}
use Rattle.px_frame.specs.CellView.{named_cell}
use Rattle.px_lanes.specs.Made.{named_cells}
use Rattle.px_group_nodes.specs.Many.{across, answers_of_many}
use Rattle.px_group_nodes.proofs.each_many.each_many.Given as goal

abbrev pub invariant-loop-group : goal.invariant-loop-group
invariant-loop-group g l = record {
  done : map Ok (map named_cell l.cells.items) ++ map (g.N.Many.node l.node) (drop l.group (across l.count (map named_cells l.inputs)))
      ≡ answers_of_many (g.N.Many.node l.node) l.count l.inputs;
  count : length l.cells.items ≡ l.group;
  most : l.kernels ≤ l.initial.kernels + l.group;
  rises : l.initial.kernels ≤ l.kernels;
}
