use Rattle.std.proofs.Common.{map, take}
use Rattle.px_frame.specs.CellView.{named_cell}
use Rattle.px_lanes.specs.Made.{named_cells}
use Rattle.px_group_nodes.specs.Many.{AreAt}
use Rattle.px_group_nodes.proofs.each_many.cells_at.Given as goal

abbrev pub invariant-loop-input : goal.invariant-loop-input
invariant-loop-input l = AreAt l.group (map named_cells (take l.input-index l.inputs)) (map named_cell l.cells.items)
