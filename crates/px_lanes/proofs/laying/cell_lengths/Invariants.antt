use Rattle.std.proofs.Common.{◌≡◌, map, take}
use Rattle.px_frame.specs.CellView.{named_cell}
use Rattle.px_lanes.specs.Alike.{lengths_in}
use Rattle.px_lanes.proofs.laying.cell_lengths.Given as goal

abbrev pub invariant-loop-cell : goal.invariant-loop-cell
invariant-loop-cell l = l.lengths.items ≡ lengths_in (map named_cell (take l.cell-index l.cells))
