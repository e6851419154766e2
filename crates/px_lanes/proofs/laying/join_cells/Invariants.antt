use Rattle.std.proofs.Common.{◌≡◌, ◌<◌, ◌^◌, ◌+◌, ◌++◌, drop, length, map}
use Rattle.px_frame.specs.CellView.{named_cell}
use Rattle.px_lanes.specs.Alike.{AreOf, values_in}
use Rattle.px_lanes.proofs.laying.join_cells.Given as goal

abbrev pub invariant-loop-cell : goal.invariant-loop-cell
invariant-loop-cell l = record {
  short : length l.rows.slots + length (values_in (map named_cell (drop l.cell-index l.cells))) < 2 ^ 32;
  name : l.rows.name ≡ l.fn.rows.name;
  kind : l.rows.kind ≡ l.fn.rows.kind;
  kinds : AreOf l.fn.rows.kind (map named_cell (drop l.cell-index l.cells));
  built : l.rows.slots ++ values_in (map named_cell (drop l.cell-index l.cells)) ≡ values_in (map named_cell l.cells);
}
