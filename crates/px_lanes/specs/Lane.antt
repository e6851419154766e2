-- Contexts that read all their cells from one cell: a unit literal, and the rows of an untouched one at its groups.
use Rattle.std.specs.Prelude.{Bool, true, ◌||◌, if◌then◌else◌}
use Rattle.px_frame.specs.Cell.{is_unit_cell}
use Rattle.px_frame.specs.Spread.{NamedCell, column_of_cell}
use Rattle.px_nodes.specs.Named.{column_cell}
use Rattle.px_context.specs.Built.{is_unit_literal, with_flat, with_lit}
use Rattle.px_context.specs.Context.{Context}

-- a unit literal, or untouched
abbrev pub has_lane : Context → Bool
has_lane c = is_unit_literal c.layout || c.untouched

-- the cell from which it reads
abbrev pub lane_of : Context → NamedCell
lane_of c = column_cell (is_unit_literal c.layout) c.values

-- a context that reads from another cell: a unit literal, or else rows
abbrev pub with_lane : Context → NamedCell → Context
with_lane c m = if is_unit_cell m.cell then with_lit true c (column_of_cell m) else with_flat c (column_of_cell m)

-- the first of two contexts where it is untouched, else the second
abbrev pub untouched_of : Context → Context → Context
untouched_of a b = if a.untouched then a else b
