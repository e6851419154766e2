-- What a cell of the program stands for: its name, its type, and one value or the rows of a column.
use Rattle.px_column.specs.Prelude.{Series, slot_at}
use Rattle.px_frame.specs.Cell.{unit, rows}
use Rattle.px_frame.specs.Spread.{NamedCell}
use Rattle.px_frame.specs.declared.cell.Cell.{Cell}
use Rattle.px_frame.specs.declared.cell.Cell.TheVariants.{Unit as Single, Rows}

-- a column's first row, as a unit
abbrev pub unit_cell : Series → NamedCell
unit_cell s = record { name = s.name; kind = s.kind; cell = unit (slot_at s.slots 0) }

-- a column's rows, as a list
abbrev pub rows_cell : Series → NamedCell
rows_cell s = record { name = s.name; kind = s.kind; cell = rows s.slots }

-- what a cell of the program stands for
abbrev pub named_cell : Cell → NamedCell
named_cell (Single s) = unit_cell s
named_cell (Rows s) = rows_cell s
