use Rattle.std.proofs.Common.{◌≡◌, take}
use Rattle.px_column.specs.Beside.{rows_to, zipped_three}
use Rattle.px_column.specs.Chosen.{chosen}
use Rattle.px_column.proofs.column.Column.chosen_rows.Given as goal

abbrev pub invariant-loop-row : goal.invariant-loop-row
invariant-loop-row l = l.rows ≡ record l.self { slots = take l.row (zipped_three chosen (rows_to l.len l.mask.slots) (rows_to l.len l.self.slots) (rows_to l.len l.other.slots)) }
