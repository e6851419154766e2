use Rattle.std.proofs.Common.{◌≡◌, map, take}
use Rattle.px_operation.specs.Function.{in_slot}
use Rattle.px_column.proofs.column.Column.member_rows.Given as goal

abbrev pub invariant-loop-row : goal.invariant-loop-row
invariant-loop-row l = l.rows ≡ record l.fn.rows { slots = take l.row (map (in_slot l.among.slots) l.self.slots) }
