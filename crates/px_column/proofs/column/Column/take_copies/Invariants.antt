use Rattle.std.proofs.Common.{◌≡◌, map, take}
use Rattle.px_column.specs.Column.{taken_at}
use Rattle.px_column.proofs.column.Column.take_copies.Given as goal

abbrev pub invariant-loop-index : goal.invariant-loop-index
invariant-loop-index l = l.rows ≡ record { name = l.self.name; kind = l.self.kind; slots = map (taken_at l.self.slots) (take l.index-index l.indices) }
