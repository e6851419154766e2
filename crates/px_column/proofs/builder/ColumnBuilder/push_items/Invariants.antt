use Rattle.std.proofs.Common.{◌≡◌, ◌++◌, take}
use Rattle.px_column.proofs.builder.ColumnBuilder.push_items.Given as goal

abbrev pub invariant-loop-index : goal.invariant-loop-index
invariant-loop-index l = l.self ≡ record l.fn.self { slots = l.fn.self.slots ++ take l.index l.values }
