use Rattle.std.proofs.Common.{take}
use Rattle.px_column.proofs.column.Column.state.Given as goal

abbrev pub invariant-loop-index : goal.invariant-loop-index
invariant-loop-index g l = g.R.Reduce.stands_for l.state l.self.kind (take l.index l.self.slots)
