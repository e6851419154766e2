use Rattle.std.proofs.Common.{take}
use Rattle.px_value.specs.KindView.{kind_of}
use Rattle.px_value.specs.View.{slots_of}
use Rattle.px_operation.proofs.reductions.rows.state_of.Given as goal

abbrev pub invariant-loop-row : goal.invariant-loop-row
invariant-loop-row g l = g.R.Reduce.stands_for l.state (kind_of l.dtype) (slots_of (take l.row-index l.rows))
