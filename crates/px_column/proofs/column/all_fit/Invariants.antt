use Rattle.std.proofs.Common.{◌≡◌, drop}
use Rattle.px_value.specs.Kind.{slots_fit}
use Rattle.px_value.specs.KindView.{kind_of}
use Rattle.px_value.specs.View.{slots_of}
use Rattle.px_column.proofs.column.all_fit.Given as goal

abbrev pub invariant-loop-row : goal.invariant-loop-row
invariant-loop-row l = slots_fit (kind_of l.dtype) (slots_of l.rows) ≡ slots_fit (kind_of l.dtype) (slots_of (drop l.row-index l.rows))
