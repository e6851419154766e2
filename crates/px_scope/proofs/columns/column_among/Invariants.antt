use Rattle.std.proofs.Common.{◌≡◌}
use Rattle.px_frame.specs.Frame.{look}
use Rattle.px_scope.proofs.Externals.{columns_from}
use Rattle.px_scope.proofs.columns.column_among.Given as goal

abbrev pub invariant-loop-frame : goal.invariant-loop-frame
invariant-loop-frame l = look l.name (columns_from l.frames 0) ≡ look l.name (columns_from l.frames l.frame-index)
