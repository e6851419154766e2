use Rattle.std.proofs.Common.{◌≡◌, drop}
use Rattle.px_frame.specs.Frame.{all_have_height}
use Rattle.px_frame.proofs.frame.all_have_height.Given as goal

abbrev pub invariant-loop-column : goal.invariant-loop-column
invariant-loop-column l = all_have_height l.height l.columns ≡ all_have_height l.height (drop l.column-index l.columns)
