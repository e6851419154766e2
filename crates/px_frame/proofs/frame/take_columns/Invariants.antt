use Rattle.std.proofs.Common.{◌≡◌, map, take}
use Rattle.px_frame.specs.Frame.{taken_series}
use Rattle.px_frame.proofs.frame.take_columns.Given as goal

abbrev pub invariant-loop-column : goal.invariant-loop-column
invariant-loop-column l = l.taken.items ≡ map (taken_series l.indices) (take l.column-index l.columns)
