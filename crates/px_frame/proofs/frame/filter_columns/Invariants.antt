use Rattle.std.proofs.Common.{◌≡◌, map, take}
use Rattle.px_frame.specs.Frame.{kept_series}
use Rattle.px_frame.proofs.frame.filter_columns.Given as goal

abbrev pub invariant-loop-column : goal.invariant-loop-column
invariant-loop-column l = l.kept.items ≡ map (kept_series l.mask.slots) (take l.column-index l.columns)
