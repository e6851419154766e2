use Rattle.std.proofs.Common.{◌≡◌, map, take}
use Rattle.std.specs.List.{range_with_len}
use Rattle.px_frame.specs.Frame.{series_at}
use Rattle.px_frame.proofs.frame.slice_columns.Given as goal

abbrev pub invariant-loop-column : goal.invariant-loop-column
invariant-loop-column l = l.slices.items ≡ map (series_at (range_with_len l.offset l.count)) (take l.column-index l.columns)
