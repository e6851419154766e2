use Rattle.std.proofs.Common.{◌≡◌, ◌++◌, drop}
use Rattle.px_frame.specs.Frame.{subframe}
use Rattle.px_vectors.proofs.plain_step.rows_of_each.Given as goal

abbrev pub invariant-loop-column : goal.invariant-loop-column
invariant-loop-column l = subframe l.columns l.rows ≡ l.copies.items ++ subframe (drop l.column-index l.columns) l.rows
