use Rattle.std.proofs.Common.{◌≡◌, ◌++◌, drop}
use Rattle.std.specs.List.{concat}
use Rattle.px_frame.specs.Groups.{rows_of}
use Rattle.px_window.proofs.places.joined_rows.Given as goal

abbrev pub invariant-loop-index : goal.invariant-loop-index
invariant-loop-index l = l.rows.items ++ concat (drop l.index (rows_of l.parts)) ≡ concat (rows_of l.parts)
