use Rattle.std.proofs.Common.{◌≡◌, ◌++◌, drop}
use Rattle.px_frame.specs.Groups.{rows_of}
use Rattle.px_window.specs.Places.{numbers_from}
use Rattle.px_window.proofs.places.joined_numbers.Given as goal

abbrev pub invariant-loop-index : goal.invariant-loop-index
invariant-loop-index l = l.numbers.items ++ numbers_from l.index (drop l.index (rows_of l.parts)) ≡ numbers_from 0 (rows_of l.parts)
