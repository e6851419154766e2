-- A node of one input, group by group.
use Rattle.std.specs.Prelude.{List, Result, map}
use Rattle.px_value.specs.declared.error.PxError.{PxError}
use Rattle.px_frame.specs.Spread.{NamedCell}

-- what a node of one input answers, group by group
abbrev pub answers_of_one : (NamedCell → Result NamedCell PxError) → List NamedCell → List (Result NamedCell PxError)
answers_of_one node xs = map node xs
