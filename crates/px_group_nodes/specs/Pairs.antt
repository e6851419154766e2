-- What the answers of a node of two inputs have in common.
use Rattle.std.specs.Prelude.{◌≡◌, ℕ, Bool, List, Result, Ok, map}
use Rattle.px_column.specs.Prelude.{Kind}
use Rattle.px_value.specs.declared.error.PxError.{PxError}
use Rattle.px_frame.specs.Spread.{NamedCell}
use Rattle.px_lanes.specs.Alike.{AreLike}

-- where none of them is a refusal, they are cells of this name, type and shape
abbrev pub AnswersAlike : List (Result NamedCell PxError) → List ℕ → Kind → Bool → Type 0
AnswersAlike answers name kind one = (cs : List NamedCell) → answers ≡ map Ok cs → AreLike name kind one cs
