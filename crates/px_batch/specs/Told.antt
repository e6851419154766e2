-- What is written for a line of the input.
use Rattle.std.specs.Prelude.{◌≡◌, ℕ, List, [], ◌∷◌, ◌++◌, Some}
use Rattle.std.specs.Fmt.{decimal}
use Rattle.px_steps.specs.Run.{Ends, number_of}
use Rattle.px_steps.specs.declared.status.Status.{Status}

-- the number of a status with which a run over these bytes ends, as a line, and then the text that this run wrote
pub record IsTold (bytes told : List ℕ) : Type 0 where
  pub status : Status
  pub left : List ℕ
  pub text : List ℕ
  pub ends : Ends status bytes (Some left) (Some []) (Some text)
  pub all : told ≡ (decimal (number_of status) ++ 10 ∷ []) ++ text
