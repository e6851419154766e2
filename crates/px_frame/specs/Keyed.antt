-- Rows and their keys.
use Rattle.std.specs.Prelude.{◌≡◌, ℕ, ◌<◌, List}
use Rattle.std.specs.List.{Contains}
use Rattle.px_column.specs.Key.{key_at}
use Rattle.px_column.specs.Prelude.{Series}

-- the columns hold the same at any two of the rows
abbrev pub HasOneKey : List Series → List ℕ → Type 0
HasOneKey by rows = (q r : ℕ) → Contains rows q → Contains rows r → key_at by q ≡ key_at by r

-- of the first n rows, one at which the columns hold what they hold at one of these is one of these
abbrev pub HasWholeKey : List Series → ℕ → List ℕ → Type 0
HasWholeKey by n rows = (q r : ℕ) → Contains rows q → r < n → key_at by q ≡ key_at by r → Contains rows r
