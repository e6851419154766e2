-- The columns of literals on groups.
use Rattle.std.specs.Prelude.{ℕ, zero, ℤ, pos, Result}
use Rattle.px_column.specs.Prelude.{Series}
use Rattle.px_value.specs.declared.error.PxError.{PxError}
use Rattle.px_tree.specs.Tree.{Literal, range}
use Rattle.px_answers.specs.Literal.{literal_column, range_column}

-- the column of a literal on n groups: with no group a range has no integers, and is refused for its type alone
abbrev pub group_literal_column : Literal → ℕ → Result Series PxError
group_literal_column (range low high k) zero = range_column (pos 0) (pos 0) k
group_literal_column v n = literal_column v
