-- The columns of literals.
use Rattle.std.specs.Prelude.{◌^◌, ℤ, ◌-ℤ◌, ◌&&◌, nat_lt, codes, [], ◌∷◌, Option, Some, None, Result, Ok, Err, if◌then◌else◌}
use Rattle.px_column.specs.Prelude.{integer, Kind, fits, Series}
use Rattle.px_value.specs.declared.error.PxError.{PxError}
use Rattle.px_value.specs.declared.error.PxError.TheVariants.{InvalidOperation, ComputeError}
use Rattle.px_value.specs.declared.error.InvalidWhy.TheVariants.{RangeType}
use Rattle.px_value.specs.declared.error.ComputeWhy.TheVariants.{RangeBound, TooLong}
use Rattle.px_tree.specs.Node.{integers, natural}
use Rattle.px_tree.specs.Tree.{Literal, single, range, series}
use Rattle.px_tree.specs.Typing.{is_range_kind}

-- a single value as one row, or a column of its own; a range has no rows yet
abbrev pub kept_column : Literal → Option Series
kept_column (single k s) = Some (record { name = codes "literal"; kind = k; slots = s ∷ [] })
kept_column (range low high k) = None
kept_column (series s) = Some s

-- the integers of a range under the name of literals
abbrev pub range_series : ℤ → ℤ → Kind → Series
range_series low high k = record { name = codes "literal"; kind = k; slots = integers low high }

-- a range as a column: of three types, both bounds in the type, and fewer than 2^32 integers
abbrev pub range_column : ℤ → ℤ → Kind → Result Series PxError
range_column low high k =
    if is_range_kind k then
    (if fits k (integer low) && fits k (integer high) then
    (if nat_lt (natural (high -ℤ low)) (2 ^ 32) then Ok (range_series low high k)
    else Err (ComputeError TooLong))
    else Err (ComputeError RangeBound))
    else Err (InvalidOperation RangeType)

-- the column of a literal
abbrev pub literal_column : Literal → Result Series PxError
literal_column (single k s) = Ok (record { name = codes "literal"; kind = k; slots = s ∷ [] })
literal_column (range low high k) = range_column low high k
literal_column (series s) = Ok s
