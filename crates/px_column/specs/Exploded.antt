-- What the lists of a column hold, one after another.
use Rattle.std.specs.Prelude.{◌^◌, nat_lt, Result, Ok, Err, length, if◌then◌else◌}
use Rattle.px_value.specs.Kind.{Kind, lists}
use Rattle.px_value.specs.Result.{◌>>=◌}
use Rattle.px_value.specs.Series.{Series}
use Rattle.px_value.specs.declared.error.PxError.{PxError}
use Rattle.px_value.specs.declared.error.PxError.TheVariants.{InvalidOperation, ComputeError}
use Rattle.px_value.specs.declared.error.InvalidWhy.TheVariants.{Types}
use Rattle.px_value.specs.declared.error.ComputeWhy.TheVariants.{TooLong}
use Rattle.px_operation.specs.Function.{exploded}

-- the type of a list's elements
abbrev pub element_kind : Kind → Result Kind PxError
element_kind (lists k) = Ok k
element_kind _ = Err (InvalidOperation Types)

-- the column of the elements of the lists; an empty list or a null gives one null
abbrev pub exploded_column : Series → Result Series PxError
exploded_column s = do
  k ← element_kind s.kind
  if nat_lt (length (exploded s.slots)) (2 ^ 32) then Ok (record { name = s.name; kind = k; slots = exploded s.slots }) else Err (ComputeError TooLong)
