-- What an operator makes of two columns side by side.
use Rattle.std.specs.Prelude.{ℕ, List, Result, Ok, Err, length, if◌then◌else◌}
use Rattle.px_value.specs.Datum.{Slot}
use Rattle.px_value.specs.Result.{◌>>=◌}
use Rattle.px_value.specs.Series.{Series}
use Rattle.px_value.specs.declared.error.PxError.{PxError}
use Rattle.px_value.specs.declared.error.PxError.TheVariants.{InvalidOperation}
use Rattle.px_value.specs.declared.error.InvalidWhy.TheVariants.{Types}
use Rattle.px_value.specs.declared.operator.Operator.{Operator}
use Rattle.px_value.specs.declared.operator.Operator.TheVariants.{Plus}
use Rattle.px_operation.specs.Operator.{is_integer_kind, is_string_kind, operator_kind, operated}
use Rattle.px_column.specs.Beside.{common_length, rows_to, zipped}

-- row by row what an operator makes of two columns, of which each has n rows or a single one
abbrev pub operated_rows : Operator → Series → Series → ℕ → List Slot
operated_rows op a b n = zipped (operated a.kind op) (rows_to n a.slots) (rows_to n b.slots)

-- the column of an operator on two columns: its type or why there is none, then its length, and the left one's name
abbrev pub operated_column : Operator → Series → Series → Result Series PxError
operated_column op a b = do
  k ← operator_kind op a.kind b.kind
  n ← common_length (length a.slots) (length b.slots)
  Ok (record { name = a.name; kind = k; slots = operated_rows op a b n })

-- arithmetic on two columns, where the left one is of a type of integers
abbrev pub arithmetic_column : Operator → Series → Series → Result Series PxError
arithmetic_column op a b = if is_integer_kind a.kind then operated_column op a b else Err (InvalidOperation Types)

-- the texts of two columns put together, where the left one is of texts
abbrev pub appended_column : Series → Series → Result Series PxError
appended_column a b = if is_string_kind a.kind then operated_column Plus a b else Err (InvalidOperation Types)
