-- Rows of one column or another, as a mask says.
use Rattle.std.specs.Prelude.{true, Some, Result, Ok, Err, length, if◌then◌else◌}
use Rattle.px_value.specs.Datum.{boolean, Slot}
use Rattle.px_value.specs.Kind.{kind_eq}
use Rattle.px_value.specs.Result.{◌>>=◌}
use Rattle.px_value.specs.Series.{Series}
use Rattle.px_value.specs.declared.error.PxError.{PxError}
use Rattle.px_value.specs.declared.error.PxError.TheVariants.{SchemaMismatch}
use Rattle.px_operation.specs.Operator.{is_boolean_kind, kind_where}
use Rattle.px_column.specs.Beside.{length_of_three, rows_to, zipped_three}
use Rattle.px_column.specs.Rows.{with_rows}

-- the first where the mask is true, else the second
abbrev pub chosen : Slot → Slot → Slot → Slot
chosen (Some (boolean true)) a b = a
chosen p a b = b

-- row by row one column's value or the other's; a single row stands for each
abbrev pub chosen_column : Series → Series → Series → Result Series PxError
chosen_column mask a b =
    if is_boolean_kind mask.kind then
    (do
      k ← kind_where (kind_eq a.kind b.kind) a.kind
      n ← length_of_three (length mask.slots) (length a.slots) (length b.slots)
      Ok (with_rows a (zipped_three chosen (rows_to n mask.slots) (rows_to n a.slots) (rows_to n b.slots))))
    else Err SchemaMismatch
