-- Values that are compared with others: the types, and whether they lie between two ends.
use Rattle.std.specs.Prelude.{not, List, [], ◌∷◌, Result, Ok, Err, length, if◌then◌else◌}
use Rattle.std.specs.List.{list_any}
use Rattle.px_value.specs.Kind.{Kind, booleans, kind_eq, is_list_kind}
use Rattle.px_value.specs.Result.{◌>>=◌}
use Rattle.px_value.specs.Series.{Series}
use Rattle.px_value.specs.declared.closed_interval.ClosedInterval.{ClosedInterval}
use Rattle.px_value.specs.declared.error.PxError.{PxError}
use Rattle.px_value.specs.declared.error.PxError.TheVariants.{InvalidOperation}
use Rattle.px_value.specs.declared.error.InvalidWhy.TheVariants.{ListKey}
use Rattle.px_operation.specs.Function.{between_slot}
use Rattle.px_operation.specs.Operator.{kind_where}
use Rattle.px_column.specs.Beside.{length_of_three, rows_to, zipped_three}

-- values of one type compared with others of it; lists are not compared
abbrev pub compared_kind : Kind → List Kind → Result Kind PxError
compared_kind k ks = if list_any is_list_kind (k ∷ ks) then Err (InvalidOperation ListKey) else kind_where (not (list_any (λ j. not (kind_eq k j)) ks)) booleans

-- whether each row lies between those of a low and a high column; a single row stands for each
abbrev pub between_column : ClosedInterval → Series → Series → Series → Result Series PxError
between_column closed s low high = do
  k ← compared_kind s.kind (low.kind ∷ high.kind ∷ [])
  n ← length_of_three (length s.slots) (length low.slots) (length high.slots)
  Ok (record { name = s.name; kind = k; slots = zipped_three (between_slot s.kind closed) (rows_to n s.slots) (rows_to n low.slots) (rows_to n high.slots) })
