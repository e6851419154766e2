-- Which rows of a column stand in another.
use Rattle.std.specs.Prelude.{[], ◌∷◌, map, Result, Ok}
use Rattle.px_value.specs.Result.{◌>>=◌}
use Rattle.px_value.specs.Series.{Series}
use Rattle.px_value.specs.declared.error.PxError.{PxError}
use Rattle.px_operation.specs.Function.{in_slot}
use Rattle.px_column.specs.Interval.{compared_kind}

-- whether each row is one of another column's; null for a null
abbrev pub member_column : Series → Series → Result Series PxError
member_column s among = do
  k ← compared_kind s.kind (among.kind ∷ [])
  Ok (record { name = s.name; kind = k; slots = map (in_slot among.slots) s.slots })
