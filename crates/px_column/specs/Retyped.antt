-- A column in another type.
use Rattle.std.specs.Prelude.{Result, Ok}
use Rattle.px_value.specs.Kind.{Kind}
use Rattle.px_value.specs.Result.{◌>>=◌}
use Rattle.px_value.specs.Series.{Series}
use Rattle.px_value.specs.declared.cast_options.CastOptions.{CastOptions}
use Rattle.px_value.specs.declared.error.PxError.{PxError}
use Rattle.px_operation.specs.Cast.{cast_kind, cast_slots}

-- the rows of a column in another type under its name, or the first that is refused
abbrev pub cast_rows : Kind → CastOptions → Series → Result Series PxError
cast_rows to options s = do
  ys ← cast_slots s.kind to options s.slots
  Ok (record { name = s.name; kind = to; slots = ys })

-- a column in another type: the refusal of the type comes before that of a row
abbrev pub cast_column : Kind → CastOptions → Series → Result Series PxError
cast_column to options s = do
  k ← cast_kind s.kind to
  cast_rows k options s
