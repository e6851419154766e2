-- A cast of a context.
use Rattle.std.specs.Prelude.{Bool, true, false, List, Result, length}
use Rattle.px_column.specs.Cast.{cast_kind}
use Rattle.px_column.specs.Prelude.{Kind}
use Rattle.px_value.specs.declared.cast_options.CastOptions.{CastOptions}
use Rattle.px_value.specs.declared.cast_options.CastOptions.TheVariants.{Strict}
use Rattle.px_value.specs.declared.error.PxError.{PxError}
use Rattle.px_frame.specs.Spread.{NamedCell}
use Rattle.px_nodes.specs.Named.{cast_named}
use Rattle.px_context.specs.Context.{Context, cell_kind, has_units}
use Rattle.px_lanes.specs.Made.{IsMade, named_cells}
use Rattle.px_lanes.specs.One.{answers_of_one}

-- whether a cast is refused where it loses a value
abbrev pub is_strict : CastOptions → Bool
is_strict Strict = true
is_strict _ = false

-- what a cast answers group by group
abbrev pub cast_answers : Kind → CastOptions → Context → List (Result NamedCell PxError)
cast_answers to options a = answers_of_one (cast_named to options) (named_cells a)

-- the context has those cells, under the name of the one that was cast and with the type of the cast, and units where that has
abbrev pub IsCast : Kind → CastOptions → Context → Context → Type 0
IsCast to options a c =
    IsMade (cast_answers to options a) a.values.name (cast_kind (cell_kind a) to) (has_units a.layout) (length a.groups.groups) c
