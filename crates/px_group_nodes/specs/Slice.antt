-- A slice of three contexts.
use Rattle.std.specs.Prelude.{◌&&◌, false, List, Result, Ok, Err, length, if◌then◌else◌}
use Rattle.px_column.specs.Prelude.{Kind}
use Rattle.px_value.specs.declared.error.InvalidWhy.TheVariants.{Types}
use Rattle.px_value.specs.declared.error.PxError.{PxError}
use Rattle.px_value.specs.declared.error.PxError.TheVariants.{InvalidOperation}
use Rattle.px_frame.specs.Spread.{NamedCell}
use Rattle.px_tree.specs.Typing.{is_integer_or_null}
use Rattle.px_nodes.specs.Named.{slice_named}
use Rattle.px_context.specs.Context.{Context, cell_kind}
use Rattle.px_lanes.specs.Made.{IsMade, named_cells}
use Rattle.px_group_nodes.specs.Three.{answers_of_three}

-- the type of a slice: the input's, where the offset and the length are of integers or nulls
abbrev pub slice_kind : Kind → Kind → Kind → Result Kind PxError
slice_kind input offset length =
    if is_integer_or_null offset && is_integer_or_null length then Ok input else Err (InvalidOperation Types)

-- what a slice answers group by group
abbrev pub slice_answers : Context → Context → Context → List (Result NamedCell PxError)
slice_answers input offset length = answers_of_three slice_named (named_cells input) (named_cells offset) (named_cells length)

-- the context has those cells, under the input's name and with its type, as lists
abbrev pub IsSliced : Context → Context → Context → Context → Type 0
IsSliced input offset limit c =
    IsMade (slice_answers input offset limit) input.values.name (slice_kind (cell_kind input) (cell_kind offset) (cell_kind limit)) false (length input.groups.groups) c
