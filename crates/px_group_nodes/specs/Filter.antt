-- The rows of a context that a mask keeps.
use Rattle.std.specs.Prelude.{false, List, Result, Ok, Err, length, if◌then◌else◌}
use Rattle.px_column.specs.Operator.{is_boolean_kind}
use Rattle.px_column.specs.Prelude.{Kind}
use Rattle.px_value.specs.declared.error.PxError.{PxError}
use Rattle.px_value.specs.declared.error.PxError.TheVariants.{SchemaMismatch}
use Rattle.px_frame.specs.Spread.{NamedCell}
use Rattle.px_nodes.specs.Named.{filter_named}
use Rattle.px_context.specs.Context.{Context, cell_kind}
use Rattle.px_lanes.specs.Made.{IsMade, answers_of_two, named_cells}

-- what a filter answers group by group
abbrev pub filter_answers : Context → Context → List (Result NamedCell PxError)
filter_answers a by = answers_of_two filter_named (named_cells a) (named_cells by)

-- the type of the rows that are kept, where the mask has truths
abbrev pub filtered_kind : Context → Context → Result Kind PxError
filtered_kind a by = if is_boolean_kind (cell_kind by) then Ok (cell_kind a) else Err SchemaMismatch

-- the context has the rows that are kept, as lists, under the input's name and with its type
abbrev pub IsFiltered : Context → Context → Context → Type 0
IsFiltered a by c = IsMade (filter_answers a by) a.values.name (filtered_kind a by) false (length a.groups.groups) c
