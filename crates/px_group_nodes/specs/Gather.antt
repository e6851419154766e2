-- The rows of a context that indices name.
use Rattle.std.specs.Prelude.{Bool, not, ◌&&◌, List, Result, Ok, Err, length, if◌then◌else◌}
use Rattle.px_column.specs.Operator.{is_integer_kind}
use Rattle.px_column.specs.Prelude.{Kind}
use Rattle.px_value.specs.declared.error.ComputeWhy.TheVariants.{SingleIndex}
use Rattle.px_value.specs.declared.error.InvalidWhy.TheVariants.{Types}
use Rattle.px_value.specs.declared.error.PxError.{PxError}
use Rattle.px_value.specs.declared.error.PxError.TheVariants.{ComputeError, InvalidOperation}
use Rattle.px_frame.specs.Spread.{NamedCell}
use Rattle.px_nodes.specs.Named.{gather_named}
use Rattle.px_context.specs.Context.{Context, cell_kind, has_units}
use Rattle.px_lanes.specs.Made.{IsMade, answers_of_two, named_cells}

-- what the rows that indices name are, group by group
abbrev pub gather_answers : Bool → Bool → Context → Context → List (Result NamedCell PxError)
gather_answers one idx_is_literal a idx = answers_of_two (gather_named one idx_is_literal) (named_cells a) (named_cells idx)

-- the type of these rows, where the indices are integers, and units where one row is asked for
abbrev pub gathered_kind : Bool → Context → Context → Result Kind PxError
gathered_kind one a idx =
    if is_integer_kind (cell_kind idx) then
    (if one && not (has_units idx.layout) then Err (ComputeError SingleIndex) else Ok (cell_kind a))
    else Err (InvalidOperation Types)

-- the context has these rows under the input's name and with its type: units where one row is asked for, else lists
abbrev pub IsGathered : Bool → Bool → Context → Context → Context → Type 0
IsGathered one idx_is_literal a idx c =
    IsMade (gather_answers one idx_is_literal a idx) a.values.name (gathered_kind one a idx) one (length a.groups.groups) c
