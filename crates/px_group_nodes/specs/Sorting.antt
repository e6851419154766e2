-- The rows of a context's cells in the order of their values.
use Rattle.std.specs.Prelude.{false, List, Result, Ok, Err, length, if◌then◌else◌}
use Rattle.px_column.specs.Prelude.{Kind, is_list_kind}
use Rattle.px_value.specs.declared.error.InvalidWhy.TheVariants.{ListKey}
use Rattle.px_value.specs.declared.error.PxError.{PxError}
use Rattle.px_value.specs.declared.error.PxError.TheVariants.{InvalidOperation}
use Rattle.px_value.specs.declared.sort_options.SortOptions.{SortOptions}
use Rattle.px_frame.specs.Spread.{NamedCell}
use Rattle.px_nodes.specs.Named.{sort_named}
use Rattle.px_context.specs.Context.{Context, cell_kind}
use Rattle.px_lanes.specs.Made.{IsMade, named_cells}
use Rattle.px_lanes.specs.One.{answers_of_one}

-- the type of sorted values; lists have no order
abbrev pub sorted_kind : Kind → Result Kind PxError
sorted_kind k = if is_list_kind k then Err (InvalidOperation ListKey) else Ok k

-- what a sort answers group by group
abbrev pub sort_answers : SortOptions → Context → List (Result NamedCell PxError)
sort_answers options a = answers_of_one (sort_named options) (named_cells a)

-- the context has those cells as lists, under the name and with the type of the one that was sorted
abbrev pub IsSorted : SortOptions → Context → Context → Type 0
IsSorted options a c = IsMade (sort_answers options a) a.values.name (sorted_kind (cell_kind a)) false (length a.groups.groups) c
