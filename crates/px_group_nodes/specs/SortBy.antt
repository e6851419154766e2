-- Rows in the order of some keys, on contexts.
use Rattle.std.specs.Prelude.{false, List, [], ◌∷◌, Result, Ok, Err, length, map, if◌then◌else◌}
use Rattle.std.specs.List.{list_any}
use Rattle.px_column.specs.Prelude.{Kind, is_list_kind}
use Rattle.px_value.specs.declared.error.InvalidWhy.TheVariants.{ListKey, Types}
use Rattle.px_value.specs.declared.error.PxError.{PxError}
use Rattle.px_value.specs.declared.error.PxError.TheVariants.{InvalidOperation}
use Rattle.px_value.specs.declared.sort_options.SortMultipleOptions.{SortMultipleOptions}
use Rattle.px_frame.specs.Spread.{NamedCell}
use Rattle.px_nodes.specs.Named.{sort_by_named}
use Rattle.px_context.specs.Context.{Context, cell_kind}
use Rattle.px_lanes.specs.Made.{IsMade}
use Rattle.px_group_nodes.specs.Many.{answers_of_many}

-- the rows of the first cell in the order of the others
abbrev pub sort_first : SortMultipleOptions → List NamedCell → Result NamedCell PxError
sort_first options [] = Err (InvalidOperation Types)
sort_first options (c ∷ by) = sort_by_named options c by

-- what that answers group by group
abbrev pub sort_by_answers : SortMultipleOptions → Context → List Context → List (Result NamedCell PxError)
sort_by_answers options c by = answers_of_many (sort_first options) (length c.groups.groups) (c ∷ by)

-- the type of the rows, where no key has lists
abbrev pub sort_by_kind : Context → List Context → Result Kind PxError
sort_by_kind c by = if list_any is_list_kind (map cell_kind by) then Err (InvalidOperation ListKey) else Ok (cell_kind c)

-- the context has those cells, under the input's name and with its type, as lists
abbrev pub IsSortedBy : SortMultipleOptions → Context → List Context → Context → Type 0
IsSortedBy options c by m = IsMade (sort_by_answers options c by) c.values.name (sort_by_kind c by) false (length c.groups.groups) m
