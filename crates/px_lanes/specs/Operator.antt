-- An operator on two contexts.
use Rattle.std.specs.Prelude.{◌&&◌, List, Result, length}
use Rattle.px_column.specs.Operator.{operator_kind}
use Rattle.px_value.specs.declared.error.PxError.{PxError}
use Rattle.px_value.specs.declared.operator.Operator.{Operator}
use Rattle.px_frame.specs.Spread.{NamedCell}
use Rattle.px_nodes.specs.Named.{binary_named}
use Rattle.px_context.specs.Context.{Context, cell_kind, has_units}
use Rattle.px_lanes.specs.Made.{IsMade, answers_of_two, named_cells}

-- what an operator answers group by group
abbrev pub operator_answers : Operator → Context → Context → List (Result NamedCell PxError)
operator_answers op a b = answers_of_two (binary_named op) (named_cells a) (named_cells b)

-- the context has those cells, under the left one's name and with the operator's type, and units where both have
abbrev pub IsOperated : Operator → Context → Context → Context → Type 0
IsOperated op a b c =
    IsMade (operator_answers op a b) a.values.name (operator_kind op (cell_kind a) (cell_kind b)) (has_units a.layout && has_units b.layout) (length a.groups.groups) c
