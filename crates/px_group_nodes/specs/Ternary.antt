-- A ternary on three contexts.
use Rattle.std.specs.Prelude.{◌&&◌, List, Result, Err, length, if◌then◌else◌}
use Rattle.px_column.specs.Operator.{is_boolean_kind, kind_where}
use Rattle.px_column.specs.Prelude.{Kind, kind_eq}
use Rattle.px_value.specs.declared.error.PxError.{PxError}
use Rattle.px_value.specs.declared.error.PxError.TheVariants.{SchemaMismatch}
use Rattle.px_frame.specs.Spread.{NamedCell}
use Rattle.px_nodes.specs.Named.{ternary_named}
use Rattle.px_context.specs.Context.{Context, cell_kind, has_units}
use Rattle.px_lanes.specs.Made.{IsMade, named_cells}
use Rattle.px_group_nodes.specs.Three.{answers_of_three}

-- the type of a ternary: that of its branches, where these have one and the predicate has truths
abbrev pub ternary_kind : Kind → Kind → Kind → Result Kind PxError
ternary_kind p a b = if is_boolean_kind p then kind_where (kind_eq a b) a else Err SchemaMismatch

-- what a ternary answers group by group
abbrev pub ternary_answers : Context → Context → Context → List (Result NamedCell PxError)
ternary_answers p a b = answers_of_three ternary_named (named_cells p) (named_cells a) (named_cells b)

-- the context has those cells, under the first branch's name and with the ternary's type, and units where all three have
abbrev pub IsTernary : Context → Context → Context → Context → Type 0
IsTernary p a b c =
    IsMade (ternary_answers p a b) a.values.name (ternary_kind (cell_kind p) (cell_kind a) (cell_kind b)) (has_units p.layout && (has_units a.layout && has_units b.layout)) (length p.groups.groups) c
