-- Functions of some contexts.
use Rattle.std.specs.Prelude.{ℕ, Bool, false, List, [], ◌∷◌, Result, length, map}
use Rattle.std.specs.List.{list_all}
use Rattle.px_column.specs.Prelude.{Kind}
use Rattle.px_value.specs.declared.error.PxError.{PxError}
use Rattle.px_frame.specs.Spread.{NamedCell}
use Rattle.px_tree.specs.Shape.{is_unit_call}
use Rattle.px_tree.specs.Typing.{function_kind}
use Rattle.px_tree.specs.declared.function.FunctionExpr.{FunctionExpr}
use Rattle.px_nodes.specs.Named.{function_named}
use Rattle.px_context.specs.Context.{Context, cell_kind, has_units}
use Rattle.px_lanes.specs.Made.{IsMade}
use Rattle.px_group_nodes.specs.Many.{answers_of_many}

-- the name of the first of some contexts, empty without one
abbrev pub first_context_name : List Context → List ℕ
first_context_name [] = []
first_context_name (c ∷ cs) = c.values.name

-- the number of groups of the first of some contexts
abbrev pub first_count : List Context → ℕ
first_count [] = 0
first_count (c ∷ cs) = length c.groups.groups

-- whether the first of some contexts has units
abbrev pub has_first_units : List Context → Bool
has_first_units [] = false
has_first_units (c ∷ cs) = has_units c.layout

-- whether a function of some contexts has units
abbrev pub function_units : FunctionExpr → List Context → Bool
function_units f cs = is_unit_call f (has_first_units cs) (list_all (λ c. has_units c.layout) cs)

-- what a function answers group by group
abbrev pub function_answers : FunctionExpr → List Context → List (Result NamedCell PxError)
function_answers f cs = answers_of_many (function_named f) (first_count cs) cs

-- the type of a function of the contexts' cells
abbrev pub function_type : FunctionExpr → List Context → Result Kind PxError
function_type f cs = function_kind f (map cell_kind cs)

-- the context has those cells, under the first one's name and with the function's type and shape
abbrev pub IsApplied : FunctionExpr → List Context → Context → Type 0
IsApplied f cs m = IsMade (function_answers f cs) (first_context_name cs) (function_type f cs) (function_units f cs) (first_count cs) m
