-- What the planner makes of an expression.
use Rattle.std.specs.Prelude.{◌≡◌, ℕ, ◌+◌, ◌<◌, List, [], ◌∷◌, Option, Some, None, Result, Ok, length, map, fold, take}
use Rattle.px_column.specs.Prelude.{Refuses}
use Rattle.px_column.specs.Result.{◌>>=◌}
use Rattle.px_value.specs.declared.error.PxError.{PxError}
use Rattle.px_value.specs.declared.sort_options.SortOptions.{SortOptions}
use Rattle.px_arena.specs.Arena.{tree_at}
use Rattle.px_arena.specs.Named.{NamedNode}
use Rattle.px_tree.specs.Nodes.{leaf_names}
use Rattle.px_tree.specs.Tree.{Tree, Trees, Order, no_trees, one_tree, no_order, ordered}
use Rattle.px_tree.specs.Typing.{Scope, type_of}
use Rattle.px_tree.specs.declared.context.Context.{Context}
use Rattle.px_conversion.specs.Noted.{noted}
use Rattle.px_answers.specs.Parts.{under}
use Rattle.px_answers.specs.Planned.{Planned}
use Rattle.px_physical.specs.NodeView.{plan_of}
use Rattle.px_expr.specs.declared.planner.nodes.PlannedFunction.{PlannedFunction}
use Rattle.px_conversion.specs.declared.conversion.ExpressionConversionState.{ExpressionConversionState}

-- an expression whose column nodes were all planned over one schema
abbrev pub planned_over : Scope → Tree → Planned
planned_over scope e = record { tree = e; columns = map (λ n. record { name = n; schema = scope }) (leaf_names e) }

-- some expressions in their order, whose column nodes were all planned over one schema
abbrev pub all_planned_over : Scope → Trees → List Planned
all_planned_over scope no_trees = []
all_planned_over scope (one_tree t ts) = planned_over scope t ∷ all_planned_over scope ts

-- what rows are ordered by, if by any, whose column nodes were all planned over one schema
abbrev pub order_planned_over : Scope → Order → Option (Planned × SortOptions)
order_planned_over scope no_order = None
order_planned_over scope (ordered t options) = Some (planned_over scope t, options)

-- the node of a window's function, under the name of the window's result where one is given
abbrev pub function_of : PlannedFunction → Planned
function_of p = record (plan_of p.node) { tree = under p.out_name (plan_of p.node).tree }

-- the node of an expression, under a name if any, where it is not refused over the schema in its place
abbrev pub plan_in : Option (List ℕ) → Tree → Scope → Context → Result Planned PxError
plan_in name e scope place = type_of e scope place >>= λ k. Ok (planned_over scope (under name e))

-- a node that an arena has
abbrev pub IsPlannable : List Tree → NamedNode → Type 0
IsPlannable ts e = e.node.0 < length ts

-- the node of an expression in an arena
abbrev pub plan_at : List Tree → Scope → Context → NamedNode → Result Planned PxError
plan_at ts scope place e = plan_in e.alias (tree_at ts e.node) scope place

-- the nodes of some expressions in order, or the first refusal
abbrev pub plans_in : List NamedNode → List Tree → Scope → Context → Result (List Planned) PxError
plans_in [] ts scope place = Ok []
plans_in (e ∷ es) ts scope place = plan_at ts scope place e >>= λ p. plans_in es ts scope place >>= λ ps. Ok (p ∷ ps)

-- what is noted of an expression in an arena
abbrev pub noted_at : List Tree → ExpressionConversionState → NamedNode → ExpressionConversionState
noted_at ts s e = noted (tree_at ts e.node) s

-- what is noted of some expressions that were planned
abbrev pub all_noted : List Tree → ExpressionConversionState → List NamedNode → ExpressionConversionState
all_noted ts s es = fold (noted_at ts) s es

-- of some expressions a front was planned and noted, and the next one is refused, unless memory was wanting
pub record NotesFront (error : PxError) (ts : List Tree) (scope : Scope) (place : Context) (s : ExpressionConversionState) (es : List NamedNode) (new : ExpressionConversionState) : Type 0 where
  pub count : ℕ
  pub plans : List Planned
  pub planned : plans_in (take count es) ts scope place ≡ Ok plans
  pub refused : Refuses error (plans_in (take (count + 1) es) ts scope place)
  pub noted : new ≡ all_noted ts s (take count es)
