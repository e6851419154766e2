-- What is found of expressions that are not refused: what they mean, or a fault, or too many values.
use Rattle.std.specs.Prelude.{◌≡◌, ◌⊎◌, ℕ, ◌^◌, ◌≤◌, Bool, ◌&&◌, not, List, [], ◌∷◌, ◌++◌, Option, Some, Result, Ok, Err, map}
use Rattle.std.specs.List.{flat_map}
use Rattle.std.specs.Option.{option_map_or}
use Rattle.px_column.specs.Prelude.{Series}
use Rattle.px_column.specs.Operator.{is_boolean_kind}
use Rattle.px_value.specs.declared.error.PxError.{PxError}
use Rattle.px_value.specs.declared.error.PxError.TheVariants.{ComputeError, Duplicate, InvalidOperation, SchemaMismatch, ShapeMismatch, OutOfMemory}
use Rattle.px_value.specs.declared.error.InvalidWhy.TheVariants.{ListKey}
use Rattle.px_value.specs.declared.error.ComputeWhy.TheVariants.{TooLong}
use Rattle.px_expr.specs.NodeView.{plan_of}
use Rattle.px_expr.specs.Plan.{planned_over}
use Rattle.px_physical.specs.declared.phys_expr.PhysExpr.{PhysExpr}
use Rattle.px_answers.specs.Planned.{Planned}
use Rattle.px_answers.specs.Value.{IsOneOf}
use Rattle.px_frame.specs.External.{Frame, rows_of_frame, scope_of}
use Rattle.px_frame.specs.Frame.{first_repeat, has_height, height_of}
use Rattle.px_frame.specs.Groups.{is_list}
use Rattle.px_tree.specs.Shape.{name_of}
use Rattle.px_tree.specs.Tree.{Tree}
use Rattle.px_tree.specs.Typing.{Scope, fails, kind_in, not_list, refusals_of, refused_where}
use Rattle.px_tree.specs.Value.{faults_on, has_misfit, value_on}
use Rattle.px_tree.specs.declared.context.Context.{Context}
use Rattle.px_tree.specs.declared.context.Context.TheVariants.{Aggregation, Default}
use Rattle.px_steps.specs.Plain.{height_fault, no_key_refusal, repeat_refusal}
use Rattle.px_steps.specs.declared.group_step.GroupNodes.{GroupNodes}

-- memory was wanting, or one of some faults stands, or so many values are too many
abbrev pub Lacks : PxError → List PxError → ℕ → Type 0
Lacks e faults n = (e ≡ OutOfMemory) ⊎ (IsOneOf e faults ⊎ ((e ≡ ComputeError TooLong) × (2 ^ 32 ≤ n)))

-- there is no fault, and what was found, seen by view, is what is meant; or why nothing was found, among so many values
abbrev pub FindsBy : {X Y : Type 0} → (X → Y) → Result X PxError → Option Y → List PxError → ℕ → Type 0
FindsBy view (Ok x) meant faults n = (faults ≡ []) × (meant ≡ Some (view x))
FindsBy view (Err e) meant faults n = Lacks e faults n

-- the same, where what was found is its own view
abbrev pub Finds : {X : Type 0} → Result X PxError → Option X → List PxError → ℕ → Type 0
Finds (Ok x) meant faults n = (faults ≡ []) × (meant ≡ Some x)
Finds (Err e) meant faults n = Lacks e faults n

-- an expression that is planned over a frame's names and types, and not refused there in its place
pub record IsAccepted (p : Planned) (frame : Frame) (place : Context) : Type 0 where
  pub over : p ≡ planned_over (scope_of frame) p.tree
  pub accepted : refusals_of p.tree (scope_of frame) place ≡ []

-- the same of some expressions
abbrev pub AreAccepted : List Planned → Frame → Context → Type 0
AreAccepted [] frame place = Unit {0}
AreAccepted (p ∷ ps) frame place = IsAccepted p frame place × AreAccepted ps frame place

-- the expression of a node
abbrev pub node_tree : PhysExpr → Tree
node_tree n = (plan_of n).tree

-- a group step's keys and aggregations as nodes
pub record GroupPlans : Type 0 where
  pub keys : List Planned
  pub aggs : List Planned

-- what contracts see of the nodes of a group step
abbrev pub group_plans : GroupNodes → GroupPlans
group_plans g = record { keys = map plan_of g.keys.items; aggs = map plan_of g.aggs.items }

-- keys and aggregations that are planned over some names and types
abbrev pub plans_over : Scope → List Tree → List Tree → GroupPlans
plans_over scope keys aggs = record { keys = map (planned_over scope) keys; aggs = map (planned_over scope) aggs }

-- the first expression's name that stands among these names, or twice
abbrev pub repeat_beside : List (List ℕ) → List Tree → List PxError
repeat_beside names es = option_map_or (λ n. Duplicate n ∷ []) (first_repeat names (map name_of es)) []

-- why a key is refused over these names and types: it is typed on the frame, and is no list
abbrev pub typed_key_refusals : Scope → Tree → List PxError
typed_key_refusals scope e = refusals_of e scope Default ++ refused_where (fails not_list (kind_in e scope)) (InvalidOperation ListKey)

-- why a group step is refused over these names and types: there is no key; the keys' and then the aggregations' own refusals; a
-- name that stands twice
abbrev pub typed_group_refusals : Scope → List Tree → List Tree → List PxError
typed_group_refusals scope keys aggs =
    no_key_refusal keys ++ flat_map (typed_key_refusals scope) keys ++ flat_map (λ e. refusals_of e scope Aggregation) aggs
    ++ repeat_refusal (keys ++ aggs)

-- why a mask is refused over these names and types: it is typed on the frame, and has truths
abbrev pub mask_refusals : Scope → Tree → List PxError
mask_refusals scope e = refusals_of e scope Default ++ refused_where (fails is_boolean_kind (kind_in e scope)) SchemaMismatch

-- a column beside the frame that an expression names and that has not its height
abbrev pub misfit_fault : Frame → Tree → List PxError
misfit_fault frame e = refused_where (has_misfit e frame) ShapeMismatch

-- the faults of an expression's value, also where it has not the frame's height
abbrev pub key_faults : Frame → Tree → List PxError
key_faults frame e = faults_on e frame ++ height_fault frame (value_on e frame) ++ misfit_fault frame e

-- a column can be a key of a frame: it is no list, and has the frame's height
abbrev pub is_key : List Series → Series → Bool
is_key frame s = not (is_list s) && has_height (height_of frame) s

-- the frames of some parts of a frame
abbrev pub part_frames : Frame → List (List ℕ) → List Frame
part_frames frame parts = map (rows_of_frame frame) parts

-- the faults of an expression's values on each of some parts
abbrev pub part_faults : Frame → List (List ℕ) → Tree → List PxError
part_faults frame parts e = flat_map (λ p. faults_on e (rows_of_frame frame p)) parts

-- these, and a column beside the frame that has not its height
abbrev pub agg_faults : Frame → List (List ℕ) → Tree → List PxError
agg_faults frame parts e = part_faults frame parts e ++ misfit_fault frame e
