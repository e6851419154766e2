-- Nodes of expressions: which type they have, and that they are planned and not refused.
use Rattle.std.proofs.Common.{◌≡◌, inl, inr, Bool, true, false, not, List, [], ◌∷◌, ◌++◌, Option, Some, None, Ok, Err, map, refl, sym, ◌∙◌, ap, subst}
use Rattle.std.specs.List.{flat_map}
use Rattle.px_column.specs.Prelude.{Kind}
use Rattle.px_value.specs.declared.error.PxError.{PxError}
use Rattle.px_answers.specs.Planned.{Planned}
use Rattle.px_expr.specs.NodeView.{plan_of}
use Rattle.px_expr.specs.Plan.{planned_over}
use Rattle.px_physical.specs.declared.phys_expr.PhysExpr.{PhysExpr}
use Rattle.px_frame.specs.External.{Frame, scope_of}
use Rattle.px_tree.specs.Tree.{Tree}
use Rattle.px_tree.specs.Typing.{Scope, fails, first_or_kind, kind_in, refusals_of, refused_where, type_of}
use Rattle.px_tree.specs.declared.context.Context.{Context}
use Rattle.px_tree.specs.declared.context.Context.TheVariants.{Default}
use Rattle.px_tree.proofs.KindLaws.{none_left as nil_left, none_right as nil_right}
use Rattle.px_steps.specs.Finds.{AreAccepted, GroupPlans, IsAccepted, group_plans, node_tree, plans_over}
use Rattle.px_steps.specs.declared.group_step.GroupNodes.{GroupNodes}
use Rattle.px_steps.specs.Meets.{unless_refused}
use Rattle.px_steps.proofs.Members.{In}

-- a type that is found is the expression's
pub kind_typed : (t : Tree) (scope : Scope) (place : Context) (k : Kind) → type_of t scope place ≡ Ok k → kind_in t scope ≡ Some k
kind_typed t scope place k h = by (refusals_of t scope place) (kind_in t scope) h
  where
    by : (R : List PxError) (K : Option Kind) → first_or_kind R K ≡ Ok k → K ≡ Some k
    by [] (Some l) h = let same : l ≡ k = cc in ap Some same
    by [] None h = absurd (cc h)
    by (e ∷ es) K h = absurd (cc h)

-- of an expression that is not refused, and whose type is tested
module _ (t : Tree) (scope : Scope) (none : refusals_of t scope Default ≡ []) (test : Kind → Bool) (e : PxError) (k : Kind) (typed : kind_in t scope ≡ Some k) where
  told : (b : Bool) → test k ≡ b → refusals_of t scope Default ++ refused_where (fails test (kind_in t scope)) e ≡ refused_where (not b) e
  told b h = (λ i. none i ++ refused_where (fails test (typed i)) e) ∙ ap (λ (c : Bool). refused_where (not c) e) h

  -- a type that passes is not refused for it
  pub type_passes : test k ≡ true → refusals_of t scope Default ++ refused_where (fails test (kind_in t scope)) e ≡ []
  type_passes h = told true h

  -- and another one is
  pub type_fails : test k ≡ false → unless_refused (refusals_of t scope Default ++ refused_where (fails test (kind_in t scope)) e) ≡ Err e
  type_fails h = ap unless_refused (told false h)

-- a planned expression among some is not refused
pub in_accepted : (frame : Frame) (place : Context) (ps : List Planned) (p : Planned) → In p ps → AreAccepted ps frame place → IsAccepted p frame place
in_accepted frame place [] p h a = absurd h
in_accepted frame place (q ∷ ps) p (inl e) a = subst (λ (x : Planned). IsAccepted x frame place) (sym e) a.0
in_accepted frame place (q ∷ ps) p (inr h) a = in_accepted frame place ps p h a.1

-- expressions that are not refused, planned over the frame's names and types
all_accepted : (frame : Frame) (place : Context) (ts : List Tree) → flat_map (λ t. refusals_of t (scope_of frame) place) ts ≡ [] → AreAccepted (map (planned_over (scope_of frame)) ts) frame place
all_accepted frame place [] n = tt
all_accepted frame place (t ∷ ts) n =
    let R : Tree → List PxError = λ x. refusals_of x (scope_of frame) place in
    (record { over = refl; accepted = nil_left (R t) (flat_map R ts) n }, all_accepted frame place ts (nil_right (R t) (flat_map R ts) n))

pub are_accepted : (frame : Frame) (scope : Scope) (place : Context) (ts : List Tree) (nodes : List PhysExpr) → scope ≡ scope_of frame → map (planned_over scope) ts ≡ map plan_of nodes → flat_map (λ t. refusals_of t (scope_of frame) place) ts ≡ [] → AreAccepted (map plan_of nodes) frame place
are_accepted frame scope place ts nodes s e n = subst (λ (ps : List Planned). AreAccepted ps frame place) (ap (λ (over : Scope). map (planned_over over) ts) (sym s) ∙ e) (all_accepted frame place ts n)

plan_trees : (nodes : List PhysExpr) → map (λ (p : Planned). p.tree) (map plan_of nodes) ≡ map node_tree nodes
plan_trees [] = refl
plan_trees (n ∷ nodes) = ap (λ ts. node_tree n ∷ ts) (plan_trees nodes)

planned_trees : (scope : Scope) (ts : List Tree) → map (λ (p : Planned). p.tree) (map (planned_over scope) ts) ≡ ts
planned_trees scope [] = refl
planned_trees scope (t ∷ ts) = ap (λ us. t ∷ us) (planned_trees scope ts)

-- their nodes are those of the same expressions
pub same_trees : (scope : Scope) (ts : List Tree) (nodes : List PhysExpr) → map (planned_over scope) ts ≡ map plan_of nodes → map node_tree nodes ≡ ts
same_trees scope ts nodes e = sym (plan_trees nodes) ∙ ap (map (λ (p : Planned). p.tree)) (sym e) ∙ planned_trees scope ts

-- the nodes of keys and of aggregations
pub both_planned : (scope : Scope) (keys aggs : List Tree) (g : GroupNodes) → Some (map (planned_over scope) keys) ≡ Some (map plan_of g.keys.items) → Some (map (planned_over scope) aggs) ≡ Some (map plan_of g.aggs.items)
    → Some (plans_over scope keys aggs) ≡ Some (group_plans g)
both_planned scope keys aggs g k a =
    let first : map (planned_over scope) keys ≡ map plan_of g.keys.items = cc in
    let second : map (planned_over scope) aggs ≡ map plan_of g.aggs.items = cc in
    λ i. Some (record { keys = first i; aggs = second i })

-- each for itself
pub planned_both : (scope : Scope) (keys aggs : List Tree) (g : GroupNodes) → Some (plans_over scope keys aggs) ≡ Some (group_plans g) → (map (planned_over scope) keys ≡ map plan_of g.keys.items) × (map (planned_over scope) aggs ≡ map plan_of g.aggs.items)
planned_both scope keys aggs g e =
    let same : plans_over scope keys aggs ≡ group_plans g = cc in
    (ap (λ (x : GroupPlans). x.keys) same, ap (λ (x : GroupPlans). x.aggs) same)
