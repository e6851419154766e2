-- What the inputs of a window say of it.
use Rattle.std.proofs.Common.{◌≡◌, ℕ, List, [], ◌∷◌, Option, Some, None, Result, Ok, Err, IfOk, map, refl, sym, ◌∙◌, ap, subst}
use Rattle.px_column.specs.Prelude.{Answers, Series}
use Rattle.px_value.specs.declared.error.PxError.{PxError}
use Rattle.px_value.specs.declared.sort_options.SortOptions.{SortOptions}
use Rattle.px_frame.specs.External.{Frame}
use Rattle.px_frame.specs.Spread.{NamedCell}
use Rattle.px_tree.specs.Tree.{Tree}
use Rattle.px_answers.specs.Counted.{RisesAtMost, costs_on}
use Rattle.px_answers.specs.Parts.{PlannedWindow, window_plan}
use Rattle.px_answers.specs.Planned.{Planned}
use Rattle.px_answers.specs.Value.{AreCellsOf, IsCause}
use Rattle.px_window.specs.State.{State, beside}
use Rattle.px_window_node.proofs.Apart.{window_order_cause}
use Rattle.px_physical.specs.NodeView.{plan_of}
use Rattle.px_physical.specs.Ordered.{IsOrderCause}
use Rattle.px_physical.specs.declared.phys_expr.PhysExpr.{PhysExpr}

-- a cause of what its rows are ordered by is the window's
pub order_cause : (e : PxError) (w : PlannedWindow) (frame : Frame) → IsOrderCause e w.order_by frame → IsCause e (window_plan w) frame
order_cause e w frame h = by w.order_by refl h
  where
    by : (o : Option (Planned × SortOptions)) → w.order_by ≡ o → IsOrderCause e o frame → IsCause e (window_plan w) frame
    by None s k = absurd k
    by (Some o) s k = window_order_cause e w frame o s k

-- a column under its name is what is expected of it
pub named_column : (P : Series → Type 0) (s : Series) (r : Result Series PxError) → P s → Answers r (Ok s) → IfOk r P
named_column P s (Err e) h a = tt
named_column P s (Ok t) h a = let same : s ≡ t = cc in subst P same h

trees_of_nodes : (ns : List PhysExpr) → map (λ (p : Planned). p.tree) (map plan_of ns) ≡ map (λ (n : PhysExpr). (plan_of n).tree) ns
trees_of_nodes [] = refl
trees_of_nodes (n ∷ ns) = ap (λ (ts : List Tree). (plan_of n).tree ∷ ts) (trees_of_nodes ns)

-- what is known of nodes, and of a state, is known of the window's parts and of an equal state
module _ (w : PlannedWindow) (columns : List Series) where
  pub keys_are : (ns : List PhysExpr) (s : State) (cs : List NamedCell) → map plan_of ns ≡ w.group_by → AreCellsOf (map plan_of ns) (beside columns s) cs → AreCellsOf w.group_by (beside columns s) cs
  keys_are ns s cs seen h = subst (λ (ps : List Planned). AreCellsOf ps (beside columns s) cs) seen h

  pub keys_cost : (ns : List PhysExpr) (s : State) (i j : ℕ) → map plan_of ns ≡ w.group_by → RisesAtMost (costs_on (map (λ (n : PhysExpr). (plan_of n).tree) ns) (beside columns s)) i j
      → RisesAtMost (costs_on (map (λ (p : Planned). p.tree) w.group_by) (beside columns s)) i j
  keys_cost ns s i j seen h =
      subst (λ (ps : List Planned). RisesAtMost (costs_on (map (λ (p : Planned). p.tree) ps) (beside columns s)) i j) seen
      (subst (λ (ts : List Tree). RisesAtMost (costs_on ts (beside columns s)) i j) (sym (trees_of_nodes ns)) h)

  pub of_order : (P : Option (Planned × SortOptions) → Frame → Type 0) (o : Option (Planned × SortOptions)) (s t : State) → o ≡ w.order_by → t ≡ s → P o (beside columns t) → P w.order_by (beside columns s)
  of_order P o s t seen same h = subst (λ (x : Option (Planned × SortOptions)). P x (beside columns s)) seen (subst (λ (u : State). P o (beside columns u)) same h)

  pub of_function : (P : Planned → Frame → Type 0) (f : Planned) (s t : State) → f ≡ w.phys_function → t ≡ s → P f (beside columns t) → P w.phys_function (beside columns s)
  of_function P f s t seen same h = subst (λ (x : Planned). P x (beside columns s)) seen (subst (λ (u : State). P f (beside columns u)) same h)
