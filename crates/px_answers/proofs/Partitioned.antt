-- Which functions can be evaluated on chunks of rows.
use Rattle.std.proofs.Common.{◌≡◌, Bool, false, List, [], ◌∷◌, length, refl, sym, ◌∙◌, ap, arith}
use Rattle.px_tree.specs.Tree.{Call, called, function}
use Rattle.px_tree.specs.declared.function.FunctionExpr.{FunctionExpr}
use Rattle.px_answers.specs.Live.{is_partitioned, is_partitioned_function}
use Rattle.px_answers.specs.Parts.{PlannedApply, apply_plan, plan_trees}
use Rattle.px_answers.specs.Planned.{Planned}

one_input : (ps : List Planned) (c : Call) → length ps ≡ 1 → is_partitioned_function (called c) ≡ is_partitioned (function (plan_trees ps) c)
one_input [] c h = absurd (omega (arith, h))
one_input (p ∷ []) c h = refl
one_input (p ∷ q ∷ ps) c h = absurd (omega (arith, h))

-- one input, and a function that is
pub partitioned_one : (a : PlannedApply) (g : FunctionExpr) (r : Bool) → length a.inputs ≡ 1 → called a.call ≡ g → r ≡ is_partitioned_function g → r ≡ is_partitioned (apply_plan a).tree
partitioned_one a g r h k e = e ∙ ap is_partitioned_function (sym k) ∙ one_input a.inputs a.call h

other_inputs : (ps : List Planned) (c : Call) → (length ps ≡ 1 → ⊥) → false ≡ is_partitioned (function (plan_trees ps) c)
other_inputs [] c h = refl
other_inputs (p ∷ []) c h = absurd (h (omega arith))
other_inputs (p ∷ q ∷ ps) c h = refl

-- another number of inputs
pub partitioned_none : (a : PlannedApply) → (length a.inputs ≡ 1 → ⊥) → false ≡ is_partitioned (apply_plan a).tree
partitioned_none a h = other_inputs a.inputs a.call h

-- the same by what a node holds
pub partitioned_view : (a v : PlannedApply) (g : FunctionExpr) (r : Bool) → v ≡ a → length v.inputs ≡ 1 → called v.call ≡ g → r ≡ is_partitioned_function g → r ≡ is_partitioned (apply_plan a).tree
partitioned_view a v g r e h k f = partitioned_one v g r h k f ∙ ap (λ (x : PlannedApply). is_partitioned (apply_plan x).tree) e

pub partitioned_none_view : (a v : PlannedApply) → v ≡ a → (length v.inputs ≡ 1 → ⊥) → false ≡ is_partitioned (apply_plan a).tree
partitioned_none_view a v e h = partitioned_none v h ∙ ap (λ (x : PlannedApply). is_partitioned (apply_plan x).tree) e
