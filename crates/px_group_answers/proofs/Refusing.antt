-- What is refused on groups alone, before the types are looked at.
use Rattle.std.proofs.Common.{◌≡◌, Bool, true, false, not, ◌&&◌, ◌||◌, List, [], ◌∷◌, ◌++◌, length, refl, sym, ◌∙◌, subst, arith}
use Rattle.px_value.specs.declared.error.PxError.{PxError}
use Rattle.px_value.specs.declared.error.PxError.TheVariants.{ComputeError, InvalidOperation}
use Rattle.px_value.specs.declared.error.ComputeWhy.TheVariants.{AggLiteral, AggScalar}
use Rattle.px_value.specs.declared.error.InvalidWhy.TheVariants.{AggAboveImplode, ScalarOnGroups}
use Rattle.px_value.specs.declared.method.GroupByMethod.{GroupByMethod}
use Rattle.px_tree.specs.Shape.{has_implode, is_implode, is_literal_tree, is_unit}
use Rattle.px_tree.specs.Tree.{Tree, Trees, no_trees, one_tree}
use Rattle.px_tree.specs.Typing.{grouped_reduction_refusals, implode_refusal, is_one_input_missing, or_first, refused_where, scalar_refusal}
use Rattle.px_tree.specs.declared.function.FunctionExpr.{FunctionExpr}
use Rattle.px_tree.specs.declared.function.FunctionExpr.TheVariants.{IsBetween, IsIn}
use Rattle.px_answers.proofs.Applied.{one_input}
use Rattle.px_answers.proofs.Plain.{is_plain}
use Rattle.px_answers.specs.Parts.{plan_trees}
use Rattle.px_answers.specs.Planned.{Planned}
use Rattle.px_group_answers.specs.Accepts.{takes_one}

-- the first of some refusals is the first of these and more
pub first_front : (e : PxError) (xs ys : List PxError) → or_first [] xs ≡ e ∷ [] → or_first [] (xs ++ ys) ≡ e ∷ []
first_front e [] ys h = absurd (cc h)
first_front e (x ∷ xs) ys h = h

only : (x e : PxError) → ◌≡◌ {A = List PxError} (x ∷ []) (e ∷ []) → is_plain x ≡ true → is_plain e ≡ true
only x e h p = let same : x ≡ e = cc in subst (λ y. is_plain y ≡ true) same p

-- one value in each group is refused by a plain error
pub plain_scalar : (t : Tree) (e : PxError) → or_first [] (scalar_refusal t) ≡ e ∷ [] → is_plain e ≡ true
plain_scalar t e h = by (is_unit t && not (is_literal_tree t)) h
  where
    by : (b : Bool) → or_first [] (refused_where b (InvalidOperation ScalarOnGroups)) ≡ e ∷ [] → is_plain e ≡ true
    by true k = only (InvalidOperation ScalarOnGroups) e k refl
    by false k = absurd (cc k)

-- and so is what stands above an Implode, or is one value
pub plain_above : (i : Bool) (t : Tree) (e : PxError) → or_first [] (implode_refusal i ++ scalar_refusal t) ≡ e ∷ [] → is_plain e ≡ true
plain_above true t e h = only (InvalidOperation AggAboveImplode) e h refl
plain_above false t e h = plain_scalar t e h

-- and a reduction on groups
pub plain_reduction : (m : GroupByMethod) (t : Tree) (e : PxError) → or_first [] (grouped_reduction_refusals m t) ≡ e ∷ [] → is_plain e ≡ true
plain_reduction m t e h = by (has_implode t) (is_literal_tree t) (is_unit t && not (is_implode m)) h
  where
    by : (a b c : Bool) → or_first [] (implode_refusal a ++ refused_where b (ComputeError AggLiteral) ++ refused_where c (ComputeError AggScalar)) ≡ e ∷ [] → is_plain e ≡ true
    by true b c k = only (InvalidOperation AggAboveImplode) e k refl
    by false true c k = only (ComputeError AggLiteral) e k refl
    by false false true k = only (ComputeError AggScalar) e k refl
    by false false false k = absurd (cc k)

-- where there is one input, none is missing
pub one_given : (f : FunctionExpr) (ps : List Planned) → length ps ≡ 1 → false ≡ is_one_input_missing f (plan_trees ps)
one_given f [] h = absurd (omega (arith, h))
one_given f (p ∷ []) h = sym (one_input f p.tree)
one_given f (p ∷ q ∷ ps) h = absurd (omega (arith, h))

none_given : (f : FunctionExpr) → takes_one f ≡ is_one_input_missing f no_trees
none_given (IsBetween closed) = refl
none_given IsIn = refl
none_given _ = refl

more_given : (f : FunctionExpr) (t u : Tree) (ts : Trees) → takes_one f ≡ is_one_input_missing f (one_tree t (one_tree u ts))
more_given (IsBetween closed) t u ts = refl
more_given IsIn t u ts = refl
more_given _ t u ts = refl

-- where there is another number, one is, unless the function takes several
pub others_given : (f : FunctionExpr) (ps : List Planned) → (length ps ≡ 1 → ⊥) → takes_one f ≡ is_one_input_missing f (plan_trees ps)
others_given f [] h = none_given f
others_given f (p ∷ []) h = absurd (h (omega arith))
others_given f (p ∷ q ∷ ps) h = more_given f p.tree q.tree (plan_trees ps)
