-- Tests of refusals.
use Rattle.std.specs.Prelude.{◌≡◌, Bool, true, false, List, [], ◌∷◌, ◌++◌, Result, Ok, Err}
use Rattle.px_value.specs.declared.error.InvalidWhy.TheVariants.{Types}
use Rattle.px_value.specs.declared.error.PxError.{PxError}
use Rattle.px_value.specs.declared.error.PxError.TheVariants.{InvalidOperation}
use Rattle.px_tree.specs.Tree.{Trees, no_trees, one_tree}
use Rattle.px_tree.specs.Typing.{grouped_function_refusals, is_one_input_missing, or_first, refused_where}
use Rattle.px_tree.specs.declared.function.FunctionExpr.{FunctionExpr}
use Rattle.px_tree.specs.declared.function.FunctionExpr.TheVariants.{IsBetween, IsIn}

-- what it answers: nothing, where nothing is refused, or the first refusal
abbrev pub Accepts : {X : Type 0} → Result X PxError → List PxError → Type 0
Accepts (Ok x) refusals = refusals ≡ []
Accepts (Err e) refusals = or_first [] refusals ≡ e ∷ []

-- why a function is refused on groups before its types are looked at: it has no input, or another number of them than it takes,
-- or they are none for it on groups
abbrev pub input_refusals : FunctionExpr → Trees → List PxError
input_refusals f no_trees = InvalidOperation Types ∷ []
input_refusals f (one_tree t ts) = refused_where (is_one_input_missing f (one_tree t ts)) (InvalidOperation Types) ++ grouped_function_refusals f (one_tree t ts)

-- whether a function of rows takes exactly one input
abbrev pub takes_one : FunctionExpr → Bool
takes_one (IsBetween closed) = false
takes_one IsIn = false
takes_one _ = true
