-- What is tested of nodes on groups, contexts under other names, and what the keys of a sort and its rows cost.
use Rattle.std.proofs.Common.{◌≡◌, ℕ, ◌+◌, ◌-◌, ◌<◌, List, [], ◌∷◌, ◌++◌, false, Result, Ok, Err, IfOk, length, map, sym, subst, arith}
use Rattle.px_value.specs.Answer.{Answers}
use Rattle.px_value.specs.declared.error.PxError.{PxError}
use Rattle.px_value.specs.declared.error.PxError.TheVariants.{InvalidOperation}
use Rattle.px_value.specs.declared.error.InvalidWhy.TheVariants.{Types}
use Rattle.px_frame.specs.External.{Frame}
use Rattle.px_frame.specs.Groups.{Groups}
use Rattle.px_value.specs.declared.sort_options.SortMultipleOptions.{SortMultipleOptions}
use Rattle.px_tree.specs.Tree.{Tree, Trees, one_tree, sort_by}
use Rattle.px_tree.specs.Typing.{grouped_function_refusals, is_one_input_missing, refused_where}
use Rattle.px_tree.specs.declared.function.FunctionExpr.{FunctionExpr}
use Rattle.px_context.specs.Built.{renamed}
use Rattle.px_context.specs.Context.{Context}
use Rattle.px_answers.specs.Parts.{alias_plan, plan_trees}
use Rattle.px_answers.specs.Planned.{Planned}
use Rattle.px_group_answers.proofs.GroupCounts.{sort_by_group_cost_inputs}
use Rattle.px_group_answers.proofs.Operands.{alias_context}
use Rattle.px_group_answers.specs.Accepts.{Accepts, input_refusals}
use Rattle.px_group_answers.specs.Counted.{RunAllOnGroups, RunOnGroups}
use Rattle.px_group_answers.specs.OnGroups.{IsContextOf}

-- with inputs, and none of them missing, what is refused of the function is refused
pub inputs_tested : {A X : Type 0} (plan : A → Planned) (f : FunctionExpr) (xs : List A) (r : Result X PxError) → 0 < length xs → is_one_input_missing f (plan_trees (map plan xs)) ≡ false
    → Accepts r (grouped_function_refusals f (plan_trees (map plan xs))) → Accepts r (input_refusals f (plan_trees (map plan xs)))
inputs_tested plan f [] r some one h = absurd (omega (arith, some))
inputs_tested plan f (x ∷ xs) r some one h =
    let rest = plan_trees (map plan xs) in
    subst (λ b. Accepts r (refused_where b (InvalidOperation Types) ++ grouped_function_refusals f (one_tree (plan x).tree rest))) (sym one) h

-- a context under another name is that of the alias
pub renamed_context : (q p : Planned) (n : List ℕ) (frame : Frame) (g : Groups) (c : Context) (r : Result Context PxError) → q ≡ alias_plan p n → IsContextOf p frame g c → Answers r (Ok (renamed c n)) → IfOk r (IsContextOf q frame g)
renamed_context q p n frame g c (Err e) s h i = tt
renamed_context q p n frame g c (Ok d) s h i =
    let same : d ≡ renamed c n = cc i in
    alias_context q p n frame g c (Ok d) s h same

-- keys that ran before the rows cost what they cost after them
pub keys_first : (e : Tree) (es : Trees) (n i j k : ℕ) → RunAllOnGroups es n i j → RunOnGroups e n j k → RunOnGroups e n i (i + (k - j)) × RunAllOnGroups es n (i + (k - j)) k
keys_first e es n i j k y x = (
  record { rises = omega arith; cost = omega (arith, x.rises, x.cost) },
  record { rises = omega (arith, x.rises, y.rises); flat = λ f. let h = y.flat f in omega (arith, h, x.rises, y.rises); cost = omega (arith, y.cost, x.rises, y.rises) },
)

-- what keys cost alone
pub keys_alone : (e : Tree) (es : Trees) (options : SortMultipleOptions) (n i j : ℕ) → RunAllOnGroups es n i j → RunOnGroups (sort_by e es options) n i j
keys_alone e es options n i j y = sort_by_group_cost_inputs e es options n i i j (record { rises = omega arith; cost = omega arith }) y

-- what keys cost, and then the rows
pub keys_and_rows : (e : Tree) (es : Trees) (options : SortMultipleOptions) (n i j k : ℕ) → RunAllOnGroups es n i j → RunOnGroups e n j k → RunOnGroups (sort_by e es options) n i k
keys_and_rows e es options n i j k y x =
    let both = keys_first e es n i j k y x in
    sort_by_group_cost_inputs e es options n i (i + (k - j)) k both.0 both.1
