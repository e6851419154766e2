use Rattle.std.proofs.Common.{◌≡◌, ◌∙◌, ap, rules, subst, sym}
use Rattle.std.proofs.lemmas.Result.{err_from_is_err_and}
use Rattle.px_value.specs.Answer.{Refuses}
use Rattle.px_frame.specs.External.{scope_of}
use Rattle.px_tree.specs.Typing.{type_of}
use Rattle.px_tree.specs.View.{tree}
use Rattle.px_tree.specs.declared.context.Context.TheVariants.{Aggregation}
use Rattle.px_answers.specs.Parts.{PlannedWindow, window_plan}
use Rattle.px_group_answers.proofs.Windows.{window_refused}
use Rattle.px_window.specs.State.{beside}
use Rattle.px_physical.proofs.window.WindowExprPhysicalExpr.evaluate_on_groups.Goals as goal

pub returns-in_err-type_of-clause-causes : goal.returns-in_err-type_of-clause-causes
returns-in_err-type_of-clause-causes g c =
    let p = err_from_is_err_and c.from_residual-in_err-type_of.result c.from_residual-in_err-type_of.ensures.1 in
    let kept : tree c.self.inside.expr.value ≡ (window_plan c.args.self.now).tree = c.self.invariant.0 ∙ ap (λ (w : PlannedWindow). (window_plan w).tree) c.self.view_is in
    let expr : tree c.deref.result.now ≡ (window_plan c.args.self.now).tree = cc (c.deref.ensures, kept) in
    let scope : c.in_ok-scope.scope ≡ scope_of (beside c.args.df.now c.args.state.now) = search rules in
    let told = subst (λ s. Refuses c.in_err-type_of.field-0.0 (type_of (tree c.deref.result.now) s Aggregation)) scope c.in_err-type_of.ensures in
    rw (p.1, p.2)
    (window_refused c.args.self.now (beside c.args.df.now c.args.state.now) c.args.groups.now c.in_err-type_of.field-0.0
    (subst (λ t. Refuses c.in_err-type_of.field-0.0 (type_of t (scope_of (beside c.args.df.now c.args.state.now)) Aggregation)) expr told))
