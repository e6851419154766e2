use Rattle.std.proofs.Common.{◌≡◌, ◌∙◌, Ok, Err, ap, subst, sym, length}
use Rattle.std.proofs.lemmas.Result.{err_from_is_err_and}
use Rattle.px_column.specs.Prelude.{Answers}
use Rattle.px_window.specs.State.{beside}
use Rattle.px_tree.specs.View.{literal_of}
use Rattle.px_context.specs.Built.{literal_context}
use Rattle.px_group_answers.proofs.Leaves.{literal_group_cause, literal_group_context}
use Rattle.px_group_answers.specs.Leaf.{group_literal_column}
use Rattle.px_group_answers.specs.OnGroups.{IsContextOf}
use Rattle.px_physical.proofs.literal.LiteralExprPhysicalExpr.evaluate_on_groups.Goals as goal

pub returns-in_err-values-clause-causes : goal.returns-in_err-values-clause-causes
returns-in_err-values-clause-causes g c =
    let p = err_from_is_err_and c.from_residual.result c.from_residual.ensures.1 in
    let v = literal_of c.self.inside.value in
    let w = subst (λ n. Answers (Err c.in_err-values.field-0.0) (group_literal_column v n)) c.len.ensures.len c.in_err-values.ensures in
    rw (p.1, p.2) (literal_group_cause c.args.self.now v (beside c.args.df.now c.args.state.now) c.args.groups.now (Err c.in_err-values.field-0.0) (sym c.self.view_is) w)

pub returns-clause-context : goal.returns-clause-context
returns-clause-context g c =
    let v = literal_of c.self.inside.value in
    let made : group_literal_column v (length c.args.groups.now.groups) ≡ Ok c.in_ok-values.values = subst (λ n. group_literal_column v n ≡ Ok c.in_ok-values.values) c.len.ensures.len c.in_ok-values.ensures in
    subst (IsContextOf c.args.self.now (beside c.args.df.now c.args.state.now) c.args.groups.now) (sym (c.from_literal.ensures ∙ ap (λ b. literal_context b c.in_ok-values.values c.args.groups.now) c.is_single.ensures))
    (literal_group_context c.args.self.now v (beside c.args.df.now c.args.state.now) c.args.groups.now c.in_ok-values.values (sym c.self.view_is) made)
