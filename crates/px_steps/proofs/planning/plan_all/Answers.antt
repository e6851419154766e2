use Rattle.std.proofs.Common.{Some, ap, map, refl}
use Rattle.std.proofs.lemmas.Result.{err_from_is_err_and}
use Rattle.px_expr.specs.NodeView.{plan_of}
use Rattle.px_expr.specs.Plan.{planned_over}
use Rattle.px_tree.specs.Typing.{refusals_of}
use Rattle.px_tree.specs.View.{tree}
use Rattle.px_steps.proofs.Looped.{all_listed, made_next, made_start, none_found}
use Rattle.px_steps.proofs.Members.{first_here, sound_next}
use Rattle.px_steps.proofs.planning.plan_all.Goals as goal

pub returns-in_err-plan_expr : goal.returns-in_err-plan_expr
returns-in_err-plan_expr c =
    let p = err_from_is_err_and c.from_residual-in_err-plan_expr.result c.from_residual-in_err-plan_expr.ensures.1 in
    rw (p.1, p.2)
    (first_here tree c.args.exprs.now c.loop-expr.expr-index c.expr-item.result c.loop-expr-test.true c.expr-item.is (λ t. refusals_of t c.args.schema.now.value c.args.context) c.in_err-plan_expr.field-0.0 c.loop-expr.invariant.refused c.in_err-plan_expr.ensures)

pub returns-in_err-push : goal.returns-in_err-push
returns-in_err-push c =
    let p = err_from_is_err_and c.from_residual-in_err-push.result c.from_residual-in_err-push.ensures.1 in
    rw (p.1, p.2) tt

pub loop-expr-init : goal.loop-expr-init
loop-expr-init c = record {
  refused = refl;
  made = made_start plan_of c.in_ok-nodes.nodes.items (map (planned_over c.args.schema.now.value) (map tree c.args.exprs.now)) c.in_ok-nodes.ensures.items;
}

pub loop-expr-preserved : goal.loop-expr-preserved
loop-expr-preserved c =
    let inv = c.loop-expr.invariant in
    let exprs = c.args.exprs.now in
    let i = c.loop-expr.expr-index in
    let k = c.expr-item.result in
    let scope = c.args.schema.now.value in
    record {
      refused = sound_next tree exprs i k c.loop-expr-test.true c.expr-item.is (λ t. refusals_of t scope c.args.context) _ inv.refused c.in_ok-plan_expr.ensures.0;
      made = made_next tree exprs i k c.loop-expr-test.true c.expr-item.is plan_of (planned_over scope) c.loop-expr.nodes.items c.push.new.self.items c.in_ok-plan_expr.field-0 _ inv.made c.in_ok-plan_expr.ensures.1 c.in_ok-push.ensures.items;
    }

pub returns : goal.returns
returns c =
    let inv = c.loop-expr.invariant in
    let exprs = c.args.exprs.now in
    let i = c.loop-expr.expr-index in
    let scope = c.args.schema.now.value in (
      none_found tree exprs i c.loop-expr-test.false (λ t. refusals_of t scope c.args.context) _ inv.refused,
      ap Some (all_listed tree exprs i c.loop-expr-test.false plan_of (planned_over scope) c.loop-expr.nodes.items _ inv.made),
    )
