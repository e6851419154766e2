use Rattle.std.proofs.Common.{◌≡◌, ◌∷◌, ◌++◌, [], Ok, arith, map, sym, ap, ◌∙◌}
use Rattle.std.proofs.lemmas.Grind.{common_steps}
use Rattle.px_expr.proofs.Planning.{noted_next, plans_next, refused_front, front_in_memory}
use Rattle.px_physical.proofs.Passing.{passed_on}
use Rattle.px_expr.proofs.planner.create_physical_expressions_from_irs.Goals as goal
use Rattle.px_physical.specs.NodeView.{plan_of}

pub returns-in_err-plan-clause-refused : goal.returns-in_err-plan-clause-refused
returns-in_err-plan-clause-refused c =
    let noted = c.in_err-plan.ensures.refused ∙ c.loop-expr_ir.invariant.2 in
    passed_on c.from_residual-in_err-plan.result c.in_err-plan.field-0.0 _ c.from_residual-in_err-plan.ensures.1
    (refused_front c.args.expr_arena.now c.args.schema.now.value c.args.context c.args.state.now c.args.exprs.now c.loop-expr_ir.expr_ir-index c.expr_ir-item.result _ _ c.in_err-plan.field-0.0 (omega arith) c.expr_ir-item.is c.loop-expr_ir.invariant.3 noted c.in_err-plan.ensures.node)

pub returns-in_err-push-clause-refused : goal.returns-in_err-push-clause-refused
returns-in_err-push-clause-refused c =
    let noted = noted_next c.args.expr_arena.now c.args.state.now c.args.exprs.now c.loop-expr_ir.expr_ir-index c.expr_ir-item.result c.loop-expr_ir.state c.create_physical_expr.new.state (omega arith) c.expr_ir-item.is c.loop-expr_ir.invariant.2 c.in_ok-plan.ensures.noted in
    let planned = plans_next c.args.expr_arena.now c.args.schema.now.value c.args.context c.args.exprs.now c.loop-expr_ir.expr_ir-index c.expr_ir-item.result _ _ (omega arith) c.expr_ir-item.is c.loop-expr_ir.invariant.3 c.in_ok-plan.ensures.node in
    passed_on c.from_residual-in_err-push.result _ _ c.from_residual-in_err-push.ensures.1
    (front_in_memory c.args.expr_arena.now c.args.schema.now.value c.args.context c.args.state.now c.args.exprs.now _ _ _ planned noted)

pub loop-expr_ir-preserved : goal.loop-expr_ir-preserved
loop-expr_ir-preserved c =
    let noted = noted_next c.args.expr_arena.now c.args.state.now c.args.exprs.now c.loop-expr_ir.expr_ir-index c.expr_ir-item.result c.loop-expr_ir.state c.create_physical_expr.new.state (omega arith) c.expr_ir-item.is c.loop-expr_ir.invariant.2 c.in_ok-plan.ensures.noted in
    let planned = plans_next c.args.expr_arena.now c.args.schema.now.value c.args.context c.args.exprs.now c.loop-expr_ir.expr_ir-index c.expr_ir-item.result _ _ (omega arith) c.expr_ir-item.is c.loop-expr_ir.invariant.3 c.in_ok-plan.ensures.node in
    let items : map plan_of c.push.new.self.items ≡ map plan_of c.loop-expr_ir.plans.items ++ plan_of c.in_ok-plan.plan ∷ [] = grind (arith, common_steps) in
    (grind (arith, common_steps), grind (arith, common_steps), noted, planned ∙ ap Ok (sym items))
