use Rattle.std.proofs.Common.{◌≡◌, Ok, drop, map, take}
use Rattle.px_expr.proofs.Planning.{followed_by}
use Rattle.px_expr.proofs.planner.create_physical_expressions_from_irs.Given as goal
use Rattle.px_physical.specs.NodeView.{plan_of}
use Rattle.px_expr.specs.Plan.{all_noted, plans_in}

abbrev pub invariant-loop-expr_ir : goal.invariant-loop-expr_ir
invariant-loop-expr_ir l =
    (plans_in l.exprs l.expr_arena l.schema.value l.context ≡ followed_by (map plan_of l.plans.items) (plans_in (drop l.expr_ir-index l.exprs) l.expr_arena l.schema.value l.context))
    × (all_noted l.expr_arena l.initial.state l.exprs ≡ all_noted l.expr_arena l.state (drop l.expr_ir-index l.exprs))
    × (l.state ≡ all_noted l.expr_arena l.initial.state (take l.expr_ir-index l.exprs))
    × (plans_in (take l.expr_ir-index l.exprs) l.expr_arena l.schema.value l.context ≡ Ok (map plan_of l.plans.items))
