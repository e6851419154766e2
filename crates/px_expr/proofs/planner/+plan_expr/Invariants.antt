use Rattle.std.proofs.Common.{◌≡◌, ◌++◌, drop, map}
use Rattle.px_tree.specs.Tree.{trees_of}
use Rattle.px_tree.specs.View.{tree}
use Rattle.px_physical.specs.NodeView.{plan_of}
use Rattle.px_expr.specs.Plan.{all_planned_over}
use Rattle.px_expr.proofs.planner.+plan_expr.Given as goal

abbrev pub invariant-plan_all-loop-expr : goal.invariant-plan_all-loop-expr
invariant-plan_all-loop-expr l = all_planned_over l.schema.value (trees_of (map tree l.expr-items)) ≡ map plan_of l.plans.items ++ all_planned_over l.schema.value (trees_of (map tree (drop l.expr-index l.expr-items)))
