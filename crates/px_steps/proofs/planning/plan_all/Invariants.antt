use Rattle.std.proofs.Common.{◌≡◌, ◌++◌, map, drop}
use Rattle.std.specs.List.{flat_map}
use Rattle.px_expr.specs.NodeView.{plan_of}
use Rattle.px_expr.specs.Plan.{planned_over}
use Rattle.px_tree.specs.Typing.{refusals_of}
use Rattle.px_tree.specs.View.{tree}
use Rattle.px_steps.proofs.planning.plan_all.Given as goal

abbrev pub invariant-loop-expr : goal.invariant-loop-expr
invariant-loop-expr l = record {
  refused : flat_map (λ t. refusals_of t l.schema.value l.context) (map tree (drop l.expr-index l.exprs)) ≡ flat_map (λ t. refusals_of t l.schema.value l.context) (map tree l.exprs);
  made : map plan_of l.nodes.items ++ map (planned_over l.schema.value) (map tree (drop l.expr-index l.exprs)) ≡ map (planned_over l.schema.value) (map tree l.exprs);
}
