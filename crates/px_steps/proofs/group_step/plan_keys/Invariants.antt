use Rattle.std.proofs.Common.{◌≡◌, ◌++◌, map, drop}
use Rattle.std.specs.List.{flat_map}
use Rattle.px_expr.specs.NodeView.{plan_of}
use Rattle.px_expr.specs.Plan.{planned_over}
use Rattle.px_tree.specs.View.{tree}
use Rattle.px_steps.specs.Finds.{typed_key_refusals}
use Rattle.px_steps.proofs.group_step.plan_keys.Given as goal

abbrev pub invariant-loop-key : goal.invariant-loop-key
invariant-loop-key l = record {
  refused : flat_map (typed_key_refusals l.schema.value) (map tree (drop l.key-index l.keys)) ≡ flat_map (typed_key_refusals l.schema.value) (map tree l.keys);
  made : map plan_of l.nodes.items ++ map (planned_over l.schema.value) (map tree (drop l.key-index l.keys)) ≡ map (planned_over l.schema.value) (map tree l.keys);
}
