use Rattle.std.proofs.Common.{◌≡◌, drop, map}
use Rattle.px_tree.specs.Shape.{are_units}
use Rattle.px_physical.specs.NodeView.{plan_of}
use Rattle.px_answers.specs.Parts.{plan_trees}
use Rattle.px_expr.proofs.planner.apply.are_scalars.Given as goal

abbrev pub invariant-loop-input : goal.invariant-loop-input
invariant-loop-input l = are_units (plan_trees (map plan_of l.inputs)) ≡ are_units (plan_trees (map plan_of (drop l.input-index l.inputs)))
