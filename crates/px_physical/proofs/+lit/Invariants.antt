use Rattle.std.proofs.Common.{◌≡◌, drop, map}
use Rattle.px_tree.specs.Shape.{are_literal_trees}
use Rattle.px_physical.specs.NodeView.{plan_of}
use Rattle.px_answers.specs.Parts.{plan_trees}
use Rattle.px_physical.proofs.+lit.Given as goal

abbrev pub invariant-phys_expr::have_literals_alone-loop-node : goal.invariant-phys_expr::have_literals_alone-loop-node
invariant-phys_expr::have_literals_alone-loop-node l = are_literal_trees (plan_trees (map plan_of l.nodes)) ≡ are_literal_trees (plan_trees (map plan_of (drop l.node-index l.nodes)))
