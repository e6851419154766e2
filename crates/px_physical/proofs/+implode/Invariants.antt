use Rattle.std.proofs.Common.{◌≡◌, drop, map}
use Rattle.px_tree.specs.Shape.{have_implode}
use Rattle.px_answers.specs.Parts.{plan_trees}
use Rattle.px_physical.specs.NodeView.{plan_of}
use Rattle.px_physical.proofs.+implode.Given as goal

abbrev pub invariant-on_groups::have_implode-loop-node : goal.invariant-on_groups::have_implode-loop-node
invariant-on_groups::have_implode-loop-node l = have_implode (plan_trees (map plan_of l.nodes)) ≡ have_implode (plan_trees (map plan_of (drop l.node-index l.nodes)))
