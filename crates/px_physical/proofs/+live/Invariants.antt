use Rattle.std.proofs.Common.{◌≡◌, ℕ, List, drop, map}
use Rattle.px_answers.specs.Live.{added, all_live_names, AddsFront}
use Rattle.px_physical.specs.NodeView.{plan_of}
use Rattle.px_answers.specs.Parts.{plan_trees}
use Rattle.px_physical.proofs.+live.Given as goal

abbrev pub invariant-phys_expr::collect_all-loop-node : goal.invariant-phys_expr::collect_all-loop-node
invariant-phys_expr::collect_all-loop-node l = record {
  all : added l.initial.lv.keys (all_live_names (plan_trees (map plan_of l.nodes))) ≡ added l.lv.keys (all_live_names (plan_trees (map plan_of (drop l.node-index l.nodes))));
  part : (now : List (List ℕ)) → AddsFront l.lv.keys (all_live_names (plan_trees (map plan_of (drop l.node-index l.nodes)))) now → AddsFront l.initial.lv.keys (all_live_names (plan_trees (map plan_of l.nodes))) now;
}
