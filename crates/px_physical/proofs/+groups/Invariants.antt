use Rattle.std.proofs.Common.{◌≡◌}
use Rattle.px_window.specs.State.{beside}
use Rattle.px_group_answers.proofs.ContextsInOrder.{ContextsTo}
use Rattle.px_physical.specs.NodeView.{plan_of}
use Rattle.px_physical.proofs.+groups.Given as goal

abbrev pub invariant-on_groups::contexts_on_groups-loop-node : goal.invariant-on_groups::contexts_on_groups-loop-node
invariant-on_groups::contexts_on_groups-loop-node g l = record {
  front : ContextsTo plan_of l.nodes l.node-index (beside l.df l.initial.state) l.groups l.contexts.items l.initial.kernels l.kernels;
  state : l.state ≡ l.initial.state;
  grouped : l.groupings ≡ l.initial.groupings;
}
