use Rattle.std.proofs.Common.{◌≡◌, ◌+◌, ◌*◌, ◌++◌, drop, max}
use Rattle.px_arena.specs.Arena.{trees_at}
use Rattle.px_tree.specs.Nodes.{all_leaf_names}
use Rattle.px_lowering.proofs.leaves.+push_names.Given as goal

abbrev pub decreases-push_names : goal.decreases-push_names
decreases-push_names l = 3 * l.node.0 + 2

abbrev pub decreases-push_names_of_two : goal.decreases-push_names_of_two
decreases-push_names_of_two l = 3 * max l.first.0 l.second.0 + 3

abbrev pub decreases-push_all_names : goal.decreases-push_all_names
decreases-push_all_names l = 3 * l.before + 1

abbrev pub decreases-push_order_names : goal.decreases-push_order_names
decreases-push_order_names l = 3 * l.before + 1

abbrev pub invariant-push_all_names-loop-node : goal.invariant-push_all_names-loop-node
invariant-push_all_names-loop-node l =
    l.initial.names.items ++ all_leaf_names (trees_at l.arena l.nodes)
    ≡ l.names.items ++ all_leaf_names (trees_at l.arena (drop l.node-index l.nodes))
