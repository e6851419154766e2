use Rattle.std.proofs.Common.{◌≡◌, ◌+◌, ◌*◌, take, map}
use Rattle.px_arena.specs.Arena.{tree_at}
use Rattle.px_tree.specs.View.{tree}
use Rattle.px_lowering.proofs.rebuilding.+node_to_expr.Given as goal

abbrev pub decreases-node_to_expr : goal.decreases-node_to_expr
decreases-node_to_expr l = 3 * l.node.0 + 2

abbrev pub decreases-share_expr : goal.decreases-share_expr
decreases-share_expr l = 3 * l.node.0 + 3

abbrev pub decreases-nodes_to_exprs : goal.decreases-nodes_to_exprs
decreases-nodes_to_exprs l = 3 * l.before + 1

abbrev pub decreases-order_to_expr : goal.decreases-order_to_expr
decreases-order_to_expr l = 3 * l.before + 1

abbrev pub decreases-agg_to_expr : goal.decreases-agg_to_expr
decreases-agg_to_expr l = 3 * l.before + 1

abbrev pub invariant-nodes_to_exprs-loop-node : goal.invariant-nodes_to_exprs-loop-node
invariant-nodes_to_exprs-loop-node l = map tree l.items.items ≡ map (tree_at l.arena) (take l.node-index l.nodes)
