use Rattle.std.proofs.Common.{◌≡◌, ◌+◌, ◌*◌, ◌≤◌, ◌++◌, true, length, take, drop, map}
use Rattle.px_arena.specs.Arena.{tree_at, all_below}
use Rattle.px_tree.specs.Nodes.{nodes_of, all_nodes_of, order_nodes_of, all_postorder}
use Rattle.px_tree.specs.Tree.{trees_of}
use Rattle.px_tree.specs.View.{tree, trees, agg_tree, order_tree}
use Rattle.px_lowering.proofs.lowering.+to_arena.Given as goal

abbrev pub invariant-all_to_arena-loop-expr : goal.invariant-all_to_arena-loop-expr
invariant-all_to_arena-loop-expr l = record {
  added : l.arena ≡ l.initial.arena ++ all_postorder (trees_of (map tree (take l.expr-index l.expr-items)));
  trees : map (tree_at l.arena) l.nodes.items ≡ map tree (take l.expr-index l.expr-items);
  below : all_below (length l.arena) l.nodes.items ≡ true;
  count : length l.arena + all_nodes_of (trees_of (map tree (drop l.expr-index l.expr-items))) ≡ length l.initial.arena + all_nodes_of (trees_of (map tree l.expr-items));
  left : all_nodes_of (trees_of (map tree (drop l.expr-index l.expr-items))) ≤ all_nodes_of (trees_of (map tree l.expr-items));
}

abbrev pub decreases-to_arena : goal.decreases-to_arena
decreases-to_arena l = 4 * nodes_of (tree l.expr.now) + 2

abbrev pub decreases-children_to_arena : goal.decreases-children_to_arena
decreases-children_to_arena l = 4 * nodes_of (tree l.expr.now) + 1

abbrev pub decreases-two_to_arena : goal.decreases-two_to_arena
decreases-two_to_arena l = 4 * (nodes_of (tree l.first.now) + nodes_of (tree l.second.now)) + 3

abbrev pub decreases-three_to_arena : goal.decreases-three_to_arena
decreases-three_to_arena l = 4 * (nodes_of (tree l.first.now) + (nodes_of (tree l.second.now) + nodes_of (tree l.third.now))) + 4

abbrev pub decreases-all_to_arena : goal.decreases-all_to_arena
decreases-all_to_arena l = 4 * all_nodes_of (trees l.exprs.now) + 3

abbrev pub decreases-order_to_arena : goal.decreases-order_to_arena
decreases-order_to_arena l = 4 * order_nodes_of (order_tree l.order_by.now) + 3

abbrev pub decreases-agg_to_arena : goal.decreases-agg_to_arena
decreases-agg_to_arena l = 4 * nodes_of (agg_tree l.agg.now)
