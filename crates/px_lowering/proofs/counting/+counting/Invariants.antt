use Rattle.std.proofs.Common.{◌≡◌, ◌+◌, ◌*◌, ◌≤◌, drop, map}
use Rattle.px_tree.specs.Nodes.{all_nodes_of}
use Rattle.px_tree.specs.Tree.{trees_of}
use Rattle.px_tree.specs.View.{tree}
use Rattle.px_lowering.proofs.counting.+counting.Given as goal

abbrev pub decreases-room_left : goal.decreases-room_left
decreases-room_left l = 3 * l.room

abbrev pub decreases-room_behind_two : goal.decreases-room_behind_two
decreases-room_behind_two l = 3 * l.room + 1

abbrev pub decreases-room_behind_three : goal.decreases-room_behind_three
decreases-room_behind_three l = 3 * l.room + 2

abbrev pub decreases-room_behind_all : goal.decreases-room_behind_all
decreases-room_behind_all l = 3 * l.room + 1

abbrev pub decreases-room_behind_order : goal.decreases-room_behind_order
decreases-room_behind_order l = 3 * l.room + 1

abbrev pub decreases-room_behind_reduction : goal.decreases-room_behind_reduction
decreases-room_behind_reduction l = 3 * l.room + 1

abbrev pub invariant-room_behind_all-loop-expr : goal.invariant-room_behind_all-loop-expr
invariant-room_behind_all-loop-expr l = record {
  counted : l.room + all_nodes_of (trees_of (map tree (drop l.expr-index l.expr-items))) ≡ l.left + all_nodes_of (trees_of (map tree l.expr-items));
  within : l.left ≤ l.room;
}
