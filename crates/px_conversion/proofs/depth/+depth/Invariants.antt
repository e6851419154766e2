use Rattle.std.proofs.Common.{◌≡◌, ◌+◌, ◌*◌, drop, map}
use Rattle.std.specs.Prelude.{nat_le}
use Rattle.px_conversion.specs.Depth.{all_depth_of}
use Rattle.px_tree.specs.Tree.{trees_of}
use Rattle.px_tree.specs.View.{tree}
use Rattle.px_conversion.proofs.depth.+depth.Given as goal

abbrev pub decreases-reaches : goal.decreases-reaches
decreases-reaches l = 4 * l.nodes + 1

abbrev pub decreases-reduced_reaches : goal.decreases-reduced_reaches
decreases-reduced_reaches l = 4 * l.nodes

abbrev pub decreases-one_reaches : goal.decreases-one_reaches
decreases-one_reaches l = 4 * l.nodes + 2

abbrev pub decreases-order_reaches : goal.decreases-order_reaches
decreases-order_reaches l = 4 * l.nodes + 2

abbrev pub decreases-either_reaches : goal.decreases-either_reaches
decreases-either_reaches l = 4 * l.nodes + 2

abbrev pub decreases-one_of_three_reaches : goal.decreases-one_of_three_reaches
decreases-one_of_three_reaches l = 4 * l.nodes + 3

abbrev pub invariant-one_reaches-loop-expr : goal.invariant-one_reaches-loop-expr
invariant-one_reaches-loop-expr l = nat_le l.nodes (all_depth_of (trees_of (map tree l.expr-items))) ≡ nat_le l.nodes (all_depth_of (trees_of (map tree (drop l.expr-index l.expr-items))))
