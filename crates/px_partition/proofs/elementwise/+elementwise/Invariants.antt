use Rattle.std.proofs.Common.{◌≡◌, drop, map}
use Rattle.px_tree.specs.Partition.{are_elementwise}
use Rattle.px_tree.specs.Tree.{trees_of}
use Rattle.px_tree.specs.View.{tree}
use Rattle.px_partition.proofs.elementwise.+elementwise.Given as goal

abbrev pub invariant-are_elementwise-loop-expr : goal.invariant-are_elementwise-loop-expr
invariant-are_elementwise-loop-expr l = are_elementwise (trees_of (map tree l.expr-items)) l.schema ≡ are_elementwise (trees_of (map tree (drop l.expr-index l.expr-items))) l.schema
