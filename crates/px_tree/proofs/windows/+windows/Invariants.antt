use Rattle.std.proofs.Common.{◌≡◌, drop, map}
use Rattle.px_tree.specs.Shape.{have_window}
use Rattle.px_tree.specs.Tree.{trees_of}
use Rattle.px_tree.specs.View.{tree}
use Rattle.px_tree.proofs.windows.+windows.Given as goal

abbrev pub invariant-have_window-loop-expr : goal.invariant-have_window-loop-expr
invariant-have_window-loop-expr l = have_window (trees_of (map tree l.expr-items)) ≡ have_window (trees_of (map tree (drop l.expr-index l.expr-items)))
