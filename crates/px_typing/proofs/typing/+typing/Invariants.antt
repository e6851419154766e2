use Rattle.std.proofs.Common.{◌≡◌, drop, map}
use Rattle.px_typing.specs.Facts.{all_facts_in, followed_by}
use Rattle.px_typing.specs.FactsView.{all_facts_of}
use Rattle.px_tree.specs.Tree.{trees_of}
use Rattle.px_tree.specs.View.{tree}
use Rattle.px_typing.proofs.typing.+typing.Given as goal

abbrev pub invariant-infer_all-loop-expr : goal.invariant-infer_all-loop-expr
invariant-infer_all-loop-expr l =
    all_facts_in (trees_of (map tree l.expr-items)) l.scope l.context
    ≡ followed_by (all_facts_of l.items.items) (all_facts_in (trees_of (map tree (drop l.expr-index l.expr-items))) l.scope l.context)
