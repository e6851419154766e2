use Rattle.std.proofs.Common.{ap, ◌∙◌, arith}
use Rattle.std.proofs.lemmas.Grind.{common_steps}
use Rattle.px_arena.proofs.Trees.{and_left, and_right}
use Rattle.px_arena.specs.Arena.{node_tree, is_below, all_below}
use Rattle.px_tree.specs.Tree.{by_name, as_explode, no_trees, one_tree, column, literal, alias, binary, ternary, cast, function, filter, slice, gather, sort, sort_by, window}
use Rattle.px_tree.specs.View.{mapping_of}
use Rattle.px_tree.proofs.Shapes.{tree-Column, tree-Literal, tree-Alias, tree-BinaryExpr, tree-Ternary, tree-Cast, tree-Function, tree-Explode, tree-Filter, tree-Slice, tree-Gather, tree-Sort, tree-SortBy, tree-Agg, tree-Window}
use Rattle.px_lowering.proofs.Alike.{one_alike, two_alike, three_alike}
use Rattle.px_lowering.proofs.Views.{trees_is, all_below_at, below_seen, child_falls, children_fall}
use Rattle.px_lowering.proofs.rebuilding.+node_to_expr.Goals as goal

pub nodes_to_exprs-returns : goal.nodes_to_exprs-returns
nodes_to_exprs-returns t c = rw trees_is (grind (arith, common_steps))

pub nodes_to_exprs-node_to_expr-requires : goal.nodes_to_exprs-node_to_expr-requires
nodes_to_exprs-node_to_expr-requires t c =
    let lt = all_below_at c.args.before c.args.nodes.now c.loop-node.node-index (record { 0 = 0 }) c.requires.below c.loop-node-test.true in
    (omega (arith, c.decreases), omega arith)

pub node_to_expr-share_expr-requires : goal.node_to_expr-share_expr-requires
node_to_expr-share_expr-requires t c =
    child_falls c.args.node c.in-Alias.expr _ t (below_seen _ c.in-Alias.is c.get.ensures.children) c.decreases c.requires

pub node_to_expr-share_expr-requires-in-BinaryExpr : goal.node_to_expr-share_expr-requires-in-BinaryExpr
node_to_expr-share_expr-requires-in-BinaryExpr t c =
    child_falls c.args.node c.in-BinaryExpr.left _ t (and_left _ _ (below_seen _ c.in-BinaryExpr.is c.get.ensures.children)) c.decreases c.requires

pub node_to_expr-share_expr-requires-in-BinaryExpr-2 : goal.node_to_expr-share_expr-requires-in-BinaryExpr-2
node_to_expr-share_expr-requires-in-BinaryExpr-2 t c =
    child_falls c.args.node c.in-BinaryExpr.right _ t (and_right _ _ (below_seen _ c.in-BinaryExpr.is c.get.ensures.children)) c.decreases c.requires

pub node_to_expr-share_expr-requires-in-Ternary : goal.node_to_expr-share_expr-requires-in-Ternary
node_to_expr-share_expr-requires-in-Ternary t c =
    child_falls c.args.node c.in-Ternary.predicate _ t (and_left _ _ (below_seen _ c.in-Ternary.is c.get.ensures.children)) c.decreases c.requires

pub node_to_expr-share_expr-requires-in-Ternary-2 : goal.node_to_expr-share_expr-requires-in-Ternary-2
node_to_expr-share_expr-requires-in-Ternary-2 t c =
    child_falls c.args.node c.in-Ternary.truthy _ t (and_left _ _ (and_right _ _ (below_seen _ c.in-Ternary.is c.get.ensures.children))) c.decreases c.requires

pub node_to_expr-share_expr-requires-in-Ternary-3 : goal.node_to_expr-share_expr-requires-in-Ternary-3
node_to_expr-share_expr-requires-in-Ternary-3 t c =
    child_falls c.args.node c.in-Ternary.falsy _ t (and_right _ _ (and_right _ _ (below_seen _ c.in-Ternary.is c.get.ensures.children))) c.decreases c.requires

pub node_to_expr-share_expr-requires-in-Cast : goal.node_to_expr-share_expr-requires-in-Cast
node_to_expr-share_expr-requires-in-Cast t c =
    child_falls c.args.node c.in-Cast.expr _ t (below_seen _ c.in-Cast.is c.get.ensures.children) c.decreases c.requires

pub node_to_expr-share_expr-requires-in-Explode : goal.node_to_expr-share_expr-requires-in-Explode
node_to_expr-share_expr-requires-in-Explode t c =
    child_falls c.args.node c.in-Explode.expr _ t (below_seen _ c.in-Explode.is c.get.ensures.children) c.decreases c.requires

pub node_to_expr-share_expr-requires-in-Filter : goal.node_to_expr-share_expr-requires-in-Filter
node_to_expr-share_expr-requires-in-Filter t c =
    child_falls c.args.node c.in-Filter.input _ t (and_left _ _ (below_seen _ c.in-Filter.is c.get.ensures.children)) c.decreases c.requires

pub node_to_expr-share_expr-requires-in-Filter-2 : goal.node_to_expr-share_expr-requires-in-Filter-2
node_to_expr-share_expr-requires-in-Filter-2 t c =
    child_falls c.args.node c.in-Filter.by _ t (and_right _ _ (below_seen _ c.in-Filter.is c.get.ensures.children)) c.decreases c.requires

pub node_to_expr-share_expr-requires-in-Slice : goal.node_to_expr-share_expr-requires-in-Slice
node_to_expr-share_expr-requires-in-Slice t c =
    child_falls c.args.node c.in-Slice.input _ t (and_left _ _ (below_seen _ c.in-Slice.is c.get.ensures.children)) c.decreases c.requires

pub node_to_expr-share_expr-requires-in-Slice-2 : goal.node_to_expr-share_expr-requires-in-Slice-2
node_to_expr-share_expr-requires-in-Slice-2 t c =
    child_falls c.args.node c.in-Slice.offset _ t (and_left _ _ (and_right _ _ (below_seen _ c.in-Slice.is c.get.ensures.children))) c.decreases c.requires

pub node_to_expr-share_expr-requires-in-Slice-3 : goal.node_to_expr-share_expr-requires-in-Slice-3
node_to_expr-share_expr-requires-in-Slice-3 t c =
    child_falls c.args.node c.in-Slice.length _ t (and_right _ _ (and_right _ _ (below_seen _ c.in-Slice.is c.get.ensures.children))) c.decreases c.requires

pub node_to_expr-share_expr-requires-in-Gather : goal.node_to_expr-share_expr-requires-in-Gather
node_to_expr-share_expr-requires-in-Gather t c =
    child_falls c.args.node c.in-Gather.expr _ t (and_left _ _ (below_seen _ c.in-Gather.is c.get.ensures.children)) c.decreases c.requires

pub node_to_expr-share_expr-requires-in-Gather-2 : goal.node_to_expr-share_expr-requires-in-Gather-2
node_to_expr-share_expr-requires-in-Gather-2 t c =
    child_falls c.args.node c.in-Gather.idx _ t (and_right _ _ (below_seen _ c.in-Gather.is c.get.ensures.children)) c.decreases c.requires

pub node_to_expr-share_expr-requires-in-Sort : goal.node_to_expr-share_expr-requires-in-Sort
node_to_expr-share_expr-requires-in-Sort t c =
    child_falls c.args.node c.in-Sort.expr _ t (below_seen _ c.in-Sort.is c.get.ensures.children) c.decreases c.requires

pub node_to_expr-share_expr-requires-in-SortBy : goal.node_to_expr-share_expr-requires-in-SortBy
node_to_expr-share_expr-requires-in-SortBy t c =
    child_falls c.args.node c.in-SortBy.expr _ t (and_left _ _ (below_seen _ c.in-SortBy.is c.get.ensures.children)) c.decreases c.requires

pub node_to_expr-share_expr-requires-in-Window : goal.node_to_expr-share_expr-requires-in-Window
node_to_expr-share_expr-requires-in-Window t c =
    child_falls c.args.node c.in-Window.function _ t (and_left _ _ (below_seen _ c.in-Window.is c.get.ensures.children)) c.decreases c.requires

pub node_to_expr-returns-in_ok-right-in-BinaryExpr : goal.node_to_expr-returns-in_ok-right-in-BinaryExpr
node_to_expr-returns-in_ok-right-in-BinaryExpr t c =
    two_alike (λ x y. binary x c.in-BinaryExpr.op y) (c.get.ensures.tree ∙ ap (node_tree c.args.arena.now) c.in-BinaryExpr.is) (tree-BinaryExpr _ _ _) c.in_ok-left-in-BinaryExpr.ensures c.in_ok-right-in-BinaryExpr.ensures

pub node_to_expr-returns-in_ok-falsy-in-Ternary : goal.node_to_expr-returns-in_ok-falsy-in-Ternary
node_to_expr-returns-in_ok-falsy-in-Ternary t c =
    three_alike ternary (c.get.ensures.tree ∙ ap (node_tree c.args.arena.now) c.in-Ternary.is) (tree-Ternary _ _ _) c.in_ok-predicate-in-Ternary.ensures c.in_ok-truthy-in-Ternary.ensures c.in_ok-falsy-in-Ternary.ensures

pub node_to_expr-returns-in_ok-by-in-Filter : goal.node_to_expr-returns-in_ok-by-in-Filter
node_to_expr-returns-in_ok-by-in-Filter t c =
    two_alike filter (c.get.ensures.tree ∙ ap (node_tree c.args.arena.now) c.in-Filter.is) (tree-Filter _ _) c.in_ok-input-in-Filter.ensures c.in_ok-by-in-Filter.ensures

pub node_to_expr-returns-in_ok-length-in-Slice : goal.node_to_expr-returns-in_ok-length-in-Slice
node_to_expr-returns-in_ok-length-in-Slice t c =
    three_alike slice (c.get.ensures.tree ∙ ap (node_tree c.args.arena.now) c.in-Slice.is) (tree-Slice _ _ _) c.in_ok-input-in-Slice.ensures c.in_ok-offset-in-Slice.ensures c.in_ok-length-in-Slice.ensures

pub node_to_expr-returns-in_ok-idx-in-Gather : goal.node_to_expr-returns-in_ok-idx-in-Gather
node_to_expr-returns-in_ok-idx-in-Gather t c =
    two_alike (λ x y. gather x y c.in-Gather.returns_scalar) (c.get.ensures.tree ∙ ap (node_tree c.args.arena.now) c.in-Gather.is) (tree-Gather _ _ _) c.in_ok-expr-in-Gather.ensures c.in_ok-idx-in-Gather.ensures

pub node_to_expr-returns-in_ok-sort_options-in-SortBy : goal.node_to_expr-returns-in_ok-sort_options-in-SortBy
node_to_expr-returns-in_ok-sort_options-in-SortBy t c =
    three_alike sort_by (c.get.ensures.tree ∙ ap (node_tree c.args.arena.now) c.in-SortBy.is) (tree-SortBy _ _ _) c.in_ok-expr-in-SortBy.ensures (rw c.deref-in-SortBy.ensures.value at c.in_ok-by-in-SortBy.ensures) c.in_ok-sort_options-in-SortBy.ensures

pub node_to_expr-returns-in_ok-order_by-in-Window : goal.node_to_expr-returns-in_ok-order_by-in-Window
node_to_expr-returns-in_ok-order_by-in-Window t c =
    three_alike (λ x ys o. window x ys o (mapping_of c.in-Window.options)) (c.get.ensures.tree ∙ ap (node_tree c.args.arena.now) c.in-Window.is) (tree-Window _ _ _ _) c.in_ok-function-in-Window.ensures (rw c.deref-in-Window.ensures.value at c.in_ok-partition_by-in-Window.ensures) c.in_ok-order_by-in-Window.ensures

pub node_to_expr-returns-in_ok-try_clone-in-Column : goal.node_to_expr-returns-in_ok-try_clone-in-Column
node_to_expr-returns-in_ok-try_clone-in-Column t c =
    one_alike column (c.get.ensures.tree ∙ ap (node_tree c.args.arena.now) c.in-Column.is) (tree-Column _) c.in_ok-try_clone-in-Column.ensures

pub node_to_expr-returns-in_ok-try_clone-in-Literal : goal.node_to_expr-returns-in_ok-try_clone-in-Literal
node_to_expr-returns-in_ok-try_clone-in-Literal t c =
    one_alike literal (c.get.ensures.tree ∙ ap (node_tree c.args.arena.now) c.in-Literal.is) (tree-Literal _) c.in_ok-try_clone-in-Literal.ensures

pub node_to_expr-returns-in_ok-try_clone-in-Alias : goal.node_to_expr-returns-in_ok-try_clone-in-Alias
node_to_expr-returns-in_ok-try_clone-in-Alias t c =
    two_alike alias (c.get.ensures.tree ∙ ap (node_tree c.args.arena.now) c.in-Alias.is) (tree-Alias _ _) c.in_ok-expr-in-Alias.ensures c.in_ok-try_clone-in-Alias.ensures

pub node_to_expr-returns-in_ok-dtype-in-Cast : goal.node_to_expr-returns-in_ok-dtype-in-Cast
node_to_expr-returns-in_ok-dtype-in-Cast t c =
    two_alike (λ x k. cast x k c.in-Cast.options) (c.get.ensures.tree ∙ ap (node_tree c.args.arena.now) c.in-Cast.is) (tree-Cast _ _ _) c.in_ok-expr-in-Cast.ensures c.in_ok-dtype-in-Cast.ensures

pub node_to_expr-returns-in_ok-input-in-Function : goal.node_to_expr-returns-in_ok-input-in-Function
node_to_expr-returns-in_ok-input-in-Function t c =
    one_alike (λ xs. function xs (by_name c.in-Function.function)) (c.get.ensures.tree ∙ ap (node_tree c.args.arena.now) c.in-Function.is) (tree-Function _ _) (rw c.deref.ensures.value at c.in_ok-input-in-Function.ensures)

pub node_to_expr-returns-in_ok-share_expr-in-Explode : goal.node_to_expr-returns-in_ok-share_expr-in-Explode
node_to_expr-returns-in_ok-share_expr-in-Explode t c =
    one_alike (λ x. function (one_tree x no_trees) as_explode) (c.get.ensures.tree ∙ ap (node_tree c.args.arena.now) c.in-Explode.is) (tree-Explode _) c.in_ok-share_expr-in-Explode.ensures

pub node_to_expr-returns-in_ok-expr-in-Sort : goal.node_to_expr-returns-in_ok-expr-in-Sort
node_to_expr-returns-in_ok-expr-in-Sort t c =
    one_alike (λ x. sort x c.in-Sort.options) (c.get.ensures.tree ∙ ap (node_tree c.args.arena.now) c.in-Sort.is) (tree-Sort _ _) c.in_ok-expr-in-Sort.ensures

pub node_to_expr-returns-in_ok-agg_to_expr-in-Agg : goal.node_to_expr-returns-in_ok-agg_to_expr-in-Agg
node_to_expr-returns-in_ok-agg_to_expr-in-Agg t c =
    one_alike (λ x. x) (c.get.ensures.tree ∙ ap (node_tree c.args.arena.now) c.in-Agg.is) (tree-Agg _) c.in_ok-agg_to_expr-in-Agg.ensures

pub node_to_expr-nodes_to_exprs-requires : goal.node_to_expr-nodes_to_exprs-requires
node_to_expr-nodes_to_exprs-requires t c =
    children_fall c.args.node.0 _ t _ c.decreases c.requires (rw c.deref.ensures.value (below_seen _ c.in-Function.is c.get.ensures.children))

pub node_to_expr-nodes_to_exprs-requires-in-SortBy : goal.node_to_expr-nodes_to_exprs-requires-in-SortBy
node_to_expr-nodes_to_exprs-requires-in-SortBy t c =
    children_fall c.args.node.0 _ t _ c.decreases c.requires (rw c.deref-in-SortBy.ensures.value (and_right _ _ (below_seen _ c.in-SortBy.is c.get.ensures.children)))

pub node_to_expr-nodes_to_exprs-requires-in-Window : goal.node_to_expr-nodes_to_exprs-requires-in-Window
node_to_expr-nodes_to_exprs-requires-in-Window t c =
    let b = below_seen _ c.in-Window.is c.get.ensures.children in
    let keys = and_left (all_below c.args.node.0 c.in-Window.partition_by.items) _ (and_right (is_below c.args.node.0 c.in-Window.function) _ b) in
    children_fall c.args.node.0 _ t _ c.decreases c.requires (rw c.deref-in-Window.ensures.value keys)

pub node_to_expr-agg_to_expr-requires : goal.node_to_expr-agg_to_expr-requires
node_to_expr-agg_to_expr-requires t c =
    children_fall c.args.node.0 _ t _ c.decreases c.requires (below_seen _ c.in-Agg.is c.get.ensures.children)

pub node_to_expr-order_to_expr-requires : goal.node_to_expr-order_to_expr-requires
node_to_expr-order_to_expr-requires t c =
    children_fall c.args.node.0 _ t _ c.decreases c.requires (and_right _ _ (and_right _ _ (below_seen _ c.in-Window.is c.get.ensures.children)))
