use Rattle.std.proofs.Common.{◌≡◌, ◌++◌, map, ap, rules, sym, ◌∙◌}
use Rattle.px_tree.proofs.Shapes.{tree-BinaryExpr, tree-Ternary, tree-Function, tree-Filter, tree-Slice, tree-Gather, tree-SortBy, tree-Window}
use Rattle.px_tree.specs.Nodes.{leaf_names, all_leaf_names, order_leaf_names}
use Rattle.px_tree.specs.Tree.{by_name, sort_by, window}
use Rattle.px_tree.specs.View.{order_tree, tree, trees}
use Rattle.px_physical.specs.NodeView.{order_of, plan_of}
use Rattle.px_expr.specs.Plan.{function_of}
use Rattle.px_expr.proofs.PlannedOver.{two_over, three_over, list_over, one_and_list_over, call_over, sort_by_over, window_over, window_tree_over}
use Rattle.px_expr.proofs.planner.+plan_expr.Goals as goal

pub plan_expr-plan_apply-requires-clause-tree : goal.plan_expr-plan_apply-requires-clause-tree
plan_expr-plan_apply-requires-clause-tree t c =
    let shape = ap tree c.in-Function.is ∙ tree-Function c.in-Function.input c.in-Function.function in
    call_over c.args.schema.now.value (tree c.args.expr.now) (trees c.in-Function.input) (by_name c.in-Function.function) (map plan_of c.in_ok-inputs-in-Function.inputs.items) shape c.in_ok-inputs-in-Function.ensures

pub plan_expr-plan_sort_by-requires : goal.plan_expr-plan_sort_by-requires
plan_expr-plan_sort_by-requires t c =
    let told : tree c.args.expr.now ≡ sort_by (tree c.in-SortBy.input.value) (trees c.in-SortBy.by) c.in-SortBy.sort_options = ap tree c.in-SortBy.is ∙ tree-SortBy c.in-SortBy.input c.in-SortBy.by c.in-SortBy.sort_options in
    let shape : tree c.args.expr.now ≡ sort_by (tree c.deref-in-SortBy.result.now) (trees c.in-SortBy.by) c.in-SortBy.sort_options = cc (told, c.deref-in-SortBy.ensures) in
    sort_by_over c.args.schema.now.value (tree c.args.expr.now) (tree c.deref-in-SortBy.result.now) (trees c.in-SortBy.by) c.in-SortBy.sort_options (plan_of c.in_ok-input-in-SortBy.input) (map plan_of c.in_ok-by-in-SortBy.by.items) shape c.in_ok-input-in-SortBy.ensures c.in_ok-by-in-SortBy.ensures

pub plan_expr-returns-in_ok-right-in-BinaryExpr : goal.plan_expr-returns-in_ok-right-in-BinaryExpr
plan_expr-returns-in_ok-right-in-BinaryExpr t c =
    let told : leaf_names (tree c.args.expr.now) ≡ leaf_names (tree c.in-BinaryExpr.left.value) ++ leaf_names (tree c.in-BinaryExpr.right.value) = ap leaf_names (ap tree c.in-BinaryExpr.is ∙ tree-BinaryExpr c.in-BinaryExpr.left c.in-BinaryExpr.op c.in-BinaryExpr.right) in
    let named : leaf_names (tree c.args.expr.now) ≡ leaf_names (tree c.deref-in-BinaryExpr.result.now) ++ leaf_names (tree c.deref-in-BinaryExpr-2.result.now) = cc (told, c.deref-in-BinaryExpr.ensures, c.deref-in-BinaryExpr-2.ensures) in
    two_over plan_of c.plan_binary.result c.args.schema.now.value (tree c.args.expr.now) (tree c.deref-in-BinaryExpr.result.now) (tree c.deref-in-BinaryExpr-2.result.now) (plan_of c.in_ok-left-in-BinaryExpr.left) (plan_of c.in_ok-right-in-BinaryExpr.right) named c.in_ok-left-in-BinaryExpr.ensures c.in_ok-right-in-BinaryExpr.ensures c.plan_binary.ensures

pub plan_expr-returns-in_ok-falsy-in-Ternary : goal.plan_expr-returns-in_ok-falsy-in-Ternary
plan_expr-returns-in_ok-falsy-in-Ternary t c =
    let told : leaf_names (tree c.args.expr.now) ≡ leaf_names (tree c.in-Ternary.predicate.value) ++ (leaf_names (tree c.in-Ternary.truthy.value) ++ leaf_names (tree c.in-Ternary.falsy.value)) = ap leaf_names (ap tree c.in-Ternary.is ∙ tree-Ternary c.in-Ternary.predicate c.in-Ternary.truthy c.in-Ternary.falsy) in
    let named : leaf_names (tree c.args.expr.now) ≡ leaf_names (tree c.deref-in-Ternary.result.now) ++ (leaf_names (tree c.deref-in-Ternary-2.result.now) ++ leaf_names (tree c.deref-in-Ternary-3.result.now)) = cc (told, c.deref-in-Ternary.ensures, c.deref-in-Ternary-2.ensures, c.deref-in-Ternary-3.ensures) in
    three_over plan_of c.plan_ternary.result c.args.schema.now.value (tree c.args.expr.now) (tree c.deref-in-Ternary.result.now) (tree c.deref-in-Ternary-2.result.now) (tree c.deref-in-Ternary-3.result.now) (plan_of c.in_ok-predicate-in-Ternary.predicate) (plan_of c.in_ok-truthy-in-Ternary.truthy) (plan_of c.in_ok-falsy-in-Ternary.falsy) named c.in_ok-predicate-in-Ternary.ensures c.in_ok-truthy-in-Ternary.ensures c.in_ok-falsy-in-Ternary.ensures c.plan_ternary.ensures

pub plan_expr-returns-in_ok-inputs-in-Function : goal.plan_expr-returns-in_ok-inputs-in-Function
plan_expr-returns-in_ok-inputs-in-Function t c =
    let named : leaf_names (tree c.args.expr.now) ≡ all_leaf_names (trees c.in-Function.input) = ap leaf_names (ap tree c.in-Function.is ∙ tree-Function c.in-Function.input c.in-Function.function) in
    list_over plan_of c.plan_apply.result c.args.schema.now.value (tree c.args.expr.now) (trees c.in-Function.input) (map plan_of c.in_ok-inputs-in-Function.inputs.items) named c.in_ok-inputs-in-Function.ensures c.plan_apply.ensures

pub plan_expr-returns-in_ok-by-in-Filter : goal.plan_expr-returns-in_ok-by-in-Filter
plan_expr-returns-in_ok-by-in-Filter t c =
    let told : leaf_names (tree c.args.expr.now) ≡ leaf_names (tree c.in-Filter.input.value) ++ leaf_names (tree c.in-Filter.by.value) = ap leaf_names (ap tree c.in-Filter.is ∙ tree-Filter c.in-Filter.input c.in-Filter.by) in
    let named : leaf_names (tree c.args.expr.now) ≡ leaf_names (tree c.deref-in-Filter.result.now) ++ leaf_names (tree c.deref-in-Filter-2.result.now) = cc (told, c.deref-in-Filter.ensures, c.deref-in-Filter-2.ensures) in
    two_over plan_of c.plan_filter.result c.args.schema.now.value (tree c.args.expr.now) (tree c.deref-in-Filter.result.now) (tree c.deref-in-Filter-2.result.now) (plan_of c.in_ok-input-in-Filter.input) (plan_of c.in_ok-by-in-Filter.by) named c.in_ok-input-in-Filter.ensures c.in_ok-by-in-Filter.ensures c.plan_filter.ensures

pub plan_expr-returns-in_ok-length-in-Slice : goal.plan_expr-returns-in_ok-length-in-Slice
plan_expr-returns-in_ok-length-in-Slice t c =
    let told : leaf_names (tree c.args.expr.now) ≡ leaf_names (tree c.in-Slice.input.value) ++ (leaf_names (tree c.in-Slice.offset.value) ++ leaf_names (tree c.in-Slice.length.value)) = ap leaf_names (ap tree c.in-Slice.is ∙ tree-Slice c.in-Slice.input c.in-Slice.offset c.in-Slice.length) in
    let named : leaf_names (tree c.args.expr.now) ≡ leaf_names (tree c.deref-in-Slice.result.now) ++ (leaf_names (tree c.deref-in-Slice-2.result.now) ++ leaf_names (tree c.deref-in-Slice-3.result.now)) = cc (told, c.deref-in-Slice.ensures, c.deref-in-Slice-2.ensures, c.deref-in-Slice-3.ensures) in
    three_over plan_of c.plan_slice.result c.args.schema.now.value (tree c.args.expr.now) (tree c.deref-in-Slice.result.now) (tree c.deref-in-Slice-2.result.now) (tree c.deref-in-Slice-3.result.now) (plan_of c.in_ok-input-in-Slice.input) (plan_of c.in_ok-offset-in-Slice.offset) (plan_of c.in_ok-length-in-Slice.length) named c.in_ok-input-in-Slice.ensures c.in_ok-offset-in-Slice.ensures c.in_ok-length-in-Slice.ensures c.plan_slice.ensures

pub plan_expr-returns-in_ok-idx-in-Gather : goal.plan_expr-returns-in_ok-idx-in-Gather
plan_expr-returns-in_ok-idx-in-Gather t c =
    let told : leaf_names (tree c.args.expr.now) ≡ leaf_names (tree c.in-Gather.input.value) ++ leaf_names (tree c.in-Gather.idx.value) = ap leaf_names (ap tree c.in-Gather.is ∙ tree-Gather c.in-Gather.input c.in-Gather.idx c.in-Gather.returns_scalar) in
    let named : leaf_names (tree c.args.expr.now) ≡ leaf_names (tree c.deref-in-Gather.result.now) ++ leaf_names (tree c.deref-in-Gather-2.result.now) = cc (told, c.deref-in-Gather.ensures, c.deref-in-Gather-2.ensures) in
    two_over plan_of c.plan_gather.result c.args.schema.now.value (tree c.args.expr.now) (tree c.deref-in-Gather.result.now) (tree c.deref-in-Gather-2.result.now) (plan_of c.in_ok-input-in-Gather.input) (plan_of c.in_ok-idx-in-Gather.idx) named c.in_ok-input-in-Gather.ensures c.in_ok-idx-in-Gather.ensures c.plan_gather.ensures

pub plan_expr-returns-in_ok-by-in-SortBy : goal.plan_expr-returns-in_ok-by-in-SortBy
plan_expr-returns-in_ok-by-in-SortBy t c =
    let told : leaf_names (tree c.args.expr.now) ≡ leaf_names (tree c.in-SortBy.input.value) ++ all_leaf_names (trees c.in-SortBy.by) = ap leaf_names (ap tree c.in-SortBy.is ∙ tree-SortBy c.in-SortBy.input c.in-SortBy.by c.in-SortBy.sort_options) in
    let named : leaf_names (tree c.args.expr.now) ≡ leaf_names (tree c.deref-in-SortBy.result.now) ++ all_leaf_names (trees c.in-SortBy.by) = cc (told, c.deref-in-SortBy.ensures) in
    one_and_list_over plan_of c.plan_sort_by.result c.args.schema.now.value (tree c.args.expr.now) (tree c.deref-in-SortBy.result.now) (trees c.in-SortBy.by) (plan_of c.in_ok-input-in-SortBy.input) (map plan_of c.in_ok-by-in-SortBy.by.items) named c.in_ok-input-in-SortBy.ensures c.in_ok-by-in-SortBy.ensures c.plan_sort_by.ensures

pub plan_expr-plan_window-requires-clause-tree : goal.plan_expr-plan_window-requires-clause-tree
plan_expr-plan_window-requires-clause-tree t c =
    let told = ap tree c.in-Window.is ∙ tree-Window c.in-Window.function c.in-Window.partition_by c.in-Window.order_by c.in-Window.options in
    let shape = told ∙ ap (window (tree c.in-Window.function.value) (trees c.in-Window.partition_by) (order_tree c.in-Window.order_by)) (sym c.mapping_of.ensures) in
    window_tree_over c.args.schema.now.value (tree c.args.expr.now) (tree c.in-Window.function.value) (trees c.in-Window.partition_by) (order_tree c.in-Window.order_by) c.mapping_of.result (function_of c.in_ok-planned-in-Window.planned) (map plan_of c.in_ok-keys-in-Window.keys.items) (order_of c.in_ok-order-in-Window.order) shape (search rules) c.in_ok-keys-in-Window.ensures c.in_ok-order-in-Window.ensures

pub plan_expr-returns-in_ok-order-in-Window : goal.plan_expr-returns-in_ok-order-in-Window
plan_expr-returns-in_ok-order-in-Window t c =
    let told : leaf_names (tree c.args.expr.now) ≡ leaf_names (tree c.in-Window.function.value) ++ (all_leaf_names (trees c.in-Window.partition_by) ++ order_leaf_names (order_tree c.in-Window.order_by)) = ap leaf_names (ap tree c.in-Window.is ∙ tree-Window c.in-Window.function c.in-Window.partition_by c.in-Window.order_by c.in-Window.options) in
    window_over plan_of c.plan_window.result c.args.schema.now.value (tree c.args.expr.now) (tree c.in-Window.function.value) (trees c.in-Window.partition_by) (order_tree c.in-Window.order_by) (function_of c.in_ok-planned-in-Window.planned) (map plan_of c.in_ok-keys-in-Window.keys.items) (order_of c.in_ok-order-in-Window.order) told (search rules) c.in_ok-keys-in-Window.ensures c.in_ok-order-in-Window.ensures c.plan_window.ensures
