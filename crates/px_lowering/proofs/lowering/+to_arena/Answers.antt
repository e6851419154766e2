use Rattle.std.proofs.Common.{◌≡◌, ◌<◌, ◌++◌, length, map, [], append-nil, Ok, refl, sym, ap, ◌∙◌, arith}
use Rattle.std.proofs.lemmas.Grind.{common_steps}
use Rattle.px_column.specs.Prelude.{kind_of}
use Rattle.px_value.specs.declared.error.PxError.{PxError}
use Rattle.px_lowering.proofs.Adding.{OnErr-of, AddsFront-more, AddsFront-after, added_twice, kept, kept_all, kept_last, last_below, longer, made_one, made_two, made_three, added_seen, added_count, front_seen, children_refused, is_last_below, later_below, both_true, all_below_later, all_below_push, postorder-children, seen_postorder, seen_rest, seen_part, more_part, placed}
use Rattle.px_tree.proofs.Shapes.{tree-Column, tree-Literal, tree-Alias, tree-BinaryExpr, tree-Ternary, tree-Cast, tree-Function, tree-Explode, tree-Filter, tree-Slice, tree-Gather, tree-Sort, tree-SortBy, tree-Agg, tree-Window}
use Rattle.px_lowering.proofs.Views.{trees_is}
use Rattle.px_lowering.specs.Adding.{AddsFront}
use Rattle.px_tree.specs.Nodes.{postorder, all_postorder, order_postorder}
use Rattle.px_tree.specs.Tree.{Tree, Trees, Order, trees_of, by_name, as_explode, no_trees, one_tree, column, literal, alias, binary, ternary, cast, function, filter, slice, gather, sort, sort_by, window}
use Rattle.px_tree.specs.View.{tree, trees, order_tree, mapping_of}
use Rattle.px_lowering.proofs.lowering.+to_arena.Goals as goal

pub children_to_arena-returns-in_ok-try_clone-in-Column : goal.children_to_arena-returns-in_ok-try_clone-in-Column
children_to_arena-returns-in_ok-try_clone-in-Column t c =
    let seen = ap tree c.in-Column.is ∙ tree-Column _ in
    let added = added_seen _ _ seen (sym (append-nil _)) in
    record { added = added; part = tt; count = added_count _ _ _ added; tree = ap Ok (made_one column seen (kept_last c.in_ok-try_clone-in-Column.ensures)); below = refl }

pub children_to_arena-returns-in_ok-try_clone-in-Literal : goal.children_to_arena-returns-in_ok-try_clone-in-Literal
children_to_arena-returns-in_ok-try_clone-in-Literal t c =
    let seen = ap tree c.in-Literal.is ∙ tree-Literal _ in
    let added = added_seen _ _ seen (sym (append-nil _)) in
    record { added = added; part = tt; count = added_count _ _ _ added; tree = ap Ok (made_one literal seen (kept_last c.in_ok-try_clone-in-Literal.ensures)); below = refl }

pub children_to_arena-returns-in_ok-expr-in-Alias : goal.children_to_arena-returns-in_ok-expr-in-Alias
children_to_arena-returns-in_ok-expr-in-Alias t c =
    let seen = made_one (λ x. alias x c.in-Alias.name) (ap tree c.in-Alias.is ∙ tree-Alias _ _) (ap tree c.deref.ensures) in
    let added = added_seen _ _ seen c.in_ok-expr-in-Alias.ensures.added in
    record { added = added; part = tt; count = added_count _ _ _ added; tree = ap Ok (made_two alias seen c.in_ok-expr-in-Alias.ensures.tree (kept_last c.in_ok-name-in-Alias.ensures)); below = is_last_below {E = PxError} _ _ c.in_ok-expr-in-Alias.ensures.last }

pub children_to_arena-returns-in_ok-expr-in-Cast : goal.children_to_arena-returns-in_ok-expr-in-Cast
children_to_arena-returns-in_ok-expr-in-Cast t c =
    let seen = made_one (λ x. cast x (kind_of c.in-Cast.dtype) c.in-Cast.options) (ap tree c.in-Cast.is ∙ tree-Cast _ _ _) (ap tree c.deref-in-Cast.ensures) in
    let added = added_seen _ _ seen c.in_ok-expr-in-Cast.ensures.added in
    record { added = added; part = tt; count = added_count _ _ _ added; tree = ap Ok (made_two (λ x k. cast x k c.in-Cast.options) seen c.in_ok-expr-in-Cast.ensures.tree (kept_last c.in_ok-dtype-in-Cast.ensures)); below = is_last_below {E = PxError} _ _ c.in_ok-expr-in-Cast.ensures.last }

pub children_to_arena-returns-in_ok-expr-in-Explode : goal.children_to_arena-returns-in_ok-expr-in-Explode
children_to_arena-returns-in_ok-expr-in-Explode t c =
    let seen = made_one (λ x. function (one_tree x no_trees) as_explode) (ap tree c.in-Explode.is ∙ tree-Explode _) (ap tree c.deref-in-Explode.ensures) in
    let added = added_seen c.args.arena.now c.to_arena-in-Explode.new.arena seen (rw (append-nil (postorder (tree c.deref-in-Explode.result.now))) c.in_ok-expr-in-Explode.ensures.added) in
    record { added = added; part = tt; count = added_count _ _ _ added; tree = ap Ok (made_one (λ x. function (one_tree x no_trees) as_explode) seen c.in_ok-expr-in-Explode.ensures.tree); below = is_last_below {E = PxError} _ _ c.in_ok-expr-in-Explode.ensures.last }

pub children_to_arena-returns-in_ok-expr-in-Sort : goal.children_to_arena-returns-in_ok-expr-in-Sort
children_to_arena-returns-in_ok-expr-in-Sort t c =
    let seen = made_one (λ x. sort x c.in-Sort.options) (ap tree c.in-Sort.is ∙ tree-Sort _ _) (ap tree c.deref-in-Sort.ensures) in
    let added = added_seen _ _ seen c.in_ok-expr-in-Sort.ensures.added in
    record { added = added; part = tt; count = added_count _ _ _ added; tree = ap Ok (made_one (λ x. sort x c.in-Sort.options) seen c.in_ok-expr-in-Sort.ensures.tree); below = is_last_below {E = PxError} _ _ c.in_ok-expr-in-Sort.ensures.last }

pub children_to_arena-returns-in_ok-left-in-BinaryExpr : goal.children_to_arena-returns-in_ok-left-in-BinaryExpr
children_to_arena-returns-in_ok-left-in-BinaryExpr t c =
    let seen = made_two (λ x y. binary x c.in-BinaryExpr.op y) (ap tree c.in-BinaryExpr.is ∙ tree-BinaryExpr _ _ _) (ap tree c.deref-in-BinaryExpr.ensures) (ap tree c.deref-in-BinaryExpr-2.ensures) in
    let added = added_seen _ _ seen c.in_ok-left-in-BinaryExpr.ensures.added in
    record { added = added; part = tt; count = added_count _ _ _ added; tree = ap Ok (made_two (λ x y. binary x c.in-BinaryExpr.op y) seen (kept_last c.in_ok-left-in-BinaryExpr.ensures.first) c.in_ok-left-in-BinaryExpr.ensures.second); below = c.in_ok-left-in-BinaryExpr.ensures.below }

pub children_to_arena-returns-in_ok-input-in-Filter : goal.children_to_arena-returns-in_ok-input-in-Filter
children_to_arena-returns-in_ok-input-in-Filter t c =
    let seen = made_two filter (ap tree c.in-Filter.is ∙ tree-Filter _ _) (ap tree c.deref-in-Filter.ensures) (ap tree c.deref-in-Filter-2.ensures) in
    let added = added_seen _ _ seen c.in_ok-input-in-Filter.ensures.added in
    record { added = added; part = tt; count = added_count _ _ _ added; tree = ap Ok (made_two filter seen (kept_last c.in_ok-input-in-Filter.ensures.first) c.in_ok-input-in-Filter.ensures.second); below = c.in_ok-input-in-Filter.ensures.below }

pub children_to_arena-returns-in_ok-expr-in-Gather : goal.children_to_arena-returns-in_ok-expr-in-Gather
children_to_arena-returns-in_ok-expr-in-Gather t c =
    let seen = made_two (λ x y. gather x y c.in-Gather.returns_scalar) (ap tree c.in-Gather.is ∙ tree-Gather _ _ _) (ap tree c.deref-in-Gather.ensures) (ap tree c.deref-in-Gather-2.ensures) in
    let added = added_seen _ _ seen c.in_ok-expr-in-Gather.ensures.added in
    record { added = added; part = tt; count = added_count _ _ _ added; tree = ap Ok (made_two (λ x y. gather x y c.in-Gather.returns_scalar) seen (kept_last c.in_ok-expr-in-Gather.ensures.first) c.in_ok-expr-in-Gather.ensures.second); below = c.in_ok-expr-in-Gather.ensures.below }

pub children_to_arena-returns-in_ok-predicate-in-Ternary : goal.children_to_arena-returns-in_ok-predicate-in-Ternary
children_to_arena-returns-in_ok-predicate-in-Ternary t c =
    let seen = made_three ternary (ap tree c.in-Ternary.is ∙ tree-Ternary _ _ _) (ap tree c.deref-in-Ternary.ensures) (ap tree c.deref-in-Ternary-2.ensures) (ap tree c.deref-in-Ternary-3.ensures) in
    let added = added_seen _ _ seen c.in_ok-predicate-in-Ternary.ensures.added in
    record { added = added; part = tt; count = added_count _ _ _ added; tree = ap Ok (made_three ternary seen (kept_last c.in_ok-predicate-in-Ternary.ensures.first) c.in_ok-predicate-in-Ternary.ensures.second c.in_ok-predicate-in-Ternary.ensures.third); below = c.in_ok-predicate-in-Ternary.ensures.below }

pub children_to_arena-returns-in_ok-input-in-Slice : goal.children_to_arena-returns-in_ok-input-in-Slice
children_to_arena-returns-in_ok-input-in-Slice t c =
    let seen = made_three slice (ap tree c.in-Slice.is ∙ tree-Slice _ _ _) (ap tree c.deref-in-Slice.ensures) (ap tree c.deref-in-Slice-2.ensures) (ap tree c.deref-in-Slice-3.ensures) in
    let added = added_seen _ _ seen c.in_ok-input-in-Slice.ensures.added in
    record { added = added; part = tt; count = added_count _ _ _ added; tree = ap Ok (made_three slice seen (kept_last c.in_ok-input-in-Slice.ensures.first) c.in_ok-input-in-Slice.ensures.second c.in_ok-input-in-Slice.ensures.third); below = c.in_ok-input-in-Slice.ensures.below }

pub children_to_arena-returns-in_ok-input-in-Function : goal.children_to_arena-returns-in_ok-input-in-Function
children_to_arena-returns-in_ok-input-in-Function t c =
    let seen = ap tree c.in-Function.is ∙ tree-Function _ _ in
    let added = added_seen _ _ seen c.in_ok-input-in-Function.ensures.added in
    record { added = added; part = tt; count = added_count _ _ _ added; tree = ap Ok (made_one (λ xs. function xs (by_name c.in-Function.function)) seen (kept_last c.in_ok-input-in-Function.ensures.trees)); below = c.in_ok-input-in-Function.ensures.below }

pub children_to_arena-returns-in_ok-agg-in-Agg : goal.children_to_arena-returns-in_ok-agg-in-Agg
children_to_arena-returns-in_ok-agg-in-Agg t c =
    let seen = ap tree c.in-Agg.is ∙ tree-Agg _ in
    let added = added_seen _ _ seen c.in_ok-agg-in-Agg.ensures.added in
    record { added = added; part = tt; count = added_count _ _ _ added; tree = ap Ok (made_one (λ x. x) seen (kept_last c.in_ok-agg-in-Agg.ensures.tree)); below = c.in_ok-agg-in-Agg.ensures.below }

pub children_to_arena-returns-in_ok-by-in-SortBy : goal.children_to_arena-returns-in_ok-by-in-SortBy
children_to_arena-returns-in_ok-by-in-SortBy t c =
    let seen = made_one (λ x. sort_by x (trees c.in-SortBy.by) c.in-SortBy.sort_options) (ap tree c.in-SortBy.is ∙ tree-SortBy _ _ _) (ap tree c.deref-in-SortBy.ensures) in
    let added = added_seen _ _ seen (added_twice _ _ _ _ _ c.in_ok-expr-in-SortBy.ensures.added c.in_ok-by-in-SortBy.ensures.added) in
    let first = kept {E = PxError} c.to_arena-in-SortBy.new.arena c.all_to_arena-in-SortBy.new.arena _ c.in_ok-expr-in-SortBy.expr (tree c.deref-in-SortBy.result.now) c.in_ok-by-in-SortBy.ensures.added c.in_ok-expr-in-SortBy.ensures.last c.in_ok-expr-in-SortBy.ensures.tree in
    let stays = later_below c.in_ok-expr-in-SortBy.expr _ _ (longer c.to_arena-in-SortBy.new.arena c.all_to_arena-in-SortBy.new.arena _ c.in_ok-by-in-SortBy.ensures.added) (is_last_below {E = PxError} _ _ c.in_ok-expr-in-SortBy.ensures.last) in
    record { added = added; part = tt; count = added_count _ _ _ added; tree = ap Ok (made_three sort_by seen first (kept_last c.in_ok-by-in-SortBy.ensures.trees) (kept_last c.in_ok-sort_options-in-SortBy.ensures)); below = both_true stays c.in_ok-by-in-SortBy.ensures.below }

pub children_to_arena-returns-in_ok-order_by-in-Window : goal.children_to_arena-returns-in_ok-order_by-in-Window
children_to_arena-returns-in_ok-order_by-in-Window t c =
    let make : Tree → Trees → Order → Tree = λ x ys o. window x ys o (mapping_of c.in-Window.options) in
    let seen = made_one (λ x. make x (trees c.in-Window.partition_by) (order_tree c.in-Window.order_by)) (ap tree c.in-Window.is ∙ tree-Window _ _ _ _) (ap tree c.deref-in-Window.ensures) in
    let more = added_twice c.to_arena-in-Window.new.arena c.all_to_arena-in-Window.new.arena c.order_to_arena.new.arena (all_postorder (trees c.in-Window.partition_by)) (order_postorder (order_tree c.in-Window.order_by)) c.in_ok-partition_by-in-Window.ensures.added c.in_ok-order_by-in-Window.ensures.added in
    let added = added_seen _ _ seen (added_twice _ _ _ _ _ c.in_ok-function-in-Window.ensures.added more) in
    let first = kept {E = PxError} c.to_arena-in-Window.new.arena c.order_to_arena.new.arena _ c.in_ok-function-in-Window.function (tree c.deref-in-Window.result.now) more c.in_ok-function-in-Window.ensures.last c.in_ok-function-in-Window.ensures.tree in
    let keys = kept_all {E = PxError} c.all_to_arena-in-Window.new.arena c.order_to_arena.new.arena _ c.in_ok-partition_by-in-Window.partition_by.items (trees c.in-Window.partition_by) c.in_ok-order_by-in-Window.ensures.added c.in_ok-partition_by-in-Window.ensures.below c.in_ok-partition_by-in-Window.ensures.trees in
    let stays = later_below c.in_ok-function-in-Window.function _ _ (longer c.to_arena-in-Window.new.arena c.order_to_arena.new.arena _ more) (is_last_below {E = PxError} _ _ c.in_ok-function-in-Window.ensures.last) in
    let keys_stay = all_below_later _ _ _ (longer c.all_to_arena-in-Window.new.arena c.order_to_arena.new.arena _ c.in_ok-order_by-in-Window.ensures.added) c.in_ok-partition_by-in-Window.ensures.below in
    record { added = added; part = tt; count = added_count _ _ _ added; tree = ap Ok (made_three make seen first keys (kept_last c.in_ok-order_by-in-Window.ensures.order)); below = both_true stays (both_true keys_stay c.in_ok-order_by-in-Window.ensures.below) }

pub children_to_arena-returns-in_err-expr-in-Alias : goal.children_to_arena-returns-in_err-expr-in-Alias
children_to_arena-returns-in_err-expr-in-Alias t c =
    let seen = made_one (λ x. alias x c.in-Alias.name) (ap tree c.in-Alias.is ∙ tree-Alias _ _) (ap tree c.deref.ensures) in
    children_refused _ c.in_err-expr-in-Alias.field-0.0 _ _ _ _ c.from_residual-in_err-expr-in-Alias.ensures.1 c.in_err-expr-in-Alias.ensures.last (front_seen _ _ seen c.in_err-expr-in-Alias.ensures.part)

pub children_to_arena-returns-in_err-expr-in-Cast : goal.children_to_arena-returns-in_err-expr-in-Cast
children_to_arena-returns-in_err-expr-in-Cast t c =
    let seen = made_one (λ x. cast x (kind_of c.in-Cast.dtype) c.in-Cast.options) (ap tree c.in-Cast.is ∙ tree-Cast _ _ _) (ap tree c.deref-in-Cast.ensures) in
    children_refused _ c.in_err-expr-in-Cast.field-0.0 _ _ _ _ c.from_residual-in_err-expr-in-Cast.ensures.1 c.in_err-expr-in-Cast.ensures.last (front_seen _ _ seen c.in_err-expr-in-Cast.ensures.part)

pub children_to_arena-returns-in_err-expr-in-Explode : goal.children_to_arena-returns-in_err-expr-in-Explode
children_to_arena-returns-in_err-expr-in-Explode t c =
    let seen = made_one (λ x. function (one_tree x no_trees) as_explode) (ap tree c.in-Explode.is ∙ tree-Explode _) (ap tree c.deref-in-Explode.ensures) in
    children_refused _ c.in_err-expr-in-Explode.field-0.0 _ _ _ _ c.from_residual-in_err-expr-in-Explode.ensures.1 c.in_err-expr-in-Explode.ensures.last (front_seen _ _ seen (AddsFront-more _ _ _ [] c.in_err-expr-in-Explode.ensures.part))

pub children_to_arena-returns-in_err-expr-in-Sort : goal.children_to_arena-returns-in_err-expr-in-Sort
children_to_arena-returns-in_err-expr-in-Sort t c =
    let seen = made_one (λ x. sort x c.in-Sort.options) (ap tree c.in-Sort.is ∙ tree-Sort _ _) (ap tree c.deref-in-Sort.ensures) in
    children_refused _ c.in_err-expr-in-Sort.field-0.0 _ _ _ _ c.from_residual-in_err-expr-in-Sort.ensures.1 c.in_err-expr-in-Sort.ensures.last (front_seen _ _ seen c.in_err-expr-in-Sort.ensures.part)

pub children_to_arena-returns-in_err-left-in-BinaryExpr : goal.children_to_arena-returns-in_err-left-in-BinaryExpr
children_to_arena-returns-in_err-left-in-BinaryExpr t c =
    let seen = made_two (λ x y. binary x c.in-BinaryExpr.op y) (ap tree c.in-BinaryExpr.is ∙ tree-BinaryExpr _ _ _) (ap tree c.deref-in-BinaryExpr.ensures) (ap tree c.deref-in-BinaryExpr-2.ensures) in
    children_refused _ c.in_err-left-in-BinaryExpr.field-0.0 _ _ _ _ c.from_residual-in_err-left-in-BinaryExpr.ensures.1 c.in_err-left-in-BinaryExpr.ensures.first (front_seen _ _ seen c.in_err-left-in-BinaryExpr.ensures.part)

pub children_to_arena-returns-in_err-input-in-Filter : goal.children_to_arena-returns-in_err-input-in-Filter
children_to_arena-returns-in_err-input-in-Filter t c =
    let seen = made_two filter (ap tree c.in-Filter.is ∙ tree-Filter _ _) (ap tree c.deref-in-Filter.ensures) (ap tree c.deref-in-Filter-2.ensures) in
    children_refused _ c.in_err-input-in-Filter.field-0.0 _ _ _ _ c.from_residual-in_err-input-in-Filter.ensures.1 c.in_err-input-in-Filter.ensures.first (front_seen _ _ seen c.in_err-input-in-Filter.ensures.part)

pub children_to_arena-returns-in_err-expr-in-Gather : goal.children_to_arena-returns-in_err-expr-in-Gather
children_to_arena-returns-in_err-expr-in-Gather t c =
    let seen = made_two (λ x y. gather x y c.in-Gather.returns_scalar) (ap tree c.in-Gather.is ∙ tree-Gather _ _ _) (ap tree c.deref-in-Gather.ensures) (ap tree c.deref-in-Gather-2.ensures) in
    children_refused _ c.in_err-expr-in-Gather.field-0.0 _ _ _ _ c.from_residual-in_err-expr-in-Gather.ensures.1 c.in_err-expr-in-Gather.ensures.first (front_seen _ _ seen c.in_err-expr-in-Gather.ensures.part)

pub children_to_arena-returns-in_err-predicate-in-Ternary : goal.children_to_arena-returns-in_err-predicate-in-Ternary
children_to_arena-returns-in_err-predicate-in-Ternary t c =
    let seen = made_three ternary (ap tree c.in-Ternary.is ∙ tree-Ternary _ _ _) (ap tree c.deref-in-Ternary.ensures) (ap tree c.deref-in-Ternary-2.ensures) (ap tree c.deref-in-Ternary-3.ensures) in
    children_refused _ c.in_err-predicate-in-Ternary.field-0.0 _ _ _ _ c.from_residual-in_err-predicate-in-Ternary.ensures.1 c.in_err-predicate-in-Ternary.ensures.first (front_seen _ _ seen c.in_err-predicate-in-Ternary.ensures.part)

pub children_to_arena-returns-in_err-input-in-Slice : goal.children_to_arena-returns-in_err-input-in-Slice
children_to_arena-returns-in_err-input-in-Slice t c =
    let seen = made_three slice (ap tree c.in-Slice.is ∙ tree-Slice _ _ _) (ap tree c.deref-in-Slice.ensures) (ap tree c.deref-in-Slice-2.ensures) (ap tree c.deref-in-Slice-3.ensures) in
    children_refused _ c.in_err-input-in-Slice.field-0.0 _ _ _ _ c.from_residual-in_err-input-in-Slice.ensures.1 c.in_err-input-in-Slice.ensures.first (front_seen _ _ seen c.in_err-input-in-Slice.ensures.part)

pub children_to_arena-returns-in_err-input-in-Function : goal.children_to_arena-returns-in_err-input-in-Function
children_to_arena-returns-in_err-input-in-Function t c =
    let seen = ap tree c.in-Function.is ∙ tree-Function _ _ in
    children_refused _ c.in_err-input-in-Function.field-0.0 _ _ _ _ c.from_residual-in_err-input-in-Function.ensures.1 c.in_err-input-in-Function.ensures.trees (front_seen _ _ seen c.in_err-input-in-Function.ensures.part)

pub children_to_arena-returns-in_err-agg-in-Agg : goal.children_to_arena-returns-in_err-agg-in-Agg
children_to_arena-returns-in_err-agg-in-Agg t c =
    let seen = ap tree c.in-Agg.is ∙ tree-Agg _ in
    children_refused _ c.in_err-agg-in-Agg.field-0.0 _ _ _ _ c.from_residual-in_err-agg-in-Agg.ensures.1 c.in_err-agg-in-Agg.ensures.tree (front_seen _ _ seen c.in_err-agg-in-Agg.ensures.part)

pub children_to_arena-returns-in_err-expr-in-SortBy : goal.children_to_arena-returns-in_err-expr-in-SortBy
children_to_arena-returns-in_err-expr-in-SortBy t c =
    let seen = made_one (λ x. sort_by x (trees c.in-SortBy.by) c.in-SortBy.sort_options) (ap tree c.in-SortBy.is ∙ tree-SortBy _ _ _) (ap tree c.deref-in-SortBy.ensures) in
    children_refused _ c.in_err-expr-in-SortBy.field-0.0 _ _ _ _ c.from_residual-in_err-expr-in-SortBy.ensures.1 c.in_err-expr-in-SortBy.ensures.last (front_seen _ _ seen (AddsFront-more _ _ _ _ c.in_err-expr-in-SortBy.ensures.part))

pub children_to_arena-returns-in_err-by-in-SortBy : goal.children_to_arena-returns-in_err-by-in-SortBy
children_to_arena-returns-in_err-by-in-SortBy t c =
    let seen = made_one (λ x. sort_by x (trees c.in-SortBy.by) c.in-SortBy.sort_options) (ap tree c.in-SortBy.is ∙ tree-SortBy _ _ _) (ap tree c.deref-in-SortBy.ensures) in
    children_refused _ c.in_err-by-in-SortBy.field-0.0 _ _ _ _ c.from_residual-in_err-by-in-SortBy.ensures.1 c.in_err-by-in-SortBy.ensures.trees (front_seen _ _ seen (AddsFront-after _ _ _ _ _ c.in_ok-expr-in-SortBy.ensures.added c.in_err-by-in-SortBy.ensures.part))

pub children_to_arena-returns-in_err-function-in-Window : goal.children_to_arena-returns-in_err-function-in-Window
children_to_arena-returns-in_err-function-in-Window t c =
    let seen = made_one (λ x. window x (trees c.in-Window.partition_by) (order_tree c.in-Window.order_by) (mapping_of c.in-Window.options)) (ap tree c.in-Window.is ∙ tree-Window _ _ _ _) (ap tree c.deref-in-Window.ensures) in
    children_refused _ c.in_err-function-in-Window.field-0.0 _ _ _ _ c.from_residual-in_err-function-in-Window.ensures.1 c.in_err-function-in-Window.ensures.last (front_seen _ _ seen (AddsFront-more _ _ _ _ c.in_err-function-in-Window.ensures.part))

pub children_to_arena-returns-in_err-partition_by-in-Window : goal.children_to_arena-returns-in_err-partition_by-in-Window
children_to_arena-returns-in_err-partition_by-in-Window t c =
    let seen = made_one (λ x. window x (trees c.in-Window.partition_by) (order_tree c.in-Window.order_by) (mapping_of c.in-Window.options)) (ap tree c.in-Window.is ∙ tree-Window _ _ _ _) (ap tree c.deref-in-Window.ensures) in
    children_refused _ c.in_err-partition_by-in-Window.field-0.0 _ _ _ _ c.from_residual-in_err-partition_by-in-Window.ensures.1 c.in_err-partition_by-in-Window.ensures.trees (front_seen _ _ seen (AddsFront-after _ _ _ _ _ c.in_ok-function-in-Window.ensures.added (AddsFront-more _ _ _ _ c.in_err-partition_by-in-Window.ensures.part)))

pub children_to_arena-returns-in_err-order_by-in-Window : goal.children_to_arena-returns-in_err-order_by-in-Window
children_to_arena-returns-in_err-order_by-in-Window t c =
    let seen = made_one (λ x. window x (trees c.in-Window.partition_by) (order_tree c.in-Window.order_by) (mapping_of c.in-Window.options)) (ap tree c.in-Window.is ∙ tree-Window _ _ _ _) (ap tree c.deref-in-Window.ensures) in
    children_refused _ c.in_err-order_by-in-Window.field-0.0 _ _ _ _ c.from_residual-in_err-order_by-in-Window.ensures.1 c.in_err-order_by-in-Window.ensures.order (front_seen _ _ seen (AddsFront-after _ _ _ _ _ c.in_ok-function-in-Window.ensures.added (AddsFront-after _ _ _ _ _ c.in_ok-partition_by-in-Window.ensures.added c.in_err-order_by-in-Window.ensures.part)))

pub to_arena-returns-in_err-item-clause-part : goal.to_arena-returns-in_err-item-clause-part
to_arena-returns-in_err-item-clause-part t c =
    OnErr-of _ (AddsFront c.args.arena.now (postorder (tree c.args.expr.now)) c.children_to_arena.new.arena)
    (rw (postorder-children (tree c.args.expr.now)) (AddsFront-more _ _ _ _ c.in_err-item.ensures.part))

pub all_to_arena-returns-in_err-to_arena-clause-part : goal.all_to_arena-returns-in_err-to_arena-clause-part
all_to_arena-returns-in_err-to_arena-clause-part t c =
    let lt : c.loop-expr.expr-index < length c.deref-expr-items.result.now = omega arith in
    let e : trees c.args.exprs.now ≡ trees_of (map tree c.deref-expr-items.result.now) = rw trees_is (cc (c.deref-expr-items.ensures.value)) in
    OnErr-of _ (AddsFront c.args.arena.now (all_postorder (trees c.args.exprs.now)) c.to_arena.new.arena)
    (rw e (more_part c.deref-expr-items.result.now c.loop-expr.expr-index c.expr-item.result lt c.expr-item.is _ _ _ c.loop-expr.invariant.added c.in_err-to_arena.ensures.part))

pub all_to_arena-returns-in_err-push-clause-part : goal.all_to_arena-returns-in_err-push-clause-part
all_to_arena-returns-in_err-push-clause-part t c =
    let lt : c.loop-expr.expr-index < length c.deref-expr-items.result.now = omega arith in
    let e : trees c.args.exprs.now ≡ trees_of (map tree c.deref-expr-items.result.now) = rw trees_is (cc (c.deref-expr-items.ensures.value)) in
    OnErr-of _ (AddsFront c.args.arena.now (all_postorder (trees c.args.exprs.now)) c.to_arena.new.arena)
    (rw e (seen_part c.deref-expr-items.result.now c.loop-expr.expr-index c.expr-item.result lt c.expr-item.is _ _ (rw (seen_postorder c.deref-expr-items.result.now c.loop-expr.expr-index c.expr-item.result lt c.expr-item.is) (added_twice _ _ _ _ _ c.loop-expr.invariant.added c.in_ok-to_arena.ensures.added))))

pub all_to_arena-loop-expr-preserved : goal.all_to_arena-loop-expr-preserved
all_to_arena-loop-expr-preserved t c =
    let lt : c.loop-expr.expr-index < length c.deref-expr-items.result.now = omega arith in
    let i = c.in_ok-to_arena.ensures in
    let v = c.loop-expr.invariant in
    record {
      added = rw (seen_postorder c.deref-expr-items.result.now c.loop-expr.expr-index c.expr-item.result lt c.expr-item.is) (added_twice _ _ _ _ _ v.added i.added);
      trees = rw c.in_ok-push.ensures.items (placed c.deref-expr-items.result.now c.loop-expr.expr-index c.expr-item.result lt c.expr-item.is _ _ _ _ i.added v.below v.trees i.tree);
      below =
          rw c.in_ok-push.ensures.items
          (all_below_push _ _ _ (all_below_later _ _ _ (longer _ _ _ i.added) v.below) (last_below {E = PxError} _ _ i.last));
      count = omega (arith, i.count, v.count, seen_rest c.deref-expr-items.result.now c.loop-expr.expr-index c.expr-item.result lt c.expr-item.is);
      left = omega (arith, v.left, seen_rest c.deref-expr-items.result.now c.loop-expr.expr-index c.expr-item.result lt c.expr-item.is);
    }

pub all_to_arena-returns-clause-added : goal.all_to_arena-returns-clause-added
all_to_arena-returns-clause-added t c =
    rw trees_is (grind (arith, common_steps))

pub all_to_arena-returns-clause-trees : goal.all_to_arena-returns-clause-trees
all_to_arena-returns-clause-trees t c =
    rw trees_is (grind (arith, common_steps))

pub two_to_arena-returns-in_err-second-clause-part : goal.two_to_arena-returns-in_err-second-clause-part
two_to_arena-returns-in_err-second-clause-part t c =
    OnErr-of _ (AddsFront c.args.arena.now (postorder (tree c.args.first.now) ++ postorder (tree c.args.second.now)) c.to_arena-2.new.arena)
    (AddsFront-after _ _ _ _ _ c.in_ok-first.ensures.added c.in_err-second.ensures.part)

pub three_to_arena-returns-in_err-second-clause-part : goal.three_to_arena-returns-in_err-second-clause-part
three_to_arena-returns-in_err-second-clause-part t c =
    OnErr-of _ (AddsFront c.args.arena.now (postorder (tree c.args.first.now) ++ (postorder (tree c.args.second.now) ++ postorder (tree c.args.third.now))) c.two_to_arena.new.arena)
    (AddsFront-after _ _ _ _ _ c.in_ok-first.ensures.added c.in_err-second.ensures.part)
