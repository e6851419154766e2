use Rattle.std.proofs.Common.{◌≡◌, ◌∙◌, Some, ap, arith, codes, map, [], ◌∷◌, refl, rules, sym}
use Rattle.std.proofs.lemmas.Grind.{common_steps}
use Rattle.serde_json.specs.View.{view}
use Rattle.px_column.specs.Prelude.{kind_of}
use Rattle.px_tree.specs.Tree.{cast, trees_of}
use Rattle.px_tree.specs.View.{tree, trees}
use Rattle.px_tree.proofs.Shapes.{tree-Cast, tree-Window}
use Rattle.px_tree.specs.declared.window.WindowType.TheVariants.{Over}
use Rattle.px_document.specs.ExprForm.{expr_form, expr_within, row_form, whole_form}
use Rattle.px_document.specs.Form.{items}
use Rattle.std.proofs.lemmas.List.{map-append}
use Rattle.px_column.specs.Option.{each}
use Rattle.px_document.proofs.Readings.{each_end, each_missed, each_step, refused, with_front_none}
use Rattle.px_document.proofs.Forms.{keyed, left, other_key, past_leaves, past_rows, cast_missed, cast_taken, under_col, under_lit, under_range, under_series, under_alias, under_bin, under_when, under_cast, under_fn, under_explode, under_filter, under_slice, under_gather, under_sort, under_sort_by, under_agg, under_len, under_over}
use Rattle.px_tree.specs.declared.expr.AggExpr.TheFolds.{the_lemmas}
use Rattle.px_document.proofs.Parts.{passed, wanting, two_parts, three_parts}
use Rattle.px_document.proofs.document.+expr.Goals as goal

pub expr::read_form-returns-in-col : goal.expr::read_form-returns-in-col
expr::read_form-returns-in-col t c =
    keyed (expr_form (expr_within c.args.levels)) c.read_name.result (codes "col") c.args.key.now (view c.args.value.now) _ c.in-col.is (under_col (expr_within c.args.levels) (view c.args.value.now)) c.read_name.ensures

pub expr::read_form-returns-in-lit : goal.expr::read_form-returns-in-lit
expr::read_form-returns-in-lit t c =
    keyed (expr_form (expr_within c.args.levels)) c.read_literal.result (codes "lit") c.args.key.now (view c.args.value.now) _ c.in-lit.is (under_lit (expr_within c.args.levels) (view c.args.value.now)) c.read_literal.ensures

pub expr::read_form-returns-in-range : goal.expr::read_form-returns-in-range
expr::read_form-returns-in-range t c =
    keyed (expr_form (expr_within c.args.levels)) c.read_integers.result (codes "range") c.args.key.now (view c.args.value.now) _ c.in-range.is (under_range (expr_within c.args.levels) (view c.args.value.now)) c.read_integers.ensures

pub expr::read_form-returns-in-series : goal.expr::read_form-returns-in-series
expr::read_form-returns-in-series t c =
    keyed (expr_form (expr_within c.args.levels)) c.read_series.result (codes "series") c.args.key.now (view c.args.value.now) _ c.in-series.is (under_series (expr_within c.args.levels) (view c.args.value.now)) c.read_series.ensures

pub expr::read_row_form-returns-in-alias : goal.expr::read_row_form-returns-in-alias
expr::read_row_form-returns-in-alias t c =
    keyed (row_form (expr_within c.args.levels)) c.read_alias.result (codes "alias") c.args.key.now (view c.args.value.now) _ c.in-alias.is (under_alias (expr_within c.args.levels) (view c.args.value.now)) c.read_alias.ensures

pub expr::read_row_form-returns-in-bin : goal.expr::read_row_form-returns-in-bin
expr::read_row_form-returns-in-bin t c =
    keyed (row_form (expr_within c.args.levels)) c.read_binary.result (codes "bin") c.args.key.now (view c.args.value.now) _ c.in-bin.is (under_bin (expr_within c.args.levels) (view c.args.value.now)) c.read_binary.ensures

pub expr::read_row_form-returns-in-when : goal.expr::read_row_form-returns-in-when
expr::read_row_form-returns-in-when t c =
    keyed (row_form (expr_within c.args.levels)) c.read_ternary.result (codes "when") c.args.key.now (view c.args.value.now) _ c.in-when.is (under_when (expr_within c.args.levels) (view c.args.value.now)) c.read_ternary.ensures

pub expr::read_row_form-returns-in-cast : goal.expr::read_row_form-returns-in-cast
expr::read_row_form-returns-in-cast t c =
    keyed (row_form (expr_within c.args.levels)) c.read_cast.result (codes "cast") c.args.key.now (view c.args.value.now) _ c.in-cast.is (under_cast (expr_within c.args.levels) (view c.args.value.now)) c.read_cast.ensures

pub expr::read_row_form-returns-in-fn : goal.expr::read_row_form-returns-in-fn
expr::read_row_form-returns-in-fn t c =
    keyed (row_form (expr_within c.args.levels)) c.read_function.result (codes "fn") c.args.key.now (view c.args.value.now) _ c.in-fn.is (under_fn (expr_within c.args.levels) (view c.args.value.now)) c.read_function.ensures

pub expr::read_row_form-returns-in-explode : goal.expr::read_row_form-returns-in-explode
expr::read_row_form-returns-in-explode t c =
    keyed (row_form (expr_within c.args.levels)) c.read_explode.result (codes "explode") c.args.key.now (view c.args.value.now) _ c.in-explode.is (under_explode (expr_within c.args.levels) (view c.args.value.now)) c.read_explode.ensures

pub expr::read_whole_form-returns-in-filter : goal.expr::read_whole_form-returns-in-filter
expr::read_whole_form-returns-in-filter t c =
    keyed (whole_form (expr_within c.args.levels)) c.read_filter.result (codes "filter") c.args.key.now (view c.args.value.now) _ c.in-filter.is (under_filter (expr_within c.args.levels) (view c.args.value.now)) c.read_filter.ensures

pub expr::read_whole_form-returns-in-slice : goal.expr::read_whole_form-returns-in-slice
expr::read_whole_form-returns-in-slice t c =
    keyed (whole_form (expr_within c.args.levels)) c.read_slice.result (codes "slice") c.args.key.now (view c.args.value.now) _ c.in-slice.is (under_slice (expr_within c.args.levels) (view c.args.value.now)) c.read_slice.ensures

pub expr::read_whole_form-returns-in-gather : goal.expr::read_whole_form-returns-in-gather
expr::read_whole_form-returns-in-gather t c =
    keyed (whole_form (expr_within c.args.levels)) c.read_gather.result (codes "gather") c.args.key.now (view c.args.value.now) _ c.in-gather.is (under_gather (expr_within c.args.levels) (view c.args.value.now)) c.read_gather.ensures

pub expr::read_whole_form-returns-in-sort : goal.expr::read_whole_form-returns-in-sort
expr::read_whole_form-returns-in-sort t c =
    keyed (whole_form (expr_within c.args.levels)) c.read_sort.result (codes "sort") c.args.key.now (view c.args.value.now) _ c.in-sort.is (under_sort (expr_within c.args.levels) (view c.args.value.now)) c.read_sort.ensures

pub expr::read_whole_form-returns-in-sort_by : goal.expr::read_whole_form-returns-in-sort_by
expr::read_whole_form-returns-in-sort_by t c =
    keyed (whole_form (expr_within c.args.levels)) c.read_sort_by.result (codes "sort_by") c.args.key.now (view c.args.value.now) _ c.in-sort_by.is (under_sort_by (expr_within c.args.levels) (view c.args.value.now)) c.read_sort_by.ensures

pub expr::read_whole_form-returns-in-agg : goal.expr::read_whole_form-returns-in-agg
expr::read_whole_form-returns-in-agg t c =
    keyed (whole_form (expr_within c.args.levels)) c.read_reduction.result (codes "agg") c.args.key.now (view c.args.value.now) _ c.in-agg.is (under_agg (expr_within c.args.levels) (view c.args.value.now)) c.read_reduction.ensures

pub expr::read_whole_form-returns-in-len : goal.expr::read_whole_form-returns-in-len
expr::read_whole_form-returns-in-len t c =
    keyed (whole_form (expr_within c.args.levels)) c.read_length.result (codes "len") c.args.key.now (view c.args.value.now) _ c.in-len.is (under_len (expr_within c.args.levels) (view c.args.value.now)) c.read_length.ensures

pub expr::read_whole_form-returns-in-over : goal.expr::read_whole_form-returns-in-over
expr::read_whole_form-returns-in-over t c =
    keyed (whole_form (expr_within c.args.levels)) c.read_window.result (codes "over") c.args.key.now (view c.args.value.now) _ c.in-over.is (under_over (expr_within c.args.levels) (view c.args.value.now)) c.read_window.ensures

pub expr::read_form-returns-in_default : goal.expr::read_form-returns-in_default
expr::read_form-returns-in_default t c =
    left c.read_row_form.result (past_leaves (expr_within c.args.levels) c.args.key.now (view c.args.value.now)
    c.in_default.not-col c.in_default.not-lit c.in_default.not-range c.in_default.not-series) c.read_row_form.ensures

pub expr::read_row_form-returns-in_default : goal.expr::read_row_form-returns-in_default
expr::read_row_form-returns-in_default t c =
    left c.read_whole_form.result (past_rows (expr_within c.args.levels) c.args.key.now (view c.args.value.now)
    c.in_default.not-alias c.in_default.not-bin c.in_default.not-when c.in_default.not-cast c.in_default.not-fn c.in_default.not-explode) c.read_whole_form.ensures

pub expr::read_whole_form-returns-in_default : goal.expr::read_whole_form-returns-in_default
expr::read_whole_form-returns-in_default t c =
    other_key (expr_within c.args.levels) c.args.key.now (view c.args.value.now)
    c.in_default.not-filter c.in_default.not-slice c.in_default.not-gather c.in_default.not-sort c.in_default.not-sort_by
    c.in_default.not-agg c.in_default.not-len c.in_default.not-over

pub row_wise::read_cast_parts-returns : goal.row_wise::read_cast_parts-returns
row_wise::read_cast_parts-returns t c =
    let x = c.in_ok-expr.expr in let k = c.in_ok-dtype.dtype in let s = c.in_ok-options.options in
    cast_taken (expr_within c.args.levels) (view c.args.input.now) (view c.args.dtype.now) (view c.args.options.now) (tree x.value) (kind_of k) s c.in_ok-expr.ensures c.in_ok-dtype.ensures c.in_ok-options.ensures ∙ ap Some (sym (tree-Cast x k s))

pub row_wise::read_cast-returns-in_default : goal.row_wise::read_cast-returns-in_default
row_wise::read_cast-returns-in_default t c =
    cast_missed (expr_within c.args.levels) (items (view c.args.value.now)) (first_of (search rules, grind (arith, common_steps)))

pub row_wise::read_alias-returns-in_err-input : goal.row_wise::read_alias-returns-in_err-input
row_wise::read_alias-returns-in_err-input t c =
    let parts = two_parts view c.in-Some-len2.field-0.now (items (view c.args.value.now)) c.input-item.result c.name-item.result c.in-Some-len2.ensures c.in-Some-len2.len_at_least c.in-Some-len2.len_below c.input-item.is c.name-item.is in
    passed c.from_residual.result tree c.in_err-input.field-0.0 _ _ c.from_residual.ensures.1 c.in_err-input.ensures (λ h. rw (parts, h) refl)

pub row_wise::read_alias-returns-in_err-name : goal.row_wise::read_alias-returns-in_err-name
row_wise::read_alias-returns-in_err-name t c =
    let parts = two_parts view c.in-Some-len2.field-0.now (items (view c.args.value.now)) c.input-item.result c.name-item.result c.in-Some-len2.ensures c.in-Some-len2.len_at_least c.in-Some-len2.len_below c.input-item.is c.name-item.is in
    passed c.from_residual-in_err-name.result tree c.in_err-name.field-0.0 _ _ c.from_residual-in_err-name.ensures.1 c.in_err-name.ensures (λ h. rw (parts, c.in_ok-input.ensures, h) refl)

pub row_wise::read_alias-returns : goal.row_wise::read_alias-returns
row_wise::read_alias-returns t c =
    let parts = two_parts view c.in-Some-len2.field-0.now (items (view c.args.value.now)) c.input-item.result c.name-item.result c.in-Some-len2.ensures c.in-Some-len2.len_at_least c.in-Some-len2.len_below c.input-item.is c.name-item.is in
    rw (parts, c.in_ok-input.ensures, c.in_ok-name.ensures) (search (the_lemmas))

pub row_wise::read_binary-returns-in_err-op : goal.row_wise::read_binary-returns-in_err-op
row_wise::read_binary-returns-in_err-op t c =
    let parts = three_parts view c.in-Some-len3.field-0.now (items (view c.args.value.now)) c.operator-item.result c.left-item.result c.right-item.result c.in-Some-len3.ensures c.in-Some-len3.len_at_least c.in-Some-len3.len_below c.operator-item.is c.left-item.is c.right-item.is in
    passed c.from_residual.result tree c.in_err-op.field-0.0 _ _ c.from_residual.ensures.1 c.in_err-op.ensures (λ h. rw (parts, h) refl)

pub row_wise::read_binary-returns-in_err-left : goal.row_wise::read_binary-returns-in_err-left
row_wise::read_binary-returns-in_err-left t c =
    let parts = three_parts view c.in-Some-len3.field-0.now (items (view c.args.value.now)) c.operator-item.result c.left-item.result c.right-item.result c.in-Some-len3.ensures c.in-Some-len3.len_at_least c.in-Some-len3.len_below c.operator-item.is c.left-item.is c.right-item.is in
    passed c.from_residual-in_err-left.result tree c.in_err-left.field-0.0 _ _ c.from_residual-in_err-left.ensures.1 c.in_err-left.ensures (λ h. rw (parts, c.in_ok-op.ensures, h) refl)

pub row_wise::read_binary-returns-in_err-right : goal.row_wise::read_binary-returns-in_err-right
row_wise::read_binary-returns-in_err-right t c =
    let parts = three_parts view c.in-Some-len3.field-0.now (items (view c.args.value.now)) c.operator-item.result c.left-item.result c.right-item.result c.in-Some-len3.ensures c.in-Some-len3.len_at_least c.in-Some-len3.len_below c.operator-item.is c.left-item.is c.right-item.is in
    passed c.from_residual-in_err-right.result tree c.in_err-right.field-0.0 _ _ c.from_residual-in_err-right.ensures.1 c.in_err-right.ensures (λ h. rw (parts, c.in_ok-op.ensures, c.in_ok-left.ensures, h) refl)

pub row_wise::read_binary-returns : goal.row_wise::read_binary-returns
row_wise::read_binary-returns t c =
    let parts = three_parts view c.in-Some-len3.field-0.now (items (view c.args.value.now)) c.operator-item.result c.left-item.result c.right-item.result c.in-Some-len3.ensures c.in-Some-len3.len_at_least c.in-Some-len3.len_below c.operator-item.is c.left-item.is c.right-item.is in
    rw (parts, c.in_ok-op.ensures, c.in_ok-left.ensures, c.in_ok-right.ensures) (search (the_lemmas))

pub row_wise::read_ternary-returns-in_err-predicate : goal.row_wise::read_ternary-returns-in_err-predicate
row_wise::read_ternary-returns-in_err-predicate t c =
    let parts = three_parts view c.in-Some-len3.field-0.now (items (view c.args.value.now)) c.predicate-item.result c.truthy-item.result c.falsy-item.result c.in-Some-len3.ensures c.in-Some-len3.len_at_least c.in-Some-len3.len_below c.predicate-item.is c.truthy-item.is c.falsy-item.is in
    passed c.from_residual.result tree c.in_err-predicate.field-0.0 _ _ c.from_residual.ensures.1 c.in_err-predicate.ensures (λ h. rw (parts, h) refl)

pub row_wise::read_ternary-returns-in_err-truthy : goal.row_wise::read_ternary-returns-in_err-truthy
row_wise::read_ternary-returns-in_err-truthy t c =
    let parts = three_parts view c.in-Some-len3.field-0.now (items (view c.args.value.now)) c.predicate-item.result c.truthy-item.result c.falsy-item.result c.in-Some-len3.ensures c.in-Some-len3.len_at_least c.in-Some-len3.len_below c.predicate-item.is c.truthy-item.is c.falsy-item.is in
    passed c.from_residual-in_err-truthy.result tree c.in_err-truthy.field-0.0 _ _ c.from_residual-in_err-truthy.ensures.1 c.in_err-truthy.ensures (λ h. rw (parts, c.in_ok-predicate.ensures, h) refl)

pub row_wise::read_ternary-returns-in_err-falsy : goal.row_wise::read_ternary-returns-in_err-falsy
row_wise::read_ternary-returns-in_err-falsy t c =
    let parts = three_parts view c.in-Some-len3.field-0.now (items (view c.args.value.now)) c.predicate-item.result c.truthy-item.result c.falsy-item.result c.in-Some-len3.ensures c.in-Some-len3.len_at_least c.in-Some-len3.len_below c.predicate-item.is c.truthy-item.is c.falsy-item.is in
    passed c.from_residual-in_err-falsy.result tree c.in_err-falsy.field-0.0 _ _ c.from_residual-in_err-falsy.ensures.1 c.in_err-falsy.ensures (λ h. rw (parts, c.in_ok-predicate.ensures, c.in_ok-truthy.ensures, h) refl)

pub row_wise::read_ternary-returns : goal.row_wise::read_ternary-returns
row_wise::read_ternary-returns t c =
    let parts = three_parts view c.in-Some-len3.field-0.now (items (view c.args.value.now)) c.predicate-item.result c.truthy-item.result c.falsy-item.result c.in-Some-len3.ensures c.in-Some-len3.len_at_least c.in-Some-len3.len_below c.predicate-item.is c.truthy-item.is c.falsy-item.is in
    rw (parts, c.in_ok-predicate.ensures, c.in_ok-truthy.ensures, c.in_ok-falsy.ensures) (search (the_lemmas))

pub selection::read_filter-returns-in_err-input : goal.selection::read_filter-returns-in_err-input
selection::read_filter-returns-in_err-input t c =
    let parts = two_parts view c.in-Some-len2.field-0.now (items (view c.args.value.now)) c.input-item.result c.mask-item.result c.in-Some-len2.ensures c.in-Some-len2.len_at_least c.in-Some-len2.len_below c.input-item.is c.mask-item.is in
    passed c.from_residual.result tree c.in_err-input.field-0.0 _ _ c.from_residual.ensures.1 c.in_err-input.ensures (λ h. rw (parts, h) refl)

pub selection::read_filter-returns-in_err-by : goal.selection::read_filter-returns-in_err-by
selection::read_filter-returns-in_err-by t c =
    let parts = two_parts view c.in-Some-len2.field-0.now (items (view c.args.value.now)) c.input-item.result c.mask-item.result c.in-Some-len2.ensures c.in-Some-len2.len_at_least c.in-Some-len2.len_below c.input-item.is c.mask-item.is in
    passed c.from_residual-in_err-by.result tree c.in_err-by.field-0.0 _ _ c.from_residual-in_err-by.ensures.1 c.in_err-by.ensures (λ h. rw (parts, c.in_ok-input.ensures, h) refl)

pub selection::read_filter-returns : goal.selection::read_filter-returns
selection::read_filter-returns t c =
    let parts = two_parts view c.in-Some-len2.field-0.now (items (view c.args.value.now)) c.input-item.result c.mask-item.result c.in-Some-len2.ensures c.in-Some-len2.len_at_least c.in-Some-len2.len_below c.input-item.is c.mask-item.is in
    rw (parts, c.in_ok-input.ensures, c.in_ok-by.ensures) (search (the_lemmas))

pub selection::read_gather-returns-in_err-expr : goal.selection::read_gather-returns-in_err-expr
selection::read_gather-returns-in_err-expr t c =
    let parts = three_parts view c.in-Some-len3.field-0.now (items (view c.args.value.now)) c.input-item.result c.index-item.result c.one-item.result c.in-Some-len3.ensures c.in-Some-len3.len_at_least c.in-Some-len3.len_below c.input-item.is c.index-item.is c.one-item.is in
    passed c.from_residual.result tree c.in_err-expr.field-0.0 _ _ c.from_residual.ensures.1 c.in_err-expr.ensures (λ h. rw (parts, h) refl)

pub selection::read_gather-returns-in_err-idx : goal.selection::read_gather-returns-in_err-idx
selection::read_gather-returns-in_err-idx t c =
    let parts = three_parts view c.in-Some-len3.field-0.now (items (view c.args.value.now)) c.input-item.result c.index-item.result c.one-item.result c.in-Some-len3.ensures c.in-Some-len3.len_at_least c.in-Some-len3.len_below c.input-item.is c.index-item.is c.one-item.is in
    passed c.from_residual-in_err-idx.result tree c.in_err-idx.field-0.0 _ _ c.from_residual-in_err-idx.ensures.1 c.in_err-idx.ensures (λ h. rw (parts, c.in_ok-expr.ensures, h) refl)

pub selection::read_gather-returns-in_err-returns_scalar : goal.selection::read_gather-returns-in_err-returns_scalar
selection::read_gather-returns-in_err-returns_scalar t c =
    let parts = three_parts view c.in-Some-len3.field-0.now (items (view c.args.value.now)) c.input-item.result c.index-item.result c.one-item.result c.in-Some-len3.ensures c.in-Some-len3.len_at_least c.in-Some-len3.len_below c.input-item.is c.index-item.is c.one-item.is in
    passed c.from_residual-in_err-returns_scalar.result tree c.in_err-returns_scalar.field-0.0 _ _ c.from_residual-in_err-returns_scalar.ensures.1 c.in_err-returns_scalar.ensures (λ h. rw (parts, c.in_ok-expr.ensures, c.in_ok-idx.ensures, h) refl)

pub selection::read_gather-returns : goal.selection::read_gather-returns
selection::read_gather-returns t c =
    let parts = three_parts view c.in-Some-len3.field-0.now (items (view c.args.value.now)) c.input-item.result c.index-item.result c.one-item.result c.in-Some-len3.ensures c.in-Some-len3.len_at_least c.in-Some-len3.len_below c.input-item.is c.index-item.is c.one-item.is in
    rw (parts, c.in_ok-expr.ensures, c.in_ok-idx.ensures, c.in_ok-returns_scalar.ensures) (search (the_lemmas))

pub selection::read_slice-returns-in_err-input : goal.selection::read_slice-returns-in_err-input
selection::read_slice-returns-in_err-input t c =
    let parts = three_parts view c.in-Some-len3.field-0.now (items (view c.args.value.now)) c.input-item.result c.offset-item.result c.length-item.result c.in-Some-len3.ensures c.in-Some-len3.len_at_least c.in-Some-len3.len_below c.input-item.is c.offset-item.is c.length-item.is in
    passed c.from_residual.result tree c.in_err-input.field-0.0 _ _ c.from_residual.ensures.1 c.in_err-input.ensures (λ h. rw (parts, h) refl)

pub selection::read_slice-returns-in_err-offset : goal.selection::read_slice-returns-in_err-offset
selection::read_slice-returns-in_err-offset t c =
    let parts = three_parts view c.in-Some-len3.field-0.now (items (view c.args.value.now)) c.input-item.result c.offset-item.result c.length-item.result c.in-Some-len3.ensures c.in-Some-len3.len_at_least c.in-Some-len3.len_below c.input-item.is c.offset-item.is c.length-item.is in
    passed c.from_residual-in_err-offset.result tree c.in_err-offset.field-0.0 _ _ c.from_residual-in_err-offset.ensures.1 c.in_err-offset.ensures (λ h. rw (parts, c.in_ok-input.ensures, h) refl)

pub selection::read_slice-returns-in_err-length : goal.selection::read_slice-returns-in_err-length
selection::read_slice-returns-in_err-length t c =
    let parts = three_parts view c.in-Some-len3.field-0.now (items (view c.args.value.now)) c.input-item.result c.offset-item.result c.length-item.result c.in-Some-len3.ensures c.in-Some-len3.len_at_least c.in-Some-len3.len_below c.input-item.is c.offset-item.is c.length-item.is in
    passed c.from_residual-in_err-length.result tree c.in_err-length.field-0.0 _ _ c.from_residual-in_err-length.ensures.1 c.in_err-length.ensures (λ h. rw (parts, c.in_ok-input.ensures, c.in_ok-offset.ensures, h) refl)

pub selection::read_slice-returns : goal.selection::read_slice-returns
selection::read_slice-returns t c =
    let parts = three_parts view c.in-Some-len3.field-0.now (items (view c.args.value.now)) c.input-item.result c.offset-item.result c.length-item.result c.in-Some-len3.ensures c.in-Some-len3.len_at_least c.in-Some-len3.len_below c.input-item.is c.offset-item.is c.length-item.is in
    rw (parts, c.in_ok-input.ensures, c.in_ok-offset.ensures, c.in_ok-length.ensures) (search (the_lemmas))

pub selection::read_sort-returns-in_err-expr : goal.selection::read_sort-returns-in_err-expr
selection::read_sort-returns-in_err-expr t c =
    let parts = two_parts view c.in-Some-len2.field-0.now (items (view c.args.value.now)) c.input-item.result c.options-item.result c.in-Some-len2.ensures c.in-Some-len2.len_at_least c.in-Some-len2.len_below c.input-item.is c.options-item.is in
    passed c.from_residual.result tree c.in_err-expr.field-0.0 _ _ c.from_residual.ensures.1 c.in_err-expr.ensures (λ h. rw (parts, h) refl)

pub selection::read_sort-returns-in_err-options : goal.selection::read_sort-returns-in_err-options
selection::read_sort-returns-in_err-options t c =
    let parts = two_parts view c.in-Some-len2.field-0.now (items (view c.args.value.now)) c.input-item.result c.options-item.result c.in-Some-len2.ensures c.in-Some-len2.len_at_least c.in-Some-len2.len_below c.input-item.is c.options-item.is in
    passed c.from_residual-in_err-options.result tree c.in_err-options.field-0.0 _ _ c.from_residual-in_err-options.ensures.1 c.in_err-options.ensures (λ h. rw (parts, c.in_ok-expr.ensures, h) refl)

pub selection::read_sort-returns : goal.selection::read_sort-returns
selection::read_sort-returns t c =
    let parts = two_parts view c.in-Some-len2.field-0.now (items (view c.args.value.now)) c.input-item.result c.options-item.result c.in-Some-len2.ensures c.in-Some-len2.len_at_least c.in-Some-len2.len_below c.input-item.is c.options-item.is in
    rw (parts, c.in_ok-expr.ensures, c.in_ok-options.ensures) (search (the_lemmas))

pub selection::read_sort_by-returns-in_err-expr : goal.selection::read_sort_by-returns-in_err-expr
selection::read_sort_by-returns-in_err-expr t c =
    let parts = three_parts view c.in-Some-len3.field-0.now (items (view c.args.value.now)) c.input-item.result c.by-item.result c.options-item.result c.in-Some-len3.ensures c.in-Some-len3.len_at_least c.in-Some-len3.len_below c.input-item.is c.by-item.is c.options-item.is in
    passed c.from_residual.result tree c.in_err-expr.field-0.0 _ _ c.from_residual.ensures.1 c.in_err-expr.ensures (λ h. rw (parts, h) refl)

pub selection::read_sort_by-returns-in_err-read_list : goal.selection::read_sort_by-returns-in_err-read_list
selection::read_sort_by-returns-in_err-read_list t c =
    let parts = three_parts view c.in-Some-len3.field-0.now (items (view c.args.value.now)) c.input-item.result c.by-item.result c.options-item.result c.in-Some-len3.ensures c.in-Some-len3.len_at_least c.in-Some-len3.len_below c.input-item.is c.by-item.is c.options-item.is in
    passed c.from_residual-in_err-read_list.result tree c.in_err-read_list.field-0.0 _ _ c.from_residual-in_err-read_list.ensures.1 c.in_err-read_list.ensures (λ h. rw (parts, c.in_ok-expr.ensures, h) refl)

pub selection::read_sort_by-returns-in_err-by : goal.selection::read_sort_by-returns-in_err-by
selection::read_sort_by-returns-in_err-by t c =
    passed c.from_residual-in_err-by.result tree c.in_err-by.field-0.0 _ _ c.from_residual-in_err-by.ensures.1 c.in_err-by.ensures (λ h. absurd (cc))

pub selection::read_sort_by-returns-in_err-sort_options : goal.selection::read_sort_by-returns-in_err-sort_options
selection::read_sort_by-returns-in_err-sort_options t c =
    let parts = three_parts view c.in-Some-len3.field-0.now (items (view c.args.value.now)) c.input-item.result c.by-item.result c.options-item.result c.in-Some-len3.ensures c.in-Some-len3.len_at_least c.in-Some-len3.len_below c.input-item.is c.by-item.is c.options-item.is in
    passed c.from_residual-in_err-sort_options.result tree c.in_err-sort_options.field-0.0 _ _ c.from_residual-in_err-sort_options.ensures.1 c.in_err-sort_options.ensures (λ h. rw (parts, c.in_ok-expr.ensures, c.in_ok-read_list.ensures, h) refl)

pub selection::read_sort_by-returns : goal.selection::read_sort_by-returns
selection::read_sort_by-returns t c =
    let parts = three_parts view c.in-Some-len3.field-0.now (items (view c.args.value.now)) c.input-item.result c.by-item.result c.options-item.result c.in-Some-len3.ensures c.in-Some-len3.len_at_least c.in-Some-len3.len_below c.input-item.is c.by-item.is c.options-item.is in
    let by : trees_of (map tree c.in_ok-read_list.field-0.items) ≡ trees c.in_ok-by.by = cc (c.in_ok-by.ensures) in
    rw (parts, c.in_ok-expr.ensures, c.in_ok-read_list.ensures, c.in_ok-sort_options.ensures, by) (search (the_lemmas))

pub expr::read_list-loop-value-init : goal.expr::read_list-loop-value-init
expr::read_list-loop-value-init t c =
    rw c.in_ok-exprs.ensures.items (with_front_none (each (expr_within c.args.levels) (map view c.in_ok-values.values.now)))

pub expr::read_list-loop-value-preserved : goal.expr::read_list-loop-value-preserved
expr::read_list-loop-value-preserved t c =
    let l = c.loop-value in
    rw (c.in_ok-push.ensures.items, map-append tree l.exprs.items (c.in_ok-read_within.field-0 ∷ []))
    (each_step view (expr_within c.args.levels) c.in_ok-values.values.now l.value-index c.value-item.result (map tree l.exprs.items) (tree c.in_ok-read_within.field-0) c.loop-value-test.true c.value-item.is c.in_ok-read_within.ensures ∙ l.invariant)

pub expr::read_list-returns-in_err-read_within : goal.expr::read_list-returns-in_err-read_within
expr::read_list-returns-in_err-read_within t c =
    let l = c.loop-value in
    let listed = sym (rw c.in_ok-values.ensures.ok_part at c.items.ensures) in
    passed c.from_residual-in_err-read_within.result (λ v. map tree v.items) c.in_err-read_within.field-0.0 _ _ c.from_residual-in_err-read_within.ensures.1 c.in_err-read_within.ensures
    (λ h. rw listed (sym l.invariant ∙ each_missed view (expr_within c.args.levels) c.in_ok-values.values.now l.value-index c.value-item.result (map tree l.exprs.items) c.loop-value-test.true c.value-item.is h))

pub expr::read_list-returns-in_err-push : goal.expr::read_list-returns-in_err-push
expr::read_list-returns-in_err-push t c = wanting c.from_residual-in_err-push.result (λ v. map tree v.items) _ c.from_residual-in_err-push.ensures.1

pub expr::read_list-returns : goal.expr::read_list-returns
expr::read_list-returns t c =
    let l = c.loop-value in
    let listed = sym (rw c.in_ok-values.ensures.ok_part at c.items.ensures) in
    rw listed (sym l.invariant ∙ each_end view (expr_within c.args.levels) c.in_ok-values.values.now l.value-index (map tree l.exprs.items) c.loop-value-test.false)

pub function::read_call-loop-input-init : goal.function::read_call-loop-input-init
function::read_call-loop-input-init t c =
    rw c.in_ok-exprs.ensures.items (with_front_none (each (expr_within c.args.levels) (map (λ v. view v.now) c.args.inputs.now)))

pub function::read_call-loop-input-preserved : goal.function::read_call-loop-input-preserved
function::read_call-loop-input-preserved t c =
    let l = c.loop-input in
    rw (c.in_ok-push.ensures.items, map-append tree l.exprs.items (c.in_ok-read_within.field-0 ∷ []))
    (each_step (λ v. view v.now) (expr_within c.args.levels) c.args.inputs.now l.input-index c.input-item.result (map tree l.exprs.items) (tree c.in_ok-read_within.field-0) c.loop-input-test.true c.input-item.is c.in_ok-read_within.ensures ∙ l.invariant)

pub function::read_call-returns-in_err-read_within : goal.function::read_call-returns-in_err-read_within
function::read_call-returns-in_err-read_within t c =
    let l = c.loop-input in
    passed c.from_residual-in_err-read_within.result tree c.in_err-read_within.field-0.0 _ _ c.from_residual-in_err-read_within.ensures.1 c.in_err-read_within.ensures
    (λ h. rw (← l.invariant, each_missed (λ v. view v.now) (expr_within c.args.levels) c.args.inputs.now l.input-index c.input-item.result (map tree l.exprs.items) c.loop-input-test.true c.input-item.is h) refl)

pub function::read_call-returns-in_err-push : goal.function::read_call-returns-in_err-push
function::read_call-returns-in_err-push t c = wanting c.from_residual-in_err-push.result tree _ c.from_residual-in_err-push.ensures.1

pub function::read_call-returns : goal.function::read_call-returns
function::read_call-returns t c =
    let l = c.loop-input in
    let all = sym l.invariant ∙ each_end (λ v. view v.now) (expr_within c.args.levels) c.args.inputs.now l.input-index (map tree l.exprs.items) c.loop-input-test.false in
    let shared : trees_of (map tree l.exprs.items) ≡ trees c.in_ok-share_exprs.field-0 = cc (c.in_ok-share_exprs.ensures) in
    rw (all, shared) (search (the_lemmas))

pub window::read_window-returns-in_err-function : goal.window::read_window-returns-in_err-function
window::read_window-returns-in_err-function t c =
    let none = sym (rw c.in_err-function.ensures.ok_part at c.four_fields-parts.ensures) in
    refused c.from_residual.result tree _ c.from_residual.ensures.0 (rw none refl)

pub window::read_window-returns-in_err-function-2 : goal.window::read_window-returns-in_err-function-2
window::read_window-returns-in_err-function-2 t c =
    let parts = sym (rw c.in_ok-function.ensures.ok_part at c.four_fields-parts.ensures) in
    passed c.from_residual-in_err-function-2.result tree c.in_err-function-2.field-0.0 _ _ c.from_residual-in_err-function-2.ensures.1 c.in_err-function-2.ensures (λ h. rw (parts, h) refl)

pub window::read_window-returns-in_err-read_list : goal.window::read_window-returns-in_err-read_list
window::read_window-returns-in_err-read_list t c =
    let parts = sym (rw c.in_ok-function.ensures.ok_part at c.four_fields-parts.ensures) in
    passed c.from_residual-in_err-read_list.result tree c.in_err-read_list.field-0.0 _ _ c.from_residual-in_err-read_list.ensures.1 c.in_err-read_list.ensures (λ h. rw (parts, c.in_ok-function-2.ensures, h) refl)

pub window::read_window-returns-in_err-partition_by : goal.window::read_window-returns-in_err-partition_by
window::read_window-returns-in_err-partition_by t c =
    passed c.from_residual-in_err-partition_by.result tree c.in_err-partition_by.field-0.0 _ _ c.from_residual-in_err-partition_by.ensures.1 c.in_err-partition_by.ensures (λ h. absurd (cc))

pub window::read_window-returns-in_err-order_by : goal.window::read_window-returns-in_err-order_by
window::read_window-returns-in_err-order_by t c =
    let parts = sym (rw c.in_ok-function.ensures.ok_part at c.four_fields-parts.ensures) in
    passed c.from_residual-in_err-order_by.result tree c.in_err-order_by.field-0.0 _ _ c.from_residual-in_err-order_by.ensures.1 c.in_err-order_by.ensures (λ h. rw (parts, c.in_ok-function-2.ensures, c.in_ok-read_list.ensures, h) refl)

pub window::read_window-returns-in_err-read_mapping : goal.window::read_window-returns-in_err-read_mapping
window::read_window-returns-in_err-read_mapping t c =
    let parts = sym (rw c.in_ok-function.ensures.ok_part at c.four_fields-parts.ensures) in
    passed c.from_residual-in_err-read_mapping.result tree c.in_err-read_mapping.field-0.0 _ _ c.from_residual-in_err-read_mapping.ensures.1 c.in_err-read_mapping.ensures
    (λ h. rw (parts, c.in_ok-function-2.ensures, c.in_ok-read_list.ensures, c.in_ok-order_by.ensures, h) refl)

pub window::read_window-returns : goal.window::read_window-returns
window::read_window-returns t c =
    let parts = sym (rw c.in_ok-function.ensures.ok_part at c.four_fields-parts.ensures) in
    let keys : trees_of (map tree c.in_ok-read_list.field-0.items) ≡ trees c.in_ok-partition_by.partition_by = cc (c.in_ok-partition_by.ensures) in
    rw (parts, c.in_ok-function-2.ensures, c.in_ok-read_list.ensures, c.in_ok-order_by.ensures, c.in_ok-read_mapping.ensures, keys) (ap Some (sym (tree-Window c.in_ok-function-2.function c.in_ok-partition_by.partition_by c.in_ok-order_by.order_by (Over c.in_ok-read_mapping.field-0))))

pub row_wise::read_cast_parts-returns-in_err-options : goal.row_wise::read_cast_parts-returns-in_err-options
row_wise::read_cast_parts-returns-in_err-options t c =
    passed c.from_residual-in_err-options.result tree c.in_err-options.field-0.0 _ _ c.from_residual-in_err-options.ensures.1 c.in_err-options.ensures (λ h. rw (c.in_ok-expr.ensures, c.in_ok-dtype.ensures, h) refl)

pub reduction::read_plain_reduction-returns : goal.reduction::read_plain_reduction-returns
reduction::read_plain_reduction-returns t c =
    rw (c.in_ok-method.ensures, c.in_ok-input.ensures, ← c.reduction_of.ensures) (search (the_lemmas))

pub function::read_function-returns-in-Some-len2 : goal.function::read_function-returns-in-Some-len2
function::read_function-returns-in-Some-len2 t c =
    let some = c.in-Some-len2 in
    let parts = two_parts view some.field-0.now (items (view c.args.value.now)) c.name-item.result c.input-item.result some.ensures some.len_at_least some.len_below c.name-item.is c.input-item.is in
    left c.read_plain_call.result (rw parts refl) c.read_plain_call.ensures

pub reduction::read_reduction-returns-in-Some-len2 : goal.reduction::read_reduction-returns-in-Some-len2
reduction::read_reduction-returns-in-Some-len2 t c =
    let some = c.in-Some-len2 in
    let parts = two_parts view some.field-0.now (items (view c.args.value.now)) c.method-item.result c.input-item.result some.ensures some.len_at_least some.len_below c.method-item.is c.input-item.is in
    left c.read_plain_reduction.result (rw parts refl) c.read_plain_reduction.ensures

pub function::read_function-returns-in-Some-len3 : goal.function::read_function-returns-in-Some-len3
function::read_function-returns-in-Some-len3 t c =
    let some = c.in-Some-len3 in
    let parts = three_parts view some.field-0.now (items (view c.args.value.now)) c.name-item-then-this-lt4.result c.input-item-then-this-lt4.result c.others-item.result some.ensures some.len_at_least some.len_below c.name-item-then-this-lt4.is c.input-item-then-this-lt4.is c.others-item.is in
    left c.read_call.result (rw (parts, ← c.if-is_text.ensures) refl) c.read_call.ensures

pub reduction::read_reduction-returns-in-Some-len3 : goal.reduction::read_reduction-returns-in-Some-len3
reduction::read_reduction-returns-in-Some-len3 t c =
    let some = c.in-Some-len3 in
    let parts = three_parts view some.field-0.now (items (view c.args.value.now)) c.method-item-then-this-lt4.result c.input-item-then-this-lt4.result c.nulls-item.result some.ensures some.len_at_least some.len_below c.method-item-then-this-lt4.is c.input-item-then-this-lt4.is c.nulls-item.is in
    left c.read_count.result (rw parts refl) c.read_count.ensures

pub row_wise::read_cast-returns-in-Some-len3 : goal.row_wise::read_cast-returns-in-Some-len3
row_wise::read_cast-returns-in-Some-len3 t c =
    let some = c.in-Some-len3 in
    let parts = three_parts view some.field-0.now (items (view c.args.value.now)) c.input-item.result c.dtype-item.result c.options-item.result some.ensures some.len_at_least some.len_below c.input-item.is c.dtype-item.is c.options-item.is in
    left c.read_cast_parts.result (rw parts refl) c.read_cast_parts.ensures

pub window::read_order-returns : goal.window::read_order-returns
window::read_order-returns t c =
    let some = c.in-Some-len2 in
    let parts = two_parts view some.field-0.now (items (view c.args.value.now)) c.key-item.result c.options-item.result some.ensures some.len_at_least some.len_below c.key-item.is c.options-item.is in
    rw (← c.if-is_null.ensures, parts, c.in_ok-key.ensures, c.in_ok-options.ensures) refl

pub reduction::read_count-returns : goal.reduction::read_count-returns
reduction::read_count-returns t c = rw (← c.if-not-is_text.ensures, c.in_ok-input.ensures, c.in_ok-nulls.ensures) (search (the_lemmas))

pub function::read_plain_call-returns : goal.function::read_plain_call-returns
function::read_plain_call-returns t c = left c.read_call.result (rw c.in_ok-function.ensures refl) c.read_call.ensures

pub function::read_is_between-returns : goal.function::read_is_between-returns
function::read_is_between-returns t c = left c.read_call.result (rw c.in_ok-closed.ensures refl) c.read_call.ensures
