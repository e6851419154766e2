use Rattle.std.proofs.Common.{◌≡◌, ◌+◌, ◌*◌, map, drop}
use Rattle.serde_json.specs.View.{view}
use Rattle.px_column.specs.Option.{each}
use Rattle.px_tree.specs.View.{tree}
use Rattle.px_document.specs.ExprForm.{expr_within}
use Rattle.px_document.specs.Form.{with_front}
use Rattle.px_document.proofs.document.+expr.Given as goal

-- what is read inside has one level less, or is read by a reader that stands lower
abbrev pub decreases-expr::read_within : goal.decreases-expr::read_within
decreases-expr::read_within l = 8 * l.levels

abbrev pub decreases-expr::read_input : goal.decreases-expr::read_input
decreases-expr::read_input l = 8 * l.levels + 1

abbrev pub decreases-expr::read_list : goal.decreases-expr::read_list
decreases-expr::read_list l = 8 * l.levels + 1

abbrev pub decreases-row_wise::read_alias : goal.decreases-row_wise::read_alias
decreases-row_wise::read_alias l = 8 * l.levels + 2

abbrev pub decreases-row_wise::read_binary : goal.decreases-row_wise::read_binary
decreases-row_wise::read_binary l = 8 * l.levels + 2

abbrev pub decreases-row_wise::read_ternary : goal.decreases-row_wise::read_ternary
decreases-row_wise::read_ternary l = 8 * l.levels + 2

abbrev pub decreases-row_wise::read_cast : goal.decreases-row_wise::read_cast
decreases-row_wise::read_cast l = 8 * l.levels + 3

abbrev pub decreases-row_wise::read_cast_parts : goal.decreases-row_wise::read_cast_parts
decreases-row_wise::read_cast_parts l = 8 * l.levels + 2

abbrev pub decreases-function::read_explode : goal.decreases-function::read_explode
decreases-function::read_explode l = 8 * l.levels + 2

abbrev pub decreases-function::read_plain_call : goal.decreases-function::read_plain_call
decreases-function::read_plain_call l = 8 * l.levels + 2

abbrev pub decreases-function::read_call : goal.decreases-function::read_call
decreases-function::read_call l = 8 * l.levels + 1

abbrev pub decreases-function::read_shift : goal.decreases-function::read_shift
decreases-function::read_shift l = 8 * l.levels + 2

abbrev pub decreases-function::read_is_between : goal.decreases-function::read_is_between
decreases-function::read_is_between l = 8 * l.levels + 2

abbrev pub decreases-function::read_function : goal.decreases-function::read_function
decreases-function::read_function l = 8 * l.levels + 3

abbrev pub decreases-selection::read_filter : goal.decreases-selection::read_filter
decreases-selection::read_filter l = 8 * l.levels + 2

abbrev pub decreases-selection::read_slice : goal.decreases-selection::read_slice
decreases-selection::read_slice l = 8 * l.levels + 2

abbrev pub decreases-selection::read_gather : goal.decreases-selection::read_gather
decreases-selection::read_gather l = 8 * l.levels + 2

abbrev pub decreases-selection::read_sort : goal.decreases-selection::read_sort
decreases-selection::read_sort l = 8 * l.levels + 2

abbrev pub decreases-selection::read_sort_by : goal.decreases-selection::read_sort_by
decreases-selection::read_sort_by l = 8 * l.levels + 2

abbrev pub decreases-reduction::read_plain_reduction : goal.decreases-reduction::read_plain_reduction
decreases-reduction::read_plain_reduction l = 8 * l.levels + 2

abbrev pub decreases-reduction::read_count : goal.decreases-reduction::read_count
decreases-reduction::read_count l = 8 * l.levels + 2

abbrev pub decreases-reduction::read_reduction : goal.decreases-reduction::read_reduction
decreases-reduction::read_reduction l = 8 * l.levels + 3

abbrev pub decreases-window::read_order : goal.decreases-window::read_order
decreases-window::read_order l = 8 * l.levels + 2

abbrev pub decreases-window::read_window : goal.decreases-window::read_window
decreases-window::read_window l = 8 * l.levels + 3

abbrev pub decreases-expr::read_form : goal.decreases-expr::read_form
decreases-expr::read_form l = 8 * l.levels + 6

abbrev pub decreases-expr::read_row_form : goal.decreases-expr::read_row_form
decreases-expr::read_row_form l = 8 * l.levels + 5

abbrev pub decreases-expr::read_whole_form : goal.decreases-expr::read_whole_form
decreases-expr::read_whole_form l = 8 * l.levels + 4

-- what was read and what is left are all
abbrev pub invariant-expr::read_list-loop-value : goal.invariant-expr::read_list-loop-value
invariant-expr::read_list-loop-value l = with_front (map tree l.exprs.items) (each (expr_within l.levels) (map view (drop l.value-index l.values))) ≡ each (expr_within l.levels) (map view l.values)

abbrev pub invariant-function::read_call-loop-input : goal.invariant-function::read_call-loop-input
invariant-function::read_call-loop-input l = with_front (map tree l.exprs.items) (each (expr_within l.levels) (map (λ v. view v.now) (drop l.input-index l.inputs))) ≡ each (expr_within l.levels) (map (λ v. view v.now) l.inputs)
