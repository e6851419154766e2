use Rattle.px_physical.specs.NodeView.{order_of, plan_of}
use Rattle.std.proofs.Common.{arith, [], length, subst, List, ℕ, rules, ◌≡◌, ◌∙◌, Ok, ap, sym, ◌+◌, ◌≤◌, true, map, IfOk, IfErr, OnOk}
use Rattle.px_frame.specs.CellView.{named_cell}
use Rattle.px_window.specs.State.{beside}
use Rattle.px_nodes.specs.Named.{gather_named, function_named, sort_by_named, binary_named, cast_named, aggregation_named}
use Rattle.px_tree.specs.Shape.{is_literal_tree}
use Rattle.px_answers.proofs.Counts.{alias_most, binary_cost, binary_cost_right, binary_ticks, cast_ticks, reduction_cost, ternary_cost, ternary_cost_three, ternary_cost_two, ternary_ticks, binary_cost_left, ternary_cost_one, cast_cost_input, cast_cost, reduction_cost_input, reduction_ticks}
use Rattle.px_answers.proofs.Operands.{binary_value, cast_value, ternary_value, left_cause, right_cause, binary_cause, predicate_cause, truthy_cause, falsy_cause, ternary_cause, cast_input_cause, cast_cause}
use Rattle.px_physical.proofs.Passing.{passed_on}
use Rattle.px_answers.proofs.Reductions.{reduction_value, reduced_cause, reduction_cause}
use Rattle.px_answers.proofs.Selections.{filter_value, gather_value, slice_value, sort_cause, sort_value, filter_input_cause, mask_cause, filter_cause, slice_input_cause, offset_cause, length_cause, slice_cause, gathered_cause, index_cause, gather_cause, sorted_cause}
use Rattle.px_answers.specs.Counted.{RisesAtMost, RunAtMost, RunExactly, RunAllExactly, costs_on, GroupedAtMost}
use Rattle.px_answers.proofs.Costs.{cost_end, cost_here, cost_next, rises_none}
use Rattle.px_answers.proofs.Groupings.{none_of_all}
use Rattle.px_physical.specs.declared.phys_expr.PhysExpr.{PhysExpr}
use Rattle.px_answers.specs.Parts.{PlannedSort, sort_plan, PlannedApply, plan_trees, PlannedWindow, window_plan, binary_plan, ternary_plan, cast_plan, filter_plan, slice_plan, gather_plan, reduction_plan, apply_plan, sort_by_plan, PlannedBinary, PlannedCast, PlannedFilter, PlannedGather, PlannedReduction, PlannedSlice, PlannedSortBy, PlannedTernary}
use Rattle.px_answers.specs.Planned.{Planned}
use Rattle.px_answers.specs.Value.{IsCause, IsValue, AreCellsOf, IsCauseOfAny}
use Rattle.std.proofs.lemmas.Result.{err_from_is_err_and}
use Rattle.px_tree.specs.Partition.{is_row_function}
use Rattle.px_tree.specs.Tree.{called}
use Rattle.px_answers.proofs.Applied.{apply_value, apply_input_cause, apply_refusal}
use Rattle.px_physical.proofs.CellsInOrder.{apply_ticks, cells_cause, cells_cost, cells_done, cells_next, grouped_all, grouped_end, grouped_here, grouped_next}
use Rattle.px_answers.proofs.SortedBy.{sort_by_value, sort_by_key_cause, sort_by_input_cause, sort_by_refusal}
use Rattle.px_group_answers.specs.Counted.{RunOnGroups}
use Rattle.px_group_answers.specs.OnGroups.{IsContextOf, IsGroupCause}
use Rattle.px_window_node.proofs.Counted.{window_cost, window_cost_keys, window_cost_order, window_cost_parts}
use Rattle.px_window_node.proofs.Refused.{window_groups_cause}
use Rattle.px_window_node.proofs.Valued.{window_function_cause, window_no_groups_cause, window_place_cause, window_value}
use Rattle.px_window_node.specs.Grouped.{order_cell, part_count, window_groups}
use Rattle.px_window_node.specs.Placing.{placed_by, placed_kind}
use Rattle.px_value.specs.Answer.{Answers, Refuses}
use Rattle.px_window_node.specs.Inputs.{IsOrderOf, RunOrderAtMost, named_out}
use Rattle.px_tree.specs.Cost.{windows_in}
use Rattle.px_physical.proofs.Below.{cell_at, cell_below, cause_at, cause_below, cost_at, cost_below, ticks_at}
use Rattle.px_physical.proofs.Windowed.{keys_are, keys_cost, named_column, of_function, of_order}
use Rattle.px_physical.proofs.+evaluate.Goals as goal

pub aggregation::AggregationExprPhysicalExpr::evaluate-returns-clause-value : goal.aggregation::AggregationExprPhysicalExpr::evaluate-returns-clause-value
aggregation::AggregationExprPhysicalExpr::evaluate-returns-clause-value t g c =
    let is_input = ap plan_of c.deref.ensures ∙ ap (λ (n : PlannedReduction). n.input) c.self.view_is in
    let x = cell_at c.args.df.now c.args.state.now is_input c.in_ok-input.ensures.value in
    rw c.into_column.ensures (reduction_value c.args.self.now (beside c.args.df.now c.args.state.now) (named_cell c.in_ok-input.input) (named_cell c.in_ok-aggregation_cells.field-0) x (subst (λ (n : PlannedReduction). aggregation_named n.method (named_cell c.in_ok-input.input) ≡ Ok (named_cell c.in_ok-aggregation_cells.field-0)) c.self.view_is c.in_ok-aggregation_cells.ensures.answer))

pub aggregation::AggregationExprPhysicalExpr::evaluate-returns-in_err-aggregation_cells-clause-cost : goal.aggregation::AggregationExprPhysicalExpr::evaluate-returns-in_err-aggregation_cells-clause-cost
aggregation::AggregationExprPhysicalExpr::evaluate-returns-in_err-aggregation_cells-clause-cost t g c =
    let is_input = ap plan_of c.deref.ensures ∙ ap (λ (n : PlannedReduction). n.input) c.self.view_is in
    let x = cost_at c.args.df.now c.args.state.now is_input c.evaluate_cell.ensures.cost in
    reduction_cost c.args.self.now.input.tree c.args.self.now.method (beside c.args.df.now c.args.state.now) c.args.kernels.now c.evaluate_cell.new.kernels c.aggregation_cells.new.kernels x c.aggregation_cells.ensures.rises c.aggregation_cells.ensures.most

pub binary::BinaryExprPhysicalExpr::evaluate-returns-clause-value : goal.binary::BinaryExprPhysicalExpr::evaluate-returns-clause-value
binary::BinaryExprPhysicalExpr::evaluate-returns-clause-value t g c =
    let is_left = ap plan_of c.deref.ensures ∙ ap (λ (n : PlannedBinary). n.left) c.self.view_is in
    let x = cell_at c.args.df.now c.args.state.now is_left c.in_ok-left.ensures.value in
    let is_right = ap plan_of c.deref-2.ensures ∙ ap (λ (n : PlannedBinary). n.right) c.self.view_is in
    let y = cell_below c.args.df.now is_right c.evaluate_cell.ensures.frame c.in_ok-right.ensures.value in
    rw c.into_column.ensures (binary_value c.args.self.now (beside c.args.df.now c.args.state.now) (named_cell c.in_ok-left.left) (named_cell c.in_ok-right.right) (named_cell c.in_ok-binary_cells.field-0) x y (subst (λ (n : PlannedBinary). binary_named n.op (named_cell c.in_ok-left.left) (named_cell c.in_ok-right.right) ≡ Ok (named_cell c.in_ok-binary_cells.field-0)) c.self.view_is c.in_ok-binary_cells.ensures.answer))

pub binary::BinaryExprPhysicalExpr::evaluate-returns-clause-ticks : goal.binary::BinaryExprPhysicalExpr::evaluate-returns-clause-ticks
binary::BinaryExprPhysicalExpr::evaluate-returns-clause-ticks t g c =
    let is_left = ap plan_of c.deref.ensures ∙ ap (λ (n : PlannedBinary). n.left) c.self.view_is in
    let x = ticks_at c.args.kernels.now c.evaluate_cell.new.kernels is_left c.in_ok-left.ensures.ticks in
    let is_right = ap plan_of c.deref-2.ensures ∙ ap (λ (n : PlannedBinary). n.right) c.self.view_is in
    let y = ticks_at c.evaluate_cell.new.kernels c.evaluate_cell-2.new.kernels is_right c.in_ok-right.ensures.ticks in
    binary_ticks c.args.self.now.left.tree c.args.self.now.right.tree c.args.self.now.op c.args.kernels.now c.evaluate_cell.new.kernels c.evaluate_cell-2.new.kernels c.binary_cells.new.kernels x y c.in_ok-binary_cells.ensures.ticks

pub binary::BinaryExprPhysicalExpr::evaluate-returns-clause-cost : goal.binary::BinaryExprPhysicalExpr::evaluate-returns-clause-cost
binary::BinaryExprPhysicalExpr::evaluate-returns-clause-cost t g c =
    let is_left = ap plan_of c.deref.ensures ∙ ap (λ (n : PlannedBinary). n.left) c.self.view_is in
    let x = cost_at c.args.df.now c.args.state.now is_left c.evaluate_cell.ensures.cost in
    let is_right = ap plan_of c.deref-2.ensures ∙ ap (λ (n : PlannedBinary). n.right) c.self.view_is in
    let y = cost_below c.args.df.now is_right c.evaluate_cell.ensures.frame c.evaluate_cell-2.ensures.cost in
    binary_cost c.args.self.now.left.tree c.args.self.now.right.tree c.args.self.now.op (beside c.args.df.now c.args.state.now) c.args.kernels.now c.evaluate_cell.new.kernels c.evaluate_cell-2.new.kernels c.binary_cells.new.kernels x y c.binary_cells.ensures.rises c.binary_cells.ensures.most

pub binary::BinaryExprPhysicalExpr::evaluate-returns-in_err-binary_cells-clause-cost : goal.binary::BinaryExprPhysicalExpr::evaluate-returns-in_err-binary_cells-clause-cost
binary::BinaryExprPhysicalExpr::evaluate-returns-in_err-binary_cells-clause-cost t g c =
    let is_left = ap plan_of c.deref.ensures ∙ ap (λ (n : PlannedBinary). n.left) c.self.view_is in
    let x = cost_at c.args.df.now c.args.state.now is_left c.evaluate_cell.ensures.cost in
    let is_right = ap plan_of c.deref-2.ensures ∙ ap (λ (n : PlannedBinary). n.right) c.self.view_is in
    let y = cost_below c.args.df.now is_right c.evaluate_cell.ensures.frame c.evaluate_cell-2.ensures.cost in
    binary_cost c.args.self.now.left.tree c.args.self.now.right.tree c.args.self.now.op (beside c.args.df.now c.args.state.now) c.args.kernels.now c.evaluate_cell.new.kernels c.evaluate_cell-2.new.kernels c.binary_cells.new.kernels x y c.binary_cells.ensures.rises c.binary_cells.ensures.most

pub binary::BinaryExprPhysicalExpr::evaluate-returns-in_err-right-clause-cost : goal.binary::BinaryExprPhysicalExpr::evaluate-returns-in_err-right-clause-cost
binary::BinaryExprPhysicalExpr::evaluate-returns-in_err-right-clause-cost t g c =
    let is_left = ap plan_of c.deref.ensures ∙ ap (λ (n : PlannedBinary). n.left) c.self.view_is in
    let x = cost_at c.args.df.now c.args.state.now is_left c.evaluate_cell.ensures.cost in
    let is_right = ap plan_of c.deref-2.ensures ∙ ap (λ (n : PlannedBinary). n.right) c.self.view_is in
    let y = cost_below c.args.df.now is_right c.evaluate_cell.ensures.frame c.evaluate_cell-2.ensures.cost in
    binary_cost_right c.args.self.now.left.tree c.args.self.now.right.tree c.args.self.now.op (beside c.args.df.now c.args.state.now) c.args.kernels.now c.evaluate_cell.new.kernels c.evaluate_cell-2.new.kernels x y

pub cast::CastExprPhysicalExpr::evaluate-returns-clause-value : goal.cast::CastExprPhysicalExpr::evaluate-returns-clause-value
cast::CastExprPhysicalExpr::evaluate-returns-clause-value t g c =
    let is_input = ap plan_of c.deref.ensures ∙ ap (λ (n : PlannedCast). n.input) c.self.view_is in
    let x = cell_at c.args.df.now c.args.state.now is_input c.in_ok-input.ensures.value in
    rw c.into_column.ensures (cast_value c.args.self.now (beside c.args.df.now c.args.state.now) (named_cell c.in_ok-input.input) (named_cell c.in_ok-cast_cells.field-0) x (subst (λ (n : PlannedCast). cast_named n.dtype n.options (named_cell c.in_ok-input.input) ≡ Ok (named_cell c.in_ok-cast_cells.field-0)) c.self.view_is c.in_ok-cast_cells.ensures.answer))

pub cast::CastExprPhysicalExpr::evaluate-returns-clause-ticks : goal.cast::CastExprPhysicalExpr::evaluate-returns-clause-ticks
cast::CastExprPhysicalExpr::evaluate-returns-clause-ticks t g c =
    let is_input = ap plan_of c.deref.ensures ∙ ap (λ (n : PlannedCast). n.input) c.self.view_is in
    let x = ticks_at c.args.kernels.now c.evaluate_cell.new.kernels is_input c.in_ok-input.ensures.ticks in
    cast_ticks c.args.self.now.input.tree c.args.self.now.dtype c.args.self.now.options c.args.kernels.now c.evaluate_cell.new.kernels c.cast_cells.new.kernels x c.in_ok-cast_cells.ensures.ticks

pub filter::FilterExprPhysicalExpr::evaluate-returns-clause-value : goal.filter::FilterExprPhysicalExpr::evaluate-returns-clause-value
filter::FilterExprPhysicalExpr::evaluate-returns-clause-value t g c =
    let is_input = ap plan_of c.deref.ensures ∙ ap (λ (n : PlannedFilter). n.input) c.self.view_is in
    let x = cell_at c.args.df.now c.args.state.now is_input c.in_ok-input.ensures.value in
    let is_by = ap plan_of c.deref-2.ensures ∙ ap (λ (n : PlannedFilter). n.by) c.self.view_is in
    let y = cell_below c.args.df.now is_by c.evaluate_cell.ensures.frame c.in_ok-by.ensures.value in
    rw c.into_column.ensures (filter_value c.args.self.now (beside c.args.df.now c.args.state.now) (named_cell c.in_ok-input.input) (named_cell c.in_ok-by.by) (named_cell c.in_ok-filter_cells.field-0) x y c.in_ok-filter_cells.ensures.answer)

pub gather::GatherExprPhysicalExpr::evaluate-returns-clause-value : goal.gather::GatherExprPhysicalExpr::evaluate-returns-clause-value
gather::GatherExprPhysicalExpr::evaluate-returns-clause-value t g c =
    let is_phys_expr = ap plan_of c.deref.ensures ∙ ap (λ (n : PlannedGather). n.phys_expr) c.self.view_is in
    let x = cell_at c.args.df.now c.args.state.now is_phys_expr c.in_ok-input.ensures.value in
    let is_idx = ap plan_of c.deref-2.ensures ∙ ap (λ (n : PlannedGather). n.idx) c.self.view_is in
    let y = cell_below c.args.df.now is_idx c.evaluate_cell.ensures.frame c.in_ok-idx.ensures.value in
    let literal = ap plan_of c.deref-3.ensures ∙ ap (λ (n : PlannedGather). n.idx) c.self.view_is in
    let same = c.has_literals_alone-is_literal.ensures ∙ ap (λ (p : Planned). is_literal_tree p.tree) literal in
    let rows = subst (λ (n : PlannedGather). gather_named n.returns_scalar c.has_literals_alone-is_literal.result (named_cell c.in_ok-input.input) (named_cell c.in_ok-idx.idx) ≡ Ok (named_cell c.in_ok-rows.rows)) c.self.view_is c.in_ok-rows.ensures.answer in
    rw c.into_column.ensures (gather_value c.args.self.now (beside c.args.df.now c.args.state.now) (named_cell c.in_ok-input.input) (named_cell c.in_ok-idx.idx) (named_cell c.in_ok-rows.rows) x y (ap (λ b. gather_named c.args.self.now.returns_scalar b (named_cell c.in_ok-input.input) (named_cell c.in_ok-idx.idx)) (sym same) ∙ rows))

pub slice::SliceExprPhysicalExpr::evaluate-returns-clause-value : goal.slice::SliceExprPhysicalExpr::evaluate-returns-clause-value
slice::SliceExprPhysicalExpr::evaluate-returns-clause-value t g c =
    let is_input = ap plan_of c.deref.ensures ∙ ap (λ (n : PlannedSlice). n.input) c.self.view_is in
    let x = cell_at c.args.df.now c.args.state.now is_input c.in_ok-input.ensures.value in
    let is_offset = ap plan_of c.deref-2.ensures ∙ ap (λ (n : PlannedSlice). n.offset) c.self.view_is in
    let y = cell_below c.args.df.now is_offset c.evaluate_cell.ensures.frame c.in_ok-offset.ensures.value in
    let is_length = ap plan_of c.deref-3.ensures ∙ ap (λ (n : PlannedSlice). n.length) c.self.view_is in
    let z = cell_below c.args.df.now is_length (c.evaluate_cell-2.ensures.frame ∙ c.evaluate_cell.ensures.frame) c.in_ok-length.ensures.value in
    rw c.into_column.ensures (slice_value c.args.self.now (beside c.args.df.now c.args.state.now) (named_cell c.in_ok-input.input) (named_cell c.in_ok-offset.offset) (named_cell c.in_ok-length.length) (named_cell c.in_ok-slice_cells.field-0) x y z c.in_ok-slice_cells.ensures.answer)

pub sort::SortExprPhysicalExpr::evaluate-returns-clause-value : goal.sort::SortExprPhysicalExpr::evaluate-returns-clause-value
sort::SortExprPhysicalExpr::evaluate-returns-clause-value t g c =
    let is_physical_expr = ap plan_of c.deref.ensures ∙ ap (λ (n : PlannedSort). n.physical_expr) c.self.view_is in
    let x = cell_at c.args.df.now c.args.state.now is_physical_expr c.in_ok-input.ensures.value in
    let same : c.self.inside.options ≡ c.args.self.now.options = ap (λ (s : PlannedSort). s.options) c.self.view_is in
    rw c.into_column.ensures (sort_value c.args.self.now (beside c.args.df.now c.args.state.now) (named_cell c.in_ok-input.input) (named_cell c.in_ok-sort_cells.field-0) x (rw (sym same) c.in_ok-sort_cells.ensures.answer))

pub sort::SortExprPhysicalExpr::evaluate-returns-in_err-sort_cells-clause-causes : goal.sort::SortExprPhysicalExpr::evaluate-returns-in_err-sort_cells-clause-causes
sort::SortExprPhysicalExpr::evaluate-returns-in_err-sort_cells-clause-causes t g c =
    let is_physical_expr = ap plan_of c.deref.ensures ∙ ap (λ (n : PlannedSort). n.physical_expr) c.self.view_is in
    let x = cell_at c.args.df.now c.args.state.now is_physical_expr c.in_ok-input.ensures.value in
    let same : c.self.inside.options ≡ c.args.self.now.options = ap (λ (s : PlannedSort). s.options) c.self.view_is in
    passed_on c.from_residual-in_err-sort_cells.result c.in_err-sort_cells.field-0.0 (λ e. IsCause e (sort_plan c.args.self.now) (beside c.args.df.now c.args.state.now)) c.from_residual-in_err-sort_cells.ensures.1
    (sort_cause c.in_err-sort_cells.field-0.0 c.args.self.now (beside c.args.df.now c.args.state.now) (named_cell c.in_ok-input.input) x (rw (sym same) c.in_err-sort_cells.ensures.answer))

pub ternary::TernaryExprPhysicalExpr::evaluate-returns-clause-value : goal.ternary::TernaryExprPhysicalExpr::evaluate-returns-clause-value
ternary::TernaryExprPhysicalExpr::evaluate-returns-clause-value t g c =
    let is_predicate = ap plan_of c.deref.ensures ∙ ap (λ (n : PlannedTernary). n.predicate) c.self.view_is in
    let x = cell_at c.args.df.now c.args.state.now is_predicate c.in_ok-predicate.ensures.value in
    let is_truthy = ap plan_of c.deref-2.ensures ∙ ap (λ (n : PlannedTernary). n.truthy) c.self.view_is in
    let y = cell_below c.args.df.now is_truthy c.evaluate_cell.ensures.frame c.in_ok-truthy.ensures.value in
    let is_falsy = ap plan_of c.deref-3.ensures ∙ ap (λ (n : PlannedTernary). n.falsy) c.self.view_is in
    let z = cell_below c.args.df.now is_falsy (c.evaluate_cell-2.ensures.frame ∙ c.evaluate_cell.ensures.frame) c.in_ok-falsy.ensures.value in
    rw c.into_column.ensures (ternary_value c.args.self.now (beside c.args.df.now c.args.state.now) (named_cell c.in_ok-predicate.predicate) (named_cell c.in_ok-truthy.truthy) (named_cell c.in_ok-falsy.falsy) (named_cell c.in_ok-ternary_cells.field-0) x y z c.in_ok-ternary_cells.ensures.answer)

pub ternary::TernaryExprPhysicalExpr::evaluate-returns-clause-ticks : goal.ternary::TernaryExprPhysicalExpr::evaluate-returns-clause-ticks
ternary::TernaryExprPhysicalExpr::evaluate-returns-clause-ticks t g c =
    let is_predicate = ap plan_of c.deref.ensures ∙ ap (λ (n : PlannedTernary). n.predicate) c.self.view_is in
    let x = ticks_at c.args.kernels.now c.evaluate_cell.new.kernels is_predicate c.in_ok-predicate.ensures.ticks in
    let is_truthy = ap plan_of c.deref-2.ensures ∙ ap (λ (n : PlannedTernary). n.truthy) c.self.view_is in
    let y = ticks_at c.evaluate_cell.new.kernels c.evaluate_cell-2.new.kernels is_truthy c.in_ok-truthy.ensures.ticks in
    let is_falsy = ap plan_of c.deref-3.ensures ∙ ap (λ (n : PlannedTernary). n.falsy) c.self.view_is in
    let z = ticks_at c.evaluate_cell-2.new.kernels c.evaluate_cell-3.new.kernels is_falsy c.in_ok-falsy.ensures.ticks in
    ternary_ticks c.args.self.now.predicate.tree c.args.self.now.truthy.tree c.args.self.now.falsy.tree c.args.kernels.now c.evaluate_cell.new.kernels c.evaluate_cell-2.new.kernels c.evaluate_cell-3.new.kernels c.ternary_cells.new.kernels x y z c.in_ok-ternary_cells.ensures.ticks

pub ternary::TernaryExprPhysicalExpr::evaluate-returns-clause-cost : goal.ternary::TernaryExprPhysicalExpr::evaluate-returns-clause-cost
ternary::TernaryExprPhysicalExpr::evaluate-returns-clause-cost t g c =
    let is_predicate = ap plan_of c.deref.ensures ∙ ap (λ (n : PlannedTernary). n.predicate) c.self.view_is in
    let x = cost_at c.args.df.now c.args.state.now is_predicate c.evaluate_cell.ensures.cost in
    let is_truthy = ap plan_of c.deref-2.ensures ∙ ap (λ (n : PlannedTernary). n.truthy) c.self.view_is in
    let y = cost_below c.args.df.now is_truthy c.evaluate_cell.ensures.frame c.evaluate_cell-2.ensures.cost in
    let is_falsy = ap plan_of c.deref-3.ensures ∙ ap (λ (n : PlannedTernary). n.falsy) c.self.view_is in
    let z = cost_below c.args.df.now is_falsy (c.evaluate_cell-2.ensures.frame ∙ c.evaluate_cell.ensures.frame) c.evaluate_cell-3.ensures.cost in
    ternary_cost c.args.self.now.predicate.tree c.args.self.now.truthy.tree c.args.self.now.falsy.tree (beside c.args.df.now c.args.state.now) c.args.kernels.now c.evaluate_cell.new.kernels c.evaluate_cell-2.new.kernels c.evaluate_cell-3.new.kernels c.ternary_cells.new.kernels x y z c.ternary_cells.ensures.rises c.ternary_cells.ensures.most

pub ternary::TernaryExprPhysicalExpr::evaluate-returns-in_err-ternary_cells-clause-cost : goal.ternary::TernaryExprPhysicalExpr::evaluate-returns-in_err-ternary_cells-clause-cost
ternary::TernaryExprPhysicalExpr::evaluate-returns-in_err-ternary_cells-clause-cost t g c =
    let is_predicate = ap plan_of c.deref.ensures ∙ ap (λ (n : PlannedTernary). n.predicate) c.self.view_is in
    let x = cost_at c.args.df.now c.args.state.now is_predicate c.evaluate_cell.ensures.cost in
    let is_truthy = ap plan_of c.deref-2.ensures ∙ ap (λ (n : PlannedTernary). n.truthy) c.self.view_is in
    let y = cost_below c.args.df.now is_truthy c.evaluate_cell.ensures.frame c.evaluate_cell-2.ensures.cost in
    let is_falsy = ap plan_of c.deref-3.ensures ∙ ap (λ (n : PlannedTernary). n.falsy) c.self.view_is in
    let z = cost_below c.args.df.now is_falsy (c.evaluate_cell-2.ensures.frame ∙ c.evaluate_cell.ensures.frame) c.evaluate_cell-3.ensures.cost in
    ternary_cost c.args.self.now.predicate.tree c.args.self.now.truthy.tree c.args.self.now.falsy.tree (beside c.args.df.now c.args.state.now) c.args.kernels.now c.evaluate_cell.new.kernels c.evaluate_cell-2.new.kernels c.evaluate_cell-3.new.kernels c.ternary_cells.new.kernels x y z c.ternary_cells.ensures.rises c.ternary_cells.ensures.most

pub ternary::TernaryExprPhysicalExpr::evaluate-returns-in_err-truthy-clause-cost : goal.ternary::TernaryExprPhysicalExpr::evaluate-returns-in_err-truthy-clause-cost
ternary::TernaryExprPhysicalExpr::evaluate-returns-in_err-truthy-clause-cost t g c =
    let is_predicate = ap plan_of c.deref.ensures ∙ ap (λ (n : PlannedTernary). n.predicate) c.self.view_is in
    let x = cost_at c.args.df.now c.args.state.now is_predicate c.evaluate_cell.ensures.cost in
    let is_truthy = ap plan_of c.deref-2.ensures ∙ ap (λ (n : PlannedTernary). n.truthy) c.self.view_is in
    let y = cost_below c.args.df.now is_truthy c.evaluate_cell.ensures.frame c.evaluate_cell-2.ensures.cost in
    ternary_cost_two c.args.self.now.predicate.tree c.args.self.now.truthy.tree c.args.self.now.falsy.tree (beside c.args.df.now c.args.state.now) c.args.kernels.now c.evaluate_cell.new.kernels c.evaluate_cell-2.new.kernels x y

pub ternary::TernaryExprPhysicalExpr::evaluate-returns-in_err-falsy-clause-cost : goal.ternary::TernaryExprPhysicalExpr::evaluate-returns-in_err-falsy-clause-cost
ternary::TernaryExprPhysicalExpr::evaluate-returns-in_err-falsy-clause-cost t g c =
    let is_predicate = ap plan_of c.deref.ensures ∙ ap (λ (n : PlannedTernary). n.predicate) c.self.view_is in
    let x = cost_at c.args.df.now c.args.state.now is_predicate c.evaluate_cell.ensures.cost in
    let is_truthy = ap plan_of c.deref-2.ensures ∙ ap (λ (n : PlannedTernary). n.truthy) c.self.view_is in
    let y = cost_below c.args.df.now is_truthy c.evaluate_cell.ensures.frame c.evaluate_cell-2.ensures.cost in
    let is_falsy = ap plan_of c.deref-3.ensures ∙ ap (λ (n : PlannedTernary). n.falsy) c.self.view_is in
    let z = cost_below c.args.df.now is_falsy (c.evaluate_cell-2.ensures.frame ∙ c.evaluate_cell.ensures.frame) c.evaluate_cell-3.ensures.cost in
    ternary_cost_three c.args.self.now.predicate.tree c.args.self.now.truthy.tree c.args.self.now.falsy.tree (beside c.args.df.now c.args.state.now) c.args.kernels.now c.evaluate_cell.new.kernels c.evaluate_cell-2.new.kernels c.evaluate_cell-3.new.kernels x y z

pub alias::AliasExprPhysicalExpr::evaluate-returns-in_err-column-clause-cost : goal.alias::AliasExprPhysicalExpr::evaluate-returns-in_err-column-clause-cost
alias::AliasExprPhysicalExpr::evaluate-returns-in_err-column-clause-cost t g c =
    alias_most c.args.self.now.tree _ _ (beside c.args.df.now c.args.state.now) c.args.kernels.now c.evaluate.new.kernels (ap (λ (p : Planned). p.tree) (sym c.self.view_is)) (subst (λ (n : PhysExpr). RunAtMost (plan_of n).tree (beside c.args.df.now c.args.state.now) c.args.kernels.now c.evaluate.new.kernels) c.deref.ensures c.evaluate.ensures.cost)

pub alias::AliasExprPhysicalExpr::evaluate-returns-clause-cost : goal.alias::AliasExprPhysicalExpr::evaluate-returns-clause-cost
alias::AliasExprPhysicalExpr::evaluate-returns-clause-cost t g c =
    alias_most c.args.self.now.tree _ _ (beside c.args.df.now c.args.state.now) c.args.kernels.now c.evaluate.new.kernels (ap (λ (p : Planned). p.tree) (sym c.self.view_is)) (subst (λ (n : PhysExpr). RunAtMost (plan_of n).tree (beside c.args.df.now c.args.state.now) c.args.kernels.now c.evaluate.new.kernels) c.deref.ensures c.evaluate.ensures.cost)

-- nodes one after another
pub phys_expr::evaluate_cells-returns-in_err-cells-clause-causes : goal.phys_expr::evaluate_cells-returns-in_err-cells-clause-causes
phys_expr::evaluate_cells-returns-in_err-cells-clause-causes t g c =
    let p = err_from_is_err_and c.from_residual.result c.from_residual.ensures.1 in
    rw (p.1, p.2) tt

pub phys_expr::evaluate_cells-returns-in_err-cells-clause-most : goal.phys_expr::evaluate_cells-returns-in_err-cells-clause-most
phys_expr::evaluate_cells-returns-in_err-cells-clause-most t g c =
    rises_none (costs_on (map (λ (n : PhysExpr). (plan_of n).tree) c.args.nodes.now) (beside c.args.df.now c.args.state.now)) c.args.kernels.now

pub phys_expr::evaluate_cells-returns-in_err-cells-clause-grouped_most : goal.phys_expr::evaluate_cells-returns-in_err-cells-clause-grouped_most
phys_expr::evaluate_cells-returns-in_err-cells-clause-grouped_most t g c =
    none_of_all (plan_trees (map plan_of c.args.nodes.now)) c.args.groupings.now

pub phys_expr::evaluate_cells-returns-in_err-evaluate_cell-clause-causes : goal.phys_expr::evaluate_cells-returns-in_err-evaluate_cell-clause-causes
phys_expr::evaluate_cells-returns-in_err-evaluate_cell-clause-causes t g c =
    let p = err_from_is_err_and c.from_residual-in_err-evaluate_cell.result c.from_residual-in_err-evaluate_cell.ensures.1 in
    rw (p.1, p.2)
    (cells_cause c.args.nodes.now c.loop-node.node-index c.node-item.result c.loop-node-test.true c.node-item.is (beside c.args.df.now c.args.state.now) c.loop-node.cells.items c.args.kernels.now c.loop-node.kernels c.loop-node.invariant.front c.in_err-evaluate_cell.field-0.0 (rw c.loop-node.invariant.state at c.in_err-evaluate_cell.ensures.causes))

pub phys_expr::evaluate_cells-returns-in_err-evaluate_cell-clause-cost : goal.phys_expr::evaluate_cells-returns-in_err-evaluate_cell-clause-cost
phys_expr::evaluate_cells-returns-in_err-evaluate_cell-clause-cost t g c =
    cells_cost c.args.nodes.now c.loop-node.node-index c.node-item.result c.loop-node-test.true c.node-item.is (beside c.args.df.now c.args.state.now) c.loop-node.cells.items c.args.kernels.now c.loop-node.kernels c.loop-node.invariant.front c.evaluate_cell.new.kernels (rw c.loop-node.invariant.state at c.in_err-evaluate_cell.ensures.cost)

pub phys_expr::evaluate_cells-returns-in_err-evaluate_cell-clause-most : goal.phys_expr::evaluate_cells-returns-in_err-evaluate_cell-clause-most
phys_expr::evaluate_cells-returns-in_err-evaluate_cell-clause-most t g c =
    let cost = rw c.loop-node.invariant.state at c.in_err-evaluate_cell.ensures.cost in
    cost_here (λ (n : PhysExpr). (plan_of n).tree) c.args.nodes.now c.loop-node.node-index c.node-item.result c.loop-node-test.true c.node-item.is (beside c.args.df.now c.args.state.now) (λ (new : ℕ). RisesAtMost (costs_on (map (λ (n : PhysExpr). (plan_of n).tree) c.args.nodes.now) (beside c.args.df.now c.args.state.now)) c.args.kernels.now new) c.loop-node.kernels c.evaluate_cell.new.kernels c.loop-node.invariant.most cost.cost

pub phys_expr::evaluate_cells-returns-in_err-evaluate_cell-clause-grouped_most : goal.phys_expr::evaluate_cells-returns-in_err-evaluate_cell-clause-grouped_most
phys_expr::evaluate_cells-returns-in_err-evaluate_cell-clause-grouped_most t g c =
    grouped_here c.args.nodes.now c.loop-node.node-index c.node-item.result c.loop-node-test.true c.node-item.is c.args.groupings.now c.loop-node.groupings c.loop-node.invariant.grouped c.evaluate_cell.new.groupings c.loop-node.invariant.rises c.in_err-evaluate_cell.ensures.grouped_most

pub phys_expr::evaluate_cells-returns-in_err-push-clause-causes : goal.phys_expr::evaluate_cells-returns-in_err-push-clause-causes
phys_expr::evaluate_cells-returns-in_err-push-clause-causes t g c =
    let p = err_from_is_err_and c.from_residual-in_err-push.result c.from_residual-in_err-push.ensures.1 in
    rw (p.1, p.2) tt

pub phys_expr::evaluate_cells-returns-in_err-push-clause-cost : goal.phys_expr::evaluate_cells-returns-in_err-push-clause-cost
phys_expr::evaluate_cells-returns-in_err-push-clause-cost t g c =
    cells_cost c.args.nodes.now c.loop-node.node-index c.node-item.result c.loop-node-test.true c.node-item.is (beside c.args.df.now c.args.state.now) c.loop-node.cells.items c.args.kernels.now c.loop-node.kernels c.loop-node.invariant.front c.evaluate_cell.new.kernels (rw c.loop-node.invariant.state at c.in_ok-evaluate_cell.ensures.cost)

pub phys_expr::evaluate_cells-returns-in_err-push-clause-most : goal.phys_expr::evaluate_cells-returns-in_err-push-clause-most
phys_expr::evaluate_cells-returns-in_err-push-clause-most t g c =
    let cost = rw c.loop-node.invariant.state at c.in_ok-evaluate_cell.ensures.cost in
    cost_here (λ (n : PhysExpr). (plan_of n).tree) c.args.nodes.now c.loop-node.node-index c.node-item.result c.loop-node-test.true c.node-item.is (beside c.args.df.now c.args.state.now) (λ (new : ℕ). RisesAtMost (costs_on (map (λ (n : PhysExpr). (plan_of n).tree) c.args.nodes.now) (beside c.args.df.now c.args.state.now)) c.args.kernels.now new) c.loop-node.kernels c.evaluate_cell.new.kernels c.loop-node.invariant.most cost.cost

pub phys_expr::evaluate_cells-returns-in_err-push-clause-grouped_most : goal.phys_expr::evaluate_cells-returns-in_err-push-clause-grouped_most
phys_expr::evaluate_cells-returns-in_err-push-clause-grouped_most t g c =
    grouped_here c.args.nodes.now c.loop-node.node-index c.node-item.result c.loop-node-test.true c.node-item.is c.args.groupings.now c.loop-node.groupings c.loop-node.invariant.grouped c.evaluate_cell.new.groupings c.loop-node.invariant.rises c.in_ok-evaluate_cell.ensures.grouped_most

pub phys_expr::evaluate_cells-loop-node-preserved : goal.phys_expr::evaluate_cells-loop-node-preserved
phys_expr::evaluate_cells-loop-node-preserved t g c =
    let inv = c.loop-node.invariant in
    let cost = rw inv.state at c.in_ok-evaluate_cell.ensures.cost in
    record {
      front = cells_next c.args.nodes.now c.loop-node.node-index c.node-item.result c.loop-node-test.true c.node-item.is (beside c.args.df.now c.args.state.now) c.loop-node.cells.items c.args.kernels.now c.loop-node.kernels inv.front _ c.in_ok-evaluate_cell.field-0 c.evaluate_cell.new.kernels c.in_ok-push.ensures.items (rw inv.state at c.in_ok-evaluate_cell.ensures.value) c.in_ok-evaluate_cell.ensures.ticks cost;
      most = cost_next (λ (n : PhysExpr). (plan_of n).tree) c.args.nodes.now c.loop-node.node-index c.node-item.result c.loop-node-test.true c.node-item.is (beside c.args.df.now c.args.state.now) (λ (new : ℕ). RisesAtMost (costs_on (map (λ (n : PhysExpr). (plan_of n).tree) c.args.nodes.now) (beside c.args.df.now c.args.state.now)) c.args.kernels.now new) c.loop-node.kernels c.evaluate_cell.new.kernels inv.most cost.cost;
      state = c.in_ok-evaluate_cell.ensures.frame ∙ inv.state;
      grouped = grouped_next c.args.nodes.now c.loop-node.node-index c.node-item.result c.loop-node-test.true c.node-item.is c.args.groupings.now c.loop-node.groupings inv.grouped c.evaluate_cell.new.groupings c.in_ok-evaluate_cell.ensures.grouped;
      rises = omega (arith, inv.rises, c.in_ok-evaluate_cell.ensures.grouped_most.rises);
    }

pub phys_expr::evaluate_cells-returns-clause-value : goal.phys_expr::evaluate_cells-returns-clause-value
phys_expr::evaluate_cells-returns-clause-value t g c =
    (cells_done c.args.nodes.now c.loop-node.node-index (beside c.args.df.now c.args.state.now) c.loop-node.cells.items c.args.kernels.now c.loop-node.kernels c.loop-node-test.false c.loop-node.invariant.front).0

pub phys_expr::evaluate_cells-returns-clause-ticks : goal.phys_expr::evaluate_cells-returns-clause-ticks
phys_expr::evaluate_cells-returns-clause-ticks t g c =
    (cells_done c.args.nodes.now c.loop-node.node-index (beside c.args.df.now c.args.state.now) c.loop-node.cells.items c.args.kernels.now c.loop-node.kernels c.loop-node-test.false c.loop-node.invariant.front).1.0

pub phys_expr::evaluate_cells-returns-clause-cost : goal.phys_expr::evaluate_cells-returns-clause-cost
phys_expr::evaluate_cells-returns-clause-cost t g c =
    (cells_done c.args.nodes.now c.loop-node.node-index (beside c.args.df.now c.args.state.now) c.loop-node.cells.items c.args.kernels.now c.loop-node.kernels c.loop-node-test.false c.loop-node.invariant.front).1.1.0

pub phys_expr::evaluate_cells-returns-clause-least : goal.phys_expr::evaluate_cells-returns-clause-least
phys_expr::evaluate_cells-returns-clause-least t g c =
    (cells_done c.args.nodes.now c.loop-node.node-index (beside c.args.df.now c.args.state.now) c.loop-node.cells.items c.args.kernels.now c.loop-node.kernels c.loop-node-test.false c.loop-node.invariant.front).1.1.1

pub phys_expr::evaluate_cells-returns-clause-most : goal.phys_expr::evaluate_cells-returns-clause-most
phys_expr::evaluate_cells-returns-clause-most t g c =
    cost_end (λ (n : PhysExpr). (plan_of n).tree) c.args.nodes.now c.loop-node.node-index c.loop-node-test.false (beside c.args.df.now c.args.state.now) (λ (new : ℕ). RisesAtMost (costs_on (map (λ (n : PhysExpr). (plan_of n).tree) c.args.nodes.now) (beside c.args.df.now c.args.state.now)) c.args.kernels.now new) c.loop-node.kernels c.loop-node.invariant.most

pub phys_expr::evaluate_cells-returns-clause-grouped : goal.phys_expr::evaluate_cells-returns-clause-grouped
phys_expr::evaluate_cells-returns-clause-grouped t g c =
    grouped_end c.args.nodes.now c.loop-node.node-index c.loop-node-test.false c.args.groupings.now c.loop-node.groupings c.loop-node.invariant.grouped

pub phys_expr::evaluate_cells-returns-clause-grouped_most : goal.phys_expr::evaluate_cells-returns-clause-grouped_most
phys_expr::evaluate_cells-returns-clause-grouped_most t g c =
    grouped_all (plan_trees (map plan_of c.args.nodes.now)) c.args.groupings.now c.loop-node.groupings (grouped_end c.args.nodes.now c.loop-node.node-index c.loop-node-test.false c.args.groupings.now c.loop-node.groupings c.loop-node.invariant.grouped)

-- functions, and rows in the order of others
pub apply::ApplyExprPhysicalExpr::evaluate-returns-clause-value : goal.apply::ApplyExprPhysicalExpr::evaluate-returns-clause-value
apply::ApplyExprPhysicalExpr::evaluate-returns-clause-value t g c =
    let cs = map named_cell c.in_ok-inputs.inputs.items in
    let same : called c.args.self.now.call ≡ c.self.inside.function = ap (λ (a : PlannedApply). called a.call) (sym c.self.view_is) ∙ c.self.invariant.1.0 in
    let seen = ap (map plan_of) c.deref.ensures.value ∙ ap (λ (n : PlannedApply). n.inputs) c.self.view_is in
    let are = subst (λ (ps : List Planned). AreCellsOf ps (beside c.args.df.now c.args.state.now) (map named_cell c.in_ok-inputs.inputs.items)) seen c.in_ok-inputs.ensures.value in
    let made = c.in_ok-apply_cells.ensures.answer in
    rw c.into_column.ensures (apply_value c.args.self.now (beside c.args.df.now c.args.state.now) cs are (named_cell c.in_ok-apply_cells.field-0) (ap (λ f. function_named f cs) same ∙ made))

pub apply::ApplyExprPhysicalExpr::evaluate-returns-clause-ticks : goal.apply::ApplyExprPhysicalExpr::evaluate-returns-clause-ticks
apply::ApplyExprPhysicalExpr::evaluate-returns-clause-ticks t g c =
    let same : called c.args.self.now.call ≡ c.self.inside.function = ap (λ (a : PlannedApply). called a.call) (sym c.self.view_is) ∙ c.self.invariant.1.0 in
    let seen : map plan_of c.deref.result.now ≡ c.args.self.now.inputs = ap (map plan_of) c.deref.ensures.value ∙ ap (λ (a : PlannedApply). a.inputs) c.self.view_is in
    let ran : RunAllExactly (plan_trees c.args.self.now.inputs) c.args.kernels.now c.evaluate_cells.new.kernels
    = subst (λ (ps : List Planned). RunAllExactly (plan_trees ps) c.args.kernels.now c.evaluate_cells.new.kernels) seen c.in_ok-inputs.ensures.ticks in
    let ticks = c.in_ok-apply_cells.ensures.ticks in
    apply_ticks (plan_trees c.args.self.now.inputs) c.args.self.now.call c.args.kernels.now c.evaluate_cells.new.kernels c.apply_cells.new.kernels ran (λ r. ticks (ap is_row_function (sym same) ∙ r))

pub sort_by::SortByExprPhysicalExpr::evaluate-returns-clause-value : goal.sort_by::SortByExprPhysicalExpr::evaluate-returns-clause-value
sort_by::SortByExprPhysicalExpr::evaluate-returns-clause-value t g c =
    let is_input = ap plan_of c.deref-2.ensures ∙ ap (λ (n : PlannedSortBy). n.input) c.self.view_is in
    let is = cell_below c.args.df.now is_input c.evaluate_cells.ensures.frame c.in_ok-input.ensures.value in
    let seen = ap (map plan_of) c.deref.ensures.value ∙ ap (λ (n : PlannedSortBy). n.by) c.self.view_is in
    let are = subst (λ (ps : List Planned). AreCellsOf ps (beside c.args.df.now c.args.state.now) (map named_cell c.in_ok-by.by.items)) seen c.in_ok-by.ensures.value in
    let made = subst (λ (n : PlannedSortBy). sort_by_named n.sort_options (named_cell c.in_ok-input.input) (map named_cell c.in_ok-by.by.items) ≡ Ok (named_cell c.in_ok-sort_by_cells.field-0)) c.self.view_is c.in_ok-sort_by_cells.ensures.answer in
    rw c.into_column.ensures (sort_by_value c.args.self.now (beside c.args.df.now c.args.state.now) (named_cell c.in_ok-input.input) (map named_cell c.in_ok-by.by.items) is are (named_cell c.in_ok-sort_by_cells.field-0) made)

-- windows
pub window::WindowExprPhysicalExpr::evaluate-returns-in_err-keys-clause-cost : goal.window::WindowExprPhysicalExpr::evaluate-returns-in_err-keys-clause-cost
window::WindowExprPhysicalExpr::evaluate-returns-in_err-keys-clause-cost t g c =
    let seen = ap (map plan_of) c.deref.ensures.value ∙ ap (λ (w : PlannedWindow). w.group_by) c.self.view_is in
    let keys = keys_cost c.args.self.now c.args.df.now c.deref.result.now c.args.state.now c.args.kernels.now c.evaluate_cells.new.kernels seen c.evaluate_cells.ensures.most in
    window_cost_keys c.args.self.now (beside c.args.df.now c.args.state.now) c.args.kernels.now c.evaluate_cells.new.kernels c.evaluate_cells.ensures.cost.rises keys

pub window::WindowExprPhysicalExpr::evaluate-returns-in_err-order-clause-cost : goal.window::WindowExprPhysicalExpr::evaluate-returns-in_err-order-clause-cost
window::WindowExprPhysicalExpr::evaluate-returns-in_err-order-clause-cost t g c =
    let seen = ap (map plan_of) c.deref.ensures.value ∙ ap (λ (w : PlannedWindow). w.group_by) c.self.view_is in
    let keys = keys_cost c.args.self.now c.args.df.now c.deref.result.now c.args.state.now c.args.kernels.now c.evaluate_cells.new.kernels seen c.evaluate_cells.ensures.most in
    let ordered = ap (λ (w : PlannedWindow). w.order_by) c.self.view_is in
    let order = of_order c.args.self.now c.args.df.now (λ o f. RunOrderAtMost o f c.evaluate_cells.new.kernels c.evaluate_order.new.kernels) (order_of c.self.inside.order_by) c.args.state.now c.evaluate_cells.new.state ordered c.evaluate_cells.ensures.frame c.evaluate_order.ensures.cost in
    window_cost_order c.args.self.now (beside c.args.df.now c.args.state.now) c.args.kernels.now c.evaluate_cells.new.kernels c.evaluate_cells.ensures.cost.rises keys c.evaluate_order.new.kernels order

pub window::WindowExprPhysicalExpr::evaluate-returns-in_err-none-in-Err-clause-cost : goal.window::WindowExprPhysicalExpr::evaluate-returns-in_err-none-in-Err-clause-cost
window::WindowExprPhysicalExpr::evaluate-returns-in_err-none-in-Err-clause-cost t g c =
    let seen = ap (map plan_of) c.deref.ensures.value ∙ ap (λ (w : PlannedWindow). w.group_by) c.self.view_is in
    let keys = keys_cost c.args.self.now c.args.df.now c.deref.result.now c.args.state.now c.args.kernels.now c.evaluate_cells.new.kernels seen c.evaluate_cells.ensures.most in
    let ordered = ap (λ (w : PlannedWindow). w.order_by) c.self.view_is in
    let order = of_order c.args.self.now c.args.df.now (λ o f. RunOrderAtMost o f c.evaluate_cells.new.kernels c.evaluate_order.new.kernels) (order_of c.self.inside.order_by) c.args.state.now c.evaluate_cells.new.state ordered c.evaluate_cells.ensures.frame c.evaluate_order.ensures.cost in
    let are = keys_are c.args.self.now c.args.df.now c.deref.result.now c.args.state.now (map named_cell c.in_ok-keys.keys.items) seen c.in_ok-keys.ensures.value in
    let is = of_order c.args.self.now c.args.df.now (λ o f. IsOrderOf o f (order_cell c.in_ok-order.order)) (order_of c.self.inside.order_by) c.args.state.now c.evaluate_cells.new.state ordered c.evaluate_cells.ensures.frame c.in_ok-order.ensures.value in
    let most = subst (λ n. c.window_parts.new.kernels ≤ c.evaluate_order.new.kernels + part_count n (map named_cell c.in_ok-keys.keys.items) (order_cell c.in_ok-order.order)) c.height-height.ensures c.window_parts.ensures.most in
    window_cost_parts c.args.self.now (beside c.args.df.now c.args.state.now) c.args.kernels.now c.evaluate_cells.new.kernels c.evaluate_cells.ensures.cost.rises keys (map named_cell c.in_ok-keys.keys.items) (order_cell c.in_ok-order.order) are is c.evaluate_order.new.kernels c.window_parts.new.kernels order c.window_parts.ensures.rises most c.window_parts.ensures.unordered

pub window::WindowExprPhysicalExpr::evaluate-returns-in_err-evaluate_on_groups-in-Err-clause-cost : goal.window::WindowExprPhysicalExpr::evaluate-returns-in_err-evaluate_on_groups-in-Err-clause-cost
window::WindowExprPhysicalExpr::evaluate-returns-in_err-evaluate_on_groups-in-Err-clause-cost t g c =
    let seen = ap (map plan_of) c.deref.ensures.value ∙ ap (λ (w : PlannedWindow). w.group_by) c.self.view_is in
    let keys = keys_cost c.args.self.now c.args.df.now c.deref.result.now c.args.state.now c.args.kernels.now c.evaluate_cells.new.kernels seen c.evaluate_cells.ensures.most in
    let ordered = ap (λ (w : PlannedWindow). w.order_by) c.self.view_is in
    let order = of_order c.args.self.now c.args.df.now (λ o f. RunOrderAtMost o f c.evaluate_cells.new.kernels c.evaluate_order.new.kernels) (order_of c.self.inside.order_by) c.args.state.now c.evaluate_cells.new.state ordered c.evaluate_cells.ensures.frame c.evaluate_order.ensures.cost in
    let are = keys_are c.args.self.now c.args.df.now c.deref.result.now c.args.state.now (map named_cell c.in_ok-keys.keys.items) seen c.in_ok-keys.ensures.value in
    let is = of_order c.args.self.now c.args.df.now (λ o f. IsOrderOf o f (order_cell c.in_ok-order.order)) (order_of c.self.inside.order_by) c.args.state.now c.evaluate_cells.new.state ordered c.evaluate_cells.ensures.frame c.in_ok-order.ensures.value in
    let most = subst (λ n. c.window_parts.new.kernels ≤ c.evaluate_order.new.kernels + part_count n (map named_cell c.in_ok-keys.keys.items) (order_cell c.in_ok-order.order)) c.height-height.ensures c.window_parts.ensures.most in
    let same = c.evaluate_order.ensures.frame ∙ c.evaluate_cells.ensures.frame in
    let function = ap plan_of c.deref-in-Err.ensures ∙ ap (λ (w : PlannedWindow). w.phys_function) c.self.view_is in
    let ran = of_function c.args.self.now c.args.df.now (λ p f. RunOnGroups p.tree (length c.in_ok-none-in-Err.none.groups) c.window_parts.new.kernels c.evaluate_on_groups.new.kernels) (plan_of c.deref-in-Err.result.now) c.args.state.now c.evaluate_order.new.state function same c.evaluate_on_groups.ensures.cost in
    window_cost c.args.self.now (beside c.args.df.now c.args.state.now) c.args.kernels.now c.evaluate_cells.new.kernels c.evaluate_cells.ensures.cost.rises keys (map named_cell c.in_ok-keys.keys.items) (order_cell c.in_ok-order.order) are is c.evaluate_order.new.kernels c.window_parts.new.kernels order c.window_parts.ensures.rises most c.window_parts.ensures.unordered (length c.in_ok-none-in-Err.none.groups) c.evaluate_on_groups.new.kernels ran

pub window::WindowExprPhysicalExpr::evaluate-returns-in-Err-clause-cost : goal.window::WindowExprPhysicalExpr::evaluate-returns-in-Err-clause-cost
window::WindowExprPhysicalExpr::evaluate-returns-in-Err-clause-cost t g c =
    let seen = ap (map plan_of) c.deref.ensures.value ∙ ap (λ (w : PlannedWindow). w.group_by) c.self.view_is in
    let keys = keys_cost c.args.self.now c.args.df.now c.deref.result.now c.args.state.now c.args.kernels.now c.evaluate_cells.new.kernels seen c.evaluate_cells.ensures.most in
    let ordered = ap (λ (w : PlannedWindow). w.order_by) c.self.view_is in
    let order = of_order c.args.self.now c.args.df.now (λ o f. RunOrderAtMost o f c.evaluate_cells.new.kernels c.evaluate_order.new.kernels) (order_of c.self.inside.order_by) c.args.state.now c.evaluate_cells.new.state ordered c.evaluate_cells.ensures.frame c.evaluate_order.ensures.cost in
    let are = keys_are c.args.self.now c.args.df.now c.deref.result.now c.args.state.now (map named_cell c.in_ok-keys.keys.items) seen c.in_ok-keys.ensures.value in
    let is = of_order c.args.self.now c.args.df.now (λ o f. IsOrderOf o f (order_cell c.in_ok-order.order)) (order_of c.self.inside.order_by) c.args.state.now c.evaluate_cells.new.state ordered c.evaluate_cells.ensures.frame c.in_ok-order.ensures.value in
    let most = subst (λ n. c.window_parts.new.kernels ≤ c.evaluate_order.new.kernels + part_count n (map named_cell c.in_ok-keys.keys.items) (order_cell c.in_ok-order.order)) c.height-height.ensures c.window_parts.ensures.most in
    let same = c.evaluate_order.ensures.frame ∙ c.evaluate_cells.ensures.frame in
    let function = ap plan_of c.deref-in-Err.ensures ∙ ap (λ (w : PlannedWindow). w.phys_function) c.self.view_is in
    let ran = of_function c.args.self.now c.args.df.now (λ p f. RunOnGroups p.tree (length c.in_ok-none-in-Err.none.groups) c.window_parts.new.kernels c.evaluate_on_groups.new.kernels) (plan_of c.deref-in-Err.result.now) c.args.state.now c.evaluate_order.new.state function same c.evaluate_on_groups.ensures.cost in
    window_cost c.args.self.now (beside c.args.df.now c.args.state.now) c.args.kernels.now c.evaluate_cells.new.kernels c.evaluate_cells.ensures.cost.rises keys (map named_cell c.in_ok-keys.keys.items) (order_cell c.in_ok-order.order) are is c.evaluate_order.new.kernels c.window_parts.new.kernels order c.window_parts.ensures.rises most c.window_parts.ensures.unordered (length c.in_ok-none-in-Err.none.groups) c.evaluate_on_groups.new.kernels ran

pub window::WindowExprPhysicalExpr::evaluate-returns-in_err-evaluate_on_groups-in-Err-clause-causes : goal.window::WindowExprPhysicalExpr::evaluate-returns-in_err-evaluate_on_groups-in-Err-clause-causes
window::WindowExprPhysicalExpr::evaluate-returns-in_err-evaluate_on_groups-in-Err-clause-causes t g c =
    let same = c.evaluate_order.ensures.frame ∙ c.evaluate_cells.ensures.frame in
    let function = ap plan_of c.deref-in-Err.ensures ∙ ap (λ (w : PlannedWindow). w.phys_function) c.self.view_is in
    let empty : c.in_ok-none-in-Err.none.groups ≡ [] = search rules in
    let cause = of_function c.args.self.now c.args.df.now (λ p f. IsGroupCause c.in_err-evaluate_on_groups-in-Err.field-0.0 p f c.in_ok-none-in-Err.none) (plan_of c.deref-in-Err.result.now) c.args.state.now c.evaluate_order.new.state function same c.in_err-evaluate_on_groups-in-Err.ensures.causes in
    passed_on c.from_residual-in_err-evaluate_on_groups-in-Err.result c.in_err-evaluate_on_groups-in-Err.field-0.0 (λ e. IsCause e (window_plan c.args.self.now) (beside c.args.df.now c.args.state.now)) c.from_residual-in_err-evaluate_on_groups-in-Err.ensures.1 (window_no_groups_cause c.in_err-evaluate_on_groups-in-Err.field-0.0 c.args.self.now (beside c.args.df.now c.args.state.now) c.in_ok-none-in-Err.none empty cause)

pub window::WindowExprPhysicalExpr::evaluate-returns-in-Err-clause-causes : goal.window::WindowExprPhysicalExpr::evaluate-returns-in-Err-clause-causes
window::WindowExprPhysicalExpr::evaluate-returns-in-Err-clause-causes t g c =
    let seen = ap (map plan_of) c.deref.ensures.value ∙ ap (λ (w : PlannedWindow). w.group_by) c.self.view_is in
    let ordered = ap (λ (w : PlannedWindow). w.order_by) c.self.view_is in
    let are = keys_are c.args.self.now c.args.df.now c.deref.result.now c.args.state.now (map named_cell c.in_ok-keys.keys.items) seen c.in_ok-keys.ensures.value in
    let is = of_order c.args.self.now c.args.df.now (λ o f. IsOrderOf o f (order_cell c.in_ok-order.order)) (order_of c.self.inside.order_by) c.args.state.now c.evaluate_cells.new.state ordered c.evaluate_cells.ensures.frame c.in_ok-order.ensures.value in
    let same = c.evaluate_order.ensures.frame ∙ c.evaluate_cells.ensures.frame in
    let function = ap plan_of c.deref-in-Err.ensures ∙ ap (λ (w : PlannedWindow). w.phys_function) c.self.view_is in
    let context = of_function c.args.self.now c.args.df.now (λ p f. IsContextOf p f c.in_ok-none-in-Err.none c.in_ok-evaluate_on_groups-in-Err.field-0) (plan_of c.deref-in-Err.result.now) c.args.state.now c.evaluate_order.new.state function same c.in_ok-evaluate_on_groups-in-Err.ensures.context in
    window_groups_cause c.args.self.now (beside c.args.df.now c.args.state.now) (map named_cell c.in_ok-keys.keys.items) (order_cell c.in_ok-order.order) are is c.in-Err.refusal context.sound (rw c.height-height.ensures at c.in-Err.ensures.answer)

pub window::WindowExprPhysicalExpr::evaluate-returns-in_err-context-clause-causes : goal.window::WindowExprPhysicalExpr::evaluate-returns-in_err-context-clause-causes
window::WindowExprPhysicalExpr::evaluate-returns-in_err-context-clause-causes t g c =
    let seen = ap (map plan_of) c.deref.ensures.value ∙ ap (λ (w : PlannedWindow). w.group_by) c.self.view_is in
    let ordered = ap (λ (w : PlannedWindow). w.order_by) c.self.view_is in
    let are = keys_are c.args.self.now c.args.df.now c.deref.result.now c.args.state.now (map named_cell c.in_ok-keys.keys.items) seen c.in_ok-keys.ensures.value in
    let is = of_order c.args.self.now c.args.df.now (λ o f. IsOrderOf o f (order_cell c.in_ok-order.order)) (order_of c.self.inside.order_by) c.args.state.now c.evaluate_cells.new.state ordered c.evaluate_cells.ensures.frame c.in_ok-order.ensures.value in
    let there = subst (λ n. window_groups n (map named_cell c.in_ok-keys.keys.items) (order_cell c.in_ok-order.order) ≡ Ok c.in-Ok.parts) c.height-height.ensures c.in-Ok.ensures.answer in
    let same = c.evaluate_order.ensures.frame ∙ c.evaluate_cells.ensures.frame in
    let function = ap plan_of c.deref-2.ensures ∙ ap (λ (w : PlannedWindow). w.phys_function) c.self.view_is in
    let cause = of_function c.args.self.now c.args.df.now (λ p f. IsGroupCause c.in_err-context.field-0.0 p f c.in-Ok.parts) (plan_of c.deref-2.result.now) c.args.state.now c.evaluate_order.new.state function same c.in_err-context.ensures.causes in
    passed_on c.from_residual-in_err-context.result c.in_err-context.field-0.0 (λ e. IsCause e (window_plan c.args.self.now) (beside c.args.df.now c.args.state.now)) c.from_residual-in_err-context.ensures.1 (window_function_cause c.args.self.now (beside c.args.df.now c.args.state.now) (map named_cell c.in_ok-keys.keys.items) (order_cell c.in_ok-order.order) c.in-Ok.parts are is there c.in_err-context.field-0.0 cause)

pub window::WindowExprPhysicalExpr::evaluate-returns-in_err-column-clause-causes : goal.window::WindowExprPhysicalExpr::evaluate-returns-in_err-column-clause-causes
window::WindowExprPhysicalExpr::evaluate-returns-in_err-column-clause-causes t g c =
    let seen = ap (map plan_of) c.deref.ensures.value ∙ ap (λ (w : PlannedWindow). w.group_by) c.self.view_is in
    let ordered = ap (λ (w : PlannedWindow). w.order_by) c.self.view_is in
    let are = keys_are c.args.self.now c.args.df.now c.deref.result.now c.args.state.now (map named_cell c.in_ok-keys.keys.items) seen c.in_ok-keys.ensures.value in
    let is = of_order c.args.self.now c.args.df.now (λ o f. IsOrderOf o f (order_cell c.in_ok-order.order)) (order_of c.self.inside.order_by) c.args.state.now c.evaluate_cells.new.state ordered c.evaluate_cells.ensures.frame c.in_ok-order.ensures.value in
    let there = subst (λ n. window_groups n (map named_cell c.in_ok-keys.keys.items) (order_cell c.in_ok-order.order) ≡ Ok c.in-Ok.parts) c.height-height.ensures c.in-Ok.ensures.answer in
    let same = c.evaluate_order.ensures.frame ∙ c.evaluate_cells.ensures.frame in
    let function = ap plan_of c.deref-2.ensures ∙ ap (λ (w : PlannedWindow). w.phys_function) c.self.view_is in
    let of = of_function c.args.self.now c.args.df.now (λ p f. IsContextOf p f c.in-Ok.parts c.in_ok-context.context) (plan_of c.deref-2.result.now) c.args.state.now c.evaluate_order.new.state function same c.in_ok-context.ensures.context in
    let mapped = ap (λ (w : PlannedWindow). w.mapping) c.self.view_is in
    let refused = subst (λ m. Refuses c.in_err-column.field-0.0 (placed_by m c.in_ok-context.context c.in-Ok.parts)) mapped c.in_err-column.ensures.answer in
    passed_on c.from_residual-in_err-column.result c.in_err-column.field-0.0 (λ e. IsCause e (window_plan c.args.self.now) (beside c.args.df.now c.args.state.now)) c.from_residual-in_err-column.ensures.1 (window_place_cause c.args.self.now (beside c.args.df.now c.args.state.now) (map named_cell c.in_ok-keys.keys.items) (order_cell c.in_ok-order.order) c.in-Ok.parts are is there c.in_ok-context.context of c.in_err-column.field-0.0 refused c.in_err-column.ensures.long)

pub window::WindowExprPhysicalExpr::evaluate-returns-clause-value : goal.window::WindowExprPhysicalExpr::evaluate-returns-clause-value
window::WindowExprPhysicalExpr::evaluate-returns-clause-value t g c =
    let seen = ap (map plan_of) c.deref.ensures.value ∙ ap (λ (w : PlannedWindow). w.group_by) c.self.view_is in
    let ordered = ap (λ (w : PlannedWindow). w.order_by) c.self.view_is in
    let are = keys_are c.args.self.now c.args.df.now c.deref.result.now c.args.state.now (map named_cell c.in_ok-keys.keys.items) seen c.in_ok-keys.ensures.value in
    let is = of_order c.args.self.now c.args.df.now (λ o f. IsOrderOf o f (order_cell c.in_ok-order.order)) (order_of c.self.inside.order_by) c.args.state.now c.evaluate_cells.new.state ordered c.evaluate_cells.ensures.frame c.in_ok-order.ensures.value in
    let there = subst (λ n. window_groups n (map named_cell c.in_ok-keys.keys.items) (order_cell c.in_ok-order.order) ≡ Ok c.in-Ok.parts) c.height-height.ensures c.in-Ok.ensures.answer in
    let same = c.evaluate_order.ensures.frame ∙ c.evaluate_cells.ensures.frame in
    let function = ap plan_of c.deref-2.ensures ∙ ap (λ (w : PlannedWindow). w.phys_function) c.self.view_is in
    let of = of_function c.args.self.now c.args.df.now (λ p f. IsContextOf p f c.in-Ok.parts c.in_ok-context.context) (plan_of c.deref-2.result.now) c.args.state.now c.evaluate_order.new.state function same c.in_ok-context.ensures.context in
    let mapped = ap (λ (w : PlannedWindow). w.mapping) c.self.view_is in
    let placed = subst (λ m. placed_by m c.in_ok-context.context c.in-Ok.parts ≡ Ok c.in_ok-column.column) mapped c.in_ok-column.ensures.answer in
    let kind = c.in_ok-column.ensures.kind ∙ ap (λ m. placed_kind m c.in_ok-context.context) mapped in
    let value = window_value c.args.self.now (beside c.args.df.now c.args.state.now) (map named_cell c.in_ok-keys.keys.items) (order_cell c.in_ok-order.order) c.in-Ok.parts are is there c.in_ok-context.context of c.in_ok-column.column placed c.in_ok-column.ensures.name kind in
    let named = ap (λ (w : PlannedWindow). named_out w.out_name c.in_ok-column.column) c.self.view_is in
    named_column (IsValue (window_plan c.args.self.now) (beside c.args.df.now c.args.state.now)) (named_out c.args.self.now.out_name c.in_ok-column.column) c.under_name.result value (subst (λ s. Answers c.under_name.result (Ok s)) named c.under_name.ensures)

pub window::WindowExprPhysicalExpr::evaluate-returns-in_err-context-clause-cost : goal.window::WindowExprPhysicalExpr::evaluate-returns-in_err-context-clause-cost
window::WindowExprPhysicalExpr::evaluate-returns-in_err-context-clause-cost t g c =
    let seen = ap (map plan_of) c.deref.ensures.value ∙ ap (λ (w : PlannedWindow). w.group_by) c.self.view_is in
    let keys = keys_cost c.args.self.now c.args.df.now c.deref.result.now c.args.state.now c.args.kernels.now c.evaluate_cells.new.kernels seen c.evaluate_cells.ensures.most in
    let ordered = ap (λ (w : PlannedWindow). w.order_by) c.self.view_is in
    let order = of_order c.args.self.now c.args.df.now (λ o f. RunOrderAtMost o f c.evaluate_cells.new.kernels c.evaluate_order.new.kernels) (order_of c.self.inside.order_by) c.args.state.now c.evaluate_cells.new.state ordered c.evaluate_cells.ensures.frame c.evaluate_order.ensures.cost in
    let are = keys_are c.args.self.now c.args.df.now c.deref.result.now c.args.state.now (map named_cell c.in_ok-keys.keys.items) seen c.in_ok-keys.ensures.value in
    let is = of_order c.args.self.now c.args.df.now (λ o f. IsOrderOf o f (order_cell c.in_ok-order.order)) (order_of c.self.inside.order_by) c.args.state.now c.evaluate_cells.new.state ordered c.evaluate_cells.ensures.frame c.in_ok-order.ensures.value in
    let most = subst (λ n. c.window_parts.new.kernels ≤ c.evaluate_order.new.kernels + part_count n (map named_cell c.in_ok-keys.keys.items) (order_cell c.in_ok-order.order)) c.height-height.ensures c.window_parts.ensures.most in
    let same = c.evaluate_order.ensures.frame ∙ c.evaluate_cells.ensures.frame in
    let function = ap plan_of c.deref-2.ensures ∙ ap (λ (w : PlannedWindow). w.phys_function) c.self.view_is in
    let ran = of_function c.args.self.now c.args.df.now (λ p f. RunOnGroups p.tree (length c.in-Ok.parts.groups) c.window_parts.new.kernels c.evaluate_on_groups-2.new.kernels) (plan_of c.deref-2.result.now) c.args.state.now c.evaluate_order.new.state function same c.evaluate_on_groups-2.ensures.cost in
    window_cost c.args.self.now (beside c.args.df.now c.args.state.now) c.args.kernels.now c.evaluate_cells.new.kernels c.evaluate_cells.ensures.cost.rises keys (map named_cell c.in_ok-keys.keys.items) (order_cell c.in_ok-order.order) are is c.evaluate_order.new.kernels c.window_parts.new.kernels order c.window_parts.ensures.rises most c.window_parts.ensures.unordered (length c.in-Ok.parts.groups) c.evaluate_on_groups-2.new.kernels ran

pub window::WindowExprPhysicalExpr::evaluate-returns-in_err-column-clause-cost : goal.window::WindowExprPhysicalExpr::evaluate-returns-in_err-column-clause-cost
window::WindowExprPhysicalExpr::evaluate-returns-in_err-column-clause-cost t g c =
    let seen = ap (map plan_of) c.deref.ensures.value ∙ ap (λ (w : PlannedWindow). w.group_by) c.self.view_is in
    let keys = keys_cost c.args.self.now c.args.df.now c.deref.result.now c.args.state.now c.args.kernels.now c.evaluate_cells.new.kernels seen c.evaluate_cells.ensures.most in
    let ordered = ap (λ (w : PlannedWindow). w.order_by) c.self.view_is in
    let order = of_order c.args.self.now c.args.df.now (λ o f. RunOrderAtMost o f c.evaluate_cells.new.kernels c.evaluate_order.new.kernels) (order_of c.self.inside.order_by) c.args.state.now c.evaluate_cells.new.state ordered c.evaluate_cells.ensures.frame c.evaluate_order.ensures.cost in
    let are = keys_are c.args.self.now c.args.df.now c.deref.result.now c.args.state.now (map named_cell c.in_ok-keys.keys.items) seen c.in_ok-keys.ensures.value in
    let is = of_order c.args.self.now c.args.df.now (λ o f. IsOrderOf o f (order_cell c.in_ok-order.order)) (order_of c.self.inside.order_by) c.args.state.now c.evaluate_cells.new.state ordered c.evaluate_cells.ensures.frame c.in_ok-order.ensures.value in
    let most = subst (λ n. c.window_parts.new.kernels ≤ c.evaluate_order.new.kernels + part_count n (map named_cell c.in_ok-keys.keys.items) (order_cell c.in_ok-order.order)) c.height-height.ensures c.window_parts.ensures.most in
    let same = c.evaluate_order.ensures.frame ∙ c.evaluate_cells.ensures.frame in
    let function = ap plan_of c.deref-2.ensures ∙ ap (λ (w : PlannedWindow). w.phys_function) c.self.view_is in
    let ran = of_function c.args.self.now c.args.df.now (λ p f. RunOnGroups p.tree (length c.in-Ok.parts.groups) c.window_parts.new.kernels c.evaluate_on_groups-2.new.kernels) (plan_of c.deref-2.result.now) c.args.state.now c.evaluate_order.new.state function same c.evaluate_on_groups-2.ensures.cost in
    window_cost c.args.self.now (beside c.args.df.now c.args.state.now) c.args.kernels.now c.evaluate_cells.new.kernels c.evaluate_cells.ensures.cost.rises keys (map named_cell c.in_ok-keys.keys.items) (order_cell c.in_ok-order.order) are is c.evaluate_order.new.kernels c.window_parts.new.kernels order c.window_parts.ensures.rises most c.window_parts.ensures.unordered (length c.in-Ok.parts.groups) c.evaluate_on_groups-2.new.kernels ran

pub window::WindowExprPhysicalExpr::evaluate-returns-clause-cost : goal.window::WindowExprPhysicalExpr::evaluate-returns-clause-cost
window::WindowExprPhysicalExpr::evaluate-returns-clause-cost t g c =
    let seen = ap (map plan_of) c.deref.ensures.value ∙ ap (λ (w : PlannedWindow). w.group_by) c.self.view_is in
    let keys = keys_cost c.args.self.now c.args.df.now c.deref.result.now c.args.state.now c.args.kernels.now c.evaluate_cells.new.kernels seen c.evaluate_cells.ensures.most in
    let ordered = ap (λ (w : PlannedWindow). w.order_by) c.self.view_is in
    let order = of_order c.args.self.now c.args.df.now (λ o f. RunOrderAtMost o f c.evaluate_cells.new.kernels c.evaluate_order.new.kernels) (order_of c.self.inside.order_by) c.args.state.now c.evaluate_cells.new.state ordered c.evaluate_cells.ensures.frame c.evaluate_order.ensures.cost in
    let are = keys_are c.args.self.now c.args.df.now c.deref.result.now c.args.state.now (map named_cell c.in_ok-keys.keys.items) seen c.in_ok-keys.ensures.value in
    let is = of_order c.args.self.now c.args.df.now (λ o f. IsOrderOf o f (order_cell c.in_ok-order.order)) (order_of c.self.inside.order_by) c.args.state.now c.evaluate_cells.new.state ordered c.evaluate_cells.ensures.frame c.in_ok-order.ensures.value in
    let most = subst (λ n. c.window_parts.new.kernels ≤ c.evaluate_order.new.kernels + part_count n (map named_cell c.in_ok-keys.keys.items) (order_cell c.in_ok-order.order)) c.height-height.ensures c.window_parts.ensures.most in
    let same = c.evaluate_order.ensures.frame ∙ c.evaluate_cells.ensures.frame in
    let function = ap plan_of c.deref-2.ensures ∙ ap (λ (w : PlannedWindow). w.phys_function) c.self.view_is in
    let ran = of_function c.args.self.now c.args.df.now (λ p f. RunOnGroups p.tree (length c.in-Ok.parts.groups) c.window_parts.new.kernels c.evaluate_on_groups-2.new.kernels) (plan_of c.deref-2.result.now) c.args.state.now c.evaluate_order.new.state function same c.evaluate_on_groups-2.ensures.cost in
    window_cost c.args.self.now (beside c.args.df.now c.args.state.now) c.args.kernels.now c.evaluate_cells.new.kernels c.evaluate_cells.ensures.cost.rises keys (map named_cell c.in_ok-keys.keys.items) (order_cell c.in_ok-order.order) are is c.evaluate_order.new.kernels c.window_parts.new.kernels order c.window_parts.ensures.rises most c.window_parts.ensures.unordered (length c.in-Ok.parts.groups) c.evaluate_on_groups-2.new.kernels ran

pub binary::BinaryExprPhysicalExpr::evaluate-returns-in_err-left-clause-causes : goal.binary::BinaryExprPhysicalExpr::evaluate-returns-in_err-left-clause-causes
binary::BinaryExprPhysicalExpr::evaluate-returns-in_err-left-clause-causes t g c =
    let is_left = ap plan_of c.deref.ensures ∙ ap (λ (n : PlannedBinary). n.left) c.self.view_is in
    let w = cause_at c.in_err-left.field-0.0 c.args.df.now c.args.state.now is_left c.in_err-left.ensures.causes in
    passed_on c.from_residual.result c.in_err-left.field-0.0 (λ e. IsCause e (binary_plan c.args.self.now) (beside c.args.df.now c.args.state.now)) c.from_residual.ensures.1 (left_cause c.in_err-left.field-0.0 c.args.self.now (beside c.args.df.now c.args.state.now) w)

pub binary::BinaryExprPhysicalExpr::evaluate-returns-in_err-right-clause-causes : goal.binary::BinaryExprPhysicalExpr::evaluate-returns-in_err-right-clause-causes
binary::BinaryExprPhysicalExpr::evaluate-returns-in_err-right-clause-causes t g c =
    let is_right = ap plan_of c.deref-2.ensures ∙ ap (λ (n : PlannedBinary). n.right) c.self.view_is in
    let w = cause_below c.in_err-right.field-0.0 c.args.df.now is_right c.evaluate_cell.ensures.frame c.in_err-right.ensures.causes in
    passed_on c.from_residual-in_err-right.result c.in_err-right.field-0.0 (λ e. IsCause e (binary_plan c.args.self.now) (beside c.args.df.now c.args.state.now)) c.from_residual-in_err-right.ensures.1 (right_cause c.in_err-right.field-0.0 c.args.self.now (beside c.args.df.now c.args.state.now) w)

pub binary::BinaryExprPhysicalExpr::evaluate-returns-in_err-binary_cells-clause-causes : goal.binary::BinaryExprPhysicalExpr::evaluate-returns-in_err-binary_cells-clause-causes
binary::BinaryExprPhysicalExpr::evaluate-returns-in_err-binary_cells-clause-causes t g c =
    let is_left = ap plan_of c.deref.ensures ∙ ap (λ (n : PlannedBinary). n.left) c.self.view_is in
    let x = cell_at c.args.df.now c.args.state.now is_left c.in_ok-left.ensures.value in
    let is_right = ap plan_of c.deref-2.ensures ∙ ap (λ (n : PlannedBinary). n.right) c.self.view_is in
    let y = cell_below c.args.df.now is_right c.evaluate_cell.ensures.frame c.in_ok-right.ensures.value in
    passed_on c.from_residual-in_err-binary_cells.result c.in_err-binary_cells.field-0.0 (λ e. IsCause e (binary_plan c.args.self.now) (beside c.args.df.now c.args.state.now)) c.from_residual-in_err-binary_cells.ensures.1 (binary_cause c.in_err-binary_cells.field-0.0 c.args.self.now (beside c.args.df.now c.args.state.now) (named_cell c.in_ok-left.left) (named_cell c.in_ok-right.right) x y (subst (λ (n : PlannedBinary). Refuses c.in_err-binary_cells.field-0.0 (binary_named n.op (named_cell c.in_ok-left.left) (named_cell c.in_ok-right.right))) c.self.view_is c.in_err-binary_cells.ensures.answer))

pub ternary::TernaryExprPhysicalExpr::evaluate-returns-in_err-predicate-clause-causes : goal.ternary::TernaryExprPhysicalExpr::evaluate-returns-in_err-predicate-clause-causes
ternary::TernaryExprPhysicalExpr::evaluate-returns-in_err-predicate-clause-causes t g c =
    let is_predicate = ap plan_of c.deref.ensures ∙ ap (λ (n : PlannedTernary). n.predicate) c.self.view_is in
    let w = cause_at c.in_err-predicate.field-0.0 c.args.df.now c.args.state.now is_predicate c.in_err-predicate.ensures.causes in
    passed_on c.from_residual.result c.in_err-predicate.field-0.0 (λ e. IsCause e (ternary_plan c.args.self.now) (beside c.args.df.now c.args.state.now)) c.from_residual.ensures.1 (predicate_cause c.in_err-predicate.field-0.0 c.args.self.now (beside c.args.df.now c.args.state.now) w)

pub ternary::TernaryExprPhysicalExpr::evaluate-returns-in_err-truthy-clause-causes : goal.ternary::TernaryExprPhysicalExpr::evaluate-returns-in_err-truthy-clause-causes
ternary::TernaryExprPhysicalExpr::evaluate-returns-in_err-truthy-clause-causes t g c =
    let is_truthy = ap plan_of c.deref-2.ensures ∙ ap (λ (n : PlannedTernary). n.truthy) c.self.view_is in
    let w = cause_below c.in_err-truthy.field-0.0 c.args.df.now is_truthy c.evaluate_cell.ensures.frame c.in_err-truthy.ensures.causes in
    passed_on c.from_residual-in_err-truthy.result c.in_err-truthy.field-0.0 (λ e. IsCause e (ternary_plan c.args.self.now) (beside c.args.df.now c.args.state.now)) c.from_residual-in_err-truthy.ensures.1 (truthy_cause c.in_err-truthy.field-0.0 c.args.self.now (beside c.args.df.now c.args.state.now) w)

pub ternary::TernaryExprPhysicalExpr::evaluate-returns-in_err-falsy-clause-causes : goal.ternary::TernaryExprPhysicalExpr::evaluate-returns-in_err-falsy-clause-causes
ternary::TernaryExprPhysicalExpr::evaluate-returns-in_err-falsy-clause-causes t g c =
    let is_falsy = ap plan_of c.deref-3.ensures ∙ ap (λ (n : PlannedTernary). n.falsy) c.self.view_is in
    let w = cause_below c.in_err-falsy.field-0.0 c.args.df.now is_falsy (c.evaluate_cell-2.ensures.frame ∙ c.evaluate_cell.ensures.frame) c.in_err-falsy.ensures.causes in
    passed_on c.from_residual-in_err-falsy.result c.in_err-falsy.field-0.0 (λ e. IsCause e (ternary_plan c.args.self.now) (beside c.args.df.now c.args.state.now)) c.from_residual-in_err-falsy.ensures.1 (falsy_cause c.in_err-falsy.field-0.0 c.args.self.now (beside c.args.df.now c.args.state.now) w)

pub ternary::TernaryExprPhysicalExpr::evaluate-returns-in_err-ternary_cells-clause-causes : goal.ternary::TernaryExprPhysicalExpr::evaluate-returns-in_err-ternary_cells-clause-causes
ternary::TernaryExprPhysicalExpr::evaluate-returns-in_err-ternary_cells-clause-causes t g c =
    let is_predicate = ap plan_of c.deref.ensures ∙ ap (λ (n : PlannedTernary). n.predicate) c.self.view_is in
    let x = cell_at c.args.df.now c.args.state.now is_predicate c.in_ok-predicate.ensures.value in
    let is_truthy = ap plan_of c.deref-2.ensures ∙ ap (λ (n : PlannedTernary). n.truthy) c.self.view_is in
    let y = cell_below c.args.df.now is_truthy c.evaluate_cell.ensures.frame c.in_ok-truthy.ensures.value in
    let is_falsy = ap plan_of c.deref-3.ensures ∙ ap (λ (n : PlannedTernary). n.falsy) c.self.view_is in
    let z = cell_below c.args.df.now is_falsy (c.evaluate_cell-2.ensures.frame ∙ c.evaluate_cell.ensures.frame) c.in_ok-falsy.ensures.value in
    passed_on c.from_residual-in_err-ternary_cells.result c.in_err-ternary_cells.field-0.0 (λ e. IsCause e (ternary_plan c.args.self.now) (beside c.args.df.now c.args.state.now)) c.from_residual-in_err-ternary_cells.ensures.1 (ternary_cause c.in_err-ternary_cells.field-0.0 c.args.self.now (beside c.args.df.now c.args.state.now) (named_cell c.in_ok-predicate.predicate) (named_cell c.in_ok-truthy.truthy) (named_cell c.in_ok-falsy.falsy) x y z c.in_err-ternary_cells.ensures.answer)

pub cast::CastExprPhysicalExpr::evaluate-returns-in_err-input-clause-causes : goal.cast::CastExprPhysicalExpr::evaluate-returns-in_err-input-clause-causes
cast::CastExprPhysicalExpr::evaluate-returns-in_err-input-clause-causes t g c =
    let is_input = ap plan_of c.deref.ensures ∙ ap (λ (n : PlannedCast). n.input) c.self.view_is in
    let w = cause_at c.in_err-input.field-0.0 c.args.df.now c.args.state.now is_input c.in_err-input.ensures.causes in
    passed_on c.from_residual.result c.in_err-input.field-0.0 (λ e. IsCause e (cast_plan c.args.self.now) (beside c.args.df.now c.args.state.now)) c.from_residual.ensures.1 (cast_input_cause c.in_err-input.field-0.0 c.args.self.now (beside c.args.df.now c.args.state.now) w)

pub cast::CastExprPhysicalExpr::evaluate-returns-in_err-cast_cells-clause-causes : goal.cast::CastExprPhysicalExpr::evaluate-returns-in_err-cast_cells-clause-causes
cast::CastExprPhysicalExpr::evaluate-returns-in_err-cast_cells-clause-causes t g c =
    let is_input = ap plan_of c.deref.ensures ∙ ap (λ (n : PlannedCast). n.input) c.self.view_is in
    let x = cell_at c.args.df.now c.args.state.now is_input c.in_ok-input.ensures.value in
    passed_on c.from_residual-in_err-cast_cells.result c.in_err-cast_cells.field-0.0 (λ e. IsCause e (cast_plan c.args.self.now) (beside c.args.df.now c.args.state.now)) c.from_residual-in_err-cast_cells.ensures.1 (cast_cause c.in_err-cast_cells.field-0.0 c.args.self.now (beside c.args.df.now c.args.state.now) (named_cell c.in_ok-input.input) x (subst (λ (n : PlannedCast). Refuses c.in_err-cast_cells.field-0.0 (cast_named n.dtype n.options (named_cell c.in_ok-input.input))) c.self.view_is c.in_err-cast_cells.ensures.answer))

pub filter::FilterExprPhysicalExpr::evaluate-returns-in_err-input-clause-causes : goal.filter::FilterExprPhysicalExpr::evaluate-returns-in_err-input-clause-causes
filter::FilterExprPhysicalExpr::evaluate-returns-in_err-input-clause-causes t g c =
    let is_input = ap plan_of c.deref.ensures ∙ ap (λ (n : PlannedFilter). n.input) c.self.view_is in
    let w = cause_at c.in_err-input.field-0.0 c.args.df.now c.args.state.now is_input c.in_err-input.ensures.causes in
    passed_on c.from_residual.result c.in_err-input.field-0.0 (λ e. IsCause e (filter_plan c.args.self.now) (beside c.args.df.now c.args.state.now)) c.from_residual.ensures.1 (filter_input_cause c.in_err-input.field-0.0 c.args.self.now (beside c.args.df.now c.args.state.now) w)

pub filter::FilterExprPhysicalExpr::evaluate-returns-in_err-by-clause-causes : goal.filter::FilterExprPhysicalExpr::evaluate-returns-in_err-by-clause-causes
filter::FilterExprPhysicalExpr::evaluate-returns-in_err-by-clause-causes t g c =
    let is_by = ap plan_of c.deref-2.ensures ∙ ap (λ (n : PlannedFilter). n.by) c.self.view_is in
    let w = cause_below c.in_err-by.field-0.0 c.args.df.now is_by c.evaluate_cell.ensures.frame c.in_err-by.ensures.causes in
    passed_on c.from_residual-in_err-by.result c.in_err-by.field-0.0 (λ e. IsCause e (filter_plan c.args.self.now) (beside c.args.df.now c.args.state.now)) c.from_residual-in_err-by.ensures.1 (mask_cause c.in_err-by.field-0.0 c.args.self.now (beside c.args.df.now c.args.state.now) w)

pub filter::FilterExprPhysicalExpr::evaluate-returns-in_err-filter_cells-clause-causes : goal.filter::FilterExprPhysicalExpr::evaluate-returns-in_err-filter_cells-clause-causes
filter::FilterExprPhysicalExpr::evaluate-returns-in_err-filter_cells-clause-causes t g c =
    let is_input = ap plan_of c.deref.ensures ∙ ap (λ (n : PlannedFilter). n.input) c.self.view_is in
    let x = cell_at c.args.df.now c.args.state.now is_input c.in_ok-input.ensures.value in
    let is_by = ap plan_of c.deref-2.ensures ∙ ap (λ (n : PlannedFilter). n.by) c.self.view_is in
    let y = cell_below c.args.df.now is_by c.evaluate_cell.ensures.frame c.in_ok-by.ensures.value in
    passed_on c.from_residual-in_err-filter_cells.result c.in_err-filter_cells.field-0.0 (λ e. IsCause e (filter_plan c.args.self.now) (beside c.args.df.now c.args.state.now)) c.from_residual-in_err-filter_cells.ensures.1 (filter_cause c.in_err-filter_cells.field-0.0 c.args.self.now (beside c.args.df.now c.args.state.now) (named_cell c.in_ok-input.input) (named_cell c.in_ok-by.by) x y c.in_err-filter_cells.ensures.answer)

pub slice::SliceExprPhysicalExpr::evaluate-returns-in_err-input-clause-causes : goal.slice::SliceExprPhysicalExpr::evaluate-returns-in_err-input-clause-causes
slice::SliceExprPhysicalExpr::evaluate-returns-in_err-input-clause-causes t g c =
    let is_input = ap plan_of c.deref.ensures ∙ ap (λ (n : PlannedSlice). n.input) c.self.view_is in
    let w = cause_at c.in_err-input.field-0.0 c.args.df.now c.args.state.now is_input c.in_err-input.ensures.causes in
    passed_on c.from_residual.result c.in_err-input.field-0.0 (λ e. IsCause e (slice_plan c.args.self.now) (beside c.args.df.now c.args.state.now)) c.from_residual.ensures.1 (slice_input_cause c.in_err-input.field-0.0 c.args.self.now (beside c.args.df.now c.args.state.now) w)

pub slice::SliceExprPhysicalExpr::evaluate-returns-in_err-offset-clause-causes : goal.slice::SliceExprPhysicalExpr::evaluate-returns-in_err-offset-clause-causes
slice::SliceExprPhysicalExpr::evaluate-returns-in_err-offset-clause-causes t g c =
    let is_offset = ap plan_of c.deref-2.ensures ∙ ap (λ (n : PlannedSlice). n.offset) c.self.view_is in
    let w = cause_below c.in_err-offset.field-0.0 c.args.df.now is_offset c.evaluate_cell.ensures.frame c.in_err-offset.ensures.causes in
    passed_on c.from_residual-in_err-offset.result c.in_err-offset.field-0.0 (λ e. IsCause e (slice_plan c.args.self.now) (beside c.args.df.now c.args.state.now)) c.from_residual-in_err-offset.ensures.1 (offset_cause c.in_err-offset.field-0.0 c.args.self.now (beside c.args.df.now c.args.state.now) w)

pub slice::SliceExprPhysicalExpr::evaluate-returns-in_err-length-clause-causes : goal.slice::SliceExprPhysicalExpr::evaluate-returns-in_err-length-clause-causes
slice::SliceExprPhysicalExpr::evaluate-returns-in_err-length-clause-causes t g c =
    let is_length = ap plan_of c.deref-3.ensures ∙ ap (λ (n : PlannedSlice). n.length) c.self.view_is in
    let w = cause_below c.in_err-length.field-0.0 c.args.df.now is_length (c.evaluate_cell-2.ensures.frame ∙ c.evaluate_cell.ensures.frame) c.in_err-length.ensures.causes in
    passed_on c.from_residual-in_err-length.result c.in_err-length.field-0.0 (λ e. IsCause e (slice_plan c.args.self.now) (beside c.args.df.now c.args.state.now)) c.from_residual-in_err-length.ensures.1 (length_cause c.in_err-length.field-0.0 c.args.self.now (beside c.args.df.now c.args.state.now) w)

pub slice::SliceExprPhysicalExpr::evaluate-returns-in_err-slice_cells-clause-causes : goal.slice::SliceExprPhysicalExpr::evaluate-returns-in_err-slice_cells-clause-causes
slice::SliceExprPhysicalExpr::evaluate-returns-in_err-slice_cells-clause-causes t g c =
    let is_input = ap plan_of c.deref.ensures ∙ ap (λ (n : PlannedSlice). n.input) c.self.view_is in
    let x = cell_at c.args.df.now c.args.state.now is_input c.in_ok-input.ensures.value in
    let is_offset = ap plan_of c.deref-2.ensures ∙ ap (λ (n : PlannedSlice). n.offset) c.self.view_is in
    let y = cell_below c.args.df.now is_offset c.evaluate_cell.ensures.frame c.in_ok-offset.ensures.value in
    let is_length = ap plan_of c.deref-3.ensures ∙ ap (λ (n : PlannedSlice). n.length) c.self.view_is in
    let z = cell_below c.args.df.now is_length (c.evaluate_cell-2.ensures.frame ∙ c.evaluate_cell.ensures.frame) c.in_ok-length.ensures.value in
    passed_on c.from_residual-in_err-slice_cells.result c.in_err-slice_cells.field-0.0 (λ e. IsCause e (slice_plan c.args.self.now) (beside c.args.df.now c.args.state.now)) c.from_residual-in_err-slice_cells.ensures.1 (slice_cause c.in_err-slice_cells.field-0.0 c.args.self.now (beside c.args.df.now c.args.state.now) (named_cell c.in_ok-input.input) (named_cell c.in_ok-offset.offset) (named_cell c.in_ok-length.length) x y z c.in_err-slice_cells.ensures.answer)

pub gather::GatherExprPhysicalExpr::evaluate-returns-in_err-input-clause-causes : goal.gather::GatherExprPhysicalExpr::evaluate-returns-in_err-input-clause-causes
gather::GatherExprPhysicalExpr::evaluate-returns-in_err-input-clause-causes t g c =
    let is_phys_expr = ap plan_of c.deref.ensures ∙ ap (λ (n : PlannedGather). n.phys_expr) c.self.view_is in
    let w = cause_at c.in_err-input.field-0.0 c.args.df.now c.args.state.now is_phys_expr c.in_err-input.ensures.causes in
    passed_on c.from_residual.result c.in_err-input.field-0.0 (λ e. IsCause e (gather_plan c.args.self.now) (beside c.args.df.now c.args.state.now)) c.from_residual.ensures.1 (gathered_cause c.in_err-input.field-0.0 c.args.self.now (beside c.args.df.now c.args.state.now) w)

pub gather::GatherExprPhysicalExpr::evaluate-returns-in_err-idx-clause-causes : goal.gather::GatherExprPhysicalExpr::evaluate-returns-in_err-idx-clause-causes
gather::GatherExprPhysicalExpr::evaluate-returns-in_err-idx-clause-causes t g c =
    let is_idx = ap plan_of c.deref-2.ensures ∙ ap (λ (n : PlannedGather). n.idx) c.self.view_is in
    let w = cause_below c.in_err-idx.field-0.0 c.args.df.now is_idx c.evaluate_cell.ensures.frame c.in_err-idx.ensures.causes in
    passed_on c.from_residual-in_err-idx.result c.in_err-idx.field-0.0 (λ e. IsCause e (gather_plan c.args.self.now) (beside c.args.df.now c.args.state.now)) c.from_residual-in_err-idx.ensures.1 (index_cause c.in_err-idx.field-0.0 c.args.self.now (beside c.args.df.now c.args.state.now) w)

pub gather::GatherExprPhysicalExpr::evaluate-returns-in_err-rows-clause-causes : goal.gather::GatherExprPhysicalExpr::evaluate-returns-in_err-rows-clause-causes
gather::GatherExprPhysicalExpr::evaluate-returns-in_err-rows-clause-causes t g c =
    let is_phys_expr = ap plan_of c.deref.ensures ∙ ap (λ (n : PlannedGather). n.phys_expr) c.self.view_is in
    let x = cell_at c.args.df.now c.args.state.now is_phys_expr c.in_ok-input.ensures.value in
    let is_idx = ap plan_of c.deref-2.ensures ∙ ap (λ (n : PlannedGather). n.idx) c.self.view_is in
    let y = cell_below c.args.df.now is_idx c.evaluate_cell.ensures.frame c.in_ok-idx.ensures.value in
    let literal = ap plan_of c.deref-3.ensures ∙ ap (λ (n : PlannedGather). n.idx) c.self.view_is in
    let same = c.has_literals_alone-is_literal.ensures ∙ ap (λ (p : Planned). is_literal_tree p.tree) literal in
    let refused = subst (λ (n : PlannedGather). Refuses c.in_err-rows.field-0.0 (gather_named n.returns_scalar c.has_literals_alone-is_literal.result (named_cell c.in_ok-input.input) (named_cell c.in_ok-idx.idx))) c.self.view_is c.in_err-rows.ensures.answer in
    passed_on c.from_residual-in_err-rows.result c.in_err-rows.field-0.0 (λ e. IsCause e (gather_plan c.args.self.now) (beside c.args.df.now c.args.state.now)) c.from_residual-in_err-rows.ensures.1 (gather_cause c.in_err-rows.field-0.0 c.args.self.now (beside c.args.df.now c.args.state.now) (named_cell c.in_ok-input.input) (named_cell c.in_ok-idx.idx) x y (subst (λ b. Refuses c.in_err-rows.field-0.0 (gather_named c.args.self.now.returns_scalar b (named_cell c.in_ok-input.input) (named_cell c.in_ok-idx.idx))) same refused))

pub sort::SortExprPhysicalExpr::evaluate-returns-in_err-input-clause-causes : goal.sort::SortExprPhysicalExpr::evaluate-returns-in_err-input-clause-causes
sort::SortExprPhysicalExpr::evaluate-returns-in_err-input-clause-causes t g c =
    let is_physical_expr = ap plan_of c.deref.ensures ∙ ap (λ (n : PlannedSort). n.physical_expr) c.self.view_is in
    let w = cause_at c.in_err-input.field-0.0 c.args.df.now c.args.state.now is_physical_expr c.in_err-input.ensures.causes in
    passed_on c.from_residual.result c.in_err-input.field-0.0 (λ e. IsCause e (sort_plan c.args.self.now) (beside c.args.df.now c.args.state.now)) c.from_residual.ensures.1 (sorted_cause c.in_err-input.field-0.0 c.args.self.now (beside c.args.df.now c.args.state.now) w)

pub aggregation::AggregationExprPhysicalExpr::evaluate-returns-in_err-input-clause-causes : goal.aggregation::AggregationExprPhysicalExpr::evaluate-returns-in_err-input-clause-causes
aggregation::AggregationExprPhysicalExpr::evaluate-returns-in_err-input-clause-causes t g c =
    let is_input = ap plan_of c.deref.ensures ∙ ap (λ (n : PlannedReduction). n.input) c.self.view_is in
    let w = cause_at c.in_err-input.field-0.0 c.args.df.now c.args.state.now is_input c.in_err-input.ensures.causes in
    passed_on c.from_residual.result c.in_err-input.field-0.0 (λ e. IsCause e (reduction_plan c.args.self.now) (beside c.args.df.now c.args.state.now)) c.from_residual.ensures.1 (reduced_cause c.in_err-input.field-0.0 c.args.self.now (beside c.args.df.now c.args.state.now) w)

pub aggregation::AggregationExprPhysicalExpr::evaluate-returns-in_err-aggregation_cells-clause-causes : goal.aggregation::AggregationExprPhysicalExpr::evaluate-returns-in_err-aggregation_cells-clause-causes
aggregation::AggregationExprPhysicalExpr::evaluate-returns-in_err-aggregation_cells-clause-causes t g c =
    let is_input = ap plan_of c.deref.ensures ∙ ap (λ (n : PlannedReduction). n.input) c.self.view_is in
    let x = cell_at c.args.df.now c.args.state.now is_input c.in_ok-input.ensures.value in
    passed_on c.from_residual-in_err-aggregation_cells.result c.in_err-aggregation_cells.field-0.0 (λ e. IsCause e (reduction_plan c.args.self.now) (beside c.args.df.now c.args.state.now)) c.from_residual-in_err-aggregation_cells.ensures.1 (reduction_cause c.in_err-aggregation_cells.field-0.0 c.args.self.now (beside c.args.df.now c.args.state.now) (named_cell c.in_ok-input.input) x (subst (λ (n : PlannedReduction). Refuses c.in_err-aggregation_cells.field-0.0 (aggregation_named n.method (named_cell c.in_ok-input.input))) c.self.view_is c.in_err-aggregation_cells.ensures.answer))

pub binary::BinaryExprPhysicalExpr::evaluate-returns-in_err-left-clause-cost : goal.binary::BinaryExprPhysicalExpr::evaluate-returns-in_err-left-clause-cost
binary::BinaryExprPhysicalExpr::evaluate-returns-in_err-left-clause-cost t g c =
    let is_left = ap plan_of c.deref.ensures ∙ ap (λ (n : PlannedBinary). n.left) c.self.view_is in
    let x = cost_at c.args.df.now c.args.state.now is_left c.evaluate_cell.ensures.cost in
    binary_cost_left c.args.self.now.left.tree c.args.self.now.right.tree c.args.self.now.op (beside c.args.df.now c.args.state.now) c.args.kernels.now c.evaluate_cell.new.kernels x

pub ternary::TernaryExprPhysicalExpr::evaluate-returns-in_err-predicate-clause-cost : goal.ternary::TernaryExprPhysicalExpr::evaluate-returns-in_err-predicate-clause-cost
ternary::TernaryExprPhysicalExpr::evaluate-returns-in_err-predicate-clause-cost t g c =
    let is_predicate = ap plan_of c.deref.ensures ∙ ap (λ (n : PlannedTernary). n.predicate) c.self.view_is in
    let x = cost_at c.args.df.now c.args.state.now is_predicate c.evaluate_cell.ensures.cost in
    ternary_cost_one c.args.self.now.predicate.tree c.args.self.now.truthy.tree c.args.self.now.falsy.tree (beside c.args.df.now c.args.state.now) c.args.kernels.now c.evaluate_cell.new.kernels x

pub cast::CastExprPhysicalExpr::evaluate-returns-in_err-input-clause-cost : goal.cast::CastExprPhysicalExpr::evaluate-returns-in_err-input-clause-cost
cast::CastExprPhysicalExpr::evaluate-returns-in_err-input-clause-cost t g c =
    let is_input = ap plan_of c.deref.ensures ∙ ap (λ (n : PlannedCast). n.input) c.self.view_is in
    let x = cost_at c.args.df.now c.args.state.now is_input c.evaluate_cell.ensures.cost in
    cast_cost_input c.args.self.now.input.tree c.args.self.now.dtype c.args.self.now.options (beside c.args.df.now c.args.state.now) c.args.kernels.now c.evaluate_cell.new.kernels x

pub cast::CastExprPhysicalExpr::evaluate-returns-in_err-cast_cells-clause-cost : goal.cast::CastExprPhysicalExpr::evaluate-returns-in_err-cast_cells-clause-cost
cast::CastExprPhysicalExpr::evaluate-returns-in_err-cast_cells-clause-cost t g c =
    let is_input = ap plan_of c.deref.ensures ∙ ap (λ (n : PlannedCast). n.input) c.self.view_is in
    let x = cost_at c.args.df.now c.args.state.now is_input c.evaluate_cell.ensures.cost in
    cast_cost c.args.self.now.input.tree c.args.self.now.dtype c.args.self.now.options (beside c.args.df.now c.args.state.now) c.args.kernels.now c.evaluate_cell.new.kernels c.cast_cells.new.kernels x c.cast_cells.ensures.rises c.cast_cells.ensures.most

pub cast::CastExprPhysicalExpr::evaluate-returns-clause-cost : goal.cast::CastExprPhysicalExpr::evaluate-returns-clause-cost
cast::CastExprPhysicalExpr::evaluate-returns-clause-cost t g c =
    let is_input = ap plan_of c.deref.ensures ∙ ap (λ (n : PlannedCast). n.input) c.self.view_is in
    let x = cost_at c.args.df.now c.args.state.now is_input c.evaluate_cell.ensures.cost in
    cast_cost c.args.self.now.input.tree c.args.self.now.dtype c.args.self.now.options (beside c.args.df.now c.args.state.now) c.args.kernels.now c.evaluate_cell.new.kernels c.cast_cells.new.kernels x c.cast_cells.ensures.rises c.cast_cells.ensures.most

pub aggregation::AggregationExprPhysicalExpr::evaluate-returns-in_err-input-clause-cost : goal.aggregation::AggregationExprPhysicalExpr::evaluate-returns-in_err-input-clause-cost
aggregation::AggregationExprPhysicalExpr::evaluate-returns-in_err-input-clause-cost t g c =
    let is_input = ap plan_of c.deref.ensures ∙ ap (λ (n : PlannedReduction). n.input) c.self.view_is in
    let x = cost_at c.args.df.now c.args.state.now is_input c.evaluate_cell.ensures.cost in
    reduction_cost_input c.args.self.now.input.tree c.args.self.now.method (beside c.args.df.now c.args.state.now) c.args.kernels.now c.evaluate_cell.new.kernels x

pub aggregation::AggregationExprPhysicalExpr::evaluate-returns-clause-cost : goal.aggregation::AggregationExprPhysicalExpr::evaluate-returns-clause-cost
aggregation::AggregationExprPhysicalExpr::evaluate-returns-clause-cost t g c =
    let is_input = ap plan_of c.deref.ensures ∙ ap (λ (n : PlannedReduction). n.input) c.self.view_is in
    let x = cost_at c.args.df.now c.args.state.now is_input c.evaluate_cell.ensures.cost in
    reduction_cost c.args.self.now.input.tree c.args.self.now.method (beside c.args.df.now c.args.state.now) c.args.kernels.now c.evaluate_cell.new.kernels c.aggregation_cells.new.kernels x c.aggregation_cells.ensures.rises c.aggregation_cells.ensures.most

pub aggregation::AggregationExprPhysicalExpr::evaluate-returns-clause-ticks : goal.aggregation::AggregationExprPhysicalExpr::evaluate-returns-clause-ticks
aggregation::AggregationExprPhysicalExpr::evaluate-returns-clause-ticks t g c =
    let is_input = ap plan_of c.deref.ensures ∙ ap (λ (n : PlannedReduction). n.input) c.self.view_is in
    let x = ticks_at c.args.kernels.now c.evaluate_cell.new.kernels is_input c.in_ok-input.ensures.ticks in
    reduction_ticks c.args.self.now.input.tree c.args.self.now.method c.args.kernels.now c.evaluate_cell.new.kernels c.aggregation_cells.new.kernels x c.in_ok-aggregation_cells.ensures.ticks

pub apply::ApplyExprPhysicalExpr::evaluate-returns-in_err-inputs-clause-causes : goal.apply::ApplyExprPhysicalExpr::evaluate-returns-in_err-inputs-clause-causes
apply::ApplyExprPhysicalExpr::evaluate-returns-in_err-inputs-clause-causes t g c =
    let seen = ap (map plan_of) c.deref.ensures.value ∙ ap (λ (n : PlannedApply). n.inputs) c.self.view_is in
    let w = subst (λ (ps : List Planned). IsCauseOfAny c.in_err-inputs.field-0.0 ps (beside c.args.df.now c.args.state.now)) seen c.in_err-inputs.ensures.causes in
    passed_on c.from_residual.result c.in_err-inputs.field-0.0 (λ e. IsCause e (apply_plan c.args.self.now) (beside c.args.df.now c.args.state.now)) c.from_residual.ensures.1 (apply_input_cause c.in_err-inputs.field-0.0 c.args.self.now (beside c.args.df.now c.args.state.now) w)

pub apply::ApplyExprPhysicalExpr::evaluate-returns-in_err-apply_cells-clause-causes : goal.apply::ApplyExprPhysicalExpr::evaluate-returns-in_err-apply_cells-clause-causes
apply::ApplyExprPhysicalExpr::evaluate-returns-in_err-apply_cells-clause-causes t g c =
    let cs = map named_cell c.in_ok-inputs.inputs.items in
    let same : called c.args.self.now.call ≡ c.self.inside.function = ap (λ (a : PlannedApply). called a.call) (sym c.self.view_is) ∙ c.self.invariant.1.0 in
    let seen = ap (map plan_of) c.deref.ensures.value ∙ ap (λ (n : PlannedApply). n.inputs) c.self.view_is in
    let are = subst (λ (ps : List Planned). AreCellsOf ps (beside c.args.df.now c.args.state.now) (map named_cell c.in_ok-inputs.inputs.items)) seen c.in_ok-inputs.ensures.value in
    passed_on c.from_residual-in_err-apply_cells.result c.in_err-apply_cells.field-0.0 (λ e. IsCause e (apply_plan c.args.self.now) (beside c.args.df.now c.args.state.now)) c.from_residual-in_err-apply_cells.ensures.1 (apply_refusal c.args.self.now (beside c.args.df.now c.args.state.now) cs are c.in_err-apply_cells.field-0.0 (subst (λ f. Refuses c.in_err-apply_cells.field-0.0 (function_named f cs)) (sym same) c.in_err-apply_cells.ensures.answer))

pub sort_by::SortByExprPhysicalExpr::evaluate-returns-in_err-by-clause-causes : goal.sort_by::SortByExprPhysicalExpr::evaluate-returns-in_err-by-clause-causes
sort_by::SortByExprPhysicalExpr::evaluate-returns-in_err-by-clause-causes t g c =
    let seen = ap (map plan_of) c.deref.ensures.value ∙ ap (λ (n : PlannedSortBy). n.by) c.self.view_is in
    let w = subst (λ (ps : List Planned). IsCauseOfAny c.in_err-by.field-0.0 ps (beside c.args.df.now c.args.state.now)) seen c.in_err-by.ensures.causes in
    passed_on c.from_residual.result c.in_err-by.field-0.0 (λ e. IsCause e (sort_by_plan c.args.self.now) (beside c.args.df.now c.args.state.now)) c.from_residual.ensures.1 (sort_by_key_cause c.in_err-by.field-0.0 c.args.self.now (beside c.args.df.now c.args.state.now) w)

pub sort_by::SortByExprPhysicalExpr::evaluate-returns-in_err-input-clause-causes : goal.sort_by::SortByExprPhysicalExpr::evaluate-returns-in_err-input-clause-causes
sort_by::SortByExprPhysicalExpr::evaluate-returns-in_err-input-clause-causes t g c =
    let is_input = ap plan_of c.deref-2.ensures ∙ ap (λ (n : PlannedSortBy). n.input) c.self.view_is in
    let w = cause_below c.in_err-input.field-0.0 c.args.df.now is_input c.evaluate_cells.ensures.frame c.in_err-input.ensures.causes in
    passed_on c.from_residual-in_err-input.result c.in_err-input.field-0.0 (λ e. IsCause e (sort_by_plan c.args.self.now) (beside c.args.df.now c.args.state.now)) c.from_residual-in_err-input.ensures.1 (sort_by_input_cause c.in_err-input.field-0.0 c.args.self.now (beside c.args.df.now c.args.state.now) w)

pub sort_by::SortByExprPhysicalExpr::evaluate-returns-in_err-sort_by_cells-clause-causes : goal.sort_by::SortByExprPhysicalExpr::evaluate-returns-in_err-sort_by_cells-clause-causes
sort_by::SortByExprPhysicalExpr::evaluate-returns-in_err-sort_by_cells-clause-causes t g c =
    let is_input = ap plan_of c.deref-2.ensures ∙ ap (λ (n : PlannedSortBy). n.input) c.self.view_is in
    let is = cell_below c.args.df.now is_input c.evaluate_cells.ensures.frame c.in_ok-input.ensures.value in
    let seen = ap (map plan_of) c.deref.ensures.value ∙ ap (λ (n : PlannedSortBy). n.by) c.self.view_is in
    let are = subst (λ (ps : List Planned). AreCellsOf ps (beside c.args.df.now c.args.state.now) (map named_cell c.in_ok-by.by.items)) seen c.in_ok-by.ensures.value in
    let refused = subst (λ (n : PlannedSortBy). Refuses c.in_err-sort_by_cells.field-0.0 (sort_by_named n.sort_options (named_cell c.in_ok-input.input) (map named_cell c.in_ok-by.by.items))) c.self.view_is c.in_err-sort_by_cells.ensures.answer in
    passed_on c.from_residual-in_err-sort_by_cells.result c.in_err-sort_by_cells.field-0.0 (λ e. IsCause e (sort_by_plan c.args.self.now) (beside c.args.df.now c.args.state.now)) c.from_residual-in_err-sort_by_cells.ensures.1 (sort_by_refusal c.args.self.now (beside c.args.df.now c.args.state.now) (named_cell c.in_ok-input.input) (map named_cell c.in_ok-by.by.items) is are c.in_err-sort_by_cells.field-0.0 refused)

pub phys_expr::PhysExprPhysicalExpr::evaluate-returns-in-Column-clause-value : goal.phys_expr::PhysExprPhysicalExpr::evaluate-returns-in-Column-clause-value
phys_expr::PhysExprPhysicalExpr::evaluate-returns-in-Column-clause-value t g c =
    subst (λ (e : PhysExpr). IfOk c.evaluate.result (IsValue (plan_of e) (beside c.args.df.now c.args.state.now))) (sym c.in-Column.is) c.evaluate.ensures.value

pub phys_expr::PhysExprPhysicalExpr::evaluate-returns-in-Column-clause-causes : goal.phys_expr::PhysExprPhysicalExpr::evaluate-returns-in-Column-clause-causes
phys_expr::PhysExprPhysicalExpr::evaluate-returns-in-Column-clause-causes t g c =
    subst (λ (e : PhysExpr). IfErr c.evaluate.result (λ w. IsCause w (plan_of e) (beside c.args.df.now c.args.state.now))) (sym c.in-Column.is) c.evaluate.ensures.causes

pub phys_expr::PhysExprPhysicalExpr::evaluate-returns-in-Column-clause-grouped : goal.phys_expr::PhysExprPhysicalExpr::evaluate-returns-in-Column-clause-grouped
phys_expr::PhysExprPhysicalExpr::evaluate-returns-in-Column-clause-grouped t g c =
    subst (λ (e : PhysExpr). OnOk c.evaluate.result (c.evaluate.new.groupings ≡ c.args.groupings.now + windows_in (plan_of e).tree)) (sym c.in-Column.is) c.evaluate.ensures.grouped

pub phys_expr::PhysExprPhysicalExpr::evaluate-returns-in-Column-clause-grouped_most : goal.phys_expr::PhysExprPhysicalExpr::evaluate-returns-in-Column-clause-grouped_most
phys_expr::PhysExprPhysicalExpr::evaluate-returns-in-Column-clause-grouped_most t g c =
    subst (λ (e : PhysExpr). GroupedAtMost (plan_of e).tree c.args.groupings.now c.evaluate.new.groupings) (sym c.in-Column.is) c.evaluate.ensures.grouped_most

pub phys_expr::PhysExprPhysicalExpr::evaluate-returns-in-Column-clause-ticks : goal.phys_expr::PhysExprPhysicalExpr::evaluate-returns-in-Column-clause-ticks
phys_expr::PhysExprPhysicalExpr::evaluate-returns-in-Column-clause-ticks t g c =
    subst (λ (e : PhysExpr). OnOk c.evaluate.result (RunExactly (plan_of e).tree c.args.kernels.now c.evaluate.new.kernels)) (sym c.in-Column.is) c.evaluate.ensures.ticks

pub phys_expr::PhysExprPhysicalExpr::evaluate-returns-in-Column-clause-cost : goal.phys_expr::PhysExprPhysicalExpr::evaluate-returns-in-Column-clause-cost
phys_expr::PhysExprPhysicalExpr::evaluate-returns-in-Column-clause-cost t g c =
    subst (λ (e : PhysExpr). RunAtMost (plan_of e).tree (beside c.args.df.now c.args.state.now) c.args.kernels.now c.evaluate.new.kernels) (sym c.in-Column.is) c.evaluate.ensures.cost

pub phys_expr::PhysExprPhysicalExpr::evaluate-returns-in-Literal-clause-value : goal.phys_expr::PhysExprPhysicalExpr::evaluate-returns-in-Literal-clause-value
phys_expr::PhysExprPhysicalExpr::evaluate-returns-in-Literal-clause-value t g c =
    subst (λ (e : PhysExpr). IfOk c.evaluate-in-Literal.result (IsValue (plan_of e) (beside c.args.df.now c.args.state.now))) (sym c.in-Literal.is) c.evaluate-in-Literal.ensures.value

pub phys_expr::PhysExprPhysicalExpr::evaluate-returns-in-Literal-clause-causes : goal.phys_expr::PhysExprPhysicalExpr::evaluate-returns-in-Literal-clause-causes
phys_expr::PhysExprPhysicalExpr::evaluate-returns-in-Literal-clause-causes t g c =
    subst (λ (e : PhysExpr). IfErr c.evaluate-in-Literal.result (λ w. IsCause w (plan_of e) (beside c.args.df.now c.args.state.now))) (sym c.in-Literal.is) c.evaluate-in-Literal.ensures.causes

pub phys_expr::PhysExprPhysicalExpr::evaluate-returns-in-Literal-clause-grouped : goal.phys_expr::PhysExprPhysicalExpr::evaluate-returns-in-Literal-clause-grouped
phys_expr::PhysExprPhysicalExpr::evaluate-returns-in-Literal-clause-grouped t g c =
    subst (λ (e : PhysExpr). OnOk c.evaluate-in-Literal.result (c.evaluate-in-Literal.new.groupings ≡ c.args.groupings.now + windows_in (plan_of e).tree)) (sym c.in-Literal.is) c.evaluate-in-Literal.ensures.grouped

pub phys_expr::PhysExprPhysicalExpr::evaluate-returns-in-Literal-clause-grouped_most : goal.phys_expr::PhysExprPhysicalExpr::evaluate-returns-in-Literal-clause-grouped_most
phys_expr::PhysExprPhysicalExpr::evaluate-returns-in-Literal-clause-grouped_most t g c =
    subst (λ (e : PhysExpr). GroupedAtMost (plan_of e).tree c.args.groupings.now c.evaluate-in-Literal.new.groupings) (sym c.in-Literal.is) c.evaluate-in-Literal.ensures.grouped_most

pub phys_expr::PhysExprPhysicalExpr::evaluate-returns-in-Literal-clause-ticks : goal.phys_expr::PhysExprPhysicalExpr::evaluate-returns-in-Literal-clause-ticks
phys_expr::PhysExprPhysicalExpr::evaluate-returns-in-Literal-clause-ticks t g c =
    subst (λ (e : PhysExpr). OnOk c.evaluate-in-Literal.result (RunExactly (plan_of e).tree c.args.kernels.now c.evaluate-in-Literal.new.kernels)) (sym c.in-Literal.is) c.evaluate-in-Literal.ensures.ticks

pub phys_expr::PhysExprPhysicalExpr::evaluate-returns-in-Literal-clause-cost : goal.phys_expr::PhysExprPhysicalExpr::evaluate-returns-in-Literal-clause-cost
phys_expr::PhysExprPhysicalExpr::evaluate-returns-in-Literal-clause-cost t g c =
    subst (λ (e : PhysExpr). RunAtMost (plan_of e).tree (beside c.args.df.now c.args.state.now) c.args.kernels.now c.evaluate-in-Literal.new.kernels) (sym c.in-Literal.is) c.evaluate-in-Literal.ensures.cost

pub phys_expr::PhysExprPhysicalExpr::evaluate-returns-in-Alias-clause-value : goal.phys_expr::PhysExprPhysicalExpr::evaluate-returns-in-Alias-clause-value
phys_expr::PhysExprPhysicalExpr::evaluate-returns-in-Alias-clause-value t g c =
    subst (λ (e : PhysExpr). IfOk c.evaluate-in-Alias.result (IsValue (plan_of e) (beside c.args.df.now c.args.state.now))) (sym c.in-Alias.is) c.evaluate-in-Alias.ensures.value

pub phys_expr::PhysExprPhysicalExpr::evaluate-returns-in-Alias-clause-causes : goal.phys_expr::PhysExprPhysicalExpr::evaluate-returns-in-Alias-clause-causes
phys_expr::PhysExprPhysicalExpr::evaluate-returns-in-Alias-clause-causes t g c =
    subst (λ (e : PhysExpr). IfErr c.evaluate-in-Alias.result (λ w. IsCause w (plan_of e) (beside c.args.df.now c.args.state.now))) (sym c.in-Alias.is) c.evaluate-in-Alias.ensures.causes

pub phys_expr::PhysExprPhysicalExpr::evaluate-returns-in-Alias-clause-grouped : goal.phys_expr::PhysExprPhysicalExpr::evaluate-returns-in-Alias-clause-grouped
phys_expr::PhysExprPhysicalExpr::evaluate-returns-in-Alias-clause-grouped t g c =
    subst (λ (e : PhysExpr). OnOk c.evaluate-in-Alias.result (c.evaluate-in-Alias.new.groupings ≡ c.args.groupings.now + windows_in (plan_of e).tree)) (sym c.in-Alias.is) c.evaluate-in-Alias.ensures.grouped

pub phys_expr::PhysExprPhysicalExpr::evaluate-returns-in-Alias-clause-grouped_most : goal.phys_expr::PhysExprPhysicalExpr::evaluate-returns-in-Alias-clause-grouped_most
phys_expr::PhysExprPhysicalExpr::evaluate-returns-in-Alias-clause-grouped_most t g c =
    subst (λ (e : PhysExpr). GroupedAtMost (plan_of e).tree c.args.groupings.now c.evaluate-in-Alias.new.groupings) (sym c.in-Alias.is) c.evaluate-in-Alias.ensures.grouped_most

pub phys_expr::PhysExprPhysicalExpr::evaluate-returns-in-Alias-clause-ticks : goal.phys_expr::PhysExprPhysicalExpr::evaluate-returns-in-Alias-clause-ticks
phys_expr::PhysExprPhysicalExpr::evaluate-returns-in-Alias-clause-ticks t g c =
    subst (λ (e : PhysExpr). OnOk c.evaluate-in-Alias.result (RunExactly (plan_of e).tree c.args.kernels.now c.evaluate-in-Alias.new.kernels)) (sym c.in-Alias.is) c.evaluate-in-Alias.ensures.ticks

pub phys_expr::PhysExprPhysicalExpr::evaluate-returns-in-Alias-clause-cost : goal.phys_expr::PhysExprPhysicalExpr::evaluate-returns-in-Alias-clause-cost
phys_expr::PhysExprPhysicalExpr::evaluate-returns-in-Alias-clause-cost t g c =
    subst (λ (e : PhysExpr). RunAtMost (plan_of e).tree (beside c.args.df.now c.args.state.now) c.args.kernels.now c.evaluate-in-Alias.new.kernels) (sym c.in-Alias.is) c.evaluate-in-Alias.ensures.cost

pub phys_expr::PhysExprPhysicalExpr::evaluate-returns-in-Binary-clause-value : goal.phys_expr::PhysExprPhysicalExpr::evaluate-returns-in-Binary-clause-value
phys_expr::PhysExprPhysicalExpr::evaluate-returns-in-Binary-clause-value t g c =
    subst (λ (e : PhysExpr). IfOk c.evaluate-in-Binary.result (IsValue (plan_of e) (beside c.args.df.now c.args.state.now))) (sym c.in-Binary.is) c.evaluate-in-Binary.ensures.value

pub phys_expr::PhysExprPhysicalExpr::evaluate-returns-in-Binary-clause-causes : goal.phys_expr::PhysExprPhysicalExpr::evaluate-returns-in-Binary-clause-causes
phys_expr::PhysExprPhysicalExpr::evaluate-returns-in-Binary-clause-causes t g c =
    subst (λ (e : PhysExpr). IfErr c.evaluate-in-Binary.result (λ w. IsCause w (plan_of e) (beside c.args.df.now c.args.state.now))) (sym c.in-Binary.is) c.evaluate-in-Binary.ensures.causes

pub phys_expr::PhysExprPhysicalExpr::evaluate-returns-in-Binary-clause-grouped : goal.phys_expr::PhysExprPhysicalExpr::evaluate-returns-in-Binary-clause-grouped
phys_expr::PhysExprPhysicalExpr::evaluate-returns-in-Binary-clause-grouped t g c =
    subst (λ (e : PhysExpr). OnOk c.evaluate-in-Binary.result (c.evaluate-in-Binary.new.groupings ≡ c.args.groupings.now + windows_in (plan_of e).tree)) (sym c.in-Binary.is) c.evaluate-in-Binary.ensures.grouped

pub phys_expr::PhysExprPhysicalExpr::evaluate-returns-in-Binary-clause-grouped_most : goal.phys_expr::PhysExprPhysicalExpr::evaluate-returns-in-Binary-clause-grouped_most
phys_expr::PhysExprPhysicalExpr::evaluate-returns-in-Binary-clause-grouped_most t g c =
    subst (λ (e : PhysExpr). GroupedAtMost (plan_of e).tree c.args.groupings.now c.evaluate-in-Binary.new.groupings) (sym c.in-Binary.is) c.evaluate-in-Binary.ensures.grouped_most

pub phys_expr::PhysExprPhysicalExpr::evaluate-returns-in-Binary-clause-ticks : goal.phys_expr::PhysExprPhysicalExpr::evaluate-returns-in-Binary-clause-ticks
phys_expr::PhysExprPhysicalExpr::evaluate-returns-in-Binary-clause-ticks t g c =
    subst (λ (e : PhysExpr). OnOk c.evaluate-in-Binary.result (RunExactly (plan_of e).tree c.args.kernels.now c.evaluate-in-Binary.new.kernels)) (sym c.in-Binary.is) c.evaluate-in-Binary.ensures.ticks

pub phys_expr::PhysExprPhysicalExpr::evaluate-returns-in-Binary-clause-cost : goal.phys_expr::PhysExprPhysicalExpr::evaluate-returns-in-Binary-clause-cost
phys_expr::PhysExprPhysicalExpr::evaluate-returns-in-Binary-clause-cost t g c =
    subst (λ (e : PhysExpr). RunAtMost (plan_of e).tree (beside c.args.df.now c.args.state.now) c.args.kernels.now c.evaluate-in-Binary.new.kernels) (sym c.in-Binary.is) c.evaluate-in-Binary.ensures.cost

pub phys_expr::PhysExprPhysicalExpr::evaluate-returns-in-Ternary-clause-value : goal.phys_expr::PhysExprPhysicalExpr::evaluate-returns-in-Ternary-clause-value
phys_expr::PhysExprPhysicalExpr::evaluate-returns-in-Ternary-clause-value t g c =
    subst (λ (e : PhysExpr). IfOk c.evaluate-in-Ternary.result (IsValue (plan_of e) (beside c.args.df.now c.args.state.now))) (sym c.in-Ternary.is) c.evaluate-in-Ternary.ensures.value

pub phys_expr::PhysExprPhysicalExpr::evaluate-returns-in-Ternary-clause-causes : goal.phys_expr::PhysExprPhysicalExpr::evaluate-returns-in-Ternary-clause-causes
phys_expr::PhysExprPhysicalExpr::evaluate-returns-in-Ternary-clause-causes t g c =
    subst (λ (e : PhysExpr). IfErr c.evaluate-in-Ternary.result (λ w. IsCause w (plan_of e) (beside c.args.df.now c.args.state.now))) (sym c.in-Ternary.is) c.evaluate-in-Ternary.ensures.causes

pub phys_expr::PhysExprPhysicalExpr::evaluate-returns-in-Ternary-clause-grouped : goal.phys_expr::PhysExprPhysicalExpr::evaluate-returns-in-Ternary-clause-grouped
phys_expr::PhysExprPhysicalExpr::evaluate-returns-in-Ternary-clause-grouped t g c =
    subst (λ (e : PhysExpr). OnOk c.evaluate-in-Ternary.result (c.evaluate-in-Ternary.new.groupings ≡ c.args.groupings.now + windows_in (plan_of e).tree)) (sym c.in-Ternary.is) c.evaluate-in-Ternary.ensures.grouped

pub phys_expr::PhysExprPhysicalExpr::evaluate-returns-in-Ternary-clause-grouped_most : goal.phys_expr::PhysExprPhysicalExpr::evaluate-returns-in-Ternary-clause-grouped_most
phys_expr::PhysExprPhysicalExpr::evaluate-returns-in-Ternary-clause-grouped_most t g c =
    subst (λ (e : PhysExpr). GroupedAtMost (plan_of e).tree c.args.groupings.now c.evaluate-in-Ternary.new.groupings) (sym c.in-Ternary.is) c.evaluate-in-Ternary.ensures.grouped_most

pub phys_expr::PhysExprPhysicalExpr::evaluate-returns-in-Ternary-clause-ticks : goal.phys_expr::PhysExprPhysicalExpr::evaluate-returns-in-Ternary-clause-ticks
phys_expr::PhysExprPhysicalExpr::evaluate-returns-in-Ternary-clause-ticks t g c =
    subst (λ (e : PhysExpr). OnOk c.evaluate-in-Ternary.result (RunExactly (plan_of e).tree c.args.kernels.now c.evaluate-in-Ternary.new.kernels)) (sym c.in-Ternary.is) c.evaluate-in-Ternary.ensures.ticks

pub phys_expr::PhysExprPhysicalExpr::evaluate-returns-in-Ternary-clause-cost : goal.phys_expr::PhysExprPhysicalExpr::evaluate-returns-in-Ternary-clause-cost
phys_expr::PhysExprPhysicalExpr::evaluate-returns-in-Ternary-clause-cost t g c =
    subst (λ (e : PhysExpr). RunAtMost (plan_of e).tree (beside c.args.df.now c.args.state.now) c.args.kernels.now c.evaluate-in-Ternary.new.kernels) (sym c.in-Ternary.is) c.evaluate-in-Ternary.ensures.cost

pub phys_expr::PhysExprPhysicalExpr::evaluate-returns-in-Cast-clause-value : goal.phys_expr::PhysExprPhysicalExpr::evaluate-returns-in-Cast-clause-value
phys_expr::PhysExprPhysicalExpr::evaluate-returns-in-Cast-clause-value t g c =
    subst (λ (e : PhysExpr). IfOk c.evaluate-in-Cast.result (IsValue (plan_of e) (beside c.args.df.now c.args.state.now))) (sym c.in-Cast.is) c.evaluate-in-Cast.ensures.value

pub phys_expr::PhysExprPhysicalExpr::evaluate-returns-in-Cast-clause-causes : goal.phys_expr::PhysExprPhysicalExpr::evaluate-returns-in-Cast-clause-causes
phys_expr::PhysExprPhysicalExpr::evaluate-returns-in-Cast-clause-causes t g c =
    subst (λ (e : PhysExpr). IfErr c.evaluate-in-Cast.result (λ w. IsCause w (plan_of e) (beside c.args.df.now c.args.state.now))) (sym c.in-Cast.is) c.evaluate-in-Cast.ensures.causes

pub phys_expr::PhysExprPhysicalExpr::evaluate-returns-in-Cast-clause-grouped : goal.phys_expr::PhysExprPhysicalExpr::evaluate-returns-in-Cast-clause-grouped
phys_expr::PhysExprPhysicalExpr::evaluate-returns-in-Cast-clause-grouped t g c =
    subst (λ (e : PhysExpr). OnOk c.evaluate-in-Cast.result (c.evaluate-in-Cast.new.groupings ≡ c.args.groupings.now + windows_in (plan_of e).tree)) (sym c.in-Cast.is) c.evaluate-in-Cast.ensures.grouped

pub phys_expr::PhysExprPhysicalExpr::evaluate-returns-in-Cast-clause-grouped_most : goal.phys_expr::PhysExprPhysicalExpr::evaluate-returns-in-Cast-clause-grouped_most
phys_expr::PhysExprPhysicalExpr::evaluate-returns-in-Cast-clause-grouped_most t g c =
    subst (λ (e : PhysExpr). GroupedAtMost (plan_of e).tree c.args.groupings.now c.evaluate-in-Cast.new.groupings) (sym c.in-Cast.is) c.evaluate-in-Cast.ensures.grouped_most

pub phys_expr::PhysExprPhysicalExpr::evaluate-returns-in-Cast-clause-ticks : goal.phys_expr::PhysExprPhysicalExpr::evaluate-returns-in-Cast-clause-ticks
phys_expr::PhysExprPhysicalExpr::evaluate-returns-in-Cast-clause-ticks t g c =
    subst (λ (e : PhysExpr). OnOk c.evaluate-in-Cast.result (RunExactly (plan_of e).tree c.args.kernels.now c.evaluate-in-Cast.new.kernels)) (sym c.in-Cast.is) c.evaluate-in-Cast.ensures.ticks

pub phys_expr::PhysExprPhysicalExpr::evaluate-returns-in-Cast-clause-cost : goal.phys_expr::PhysExprPhysicalExpr::evaluate-returns-in-Cast-clause-cost
phys_expr::PhysExprPhysicalExpr::evaluate-returns-in-Cast-clause-cost t g c =
    subst (λ (e : PhysExpr). RunAtMost (plan_of e).tree (beside c.args.df.now c.args.state.now) c.args.kernels.now c.evaluate-in-Cast.new.kernels) (sym c.in-Cast.is) c.evaluate-in-Cast.ensures.cost

pub phys_expr::PhysExprPhysicalExpr::evaluate-returns-in-Apply-clause-value : goal.phys_expr::PhysExprPhysicalExpr::evaluate-returns-in-Apply-clause-value
phys_expr::PhysExprPhysicalExpr::evaluate-returns-in-Apply-clause-value t g c =
    subst (λ (e : PhysExpr). IfOk c.evaluate-in-Apply.result (IsValue (plan_of e) (beside c.args.df.now c.args.state.now))) (sym c.in-Apply.is) c.evaluate-in-Apply.ensures.value

pub phys_expr::PhysExprPhysicalExpr::evaluate-returns-in-Apply-clause-causes : goal.phys_expr::PhysExprPhysicalExpr::evaluate-returns-in-Apply-clause-causes
phys_expr::PhysExprPhysicalExpr::evaluate-returns-in-Apply-clause-causes t g c =
    subst (λ (e : PhysExpr). IfErr c.evaluate-in-Apply.result (λ w. IsCause w (plan_of e) (beside c.args.df.now c.args.state.now))) (sym c.in-Apply.is) c.evaluate-in-Apply.ensures.causes

pub phys_expr::PhysExprPhysicalExpr::evaluate-returns-in-Apply-clause-grouped : goal.phys_expr::PhysExprPhysicalExpr::evaluate-returns-in-Apply-clause-grouped
phys_expr::PhysExprPhysicalExpr::evaluate-returns-in-Apply-clause-grouped t g c =
    subst (λ (e : PhysExpr). OnOk c.evaluate-in-Apply.result (c.evaluate-in-Apply.new.groupings ≡ c.args.groupings.now + windows_in (plan_of e).tree)) (sym c.in-Apply.is) c.evaluate-in-Apply.ensures.grouped

pub phys_expr::PhysExprPhysicalExpr::evaluate-returns-in-Apply-clause-grouped_most : goal.phys_expr::PhysExprPhysicalExpr::evaluate-returns-in-Apply-clause-grouped_most
phys_expr::PhysExprPhysicalExpr::evaluate-returns-in-Apply-clause-grouped_most t g c =
    subst (λ (e : PhysExpr). GroupedAtMost (plan_of e).tree c.args.groupings.now c.evaluate-in-Apply.new.groupings) (sym c.in-Apply.is) c.evaluate-in-Apply.ensures.grouped_most

pub phys_expr::PhysExprPhysicalExpr::evaluate-returns-in-Apply-clause-ticks : goal.phys_expr::PhysExprPhysicalExpr::evaluate-returns-in-Apply-clause-ticks
phys_expr::PhysExprPhysicalExpr::evaluate-returns-in-Apply-clause-ticks t g c =
    subst (λ (e : PhysExpr). OnOk c.evaluate-in-Apply.result (RunExactly (plan_of e).tree c.args.kernels.now c.evaluate-in-Apply.new.kernels)) (sym c.in-Apply.is) c.evaluate-in-Apply.ensures.ticks

pub phys_expr::PhysExprPhysicalExpr::evaluate-returns-in-Apply-clause-cost : goal.phys_expr::PhysExprPhysicalExpr::evaluate-returns-in-Apply-clause-cost
phys_expr::PhysExprPhysicalExpr::evaluate-returns-in-Apply-clause-cost t g c =
    subst (λ (e : PhysExpr). RunAtMost (plan_of e).tree (beside c.args.df.now c.args.state.now) c.args.kernels.now c.evaluate-in-Apply.new.kernels) (sym c.in-Apply.is) c.evaluate-in-Apply.ensures.cost

pub phys_expr::PhysExprPhysicalExpr::evaluate-returns-in-Filter-clause-value : goal.phys_expr::PhysExprPhysicalExpr::evaluate-returns-in-Filter-clause-value
phys_expr::PhysExprPhysicalExpr::evaluate-returns-in-Filter-clause-value t g c =
    subst (λ (e : PhysExpr). IfOk c.evaluate-in-Filter.result (IsValue (plan_of e) (beside c.args.df.now c.args.state.now))) (sym c.in-Filter.is) c.evaluate-in-Filter.ensures.value

pub phys_expr::PhysExprPhysicalExpr::evaluate-returns-in-Filter-clause-causes : goal.phys_expr::PhysExprPhysicalExpr::evaluate-returns-in-Filter-clause-causes
phys_expr::PhysExprPhysicalExpr::evaluate-returns-in-Filter-clause-causes t g c =
    subst (λ (e : PhysExpr). IfErr c.evaluate-in-Filter.result (λ w. IsCause w (plan_of e) (beside c.args.df.now c.args.state.now))) (sym c.in-Filter.is) c.evaluate-in-Filter.ensures.causes

pub phys_expr::PhysExprPhysicalExpr::evaluate-returns-in-Filter-clause-grouped : goal.phys_expr::PhysExprPhysicalExpr::evaluate-returns-in-Filter-clause-grouped
phys_expr::PhysExprPhysicalExpr::evaluate-returns-in-Filter-clause-grouped t g c =
    subst (λ (e : PhysExpr). OnOk c.evaluate-in-Filter.result (c.evaluate-in-Filter.new.groupings ≡ c.args.groupings.now + windows_in (plan_of e).tree)) (sym c.in-Filter.is) c.evaluate-in-Filter.ensures.grouped

pub phys_expr::PhysExprPhysicalExpr::evaluate-returns-in-Filter-clause-grouped_most : goal.phys_expr::PhysExprPhysicalExpr::evaluate-returns-in-Filter-clause-grouped_most
phys_expr::PhysExprPhysicalExpr::evaluate-returns-in-Filter-clause-grouped_most t g c =
    subst (λ (e : PhysExpr). GroupedAtMost (plan_of e).tree c.args.groupings.now c.evaluate-in-Filter.new.groupings) (sym c.in-Filter.is) c.evaluate-in-Filter.ensures.grouped_most

pub phys_expr::PhysExprPhysicalExpr::evaluate-returns-in-Filter-clause-ticks : goal.phys_expr::PhysExprPhysicalExpr::evaluate-returns-in-Filter-clause-ticks
phys_expr::PhysExprPhysicalExpr::evaluate-returns-in-Filter-clause-ticks t g c =
    subst (λ (e : PhysExpr). OnOk c.evaluate-in-Filter.result (RunExactly (plan_of e).tree c.args.kernels.now c.evaluate-in-Filter.new.kernels)) (sym c.in-Filter.is) c.evaluate-in-Filter.ensures.ticks

pub phys_expr::PhysExprPhysicalExpr::evaluate-returns-in-Filter-clause-cost : goal.phys_expr::PhysExprPhysicalExpr::evaluate-returns-in-Filter-clause-cost
phys_expr::PhysExprPhysicalExpr::evaluate-returns-in-Filter-clause-cost t g c =
    subst (λ (e : PhysExpr). RunAtMost (plan_of e).tree (beside c.args.df.now c.args.state.now) c.args.kernels.now c.evaluate-in-Filter.new.kernels) (sym c.in-Filter.is) c.evaluate-in-Filter.ensures.cost

pub phys_expr::PhysExprPhysicalExpr::evaluate-returns-in-Slice-clause-value : goal.phys_expr::PhysExprPhysicalExpr::evaluate-returns-in-Slice-clause-value
phys_expr::PhysExprPhysicalExpr::evaluate-returns-in-Slice-clause-value t g c =
    subst (λ (e : PhysExpr). IfOk c.evaluate-in-Slice.result (IsValue (plan_of e) (beside c.args.df.now c.args.state.now))) (sym c.in-Slice.is) c.evaluate-in-Slice.ensures.value

pub phys_expr::PhysExprPhysicalExpr::evaluate-returns-in-Slice-clause-causes : goal.phys_expr::PhysExprPhysicalExpr::evaluate-returns-in-Slice-clause-causes
phys_expr::PhysExprPhysicalExpr::evaluate-returns-in-Slice-clause-causes t g c =
    subst (λ (e : PhysExpr). IfErr c.evaluate-in-Slice.result (λ w. IsCause w (plan_of e) (beside c.args.df.now c.args.state.now))) (sym c.in-Slice.is) c.evaluate-in-Slice.ensures.causes

pub phys_expr::PhysExprPhysicalExpr::evaluate-returns-in-Slice-clause-grouped : goal.phys_expr::PhysExprPhysicalExpr::evaluate-returns-in-Slice-clause-grouped
phys_expr::PhysExprPhysicalExpr::evaluate-returns-in-Slice-clause-grouped t g c =
    subst (λ (e : PhysExpr). OnOk c.evaluate-in-Slice.result (c.evaluate-in-Slice.new.groupings ≡ c.args.groupings.now + windows_in (plan_of e).tree)) (sym c.in-Slice.is) c.evaluate-in-Slice.ensures.grouped

pub phys_expr::PhysExprPhysicalExpr::evaluate-returns-in-Slice-clause-grouped_most : goal.phys_expr::PhysExprPhysicalExpr::evaluate-returns-in-Slice-clause-grouped_most
phys_expr::PhysExprPhysicalExpr::evaluate-returns-in-Slice-clause-grouped_most t g c =
    subst (λ (e : PhysExpr). GroupedAtMost (plan_of e).tree c.args.groupings.now c.evaluate-in-Slice.new.groupings) (sym c.in-Slice.is) c.evaluate-in-Slice.ensures.grouped_most

pub phys_expr::PhysExprPhysicalExpr::evaluate-returns-in-Slice-clause-ticks : goal.phys_expr::PhysExprPhysicalExpr::evaluate-returns-in-Slice-clause-ticks
phys_expr::PhysExprPhysicalExpr::evaluate-returns-in-Slice-clause-ticks t g c =
    subst (λ (e : PhysExpr). OnOk c.evaluate-in-Slice.result (RunExactly (plan_of e).tree c.args.kernels.now c.evaluate-in-Slice.new.kernels)) (sym c.in-Slice.is) c.evaluate-in-Slice.ensures.ticks

pub phys_expr::PhysExprPhysicalExpr::evaluate-returns-in-Slice-clause-cost : goal.phys_expr::PhysExprPhysicalExpr::evaluate-returns-in-Slice-clause-cost
phys_expr::PhysExprPhysicalExpr::evaluate-returns-in-Slice-clause-cost t g c =
    subst (λ (e : PhysExpr). RunAtMost (plan_of e).tree (beside c.args.df.now c.args.state.now) c.args.kernels.now c.evaluate-in-Slice.new.kernels) (sym c.in-Slice.is) c.evaluate-in-Slice.ensures.cost

pub phys_expr::PhysExprPhysicalExpr::evaluate-returns-in-Gather-clause-value : goal.phys_expr::PhysExprPhysicalExpr::evaluate-returns-in-Gather-clause-value
phys_expr::PhysExprPhysicalExpr::evaluate-returns-in-Gather-clause-value t g c =
    subst (λ (e : PhysExpr). IfOk c.evaluate-in-Gather.result (IsValue (plan_of e) (beside c.args.df.now c.args.state.now))) (sym c.in-Gather.is) c.evaluate-in-Gather.ensures.value

pub phys_expr::PhysExprPhysicalExpr::evaluate-returns-in-Gather-clause-causes : goal.phys_expr::PhysExprPhysicalExpr::evaluate-returns-in-Gather-clause-causes
phys_expr::PhysExprPhysicalExpr::evaluate-returns-in-Gather-clause-causes t g c =
    subst (λ (e : PhysExpr). IfErr c.evaluate-in-Gather.result (λ w. IsCause w (plan_of e) (beside c.args.df.now c.args.state.now))) (sym c.in-Gather.is) c.evaluate-in-Gather.ensures.causes

pub phys_expr::PhysExprPhysicalExpr::evaluate-returns-in-Gather-clause-grouped : goal.phys_expr::PhysExprPhysicalExpr::evaluate-returns-in-Gather-clause-grouped
phys_expr::PhysExprPhysicalExpr::evaluate-returns-in-Gather-clause-grouped t g c =
    subst (λ (e : PhysExpr). OnOk c.evaluate-in-Gather.result (c.evaluate-in-Gather.new.groupings ≡ c.args.groupings.now + windows_in (plan_of e).tree)) (sym c.in-Gather.is) c.evaluate-in-Gather.ensures.grouped

pub phys_expr::PhysExprPhysicalExpr::evaluate-returns-in-Gather-clause-grouped_most : goal.phys_expr::PhysExprPhysicalExpr::evaluate-returns-in-Gather-clause-grouped_most
phys_expr::PhysExprPhysicalExpr::evaluate-returns-in-Gather-clause-grouped_most t g c =
    subst (λ (e : PhysExpr). GroupedAtMost (plan_of e).tree c.args.groupings.now c.evaluate-in-Gather.new.groupings) (sym c.in-Gather.is) c.evaluate-in-Gather.ensures.grouped_most

pub phys_expr::PhysExprPhysicalExpr::evaluate-returns-in-Gather-clause-ticks : goal.phys_expr::PhysExprPhysicalExpr::evaluate-returns-in-Gather-clause-ticks
phys_expr::PhysExprPhysicalExpr::evaluate-returns-in-Gather-clause-ticks t g c =
    subst (λ (e : PhysExpr). OnOk c.evaluate-in-Gather.result (RunExactly (plan_of e).tree c.args.kernels.now c.evaluate-in-Gather.new.kernels)) (sym c.in-Gather.is) c.evaluate-in-Gather.ensures.ticks

pub phys_expr::PhysExprPhysicalExpr::evaluate-returns-in-Gather-clause-cost : goal.phys_expr::PhysExprPhysicalExpr::evaluate-returns-in-Gather-clause-cost
phys_expr::PhysExprPhysicalExpr::evaluate-returns-in-Gather-clause-cost t g c =
    subst (λ (e : PhysExpr). RunAtMost (plan_of e).tree (beside c.args.df.now c.args.state.now) c.args.kernels.now c.evaluate-in-Gather.new.kernels) (sym c.in-Gather.is) c.evaluate-in-Gather.ensures.cost

pub phys_expr::PhysExprPhysicalExpr::evaluate-returns-in-Sort-clause-value : goal.phys_expr::PhysExprPhysicalExpr::evaluate-returns-in-Sort-clause-value
phys_expr::PhysExprPhysicalExpr::evaluate-returns-in-Sort-clause-value t g c =
    subst (λ (e : PhysExpr). IfOk c.evaluate-in-Sort.result (IsValue (plan_of e) (beside c.args.df.now c.args.state.now))) (sym c.in-Sort.is) c.evaluate-in-Sort.ensures.value

pub phys_expr::PhysExprPhysicalExpr::evaluate-returns-in-Sort-clause-causes : goal.phys_expr::PhysExprPhysicalExpr::evaluate-returns-in-Sort-clause-causes
phys_expr::PhysExprPhysicalExpr::evaluate-returns-in-Sort-clause-causes t g c =
    subst (λ (e : PhysExpr). IfErr c.evaluate-in-Sort.result (λ w. IsCause w (plan_of e) (beside c.args.df.now c.args.state.now))) (sym c.in-Sort.is) c.evaluate-in-Sort.ensures.causes

pub phys_expr::PhysExprPhysicalExpr::evaluate-returns-in-Sort-clause-grouped : goal.phys_expr::PhysExprPhysicalExpr::evaluate-returns-in-Sort-clause-grouped
phys_expr::PhysExprPhysicalExpr::evaluate-returns-in-Sort-clause-grouped t g c =
    subst (λ (e : PhysExpr). OnOk c.evaluate-in-Sort.result (c.evaluate-in-Sort.new.groupings ≡ c.args.groupings.now + windows_in (plan_of e).tree)) (sym c.in-Sort.is) c.evaluate-in-Sort.ensures.grouped

pub phys_expr::PhysExprPhysicalExpr::evaluate-returns-in-Sort-clause-grouped_most : goal.phys_expr::PhysExprPhysicalExpr::evaluate-returns-in-Sort-clause-grouped_most
phys_expr::PhysExprPhysicalExpr::evaluate-returns-in-Sort-clause-grouped_most t g c =
    subst (λ (e : PhysExpr). GroupedAtMost (plan_of e).tree c.args.groupings.now c.evaluate-in-Sort.new.groupings) (sym c.in-Sort.is) c.evaluate-in-Sort.ensures.grouped_most

pub phys_expr::PhysExprPhysicalExpr::evaluate-returns-in-Sort-clause-ticks : goal.phys_expr::PhysExprPhysicalExpr::evaluate-returns-in-Sort-clause-ticks
phys_expr::PhysExprPhysicalExpr::evaluate-returns-in-Sort-clause-ticks t g c =
    subst (λ (e : PhysExpr). OnOk c.evaluate-in-Sort.result (RunExactly (plan_of e).tree c.args.kernels.now c.evaluate-in-Sort.new.kernels)) (sym c.in-Sort.is) c.evaluate-in-Sort.ensures.ticks

pub phys_expr::PhysExprPhysicalExpr::evaluate-returns-in-Sort-clause-cost : goal.phys_expr::PhysExprPhysicalExpr::evaluate-returns-in-Sort-clause-cost
phys_expr::PhysExprPhysicalExpr::evaluate-returns-in-Sort-clause-cost t g c =
    subst (λ (e : PhysExpr). RunAtMost (plan_of e).tree (beside c.args.df.now c.args.state.now) c.args.kernels.now c.evaluate-in-Sort.new.kernels) (sym c.in-Sort.is) c.evaluate-in-Sort.ensures.cost

pub phys_expr::PhysExprPhysicalExpr::evaluate-returns-in-SortBy-clause-value : goal.phys_expr::PhysExprPhysicalExpr::evaluate-returns-in-SortBy-clause-value
phys_expr::PhysExprPhysicalExpr::evaluate-returns-in-SortBy-clause-value t g c =
    subst (λ (e : PhysExpr). IfOk c.evaluate-in-SortBy.result (IsValue (plan_of e) (beside c.args.df.now c.args.state.now))) (sym c.in-SortBy.is) c.evaluate-in-SortBy.ensures.value

pub phys_expr::PhysExprPhysicalExpr::evaluate-returns-in-SortBy-clause-causes : goal.phys_expr::PhysExprPhysicalExpr::evaluate-returns-in-SortBy-clause-causes
phys_expr::PhysExprPhysicalExpr::evaluate-returns-in-SortBy-clause-causes t g c =
    subst (λ (e : PhysExpr). IfErr c.evaluate-in-SortBy.result (λ w. IsCause w (plan_of e) (beside c.args.df.now c.args.state.now))) (sym c.in-SortBy.is) c.evaluate-in-SortBy.ensures.causes

pub phys_expr::PhysExprPhysicalExpr::evaluate-returns-in-SortBy-clause-grouped : goal.phys_expr::PhysExprPhysicalExpr::evaluate-returns-in-SortBy-clause-grouped
phys_expr::PhysExprPhysicalExpr::evaluate-returns-in-SortBy-clause-grouped t g c =
    subst (λ (e : PhysExpr). OnOk c.evaluate-in-SortBy.result (c.evaluate-in-SortBy.new.groupings ≡ c.args.groupings.now + windows_in (plan_of e).tree)) (sym c.in-SortBy.is) c.evaluate-in-SortBy.ensures.grouped

pub phys_expr::PhysExprPhysicalExpr::evaluate-returns-in-SortBy-clause-grouped_most : goal.phys_expr::PhysExprPhysicalExpr::evaluate-returns-in-SortBy-clause-grouped_most
phys_expr::PhysExprPhysicalExpr::evaluate-returns-in-SortBy-clause-grouped_most t g c =
    subst (λ (e : PhysExpr). GroupedAtMost (plan_of e).tree c.args.groupings.now c.evaluate-in-SortBy.new.groupings) (sym c.in-SortBy.is) c.evaluate-in-SortBy.ensures.grouped_most

pub phys_expr::PhysExprPhysicalExpr::evaluate-returns-in-SortBy-clause-ticks : goal.phys_expr::PhysExprPhysicalExpr::evaluate-returns-in-SortBy-clause-ticks
phys_expr::PhysExprPhysicalExpr::evaluate-returns-in-SortBy-clause-ticks t g c =
    subst (λ (e : PhysExpr). OnOk c.evaluate-in-SortBy.result (RunExactly (plan_of e).tree c.args.kernels.now c.evaluate-in-SortBy.new.kernels)) (sym c.in-SortBy.is) c.evaluate-in-SortBy.ensures.ticks

pub phys_expr::PhysExprPhysicalExpr::evaluate-returns-in-SortBy-clause-cost : goal.phys_expr::PhysExprPhysicalExpr::evaluate-returns-in-SortBy-clause-cost
phys_expr::PhysExprPhysicalExpr::evaluate-returns-in-SortBy-clause-cost t g c =
    subst (λ (e : PhysExpr). RunAtMost (plan_of e).tree (beside c.args.df.now c.args.state.now) c.args.kernels.now c.evaluate-in-SortBy.new.kernels) (sym c.in-SortBy.is) c.evaluate-in-SortBy.ensures.cost

pub phys_expr::PhysExprPhysicalExpr::evaluate-returns-in-Aggregation-clause-value : goal.phys_expr::PhysExprPhysicalExpr::evaluate-returns-in-Aggregation-clause-value
phys_expr::PhysExprPhysicalExpr::evaluate-returns-in-Aggregation-clause-value t g c =
    subst (λ (e : PhysExpr). IfOk c.evaluate-in-Aggregation.result (IsValue (plan_of e) (beside c.args.df.now c.args.state.now))) (sym c.in-Aggregation.is) c.evaluate-in-Aggregation.ensures.value

pub phys_expr::PhysExprPhysicalExpr::evaluate-returns-in-Aggregation-clause-causes : goal.phys_expr::PhysExprPhysicalExpr::evaluate-returns-in-Aggregation-clause-causes
phys_expr::PhysExprPhysicalExpr::evaluate-returns-in-Aggregation-clause-causes t g c =
    subst (λ (e : PhysExpr). IfErr c.evaluate-in-Aggregation.result (λ w. IsCause w (plan_of e) (beside c.args.df.now c.args.state.now))) (sym c.in-Aggregation.is) c.evaluate-in-Aggregation.ensures.causes

pub phys_expr::PhysExprPhysicalExpr::evaluate-returns-in-Aggregation-clause-grouped : goal.phys_expr::PhysExprPhysicalExpr::evaluate-returns-in-Aggregation-clause-grouped
phys_expr::PhysExprPhysicalExpr::evaluate-returns-in-Aggregation-clause-grouped t g c =
    subst (λ (e : PhysExpr). OnOk c.evaluate-in-Aggregation.result (c.evaluate-in-Aggregation.new.groupings ≡ c.args.groupings.now + windows_in (plan_of e).tree)) (sym c.in-Aggregation.is) c.evaluate-in-Aggregation.ensures.grouped

pub phys_expr::PhysExprPhysicalExpr::evaluate-returns-in-Aggregation-clause-grouped_most : goal.phys_expr::PhysExprPhysicalExpr::evaluate-returns-in-Aggregation-clause-grouped_most
phys_expr::PhysExprPhysicalExpr::evaluate-returns-in-Aggregation-clause-grouped_most t g c =
    subst (λ (e : PhysExpr). GroupedAtMost (plan_of e).tree c.args.groupings.now c.evaluate-in-Aggregation.new.groupings) (sym c.in-Aggregation.is) c.evaluate-in-Aggregation.ensures.grouped_most

pub phys_expr::PhysExprPhysicalExpr::evaluate-returns-in-Aggregation-clause-ticks : goal.phys_expr::PhysExprPhysicalExpr::evaluate-returns-in-Aggregation-clause-ticks
phys_expr::PhysExprPhysicalExpr::evaluate-returns-in-Aggregation-clause-ticks t g c =
    subst (λ (e : PhysExpr). OnOk c.evaluate-in-Aggregation.result (RunExactly (plan_of e).tree c.args.kernels.now c.evaluate-in-Aggregation.new.kernels)) (sym c.in-Aggregation.is) c.evaluate-in-Aggregation.ensures.ticks

pub phys_expr::PhysExprPhysicalExpr::evaluate-returns-in-Aggregation-clause-cost : goal.phys_expr::PhysExprPhysicalExpr::evaluate-returns-in-Aggregation-clause-cost
phys_expr::PhysExprPhysicalExpr::evaluate-returns-in-Aggregation-clause-cost t g c =
    subst (λ (e : PhysExpr). RunAtMost (plan_of e).tree (beside c.args.df.now c.args.state.now) c.args.kernels.now c.evaluate-in-Aggregation.new.kernels) (sym c.in-Aggregation.is) c.evaluate-in-Aggregation.ensures.cost

pub phys_expr::PhysExprPhysicalExpr::evaluate-returns-in-Count-clause-value : goal.phys_expr::PhysExprPhysicalExpr::evaluate-returns-in-Count-clause-value
phys_expr::PhysExprPhysicalExpr::evaluate-returns-in-Count-clause-value t g c =
    subst (λ (e : PhysExpr). IfOk c.evaluate-in-Count.result (IsValue (plan_of e) (beside c.args.df.now c.args.state.now))) (sym c.in-Count.is) c.evaluate-in-Count.ensures.value

pub phys_expr::PhysExprPhysicalExpr::evaluate-returns-in-Count-clause-causes : goal.phys_expr::PhysExprPhysicalExpr::evaluate-returns-in-Count-clause-causes
phys_expr::PhysExprPhysicalExpr::evaluate-returns-in-Count-clause-causes t g c =
    subst (λ (e : PhysExpr). IfErr c.evaluate-in-Count.result (λ w. IsCause w (plan_of e) (beside c.args.df.now c.args.state.now))) (sym c.in-Count.is) c.evaluate-in-Count.ensures.causes

pub phys_expr::PhysExprPhysicalExpr::evaluate-returns-in-Count-clause-grouped : goal.phys_expr::PhysExprPhysicalExpr::evaluate-returns-in-Count-clause-grouped
phys_expr::PhysExprPhysicalExpr::evaluate-returns-in-Count-clause-grouped t g c =
    subst (λ (e : PhysExpr). OnOk c.evaluate-in-Count.result (c.evaluate-in-Count.new.groupings ≡ c.args.groupings.now + windows_in (plan_of e).tree)) (sym c.in-Count.is) c.evaluate-in-Count.ensures.grouped

pub phys_expr::PhysExprPhysicalExpr::evaluate-returns-in-Count-clause-grouped_most : goal.phys_expr::PhysExprPhysicalExpr::evaluate-returns-in-Count-clause-grouped_most
phys_expr::PhysExprPhysicalExpr::evaluate-returns-in-Count-clause-grouped_most t g c =
    subst (λ (e : PhysExpr). GroupedAtMost (plan_of e).tree c.args.groupings.now c.evaluate-in-Count.new.groupings) (sym c.in-Count.is) c.evaluate-in-Count.ensures.grouped_most

pub phys_expr::PhysExprPhysicalExpr::evaluate-returns-in-Count-clause-ticks : goal.phys_expr::PhysExprPhysicalExpr::evaluate-returns-in-Count-clause-ticks
phys_expr::PhysExprPhysicalExpr::evaluate-returns-in-Count-clause-ticks t g c =
    subst (λ (e : PhysExpr). OnOk c.evaluate-in-Count.result (RunExactly (plan_of e).tree c.args.kernels.now c.evaluate-in-Count.new.kernels)) (sym c.in-Count.is) c.evaluate-in-Count.ensures.ticks

pub phys_expr::PhysExprPhysicalExpr::evaluate-returns-in-Count-clause-cost : goal.phys_expr::PhysExprPhysicalExpr::evaluate-returns-in-Count-clause-cost
phys_expr::PhysExprPhysicalExpr::evaluate-returns-in-Count-clause-cost t g c =
    subst (λ (e : PhysExpr). RunAtMost (plan_of e).tree (beside c.args.df.now c.args.state.now) c.args.kernels.now c.evaluate-in-Count.new.kernels) (sym c.in-Count.is) c.evaluate-in-Count.ensures.cost

pub phys_expr::PhysExprPhysicalExpr::evaluate-returns-in-Window-clause-value : goal.phys_expr::PhysExprPhysicalExpr::evaluate-returns-in-Window-clause-value
phys_expr::PhysExprPhysicalExpr::evaluate-returns-in-Window-clause-value t g c =
    subst (λ (e : PhysExpr). IfOk c.evaluate-in-Window.result (IsValue (plan_of e) (beside c.args.df.now c.args.state.now))) (sym c.in-Window.is) c.evaluate-in-Window.ensures.value

pub phys_expr::PhysExprPhysicalExpr::evaluate-returns-in-Window-clause-causes : goal.phys_expr::PhysExprPhysicalExpr::evaluate-returns-in-Window-clause-causes
phys_expr::PhysExprPhysicalExpr::evaluate-returns-in-Window-clause-causes t g c =
    subst (λ (e : PhysExpr). IfErr c.evaluate-in-Window.result (λ w. IsCause w (plan_of e) (beside c.args.df.now c.args.state.now))) (sym c.in-Window.is) c.evaluate-in-Window.ensures.causes

pub phys_expr::PhysExprPhysicalExpr::evaluate-returns-in-Window-clause-grouped : goal.phys_expr::PhysExprPhysicalExpr::evaluate-returns-in-Window-clause-grouped
phys_expr::PhysExprPhysicalExpr::evaluate-returns-in-Window-clause-grouped t g c =
    subst (λ (e : PhysExpr). OnOk c.evaluate-in-Window.result (c.evaluate-in-Window.new.groupings ≡ c.args.groupings.now + windows_in (plan_of e).tree)) (sym c.in-Window.is) c.evaluate-in-Window.ensures.grouped

pub phys_expr::PhysExprPhysicalExpr::evaluate-returns-in-Window-clause-grouped_most : goal.phys_expr::PhysExprPhysicalExpr::evaluate-returns-in-Window-clause-grouped_most
phys_expr::PhysExprPhysicalExpr::evaluate-returns-in-Window-clause-grouped_most t g c =
    subst (λ (e : PhysExpr). GroupedAtMost (plan_of e).tree c.args.groupings.now c.evaluate-in-Window.new.groupings) (sym c.in-Window.is) c.evaluate-in-Window.ensures.grouped_most

pub phys_expr::PhysExprPhysicalExpr::evaluate-returns-in-Window-clause-ticks : goal.phys_expr::PhysExprPhysicalExpr::evaluate-returns-in-Window-clause-ticks
phys_expr::PhysExprPhysicalExpr::evaluate-returns-in-Window-clause-ticks t g c =
    subst (λ (e : PhysExpr). OnOk c.evaluate-in-Window.result (RunExactly (plan_of e).tree c.args.kernels.now c.evaluate-in-Window.new.kernels)) (sym c.in-Window.is) c.evaluate-in-Window.ensures.ticks

pub phys_expr::PhysExprPhysicalExpr::evaluate-returns-in-Window-clause-cost : goal.phys_expr::PhysExprPhysicalExpr::evaluate-returns-in-Window-clause-cost
phys_expr::PhysExprPhysicalExpr::evaluate-returns-in-Window-clause-cost t g c =
    subst (λ (e : PhysExpr). RunAtMost (plan_of e).tree (beside c.args.df.now c.args.state.now) c.args.kernels.now c.evaluate-in-Window.new.kernels) (sym c.in-Window.is) c.evaluate-in-Window.ensures.cost
