use Rattle.std.proofs.Common.{Bool, ◌+◌, ◌-◌, length, map, ◌≡◌, ◌∙◌, ◌++◌, ◌⊎◌, [], ◌∷◌, Err, Ok, IfOk, IfErr, OnOk, List, ap, refl, subst, sym, ◌≤◌, false, true}
use Rattle.std.proofs.lemmas.Result.{err_from_is_err_and}
use Rattle.px_value.specs.Answer.{Answers}
use Rattle.px_window.specs.State.{beside}
use Rattle.px_tree.specs.Partition.{is_row_function}
use Rattle.px_tree.specs.Shape.{has_implode, is_literal_tree}
use Rattle.px_tree.specs.Tree.{called}
use Rattle.px_tree.specs.Typing.{grouped_reduction_refusals, implode_refusal, or_first, scalar_refusal}
use Rattle.px_group_nodes.specs.Function.{IsApplied, function_answers, function_type}
use Rattle.px_context.specs.Built.{renamed}
use Rattle.px_lanes.specs.Made.{IsRefusal, counts_in}
use Rattle.px_group_nodes.specs.Gather.{IsGathered, gather_answers, gathered_kind}
use Rattle.px_context.specs.Context.{Context, cell_kind}
use Rattle.px_value.specs.declared.error.PxError.{PxError}
use Rattle.px_group_nodes.specs.SortBy.{sort_by_answers, sort_by_kind, IsSortedBy}
use Rattle.px_answers.specs.Counted.{RunAllExactly, RunExactly}
use Rattle.px_answers.specs.Parts.{PlannedApply, PlannedGather, PlannedSortBy, filter_plan, gather_plan, plan_trees, slice_plan, sort_by_plan, sort_plan, PlannedBinary, PlannedCast, PlannedFilter, PlannedReduction, PlannedSlice, PlannedSort, PlannedTernary, binary_plan, ternary_plan, cast_plan, reduction_plan}
use Rattle.px_answers.specs.Planned.{Planned}
use Rattle.px_group_answers.proofs.ContextsInOrder.{all_contexts, next_cause, next_context, next_cost}
use Rattle.px_group_answers.proofs.GroupCounts.{alias_group_cost, apply_group_cost, apply_group_cost_inputs, apply_group_ticks_told, binary_group_cost, binary_group_cost_inputs, binary_group_cost_left, binary_group_ticks_told, cast_group_cost, cast_group_cost_input, cast_group_ticks_told, none_run, reduction_group_cost, reduction_group_cost_input, reduction_group_ticks_told, sort_by_group_cost, ternary_group_cost, ternary_group_cost_first, ternary_group_cost_inputs, ternary_group_cost_second, ternary_group_ticks_told, unflat_one, unflat_one_input, unflat_three, unflat_three_first, unflat_three_inputs, unflat_three_second, unflat_ticks_told, unflat_two, unflat_two_first, unflat_two_inputs}
use Rattle.px_group_answers.proofs.Lists.{allowed_inputs, apply_context, apply_input_group_cause, apply_refused, apply_tested, first_paired, keyed_context, keyed_own_refused, keyed_refused, sort_by_input_group_cause, sort_by_key_group_cause}
use Rattle.px_group_answers.proofs.Operands.{alias_group_cause, binary_context, binary_refused, cast_context, cast_refused, ternary_context, ternary_refused, left_group_cause, right_group_cause, predicate_group_cause, truthy_group_cause, falsy_group_cause, cast_group_cause}
use Rattle.px_group_answers.proofs.Reductions.{reduction_context, reduction_own_refused, reduction_refused, reduced_group_cause}
use Rattle.px_group_answers.proofs.Selections.{filter_context, filter_own_refused, filter_refused, gather_context, gather_own_refused, gather_refused, slice_context, slice_own_refused, slice_refused, sort_context, sort_own_refused, sort_refused, filter_input_group_cause, mask_group_cause, slice_input_group_cause, offset_group_cause, length_group_cause, gathered_group_cause, index_group_cause, sorted_group_cause}
use Rattle.px_group_answers.specs.Accepts.{input_refusals}
use Rattle.px_group_answers.specs.Counted.{RunAllOnGroups, RunOnGroups}
use Rattle.px_group_answers.specs.OnGroups.{AreContextsOf, IsContextOf, IsGroupCause, IsGroupCauseOfAny}
use Rattle.px_physical.specs.NodeView.{plan_of}
use Rattle.px_physical.specs.declared.phys_expr.PhysExpr.{PhysExpr}
use Rattle.px_column.specs.Cast.{cast_kind}
use Rattle.px_column.specs.Operator.{operator_kind}
use Rattle.px_column.specs.Reduction.{reduced_kind}
use Rattle.px_lanes.specs.Operator.{IsOperated, operator_answers}
use Rattle.px_lanes.specs.Casting.{IsCast, cast_answers, is_strict}
use Rattle.px_lanes.specs.Lane.{has_lane}
use Rattle.px_group_nodes.specs.Sorting.{IsSorted, sort_answers, sorted_kind}
use Rattle.px_group_nodes.specs.Reduction.{IsReduced, laid_count, reduction_answers}
use Rattle.px_group_answers.proofs.Paired.{two_paired, three_paired}
use Rattle.px_physical.proofs.Passing.{passed_on}
use Rattle.px_value.specs.declared.method.GroupByMethod.{GroupByMethod}
use Rattle.px_physical.proofs.Below.{context_at, context_below, group_cause_at, group_cause_below, group_cost_at, ticks_at, sliced_same}
use Rattle.px_physical.proofs.OnGroups.{keys_alone, keys_and_rows, keys_first, renamed_context}
use Rattle.px_physical.proofs.+groups.Goals as goal

pub binary::BinaryExprPhysicalExpr::evaluate_on_groups-returns-clause-context : goal.binary::BinaryExprPhysicalExpr::evaluate_on_groups-returns-clause-context
binary::BinaryExprPhysicalExpr::evaluate_on_groups-returns-clause-context t g c =
    let is_left = ap plan_of c.deref.ensures ∙ ap (λ (n : PlannedBinary). n.left) c.self.view_is in
    let x = context_at c.args.df.now c.args.state.now c.args.groups.now is_left c.in_ok-left.ensures.context in
    let is_right = ap plan_of c.deref-2.ensures ∙ ap (λ (n : PlannedBinary). n.right) c.self.view_is in
    let y = context_below c.args.df.now c.args.groups.now is_right c.evaluate_on_groups.ensures.frame c.in_ok-right.ensures.context in
    binary_context c.args.self.now (beside c.args.df.now c.args.state.now) c.args.groups.now c.in_ok-left.left c.in_ok-right.right x y c.binary_groups.result (subst (λ (n : PlannedBinary). IfOk c.binary_groups.result (IsOperated n.op c.in_ok-left.left c.in_ok-right.right)) c.self.view_is c.binary_groups.ensures.made) c.binary_groups.ensures.groups c.binary_groups.ensures.lane

pub binary::BinaryExprPhysicalExpr::evaluate_on_groups-returns-clause-causes : goal.binary::BinaryExprPhysicalExpr::evaluate_on_groups-returns-clause-causes
binary::BinaryExprPhysicalExpr::evaluate_on_groups-returns-clause-causes t g c =
    let is_left = ap plan_of c.deref.ensures ∙ ap (λ (n : PlannedBinary). n.left) c.self.view_is in
    let x = context_at c.args.df.now c.args.state.now c.args.groups.now is_left c.in_ok-left.ensures.context in
    let is_right = ap plan_of c.deref-2.ensures ∙ ap (λ (n : PlannedBinary). n.right) c.self.view_is in
    let y = context_below c.args.df.now c.args.groups.now is_right c.evaluate_on_groups.ensures.frame c.in_ok-right.ensures.context in
    binary_refused c.args.self.now (beside c.args.df.now c.args.state.now) c.args.groups.now c.in_ok-left.left c.in_ok-right.right x y c.binary_groups.result (subst (λ (n : PlannedBinary). IfErr c.binary_groups.result (λ e. (operator_kind n.op (cell_kind c.in_ok-left.left) (cell_kind c.in_ok-right.right) ≡ Err e) ⊎ IsRefusal e (operator_answers n.op c.in_ok-left.left c.in_ok-right.right) (counts_in (operator_answers n.op c.in_ok-left.left c.in_ok-right.right)))) c.self.view_is c.binary_groups.ensures.refused)

pub binary::BinaryExprPhysicalExpr::evaluate_on_groups-returns-clause-ticks : goal.binary::BinaryExprPhysicalExpr::evaluate_on_groups-returns-clause-ticks
binary::BinaryExprPhysicalExpr::evaluate_on_groups-returns-clause-ticks t g c =
    let is_left = ap plan_of c.deref.ensures ∙ ap (λ (n : PlannedBinary). n.left) c.self.view_is in
    let x = context_at c.args.df.now c.args.state.now c.args.groups.now is_left c.in_ok-left.ensures.context in
    let xt = ticks_at c.args.kernels.now c.evaluate_on_groups.new.kernels is_left c.in_ok-left.ensures.ticks in
    let is_right = ap plan_of c.deref-2.ensures ∙ ap (λ (n : PlannedBinary). n.right) c.self.view_is in
    let y = context_below c.args.df.now c.args.groups.now is_right c.evaluate_on_groups.ensures.frame c.in_ok-right.ensures.context in
    let yt = ticks_at c.evaluate_on_groups.new.kernels c.evaluate_on_groups-2.new.kernels is_right c.in_ok-right.ensures.ticks in
    binary_group_ticks_told c.binary_groups.result c.args.self.now.left c.args.self.now.right c.args.self.now.op (beside c.args.df.now c.args.state.now) c.args.groups.now c.in_ok-left.left c.in_ok-right.right c.args.kernels.now c.evaluate_on_groups.new.kernels c.evaluate_on_groups-2.new.kernels c.binary_groups.new.kernels x y xt yt c.binary_groups.ensures.ticks

pub binary::BinaryExprPhysicalExpr::evaluate_on_groups-returns-clause-cost : goal.binary::BinaryExprPhysicalExpr::evaluate_on_groups-returns-clause-cost
binary::BinaryExprPhysicalExpr::evaluate_on_groups-returns-clause-cost t g c =
    let is_left = ap plan_of c.deref.ensures ∙ ap (λ (n : PlannedBinary). n.left) c.self.view_is in
    let x = context_at c.args.df.now c.args.state.now c.args.groups.now is_left c.in_ok-left.ensures.context in
    let xc = group_cost_at is_left c.evaluate_on_groups.ensures.cost in
    let is_right = ap plan_of c.deref-2.ensures ∙ ap (λ (n : PlannedBinary). n.right) c.self.view_is in
    let y = context_below c.args.df.now c.args.groups.now is_right c.evaluate_on_groups.ensures.frame c.in_ok-right.ensures.context in
    let yc = group_cost_at is_right c.evaluate_on_groups-2.ensures.cost in
    binary_group_cost c.args.self.now.left c.args.self.now.right c.args.self.now.op (beside c.args.df.now c.args.state.now) c.args.groups.now c.in_ok-left.left c.in_ok-right.right c.args.kernels.now c.evaluate_on_groups.new.kernels c.evaluate_on_groups-2.new.kernels c.binary_groups.new.kernels x y xc yc c.binary_groups.ensures.rises c.binary_groups.ensures.most c.binary_groups.ensures.once

pub binary::BinaryExprPhysicalExpr::evaluate_on_groups-returns-in_err-left-clause-cost : goal.binary::BinaryExprPhysicalExpr::evaluate_on_groups-returns-in_err-left-clause-cost
binary::BinaryExprPhysicalExpr::evaluate_on_groups-returns-in_err-left-clause-cost t g c =
    let is_left = ap plan_of c.deref.ensures ∙ ap (λ (n : PlannedBinary). n.left) c.self.view_is in
    let xc = group_cost_at is_left c.evaluate_on_groups.ensures.cost in
    binary_group_cost_left c.args.self.now.left.tree c.args.self.now.right.tree c.args.self.now.op (length c.args.groups.now.groups) c.args.kernels.now c.evaluate_on_groups.new.kernels xc

pub binary::BinaryExprPhysicalExpr::evaluate_on_groups-returns-in_err-right-clause-cost : goal.binary::BinaryExprPhysicalExpr::evaluate_on_groups-returns-in_err-right-clause-cost
binary::BinaryExprPhysicalExpr::evaluate_on_groups-returns-in_err-right-clause-cost t g c =
    let is_left = ap plan_of c.deref.ensures ∙ ap (λ (n : PlannedBinary). n.left) c.self.view_is in
    let xc = group_cost_at is_left c.evaluate_on_groups.ensures.cost in
    let is_right = ap plan_of c.deref-2.ensures ∙ ap (λ (n : PlannedBinary). n.right) c.self.view_is in
    let yc = group_cost_at is_right c.evaluate_on_groups-2.ensures.cost in
    binary_group_cost_inputs c.args.self.now.left.tree c.args.self.now.right.tree c.args.self.now.op (length c.args.groups.now.groups) c.args.kernels.now c.evaluate_on_groups.new.kernels c.evaluate_on_groups-2.new.kernels xc yc

pub ternary::TernaryExprPhysicalExpr::evaluate_on_groups-returns-clause-context : goal.ternary::TernaryExprPhysicalExpr::evaluate_on_groups-returns-clause-context
ternary::TernaryExprPhysicalExpr::evaluate_on_groups-returns-clause-context t g c =
    let is_predicate = ap plan_of c.deref.ensures ∙ ap (λ (n : PlannedTernary). n.predicate) c.self.view_is in
    let x = context_at c.args.df.now c.args.state.now c.args.groups.now is_predicate c.in_ok-predicate.ensures.context in
    let is_truthy = ap plan_of c.deref-2.ensures ∙ ap (λ (n : PlannedTernary). n.truthy) c.self.view_is in
    let y = context_below c.args.df.now c.args.groups.now is_truthy c.evaluate_on_groups.ensures.frame c.in_ok-truthy.ensures.context in
    let is_falsy = ap plan_of c.deref-3.ensures ∙ ap (λ (n : PlannedTernary). n.falsy) c.self.view_is in
    let z = context_below c.args.df.now c.args.groups.now is_falsy (c.evaluate_on_groups-2.ensures.frame ∙ c.evaluate_on_groups.ensures.frame) c.in_ok-falsy.ensures.context in
    ternary_context c.args.self.now (beside c.args.df.now c.args.state.now) c.args.groups.now c.in_ok-predicate.predicate c.in_ok-truthy.truthy c.in_ok-falsy.falsy x y z c.ternary_groups.result c.ternary_groups.ensures.made c.ternary_groups.ensures.groups c.ternary_groups.ensures.lane

pub ternary::TernaryExprPhysicalExpr::evaluate_on_groups-returns-clause-causes : goal.ternary::TernaryExprPhysicalExpr::evaluate_on_groups-returns-clause-causes
ternary::TernaryExprPhysicalExpr::evaluate_on_groups-returns-clause-causes t g c =
    let is_predicate = ap plan_of c.deref.ensures ∙ ap (λ (n : PlannedTernary). n.predicate) c.self.view_is in
    let x = context_at c.args.df.now c.args.state.now c.args.groups.now is_predicate c.in_ok-predicate.ensures.context in
    let is_truthy = ap plan_of c.deref-2.ensures ∙ ap (λ (n : PlannedTernary). n.truthy) c.self.view_is in
    let y = context_below c.args.df.now c.args.groups.now is_truthy c.evaluate_on_groups.ensures.frame c.in_ok-truthy.ensures.context in
    let is_falsy = ap plan_of c.deref-3.ensures ∙ ap (λ (n : PlannedTernary). n.falsy) c.self.view_is in
    let z = context_below c.args.df.now c.args.groups.now is_falsy (c.evaluate_on_groups-2.ensures.frame ∙ c.evaluate_on_groups.ensures.frame) c.in_ok-falsy.ensures.context in
    ternary_refused c.args.self.now (beside c.args.df.now c.args.state.now) c.args.groups.now c.in_ok-predicate.predicate c.in_ok-truthy.truthy c.in_ok-falsy.falsy x y z c.ternary_groups.result c.ternary_groups.ensures.refused

pub ternary::TernaryExprPhysicalExpr::evaluate_on_groups-returns-clause-ticks : goal.ternary::TernaryExprPhysicalExpr::evaluate_on_groups-returns-clause-ticks
ternary::TernaryExprPhysicalExpr::evaluate_on_groups-returns-clause-ticks t g c =
    let is_predicate = ap plan_of c.deref.ensures ∙ ap (λ (n : PlannedTernary). n.predicate) c.self.view_is in
    let x = context_at c.args.df.now c.args.state.now c.args.groups.now is_predicate c.in_ok-predicate.ensures.context in
    let xt = ticks_at c.args.kernels.now c.evaluate_on_groups.new.kernels is_predicate c.in_ok-predicate.ensures.ticks in
    let is_truthy = ap plan_of c.deref-2.ensures ∙ ap (λ (n : PlannedTernary). n.truthy) c.self.view_is in
    let y = context_below c.args.df.now c.args.groups.now is_truthy c.evaluate_on_groups.ensures.frame c.in_ok-truthy.ensures.context in
    let yt = ticks_at c.evaluate_on_groups.new.kernels c.evaluate_on_groups-2.new.kernels is_truthy c.in_ok-truthy.ensures.ticks in
    let is_falsy = ap plan_of c.deref-3.ensures ∙ ap (λ (n : PlannedTernary). n.falsy) c.self.view_is in
    let z = context_below c.args.df.now c.args.groups.now is_falsy (c.evaluate_on_groups-2.ensures.frame ∙ c.evaluate_on_groups.ensures.frame) c.in_ok-falsy.ensures.context in
    let zt = ticks_at c.evaluate_on_groups-2.new.kernels c.evaluate_on_groups-3.new.kernels is_falsy c.in_ok-falsy.ensures.ticks in
    ternary_group_ticks_told c.ternary_groups.result c.args.self.now.predicate c.args.self.now.truthy c.args.self.now.falsy (beside c.args.df.now c.args.state.now) c.args.groups.now c.in_ok-predicate.predicate c.in_ok-truthy.truthy c.in_ok-falsy.falsy c.args.kernels.now c.evaluate_on_groups.new.kernels c.evaluate_on_groups-2.new.kernels c.evaluate_on_groups-3.new.kernels c.ternary_groups.new.kernels x y z xt yt zt c.ternary_groups.ensures.ticks

pub ternary::TernaryExprPhysicalExpr::evaluate_on_groups-returns-clause-cost : goal.ternary::TernaryExprPhysicalExpr::evaluate_on_groups-returns-clause-cost
ternary::TernaryExprPhysicalExpr::evaluate_on_groups-returns-clause-cost t g c =
    let is_predicate = ap plan_of c.deref.ensures ∙ ap (λ (n : PlannedTernary). n.predicate) c.self.view_is in
    let x = context_at c.args.df.now c.args.state.now c.args.groups.now is_predicate c.in_ok-predicate.ensures.context in
    let xc = group_cost_at is_predicate c.evaluate_on_groups.ensures.cost in
    let is_truthy = ap plan_of c.deref-2.ensures ∙ ap (λ (n : PlannedTernary). n.truthy) c.self.view_is in
    let y = context_below c.args.df.now c.args.groups.now is_truthy c.evaluate_on_groups.ensures.frame c.in_ok-truthy.ensures.context in
    let yc = group_cost_at is_truthy c.evaluate_on_groups-2.ensures.cost in
    let is_falsy = ap plan_of c.deref-3.ensures ∙ ap (λ (n : PlannedTernary). n.falsy) c.self.view_is in
    let z = context_below c.args.df.now c.args.groups.now is_falsy (c.evaluate_on_groups-2.ensures.frame ∙ c.evaluate_on_groups.ensures.frame) c.in_ok-falsy.ensures.context in
    let zc = group_cost_at is_falsy c.evaluate_on_groups-3.ensures.cost in
    ternary_group_cost c.args.self.now.predicate c.args.self.now.truthy c.args.self.now.falsy (beside c.args.df.now c.args.state.now) c.args.groups.now c.in_ok-predicate.predicate c.in_ok-truthy.truthy c.in_ok-falsy.falsy c.args.kernels.now c.evaluate_on_groups.new.kernels c.evaluate_on_groups-2.new.kernels c.evaluate_on_groups-3.new.kernels c.ternary_groups.new.kernels x y z xc yc zc c.ternary_groups.ensures.rises c.ternary_groups.ensures.most c.ternary_groups.ensures.once

pub ternary::TernaryExprPhysicalExpr::evaluate_on_groups-returns-in_err-predicate-clause-cost : goal.ternary::TernaryExprPhysicalExpr::evaluate_on_groups-returns-in_err-predicate-clause-cost
ternary::TernaryExprPhysicalExpr::evaluate_on_groups-returns-in_err-predicate-clause-cost t g c =
    let is_predicate = ap plan_of c.deref.ensures ∙ ap (λ (n : PlannedTernary). n.predicate) c.self.view_is in
    let xc = group_cost_at is_predicate c.evaluate_on_groups.ensures.cost in
    ternary_group_cost_first c.args.self.now.predicate.tree c.args.self.now.truthy.tree c.args.self.now.falsy.tree (length c.args.groups.now.groups) c.args.kernels.now c.evaluate_on_groups.new.kernels xc

pub ternary::TernaryExprPhysicalExpr::evaluate_on_groups-returns-in_err-truthy-clause-cost : goal.ternary::TernaryExprPhysicalExpr::evaluate_on_groups-returns-in_err-truthy-clause-cost
ternary::TernaryExprPhysicalExpr::evaluate_on_groups-returns-in_err-truthy-clause-cost t g c =
    let is_predicate = ap plan_of c.deref.ensures ∙ ap (λ (n : PlannedTernary). n.predicate) c.self.view_is in
    let xc = group_cost_at is_predicate c.evaluate_on_groups.ensures.cost in
    let is_truthy = ap plan_of c.deref-2.ensures ∙ ap (λ (n : PlannedTernary). n.truthy) c.self.view_is in
    let yc = group_cost_at is_truthy c.evaluate_on_groups-2.ensures.cost in
    ternary_group_cost_second c.args.self.now.predicate.tree c.args.self.now.truthy.tree c.args.self.now.falsy.tree (length c.args.groups.now.groups) c.args.kernels.now c.evaluate_on_groups.new.kernels c.evaluate_on_groups-2.new.kernels xc yc

pub ternary::TernaryExprPhysicalExpr::evaluate_on_groups-returns-in_err-falsy-clause-cost : goal.ternary::TernaryExprPhysicalExpr::evaluate_on_groups-returns-in_err-falsy-clause-cost
ternary::TernaryExprPhysicalExpr::evaluate_on_groups-returns-in_err-falsy-clause-cost t g c =
    let is_predicate = ap plan_of c.deref.ensures ∙ ap (λ (n : PlannedTernary). n.predicate) c.self.view_is in
    let xc = group_cost_at is_predicate c.evaluate_on_groups.ensures.cost in
    let is_truthy = ap plan_of c.deref-2.ensures ∙ ap (λ (n : PlannedTernary). n.truthy) c.self.view_is in
    let yc = group_cost_at is_truthy c.evaluate_on_groups-2.ensures.cost in
    let is_falsy = ap plan_of c.deref-3.ensures ∙ ap (λ (n : PlannedTernary). n.falsy) c.self.view_is in
    let zc = group_cost_at is_falsy c.evaluate_on_groups-3.ensures.cost in
    ternary_group_cost_inputs c.args.self.now.predicate.tree c.args.self.now.truthy.tree c.args.self.now.falsy.tree (length c.args.groups.now.groups) c.args.kernels.now c.evaluate_on_groups.new.kernels c.evaluate_on_groups-2.new.kernels c.evaluate_on_groups-3.new.kernels xc yc zc

pub cast::CastExprPhysicalExpr::evaluate_on_groups-returns-clause-context : goal.cast::CastExprPhysicalExpr::evaluate_on_groups-returns-clause-context
cast::CastExprPhysicalExpr::evaluate_on_groups-returns-clause-context t g c =
    let is_input = ap plan_of c.deref.ensures ∙ ap (λ (n : PlannedCast). n.input) c.self.view_is in
    let x = context_at c.args.df.now c.args.state.now c.args.groups.now is_input c.in_ok-input.ensures.context in
    cast_context c.args.self.now (beside c.args.df.now c.args.state.now) c.args.groups.now c.in_ok-input.input x c.cast_groups.result (subst (λ (n : PlannedCast). IfOk c.cast_groups.result (IsCast n.dtype n.options c.in_ok-input.input)) c.self.view_is c.cast_groups.ensures.made) c.cast_groups.ensures.groups (subst (λ (n : PlannedCast). is_strict n.options ≡ false → has_lane c.in_ok-input.input ≡ true → IfOk c.cast_groups.result (λ v. has_lane v ≡ true)) c.self.view_is c.cast_groups.ensures.lane)

pub cast::CastExprPhysicalExpr::evaluate_on_groups-returns-clause-causes : goal.cast::CastExprPhysicalExpr::evaluate_on_groups-returns-clause-causes
cast::CastExprPhysicalExpr::evaluate_on_groups-returns-clause-causes t g c =
    let is_input = ap plan_of c.deref.ensures ∙ ap (λ (n : PlannedCast). n.input) c.self.view_is in
    let x = context_at c.args.df.now c.args.state.now c.args.groups.now is_input c.in_ok-input.ensures.context in
    cast_refused c.args.self.now (beside c.args.df.now c.args.state.now) c.args.groups.now c.in_ok-input.input x c.cast_groups.result (subst (λ (n : PlannedCast). IfErr c.cast_groups.result (λ e. (cast_kind (cell_kind c.in_ok-input.input) n.dtype ≡ Err e) ⊎ IsRefusal e (cast_answers n.dtype n.options c.in_ok-input.input) (counts_in (cast_answers n.dtype n.options c.in_ok-input.input)))) c.self.view_is c.cast_groups.ensures.refused)

pub cast::CastExprPhysicalExpr::evaluate_on_groups-returns-clause-ticks : goal.cast::CastExprPhysicalExpr::evaluate_on_groups-returns-clause-ticks
cast::CastExprPhysicalExpr::evaluate_on_groups-returns-clause-ticks t g c =
    let is_input = ap plan_of c.deref.ensures ∙ ap (λ (n : PlannedCast). n.input) c.self.view_is in
    let x = context_at c.args.df.now c.args.state.now c.args.groups.now is_input c.in_ok-input.ensures.context in
    let xt = ticks_at c.args.kernels.now c.evaluate_on_groups.new.kernels is_input c.in_ok-input.ensures.ticks in
    cast_group_ticks_told c.cast_groups.result c.args.self.now.input c.args.self.now.dtype c.args.self.now.options (beside c.args.df.now c.args.state.now) c.args.groups.now c.in_ok-input.input c.args.kernels.now c.evaluate_on_groups.new.kernels c.cast_groups.new.kernels x xt (subst (λ (n : PlannedCast). is_strict n.options ≡ false → has_lane c.in_ok-input.input ≡ true → OnOk c.cast_groups.result (c.cast_groups.new.kernels ≡ c.evaluate_on_groups.new.kernels + 1)) c.self.view_is c.cast_groups.ensures.ticks)

pub cast::CastExprPhysicalExpr::evaluate_on_groups-returns-clause-cost : goal.cast::CastExprPhysicalExpr::evaluate_on_groups-returns-clause-cost
cast::CastExprPhysicalExpr::evaluate_on_groups-returns-clause-cost t g c =
    let is_input = ap plan_of c.deref.ensures ∙ ap (λ (n : PlannedCast). n.input) c.self.view_is in
    let x = context_at c.args.df.now c.args.state.now c.args.groups.now is_input c.in_ok-input.ensures.context in
    let xc = group_cost_at is_input c.evaluate_on_groups.ensures.cost in
    cast_group_cost c.args.self.now.input c.args.self.now.dtype c.args.self.now.options (beside c.args.df.now c.args.state.now) c.args.groups.now c.in_ok-input.input c.args.kernels.now c.evaluate_on_groups.new.kernels c.cast_groups.new.kernels x xc c.cast_groups.ensures.rises c.cast_groups.ensures.most (subst (λ (n : PlannedCast). is_strict n.options ≡ false → has_lane c.in_ok-input.input ≡ true → c.cast_groups.new.kernels ≤ c.evaluate_on_groups.new.kernels + 1) c.self.view_is c.cast_groups.ensures.once)

pub cast::CastExprPhysicalExpr::evaluate_on_groups-returns-in_err-input-clause-cost : goal.cast::CastExprPhysicalExpr::evaluate_on_groups-returns-in_err-input-clause-cost
cast::CastExprPhysicalExpr::evaluate_on_groups-returns-in_err-input-clause-cost t g c =
    let is_input = ap plan_of c.deref.ensures ∙ ap (λ (n : PlannedCast). n.input) c.self.view_is in
    let xc = group_cost_at is_input c.evaluate_on_groups.ensures.cost in
    cast_group_cost_input c.args.self.now.input.tree c.args.self.now.dtype c.args.self.now.options (length c.args.groups.now.groups) c.args.kernels.now c.evaluate_on_groups.new.kernels xc

pub filter::FilterExprPhysicalExpr::evaluate_on_groups-returns-clause-context : goal.filter::FilterExprPhysicalExpr::evaluate_on_groups-returns-clause-context
filter::FilterExprPhysicalExpr::evaluate_on_groups-returns-clause-context t g c =
    let is_input = ap plan_of c.deref.ensures ∙ ap (λ (n : PlannedFilter). n.input) c.self.view_is in
    let x = context_at c.args.df.now c.args.state.now c.args.groups.now is_input c.in_ok-input.ensures.context in
    let is_by = ap plan_of c.deref-2.ensures ∙ ap (λ (n : PlannedFilter). n.by) c.self.view_is in
    let y = context_below c.args.df.now c.args.groups.now is_by c.evaluate_on_groups.ensures.frame c.in_ok-by.ensures.context in
    let tested = ap plan_of c.deref-3.ensures ∙ ap (λ (n : PlannedFilter). n.input) c.self.view_is in
    let a = subst (λ (p : Planned). scalar_refusal p.tree ≡ []) tested c.in_ok-accept_rows.ensures in
    filter_context c.args.self.now (beside c.args.df.now c.args.state.now) c.args.groups.now c.in_ok-input.input c.in_ok-by.by x y a c.filter_groups.result c.filter_groups.ensures.made c.filter_groups.ensures.groups

pub filter::FilterExprPhysicalExpr::evaluate_on_groups-returns-clause-causes : goal.filter::FilterExprPhysicalExpr::evaluate_on_groups-returns-clause-causes
filter::FilterExprPhysicalExpr::evaluate_on_groups-returns-clause-causes t g c =
    let is_input = ap plan_of c.deref.ensures ∙ ap (λ (n : PlannedFilter). n.input) c.self.view_is in
    let x = context_at c.args.df.now c.args.state.now c.args.groups.now is_input c.in_ok-input.ensures.context in
    let is_by = ap plan_of c.deref-2.ensures ∙ ap (λ (n : PlannedFilter). n.by) c.self.view_is in
    let y = context_below c.args.df.now c.args.groups.now is_by c.evaluate_on_groups.ensures.frame c.in_ok-by.ensures.context in
    let tested = ap plan_of c.deref-3.ensures ∙ ap (λ (n : PlannedFilter). n.input) c.self.view_is in
    let a = subst (λ (p : Planned). scalar_refusal p.tree ≡ []) tested c.in_ok-accept_rows.ensures in
    filter_refused c.args.self.now (beside c.args.df.now c.args.state.now) c.args.groups.now c.in_ok-input.input c.in_ok-by.by x y a c.filter_groups.result c.filter_groups.ensures.refused

pub filter::FilterExprPhysicalExpr::evaluate_on_groups-returns-clause-cost : goal.filter::FilterExprPhysicalExpr::evaluate_on_groups-returns-clause-cost
filter::FilterExprPhysicalExpr::evaluate_on_groups-returns-clause-cost t g c =
    let is_input = ap plan_of c.deref.ensures ∙ ap (λ (n : PlannedFilter). n.input) c.self.view_is in
    let x = context_at c.args.df.now c.args.state.now c.args.groups.now is_input c.in_ok-input.ensures.context in
    let xc = group_cost_at is_input c.evaluate_on_groups.ensures.cost in
    let is_by = ap plan_of c.deref-2.ensures ∙ ap (λ (n : PlannedFilter). n.by) c.self.view_is in
    let y = context_below c.args.df.now c.args.groups.now is_by c.evaluate_on_groups.ensures.frame c.in_ok-by.ensures.context in
    let yc = group_cost_at is_by c.evaluate_on_groups-2.ensures.cost in
    unflat_two (filter_plan c.args.self.now).tree c.args.self.now.input c.args.self.now.by (beside c.args.df.now c.args.state.now) c.args.groups.now c.in_ok-input.input c.args.kernels.now c.evaluate_on_groups.new.kernels c.evaluate_on_groups-2.new.kernels c.filter_groups.new.kernels refl refl x xc yc c.filter_groups.ensures.rises c.filter_groups.ensures.most

pub filter::FilterExprPhysicalExpr::evaluate_on_groups-returns-clause-ticks : goal.filter::FilterExprPhysicalExpr::evaluate_on_groups-returns-clause-ticks
filter::FilterExprPhysicalExpr::evaluate_on_groups-returns-clause-ticks t g c =
    unflat_ticks_told c.filter_groups.result (filter_plan c.args.self.now).tree c.args.kernels.now c.filter_groups.new.kernels refl

pub filter::FilterExprPhysicalExpr::evaluate_on_groups-returns-in_err-input-clause-cost : goal.filter::FilterExprPhysicalExpr::evaluate_on_groups-returns-in_err-input-clause-cost
filter::FilterExprPhysicalExpr::evaluate_on_groups-returns-in_err-input-clause-cost t g c =
    let is_input = ap plan_of c.deref.ensures ∙ ap (λ (n : PlannedFilter). n.input) c.self.view_is in
    let xc = group_cost_at is_input c.evaluate_on_groups.ensures.cost in
    unflat_two_first (filter_plan c.args.self.now).tree c.args.self.now.input.tree c.args.self.now.by.tree (length c.args.groups.now.groups) c.args.kernels.now c.evaluate_on_groups.new.kernels refl refl xc

pub filter::FilterExprPhysicalExpr::evaluate_on_groups-returns-in_err-by-clause-cost : goal.filter::FilterExprPhysicalExpr::evaluate_on_groups-returns-in_err-by-clause-cost
filter::FilterExprPhysicalExpr::evaluate_on_groups-returns-in_err-by-clause-cost t g c =
    let is_input = ap plan_of c.deref.ensures ∙ ap (λ (n : PlannedFilter). n.input) c.self.view_is in
    let xc = group_cost_at is_input c.evaluate_on_groups.ensures.cost in
    let is_by = ap plan_of c.deref-2.ensures ∙ ap (λ (n : PlannedFilter). n.by) c.self.view_is in
    let yc = group_cost_at is_by c.evaluate_on_groups-2.ensures.cost in
    unflat_two_inputs (filter_plan c.args.self.now).tree c.args.self.now.input.tree c.args.self.now.by.tree (length c.args.groups.now.groups) c.args.kernels.now c.evaluate_on_groups.new.kernels c.evaluate_on_groups-2.new.kernels refl refl xc yc

pub filter::FilterExprPhysicalExpr::evaluate_on_groups-returns-in_err-accept_rows-clause-causes : goal.filter::FilterExprPhysicalExpr::evaluate_on_groups-returns-in_err-accept_rows-clause-causes
filter::FilterExprPhysicalExpr::evaluate_on_groups-returns-in_err-accept_rows-clause-causes t g c =
    let is_input = ap plan_of c.deref.ensures ∙ ap (λ (n : PlannedFilter). n.input) c.self.view_is in
    let x = context_at c.args.df.now c.args.state.now c.args.groups.now is_input c.in_ok-input.ensures.context in
    let is_by = ap plan_of c.deref-2.ensures ∙ ap (λ (n : PlannedFilter). n.by) c.self.view_is in
    let y = context_below c.args.df.now c.args.groups.now is_by c.evaluate_on_groups.ensures.frame c.in_ok-by.ensures.context in
    let p = err_from_is_err_and c.from_residual-in_err-accept_rows.result c.from_residual-in_err-accept_rows.ensures.1 in
    let tested = ap plan_of c.deref-3.ensures ∙ ap (λ (n : PlannedFilter). n.input) c.self.view_is in
    let own = subst (λ (p : Planned). or_first [] (scalar_refusal p.tree) ≡ c.in_err-accept_rows.field-0.0 ∷ []) tested c.in_err-accept_rows.ensures in
    rw (p.1, p.2) (filter_own_refused c.args.self.now (beside c.args.df.now c.args.state.now) c.args.groups.now c.in_ok-input.input c.in_ok-by.by x y c.in_err-accept_rows.field-0.0 own)

pub filter::FilterExprPhysicalExpr::evaluate_on_groups-returns-in_err-accept_rows-clause-cost : goal.filter::FilterExprPhysicalExpr::evaluate_on_groups-returns-in_err-accept_rows-clause-cost
filter::FilterExprPhysicalExpr::evaluate_on_groups-returns-in_err-accept_rows-clause-cost t g c =
    let is_input = ap plan_of c.deref.ensures ∙ ap (λ (n : PlannedFilter). n.input) c.self.view_is in
    let xc = group_cost_at is_input c.evaluate_on_groups.ensures.cost in
    let is_by = ap plan_of c.deref-2.ensures ∙ ap (λ (n : PlannedFilter). n.by) c.self.view_is in
    let yc = group_cost_at is_by c.evaluate_on_groups-2.ensures.cost in
    unflat_two_inputs (filter_plan c.args.self.now).tree c.args.self.now.input.tree c.args.self.now.by.tree (length c.args.groups.now.groups) c.args.kernels.now c.evaluate_on_groups.new.kernels c.evaluate_on_groups-2.new.kernels refl refl xc yc

pub slice::SliceExprPhysicalExpr::evaluate_on_groups-returns-clause-context : goal.slice::SliceExprPhysicalExpr::evaluate_on_groups-returns-clause-context
slice::SliceExprPhysicalExpr::evaluate_on_groups-returns-clause-context t g c =
    let is_input = ap plan_of c.deref.ensures ∙ ap (λ (n : PlannedSlice). n.input) c.self.view_is in
    let x = context_at c.args.df.now c.args.state.now c.args.groups.now is_input c.in_ok-input.ensures.context in
    let is_offset = ap plan_of c.deref-2.ensures ∙ ap (λ (n : PlannedSlice). n.offset) c.self.view_is in
    let y = context_below c.args.df.now c.args.groups.now is_offset c.evaluate_on_groups.ensures.frame c.in_ok-offset.ensures.context in
    let is_length = ap plan_of c.deref-3.ensures ∙ ap (λ (n : PlannedSlice). n.length) c.self.view_is in
    let z = context_below c.args.df.now c.args.groups.now is_length (c.evaluate_on_groups-2.ensures.frame ∙ c.evaluate_on_groups.ensures.frame) c.in_ok-length.ensures.context in
    let tested_input = ap plan_of c.deref-4.ensures ∙ ap (λ (n : PlannedSlice). n.input) c.self.view_is in
    let tested_offset = ap plan_of c.deref-5.ensures ∙ ap (λ (n : PlannedSlice). n.offset) c.self.view_is in
    let tested_length = ap plan_of c.deref-6.ensures ∙ ap (λ (n : PlannedSlice). n.length) c.self.view_is in
    let same = sliced_same (plan_of c.deref-4.result.now) (plan_of c.deref-5.result.now) (plan_of c.deref-6.result.now) c.args.self.now.input c.args.self.now.offset c.args.self.now.length tested_input tested_offset tested_length in
    let a : implode_refusal (has_implode (slice_plan c.args.self.now).tree) ++ scalar_refusal c.args.self.now.input.tree ≡ [] = same ∙ c.in_ok-accept_slice.ensures in
    slice_context c.args.self.now (beside c.args.df.now c.args.state.now) c.args.groups.now c.in_ok-input.input c.in_ok-offset.offset c.in_ok-length.length x y z a c.slice_groups.result c.slice_groups.ensures.made c.slice_groups.ensures.groups

pub slice::SliceExprPhysicalExpr::evaluate_on_groups-returns-clause-causes : goal.slice::SliceExprPhysicalExpr::evaluate_on_groups-returns-clause-causes
slice::SliceExprPhysicalExpr::evaluate_on_groups-returns-clause-causes t g c =
    let is_input = ap plan_of c.deref.ensures ∙ ap (λ (n : PlannedSlice). n.input) c.self.view_is in
    let x = context_at c.args.df.now c.args.state.now c.args.groups.now is_input c.in_ok-input.ensures.context in
    let is_offset = ap plan_of c.deref-2.ensures ∙ ap (λ (n : PlannedSlice). n.offset) c.self.view_is in
    let y = context_below c.args.df.now c.args.groups.now is_offset c.evaluate_on_groups.ensures.frame c.in_ok-offset.ensures.context in
    let is_length = ap plan_of c.deref-3.ensures ∙ ap (λ (n : PlannedSlice). n.length) c.self.view_is in
    let z = context_below c.args.df.now c.args.groups.now is_length (c.evaluate_on_groups-2.ensures.frame ∙ c.evaluate_on_groups.ensures.frame) c.in_ok-length.ensures.context in
    let tested_input = ap plan_of c.deref-4.ensures ∙ ap (λ (n : PlannedSlice). n.input) c.self.view_is in
    let tested_offset = ap plan_of c.deref-5.ensures ∙ ap (λ (n : PlannedSlice). n.offset) c.self.view_is in
    let tested_length = ap plan_of c.deref-6.ensures ∙ ap (λ (n : PlannedSlice). n.length) c.self.view_is in
    let same = sliced_same (plan_of c.deref-4.result.now) (plan_of c.deref-5.result.now) (plan_of c.deref-6.result.now) c.args.self.now.input c.args.self.now.offset c.args.self.now.length tested_input tested_offset tested_length in
    let a : implode_refusal (has_implode (slice_plan c.args.self.now).tree) ++ scalar_refusal c.args.self.now.input.tree ≡ [] = same ∙ c.in_ok-accept_slice.ensures in
    slice_refused c.args.self.now (beside c.args.df.now c.args.state.now) c.args.groups.now c.in_ok-input.input c.in_ok-offset.offset c.in_ok-length.length x y z a c.slice_groups.result c.slice_groups.ensures.refused

pub slice::SliceExprPhysicalExpr::evaluate_on_groups-returns-clause-cost : goal.slice::SliceExprPhysicalExpr::evaluate_on_groups-returns-clause-cost
slice::SliceExprPhysicalExpr::evaluate_on_groups-returns-clause-cost t g c =
    let is_input = ap plan_of c.deref.ensures ∙ ap (λ (n : PlannedSlice). n.input) c.self.view_is in
    let x = context_at c.args.df.now c.args.state.now c.args.groups.now is_input c.in_ok-input.ensures.context in
    let xc = group_cost_at is_input c.evaluate_on_groups.ensures.cost in
    let is_offset = ap plan_of c.deref-2.ensures ∙ ap (λ (n : PlannedSlice). n.offset) c.self.view_is in
    let y = context_below c.args.df.now c.args.groups.now is_offset c.evaluate_on_groups.ensures.frame c.in_ok-offset.ensures.context in
    let yc = group_cost_at is_offset c.evaluate_on_groups-2.ensures.cost in
    let is_length = ap plan_of c.deref-3.ensures ∙ ap (λ (n : PlannedSlice). n.length) c.self.view_is in
    let z = context_below c.args.df.now c.args.groups.now is_length (c.evaluate_on_groups-2.ensures.frame ∙ c.evaluate_on_groups.ensures.frame) c.in_ok-length.ensures.context in
    let zc = group_cost_at is_length c.evaluate_on_groups-3.ensures.cost in
    unflat_three (slice_plan c.args.self.now).tree c.args.self.now.input c.args.self.now.offset c.args.self.now.length (beside c.args.df.now c.args.state.now) c.args.groups.now c.in_ok-input.input c.args.kernels.now c.evaluate_on_groups.new.kernels c.evaluate_on_groups-2.new.kernels c.evaluate_on_groups-3.new.kernels c.slice_groups.new.kernels refl refl x xc yc zc c.slice_groups.ensures.rises c.slice_groups.ensures.most

pub slice::SliceExprPhysicalExpr::evaluate_on_groups-returns-clause-ticks : goal.slice::SliceExprPhysicalExpr::evaluate_on_groups-returns-clause-ticks
slice::SliceExprPhysicalExpr::evaluate_on_groups-returns-clause-ticks t g c =
    unflat_ticks_told c.slice_groups.result (slice_plan c.args.self.now).tree c.args.kernels.now c.slice_groups.new.kernels refl

pub slice::SliceExprPhysicalExpr::evaluate_on_groups-returns-in_err-input-clause-cost : goal.slice::SliceExprPhysicalExpr::evaluate_on_groups-returns-in_err-input-clause-cost
slice::SliceExprPhysicalExpr::evaluate_on_groups-returns-in_err-input-clause-cost t g c =
    let is_input = ap plan_of c.deref.ensures ∙ ap (λ (n : PlannedSlice). n.input) c.self.view_is in
    let xc = group_cost_at is_input c.evaluate_on_groups.ensures.cost in
    unflat_three_first (slice_plan c.args.self.now).tree c.args.self.now.input.tree c.args.self.now.offset.tree c.args.self.now.length.tree (length c.args.groups.now.groups) c.args.kernels.now c.evaluate_on_groups.new.kernels refl refl xc

pub slice::SliceExprPhysicalExpr::evaluate_on_groups-returns-in_err-offset-clause-cost : goal.slice::SliceExprPhysicalExpr::evaluate_on_groups-returns-in_err-offset-clause-cost
slice::SliceExprPhysicalExpr::evaluate_on_groups-returns-in_err-offset-clause-cost t g c =
    let is_input = ap plan_of c.deref.ensures ∙ ap (λ (n : PlannedSlice). n.input) c.self.view_is in
    let xc = group_cost_at is_input c.evaluate_on_groups.ensures.cost in
    let is_offset = ap plan_of c.deref-2.ensures ∙ ap (λ (n : PlannedSlice). n.offset) c.self.view_is in
    let yc = group_cost_at is_offset c.evaluate_on_groups-2.ensures.cost in
    unflat_three_second (slice_plan c.args.self.now).tree c.args.self.now.input.tree c.args.self.now.offset.tree c.args.self.now.length.tree (length c.args.groups.now.groups) c.args.kernels.now c.evaluate_on_groups.new.kernels c.evaluate_on_groups-2.new.kernels refl refl xc yc

pub slice::SliceExprPhysicalExpr::evaluate_on_groups-returns-in_err-length-clause-cost : goal.slice::SliceExprPhysicalExpr::evaluate_on_groups-returns-in_err-length-clause-cost
slice::SliceExprPhysicalExpr::evaluate_on_groups-returns-in_err-length-clause-cost t g c =
    let is_input = ap plan_of c.deref.ensures ∙ ap (λ (n : PlannedSlice). n.input) c.self.view_is in
    let xc = group_cost_at is_input c.evaluate_on_groups.ensures.cost in
    let is_offset = ap plan_of c.deref-2.ensures ∙ ap (λ (n : PlannedSlice). n.offset) c.self.view_is in
    let yc = group_cost_at is_offset c.evaluate_on_groups-2.ensures.cost in
    let is_length = ap plan_of c.deref-3.ensures ∙ ap (λ (n : PlannedSlice). n.length) c.self.view_is in
    let zc = group_cost_at is_length c.evaluate_on_groups-3.ensures.cost in
    unflat_three_inputs (slice_plan c.args.self.now).tree c.args.self.now.input.tree c.args.self.now.offset.tree c.args.self.now.length.tree (length c.args.groups.now.groups) c.args.kernels.now c.evaluate_on_groups.new.kernels c.evaluate_on_groups-2.new.kernels c.evaluate_on_groups-3.new.kernels refl refl xc yc zc

pub slice::SliceExprPhysicalExpr::evaluate_on_groups-returns-in_err-accept_slice-clause-causes : goal.slice::SliceExprPhysicalExpr::evaluate_on_groups-returns-in_err-accept_slice-clause-causes
slice::SliceExprPhysicalExpr::evaluate_on_groups-returns-in_err-accept_slice-clause-causes t g c =
    let is_input = ap plan_of c.deref.ensures ∙ ap (λ (n : PlannedSlice). n.input) c.self.view_is in
    let x = context_at c.args.df.now c.args.state.now c.args.groups.now is_input c.in_ok-input.ensures.context in
    let is_offset = ap plan_of c.deref-2.ensures ∙ ap (λ (n : PlannedSlice). n.offset) c.self.view_is in
    let y = context_below c.args.df.now c.args.groups.now is_offset c.evaluate_on_groups.ensures.frame c.in_ok-offset.ensures.context in
    let is_length = ap plan_of c.deref-3.ensures ∙ ap (λ (n : PlannedSlice). n.length) c.self.view_is in
    let z = context_below c.args.df.now c.args.groups.now is_length (c.evaluate_on_groups-2.ensures.frame ∙ c.evaluate_on_groups.ensures.frame) c.in_ok-length.ensures.context in
    let p = err_from_is_err_and c.from_residual-in_err-accept_slice.result c.from_residual-in_err-accept_slice.ensures.1 in
    let tested_input = ap plan_of c.deref-4.ensures ∙ ap (λ (n : PlannedSlice). n.input) c.self.view_is in
    let tested_offset = ap plan_of c.deref-5.ensures ∙ ap (λ (n : PlannedSlice). n.offset) c.self.view_is in
    let tested_length = ap plan_of c.deref-6.ensures ∙ ap (λ (n : PlannedSlice). n.length) c.self.view_is in
    let same = sliced_same (plan_of c.deref-4.result.now) (plan_of c.deref-5.result.now) (plan_of c.deref-6.result.now) c.args.self.now.input c.args.self.now.offset c.args.self.now.length tested_input tested_offset tested_length in
    let own : or_first [] (implode_refusal (has_implode (slice_plan c.args.self.now).tree) ++ scalar_refusal c.args.self.now.input.tree) ≡ c.in_err-accept_slice.field-0.0 ∷ [] = ap (or_first []) same ∙ c.in_err-accept_slice.ensures in
    rw (p.1, p.2) (slice_own_refused c.args.self.now (beside c.args.df.now c.args.state.now) c.args.groups.now c.in_ok-input.input c.in_ok-offset.offset c.in_ok-length.length x y z c.in_err-accept_slice.field-0.0 own)

pub slice::SliceExprPhysicalExpr::evaluate_on_groups-returns-in_err-accept_slice-clause-cost : goal.slice::SliceExprPhysicalExpr::evaluate_on_groups-returns-in_err-accept_slice-clause-cost
slice::SliceExprPhysicalExpr::evaluate_on_groups-returns-in_err-accept_slice-clause-cost t g c =
    let is_input = ap plan_of c.deref.ensures ∙ ap (λ (n : PlannedSlice). n.input) c.self.view_is in
    let xc = group_cost_at is_input c.evaluate_on_groups.ensures.cost in
    let is_offset = ap plan_of c.deref-2.ensures ∙ ap (λ (n : PlannedSlice). n.offset) c.self.view_is in
    let yc = group_cost_at is_offset c.evaluate_on_groups-2.ensures.cost in
    let is_length = ap plan_of c.deref-3.ensures ∙ ap (λ (n : PlannedSlice). n.length) c.self.view_is in
    let zc = group_cost_at is_length c.evaluate_on_groups-3.ensures.cost in
    unflat_three_inputs (slice_plan c.args.self.now).tree c.args.self.now.input.tree c.args.self.now.offset.tree c.args.self.now.length.tree (length c.args.groups.now.groups) c.args.kernels.now c.evaluate_on_groups.new.kernels c.evaluate_on_groups-2.new.kernels c.evaluate_on_groups-3.new.kernels refl refl xc yc zc

pub gather::GatherExprPhysicalExpr::evaluate_on_groups-returns-clause-context : goal.gather::GatherExprPhysicalExpr::evaluate_on_groups-returns-clause-context
gather::GatherExprPhysicalExpr::evaluate_on_groups-returns-clause-context t g c =
    let is_phys_expr = ap plan_of c.deref.ensures ∙ ap (λ (n : PlannedGather). n.phys_expr) c.self.view_is in
    let x = context_at c.args.df.now c.args.state.now c.args.groups.now is_phys_expr c.in_ok-input.ensures.context in
    let is_idx = ap plan_of c.deref-2.ensures ∙ ap (λ (n : PlannedGather). n.idx) c.self.view_is in
    let y = context_below c.args.df.now c.args.groups.now is_idx c.evaluate_on_groups.ensures.frame c.in_ok-idx.ensures.context in
    let tested = ap plan_of c.deref-3.ensures ∙ ap (λ (n : PlannedGather). n.phys_expr) c.self.view_is in
    let a = subst (λ (p : Planned). scalar_refusal p.tree ≡ []) tested c.in_ok-accept_rows.ensures in
    let one = ap (λ (p : PlannedGather). p.returns_scalar) c.self.view_is in
    let idx = ap plan_of c.deref-4.ensures ∙ ap (λ (n : PlannedGather). n.idx) c.self.view_is in
    let literals = c.has_literals_alone-is_literal.ensures ∙ ap (λ (p : Planned). is_literal_tree p.tree) idx in
    gather_context c.args.self.now (beside c.args.df.now c.args.state.now) c.args.groups.now c.in_ok-input.input c.in_ok-idx.idx x y a c.gather_groups.result
    (subst (λ (b : Bool). IfOk c.gather_groups.result (IsGathered b (is_literal_tree c.args.self.now.idx.tree) c.in_ok-input.input c.in_ok-idx.idx)) one
    (subst (λ (b : Bool). IfOk c.gather_groups.result (IsGathered c.self.inside.returns_scalar b c.in_ok-input.input c.in_ok-idx.idx)) literals c.gather_groups.ensures.made))
    c.gather_groups.ensures.groups

-- why a gather's answer may be refused
abbrev GatherRefusal : Bool → Bool → Context → Context → PxError → Type 0
GatherRefusal one literals x y e = (gathered_kind one x y ≡ Err e) ⊎ IsRefusal e (gather_answers one literals x y) (counts_in (gather_answers one literals x y))

pub gather::GatherExprPhysicalExpr::evaluate_on_groups-returns-clause-causes : goal.gather::GatherExprPhysicalExpr::evaluate_on_groups-returns-clause-causes
gather::GatherExprPhysicalExpr::evaluate_on_groups-returns-clause-causes t g c =
    let is_phys_expr = ap plan_of c.deref.ensures ∙ ap (λ (n : PlannedGather). n.phys_expr) c.self.view_is in
    let x = context_at c.args.df.now c.args.state.now c.args.groups.now is_phys_expr c.in_ok-input.ensures.context in
    let is_idx = ap plan_of c.deref-2.ensures ∙ ap (λ (n : PlannedGather). n.idx) c.self.view_is in
    let y = context_below c.args.df.now c.args.groups.now is_idx c.evaluate_on_groups.ensures.frame c.in_ok-idx.ensures.context in
    let tested = ap plan_of c.deref-3.ensures ∙ ap (λ (n : PlannedGather). n.phys_expr) c.self.view_is in
    let a = subst (λ (p : Planned). scalar_refusal p.tree ≡ []) tested c.in_ok-accept_rows.ensures in
    let one = ap (λ (p : PlannedGather). p.returns_scalar) c.self.view_is in
    let idx = ap plan_of c.deref-4.ensures ∙ ap (λ (n : PlannedGather). n.idx) c.self.view_is in
    let literals = c.has_literals_alone-is_literal.ensures ∙ ap (λ (p : Planned). is_literal_tree p.tree) idx in
    gather_refused c.args.self.now (beside c.args.df.now c.args.state.now) c.args.groups.now c.in_ok-input.input c.in_ok-idx.idx x y a c.gather_groups.result
    (subst (λ (b : Bool). IfErr c.gather_groups.result (GatherRefusal b (is_literal_tree c.args.self.now.idx.tree) c.in_ok-input.input c.in_ok-idx.idx)) one
    (subst (λ (b : Bool). IfErr c.gather_groups.result (GatherRefusal c.self.inside.returns_scalar b c.in_ok-input.input c.in_ok-idx.idx)) literals c.gather_groups.ensures.refused))

pub gather::GatherExprPhysicalExpr::evaluate_on_groups-returns-clause-cost : goal.gather::GatherExprPhysicalExpr::evaluate_on_groups-returns-clause-cost
gather::GatherExprPhysicalExpr::evaluate_on_groups-returns-clause-cost t g c =
    let is_phys_expr = ap plan_of c.deref.ensures ∙ ap (λ (n : PlannedGather). n.phys_expr) c.self.view_is in
    let x = context_at c.args.df.now c.args.state.now c.args.groups.now is_phys_expr c.in_ok-input.ensures.context in
    let xc = group_cost_at is_phys_expr c.evaluate_on_groups.ensures.cost in
    let is_idx = ap plan_of c.deref-2.ensures ∙ ap (λ (n : PlannedGather). n.idx) c.self.view_is in
    let y = context_below c.args.df.now c.args.groups.now is_idx c.evaluate_on_groups.ensures.frame c.in_ok-idx.ensures.context in
    let yc = group_cost_at is_idx c.evaluate_on_groups-2.ensures.cost in
    unflat_two (gather_plan c.args.self.now).tree c.args.self.now.phys_expr c.args.self.now.idx (beside c.args.df.now c.args.state.now) c.args.groups.now c.in_ok-input.input c.args.kernels.now c.evaluate_on_groups.new.kernels c.evaluate_on_groups-2.new.kernels c.gather_groups.new.kernels refl refl x xc yc c.gather_groups.ensures.rises c.gather_groups.ensures.most

pub gather::GatherExprPhysicalExpr::evaluate_on_groups-returns-clause-ticks : goal.gather::GatherExprPhysicalExpr::evaluate_on_groups-returns-clause-ticks
gather::GatherExprPhysicalExpr::evaluate_on_groups-returns-clause-ticks t g c =
    unflat_ticks_told c.gather_groups.result (gather_plan c.args.self.now).tree c.args.kernels.now c.gather_groups.new.kernels refl

pub gather::GatherExprPhysicalExpr::evaluate_on_groups-returns-in_err-input-clause-cost : goal.gather::GatherExprPhysicalExpr::evaluate_on_groups-returns-in_err-input-clause-cost
gather::GatherExprPhysicalExpr::evaluate_on_groups-returns-in_err-input-clause-cost t g c =
    let is_phys_expr = ap plan_of c.deref.ensures ∙ ap (λ (n : PlannedGather). n.phys_expr) c.self.view_is in
    let xc = group_cost_at is_phys_expr c.evaluate_on_groups.ensures.cost in
    unflat_two_first (gather_plan c.args.self.now).tree c.args.self.now.phys_expr.tree c.args.self.now.idx.tree (length c.args.groups.now.groups) c.args.kernels.now c.evaluate_on_groups.new.kernels refl refl xc

pub gather::GatherExprPhysicalExpr::evaluate_on_groups-returns-in_err-idx-clause-cost : goal.gather::GatherExprPhysicalExpr::evaluate_on_groups-returns-in_err-idx-clause-cost
gather::GatherExprPhysicalExpr::evaluate_on_groups-returns-in_err-idx-clause-cost t g c =
    let is_phys_expr = ap plan_of c.deref.ensures ∙ ap (λ (n : PlannedGather). n.phys_expr) c.self.view_is in
    let xc = group_cost_at is_phys_expr c.evaluate_on_groups.ensures.cost in
    let is_idx = ap plan_of c.deref-2.ensures ∙ ap (λ (n : PlannedGather). n.idx) c.self.view_is in
    let yc = group_cost_at is_idx c.evaluate_on_groups-2.ensures.cost in
    unflat_two_inputs (gather_plan c.args.self.now).tree c.args.self.now.phys_expr.tree c.args.self.now.idx.tree (length c.args.groups.now.groups) c.args.kernels.now c.evaluate_on_groups.new.kernels c.evaluate_on_groups-2.new.kernels refl refl xc yc

pub gather::GatherExprPhysicalExpr::evaluate_on_groups-returns-in_err-accept_rows-clause-causes : goal.gather::GatherExprPhysicalExpr::evaluate_on_groups-returns-in_err-accept_rows-clause-causes
gather::GatherExprPhysicalExpr::evaluate_on_groups-returns-in_err-accept_rows-clause-causes t g c =
    let is_phys_expr = ap plan_of c.deref.ensures ∙ ap (λ (n : PlannedGather). n.phys_expr) c.self.view_is in
    let x = context_at c.args.df.now c.args.state.now c.args.groups.now is_phys_expr c.in_ok-input.ensures.context in
    let is_idx = ap plan_of c.deref-2.ensures ∙ ap (λ (n : PlannedGather). n.idx) c.self.view_is in
    let y = context_below c.args.df.now c.args.groups.now is_idx c.evaluate_on_groups.ensures.frame c.in_ok-idx.ensures.context in
    let p = err_from_is_err_and c.from_residual-in_err-accept_rows.result c.from_residual-in_err-accept_rows.ensures.1 in
    let tested = ap plan_of c.deref-3.ensures ∙ ap (λ (n : PlannedGather). n.phys_expr) c.self.view_is in
    let own = subst (λ (p : Planned). or_first [] (scalar_refusal p.tree) ≡ c.in_err-accept_rows.field-0.0 ∷ []) tested c.in_err-accept_rows.ensures in
    rw (p.1, p.2) (gather_own_refused c.args.self.now (beside c.args.df.now c.args.state.now) c.args.groups.now c.in_ok-input.input c.in_ok-idx.idx x y c.in_err-accept_rows.field-0.0 own)

pub gather::GatherExprPhysicalExpr::evaluate_on_groups-returns-in_err-accept_rows-clause-cost : goal.gather::GatherExprPhysicalExpr::evaluate_on_groups-returns-in_err-accept_rows-clause-cost
gather::GatherExprPhysicalExpr::evaluate_on_groups-returns-in_err-accept_rows-clause-cost t g c =
    let is_phys_expr = ap plan_of c.deref.ensures ∙ ap (λ (n : PlannedGather). n.phys_expr) c.self.view_is in
    let xc = group_cost_at is_phys_expr c.evaluate_on_groups.ensures.cost in
    let is_idx = ap plan_of c.deref-2.ensures ∙ ap (λ (n : PlannedGather). n.idx) c.self.view_is in
    let yc = group_cost_at is_idx c.evaluate_on_groups-2.ensures.cost in
    unflat_two_inputs (gather_plan c.args.self.now).tree c.args.self.now.phys_expr.tree c.args.self.now.idx.tree (length c.args.groups.now.groups) c.args.kernels.now c.evaluate_on_groups.new.kernels c.evaluate_on_groups-2.new.kernels refl refl xc yc

pub sort::SortExprPhysicalExpr::evaluate_on_groups-returns-clause-context : goal.sort::SortExprPhysicalExpr::evaluate_on_groups-returns-clause-context
sort::SortExprPhysicalExpr::evaluate_on_groups-returns-clause-context t g c =
    let is_physical_expr = ap plan_of c.deref.ensures ∙ ap (λ (n : PlannedSort). n.physical_expr) c.self.view_is in
    let x = context_at c.args.df.now c.args.state.now c.args.groups.now is_physical_expr c.in_ok-input.ensures.context in
    let tested = ap plan_of c.deref-2.ensures ∙ ap (λ (n : PlannedSort). n.physical_expr) c.self.view_is in
    let a = subst (λ (p : Planned). scalar_refusal p.tree ≡ []) tested c.in_ok-accept_rows.ensures in
    sort_context c.args.self.now (beside c.args.df.now c.args.state.now) c.args.groups.now c.in_ok-input.input x a c.sort_groups_cells.result (subst (λ (n : PlannedSort). IfOk c.sort_groups_cells.result (IsSorted n.options c.in_ok-input.input)) c.self.view_is c.sort_groups_cells.ensures.made) c.sort_groups_cells.ensures.groups

pub sort::SortExprPhysicalExpr::evaluate_on_groups-returns-clause-causes : goal.sort::SortExprPhysicalExpr::evaluate_on_groups-returns-clause-causes
sort::SortExprPhysicalExpr::evaluate_on_groups-returns-clause-causes t g c =
    let is_physical_expr = ap plan_of c.deref.ensures ∙ ap (λ (n : PlannedSort). n.physical_expr) c.self.view_is in
    let x = context_at c.args.df.now c.args.state.now c.args.groups.now is_physical_expr c.in_ok-input.ensures.context in
    let tested = ap plan_of c.deref-2.ensures ∙ ap (λ (n : PlannedSort). n.physical_expr) c.self.view_is in
    let a = subst (λ (p : Planned). scalar_refusal p.tree ≡ []) tested c.in_ok-accept_rows.ensures in
    sort_refused c.args.self.now (beside c.args.df.now c.args.state.now) c.args.groups.now c.in_ok-input.input x a c.sort_groups_cells.result (subst (λ (n : PlannedSort). IfErr c.sort_groups_cells.result (λ e. (sorted_kind (cell_kind c.in_ok-input.input) ≡ Err e) ⊎ IsRefusal e (sort_answers n.options c.in_ok-input.input) (counts_in (sort_answers n.options c.in_ok-input.input)))) c.self.view_is c.sort_groups_cells.ensures.refused)

pub sort::SortExprPhysicalExpr::evaluate_on_groups-returns-clause-cost : goal.sort::SortExprPhysicalExpr::evaluate_on_groups-returns-clause-cost
sort::SortExprPhysicalExpr::evaluate_on_groups-returns-clause-cost t g c =
    let is_physical_expr = ap plan_of c.deref.ensures ∙ ap (λ (n : PlannedSort). n.physical_expr) c.self.view_is in
    let x = context_at c.args.df.now c.args.state.now c.args.groups.now is_physical_expr c.in_ok-input.ensures.context in
    let xc = group_cost_at is_physical_expr c.evaluate_on_groups.ensures.cost in
    unflat_one (sort_plan c.args.self.now).tree c.args.self.now.physical_expr (beside c.args.df.now c.args.state.now) c.args.groups.now c.in_ok-input.input c.args.kernels.now c.evaluate_on_groups.new.kernels c.sort_groups_cells.new.kernels refl refl x xc c.sort_groups_cells.ensures.rises c.sort_groups_cells.ensures.most

pub sort::SortExprPhysicalExpr::evaluate_on_groups-returns-clause-ticks : goal.sort::SortExprPhysicalExpr::evaluate_on_groups-returns-clause-ticks
sort::SortExprPhysicalExpr::evaluate_on_groups-returns-clause-ticks t g c =
    unflat_ticks_told c.sort_groups_cells.result (sort_plan c.args.self.now).tree c.args.kernels.now c.sort_groups_cells.new.kernels refl

pub sort::SortExprPhysicalExpr::evaluate_on_groups-returns-in_err-input-clause-cost : goal.sort::SortExprPhysicalExpr::evaluate_on_groups-returns-in_err-input-clause-cost
sort::SortExprPhysicalExpr::evaluate_on_groups-returns-in_err-input-clause-cost t g c =
    let is_physical_expr = ap plan_of c.deref.ensures ∙ ap (λ (n : PlannedSort). n.physical_expr) c.self.view_is in
    let xc = group_cost_at is_physical_expr c.evaluate_on_groups.ensures.cost in
    unflat_one_input (sort_plan c.args.self.now).tree c.args.self.now.physical_expr.tree (length c.args.groups.now.groups) c.args.kernels.now c.evaluate_on_groups.new.kernels refl refl xc

pub sort::SortExprPhysicalExpr::evaluate_on_groups-returns-in_err-accept_rows-clause-causes : goal.sort::SortExprPhysicalExpr::evaluate_on_groups-returns-in_err-accept_rows-clause-causes
sort::SortExprPhysicalExpr::evaluate_on_groups-returns-in_err-accept_rows-clause-causes t g c =
    let is_physical_expr = ap plan_of c.deref.ensures ∙ ap (λ (n : PlannedSort). n.physical_expr) c.self.view_is in
    let x = context_at c.args.df.now c.args.state.now c.args.groups.now is_physical_expr c.in_ok-input.ensures.context in
    let p = err_from_is_err_and c.from_residual-in_err-accept_rows.result c.from_residual-in_err-accept_rows.ensures.1 in
    let tested = ap plan_of c.deref-2.ensures ∙ ap (λ (n : PlannedSort). n.physical_expr) c.self.view_is in
    let own = subst (λ (p : Planned). or_first [] (scalar_refusal p.tree) ≡ c.in_err-accept_rows.field-0.0 ∷ []) tested c.in_err-accept_rows.ensures in
    rw (p.1, p.2) (sort_own_refused c.args.self.now (beside c.args.df.now c.args.state.now) c.args.groups.now c.in_ok-input.input x c.in_err-accept_rows.field-0.0 own)

pub sort::SortExprPhysicalExpr::evaluate_on_groups-returns-in_err-accept_rows-clause-cost : goal.sort::SortExprPhysicalExpr::evaluate_on_groups-returns-in_err-accept_rows-clause-cost
sort::SortExprPhysicalExpr::evaluate_on_groups-returns-in_err-accept_rows-clause-cost t g c =
    let is_physical_expr = ap plan_of c.deref.ensures ∙ ap (λ (n : PlannedSort). n.physical_expr) c.self.view_is in
    let xc = group_cost_at is_physical_expr c.evaluate_on_groups.ensures.cost in
    unflat_one_input (sort_plan c.args.self.now).tree c.args.self.now.physical_expr.tree (length c.args.groups.now.groups) c.args.kernels.now c.evaluate_on_groups.new.kernels refl refl xc

pub aggregation::AggregationExprPhysicalExpr::evaluate_on_groups-returns-clause-context : goal.aggregation::AggregationExprPhysicalExpr::evaluate_on_groups-returns-clause-context
aggregation::AggregationExprPhysicalExpr::evaluate_on_groups-returns-clause-context t g c =
    let is_input = ap plan_of c.deref.ensures ∙ ap (λ (n : PlannedReduction). n.input) c.self.view_is in
    let x = context_at c.args.df.now c.args.state.now c.args.groups.now is_input c.in_ok-input.ensures.context in
    let method = ap (λ (n : PlannedReduction). n.method) c.self.view_is in
    let tested = ap plan_of c.deref-2.ensures ∙ ap (λ (n : PlannedReduction). n.input) c.self.view_is in
    let a = subst (λ (p : Planned). grouped_reduction_refusals c.args.self.now.method p.tree ≡ []) tested
    (subst (λ (m : GroupByMethod). grouped_reduction_refusals m (plan_of c.deref-2.result.now).tree ≡ []) method c.in_ok-accept_reduction.ensures) in
    reduction_context c.args.self.now (beside c.args.df.now c.args.state.now) c.args.groups.now c.in_ok-input.input x a c.aggregation_groups.result (subst (λ (n : PlannedReduction). IfOk c.aggregation_groups.result (IsReduced n.method c.in_ok-input.input)) c.self.view_is c.aggregation_groups.ensures.made) c.aggregation_groups.ensures.groups

pub aggregation::AggregationExprPhysicalExpr::evaluate_on_groups-returns-clause-causes : goal.aggregation::AggregationExprPhysicalExpr::evaluate_on_groups-returns-clause-causes
aggregation::AggregationExprPhysicalExpr::evaluate_on_groups-returns-clause-causes t g c =
    let is_input = ap plan_of c.deref.ensures ∙ ap (λ (n : PlannedReduction). n.input) c.self.view_is in
    let x = context_at c.args.df.now c.args.state.now c.args.groups.now is_input c.in_ok-input.ensures.context in
    let method = ap (λ (n : PlannedReduction). n.method) c.self.view_is in
    let tested = ap plan_of c.deref-2.ensures ∙ ap (λ (n : PlannedReduction). n.input) c.self.view_is in
    let a = subst (λ (p : Planned). grouped_reduction_refusals c.args.self.now.method p.tree ≡ []) tested
    (subst (λ (m : GroupByMethod). grouped_reduction_refusals m (plan_of c.deref-2.result.now).tree ≡ []) method c.in_ok-accept_reduction.ensures) in
    reduction_refused c.args.self.now (beside c.args.df.now c.args.state.now) c.args.groups.now c.in_ok-input.input x a c.aggregation_groups.result (subst (λ (n : PlannedReduction). IfErr c.aggregation_groups.result (λ e. (reduced_kind n.method (cell_kind c.in_ok-input.input) ≡ Err e) ⊎ IsRefusal e (reduction_answers n.method c.in_ok-input.input) (laid_count n.method c.in_ok-input.input))) c.self.view_is c.aggregation_groups.ensures.refused)

pub aggregation::AggregationExprPhysicalExpr::evaluate_on_groups-returns-clause-ticks : goal.aggregation::AggregationExprPhysicalExpr::evaluate_on_groups-returns-clause-ticks
aggregation::AggregationExprPhysicalExpr::evaluate_on_groups-returns-clause-ticks t g c =
    let is_input = ap plan_of c.deref.ensures ∙ ap (λ (n : PlannedReduction). n.input) c.self.view_is in
    let x = context_at c.args.df.now c.args.state.now c.args.groups.now is_input c.in_ok-input.ensures.context in
    let xt = ticks_at c.args.kernels.now c.evaluate_on_groups.new.kernels is_input c.in_ok-input.ensures.ticks in
    reduction_group_ticks_told c.aggregation_groups.result c.args.self.now.input c.args.self.now.method (beside c.args.df.now c.args.state.now) c.args.groups.now c.in_ok-input.input c.args.kernels.now c.evaluate_on_groups.new.kernels c.aggregation_groups.new.kernels x xt c.aggregation_groups.ensures.ticks

pub aggregation::AggregationExprPhysicalExpr::evaluate_on_groups-returns-clause-cost : goal.aggregation::AggregationExprPhysicalExpr::evaluate_on_groups-returns-clause-cost
aggregation::AggregationExprPhysicalExpr::evaluate_on_groups-returns-clause-cost t g c =
    let is_input = ap plan_of c.deref.ensures ∙ ap (λ (n : PlannedReduction). n.input) c.self.view_is in
    let x = context_at c.args.df.now c.args.state.now c.args.groups.now is_input c.in_ok-input.ensures.context in
    let xc = group_cost_at is_input c.evaluate_on_groups.ensures.cost in
    reduction_group_cost c.args.self.now.input c.args.self.now.method (beside c.args.df.now c.args.state.now) c.args.groups.now c.in_ok-input.input c.args.kernels.now c.evaluate_on_groups.new.kernels c.aggregation_groups.new.kernels x xc c.aggregation_groups.ensures.rises c.aggregation_groups.ensures.most c.aggregation_groups.ensures.once

pub aggregation::AggregationExprPhysicalExpr::evaluate_on_groups-returns-in_err-input-clause-cost : goal.aggregation::AggregationExprPhysicalExpr::evaluate_on_groups-returns-in_err-input-clause-cost
aggregation::AggregationExprPhysicalExpr::evaluate_on_groups-returns-in_err-input-clause-cost t g c =
    let is_input = ap plan_of c.deref.ensures ∙ ap (λ (n : PlannedReduction). n.input) c.self.view_is in
    let xc = group_cost_at is_input c.evaluate_on_groups.ensures.cost in
    reduction_group_cost_input c.args.self.now.input.tree c.args.self.now.method (length c.args.groups.now.groups) c.args.kernels.now c.evaluate_on_groups.new.kernels xc

pub aggregation::AggregationExprPhysicalExpr::evaluate_on_groups-returns-in_err-accept_reduction-clause-causes : goal.aggregation::AggregationExprPhysicalExpr::evaluate_on_groups-returns-in_err-accept_reduction-clause-causes
aggregation::AggregationExprPhysicalExpr::evaluate_on_groups-returns-in_err-accept_reduction-clause-causes t g c =
    let is_input = ap plan_of c.deref.ensures ∙ ap (λ (n : PlannedReduction). n.input) c.self.view_is in
    let x = context_at c.args.df.now c.args.state.now c.args.groups.now is_input c.in_ok-input.ensures.context in
    let p = err_from_is_err_and c.from_residual-in_err-accept_reduction.result c.from_residual-in_err-accept_reduction.ensures.1 in
    let method = ap (λ (n : PlannedReduction). n.method) c.self.view_is in
    let tested = ap plan_of c.deref-2.ensures ∙ ap (λ (n : PlannedReduction). n.input) c.self.view_is in
    let own = subst (λ (p : Planned). or_first [] (grouped_reduction_refusals c.args.self.now.method p.tree) ≡ c.in_err-accept_reduction.field-0.0 ∷ []) tested
    (subst (λ (m : GroupByMethod). or_first [] (grouped_reduction_refusals m (plan_of c.deref-2.result.now).tree) ≡ c.in_err-accept_reduction.field-0.0 ∷ []) method c.in_err-accept_reduction.ensures) in
    rw (p.1, p.2) (reduction_own_refused c.args.self.now (beside c.args.df.now c.args.state.now) c.args.groups.now c.in_ok-input.input x c.in_err-accept_reduction.field-0.0 own)

pub aggregation::AggregationExprPhysicalExpr::evaluate_on_groups-returns-in_err-accept_reduction-clause-cost : goal.aggregation::AggregationExprPhysicalExpr::evaluate_on_groups-returns-in_err-accept_reduction-clause-cost
aggregation::AggregationExprPhysicalExpr::evaluate_on_groups-returns-in_err-accept_reduction-clause-cost t g c =
    let is_input = ap plan_of c.deref.ensures ∙ ap (λ (n : PlannedReduction). n.input) c.self.view_is in
    let xc = group_cost_at is_input c.evaluate_on_groups.ensures.cost in
    reduction_group_cost_input c.args.self.now.input.tree c.args.self.now.method (length c.args.groups.now.groups) c.args.kernels.now c.evaluate_on_groups.new.kernels xc

pub alias::AliasExprPhysicalExpr::evaluate_on_groups-returns-clause-cost : goal.alias::AliasExprPhysicalExpr::evaluate_on_groups-returns-clause-cost
alias::AliasExprPhysicalExpr::evaluate_on_groups-returns-clause-cost t g c =
    alias_group_cost c.args.self.now.tree (plan_of c.self.inside.physical_expr.node.value).tree c.self.inside.name (length c.args.groups.now.groups) c.args.kernels.now c.evaluate_on_groups.new.kernels (ap (λ (p : Planned). p.tree) (sym c.self.view_is)) (subst (λ (n : PhysExpr). RunOnGroups (plan_of n).tree (length c.args.groups.now.groups) c.args.kernels.now c.evaluate_on_groups.new.kernels) c.deref.ensures c.evaluate_on_groups.ensures.cost)

pub alias::AliasExprPhysicalExpr::evaluate_on_groups-returns-in_err-context-clause-cost : goal.alias::AliasExprPhysicalExpr::evaluate_on_groups-returns-in_err-context-clause-cost
alias::AliasExprPhysicalExpr::evaluate_on_groups-returns-in_err-context-clause-cost t g c =
    alias_group_cost c.args.self.now.tree (plan_of c.self.inside.physical_expr.node.value).tree c.self.inside.name (length c.args.groups.now.groups) c.args.kernels.now c.evaluate_on_groups.new.kernels (ap (λ (p : Planned). p.tree) (sym c.self.view_is)) (subst (λ (n : PhysExpr). RunOnGroups (plan_of n).tree (length c.args.groups.now.groups) c.args.kernels.now c.evaluate_on_groups.new.kernels) c.deref.ensures c.evaluate_on_groups.ensures.cost)

pub apply::ApplyExprPhysicalExpr::evaluate_on_groups-returns-clause-context : goal.apply::ApplyExprPhysicalExpr::evaluate_on_groups-returns-clause-context
apply::ApplyExprPhysicalExpr::evaluate_on_groups-returns-clause-context t g c =
    let same : called c.args.self.now.call ≡ c.self.inside.function = ap (λ (a : PlannedApply). called a.call) (sym c.self.view_is) ∙ c.self.invariant.1.0 in
    let seen = ap (map plan_of) c.deref.ensures.value ∙ ap (λ (n : PlannedApply). n.inputs) c.self.view_is in
    let h = subst (λ (ps : List Planned). AreContextsOf ps (beside c.args.df.now c.args.state.now) c.args.groups.now c.in_ok-inputs.inputs.items) seen c.in_ok-inputs.ensures.contexts in
    let again = ap (map plan_of) c.deref-2.ensures.value ∙ ap (λ (n : PlannedApply). n.inputs) c.self.view_is in
    let tested = subst (λ (ps : List Planned). input_refusals c.self.inside.function (plan_trees ps) ≡ []) again c.in_ok-accept_inputs.ensures.accepted in
    let allowed = allowed_inputs (called c.args.self.now.call) (plan_trees c.args.self.now.inputs) (ap (λ f. input_refusals f (plan_trees c.args.self.now.inputs)) same ∙ tested) in
    apply_context c.args.self.now (beside c.args.df.now c.args.state.now) c.args.groups.now c.in_ok-inputs.inputs.items h allowed c.apply_groups.result (subst (λ f. IfOk c.apply_groups.result (IsApplied f c.in_ok-inputs.inputs.items)) (sym same) c.apply_groups.ensures.made) c.apply_groups.ensures.groups (λ r. c.apply_groups.ensures.lane (ap is_row_function (sym same) ∙ r))

pub apply::ApplyExprPhysicalExpr::evaluate_on_groups-returns-clause-causes : goal.apply::ApplyExprPhysicalExpr::evaluate_on_groups-returns-clause-causes
apply::ApplyExprPhysicalExpr::evaluate_on_groups-returns-clause-causes t g c =
    let same : called c.args.self.now.call ≡ c.self.inside.function = ap (λ (a : PlannedApply). called a.call) (sym c.self.view_is) ∙ c.self.invariant.1.0 in
    let seen = ap (map plan_of) c.deref.ensures.value ∙ ap (λ (n : PlannedApply). n.inputs) c.self.view_is in
    let h = subst (λ (ps : List Planned). AreContextsOf ps (beside c.args.df.now c.args.state.now) c.args.groups.now c.in_ok-inputs.inputs.items) seen c.in_ok-inputs.ensures.contexts in
    let again = ap (map plan_of) c.deref-2.ensures.value ∙ ap (λ (n : PlannedApply). n.inputs) c.self.view_is in
    let tested = subst (λ (ps : List Planned). input_refusals c.self.inside.function (plan_trees ps) ≡ []) again c.in_ok-accept_inputs.ensures.accepted in
    let allowed = allowed_inputs (called c.args.self.now.call) (plan_trees c.args.self.now.inputs) (ap (λ f. input_refusals f (plan_trees c.args.self.now.inputs)) same ∙ tested) in
    apply_refused c.args.self.now (beside c.args.df.now c.args.state.now) c.args.groups.now c.in_ok-inputs.inputs.items h allowed c.apply_groups.result (subst (λ f. IfErr c.apply_groups.result (λ e. (function_type f c.in_ok-inputs.inputs.items ≡ Err e) ⊎ IsRefusal e (function_answers f c.in_ok-inputs.inputs.items) (counts_in (function_answers f c.in_ok-inputs.inputs.items)))) (sym same) c.apply_groups.ensures.refused)

pub apply::ApplyExprPhysicalExpr::evaluate_on_groups-returns-clause-ticks : goal.apply::ApplyExprPhysicalExpr::evaluate_on_groups-returns-clause-ticks
apply::ApplyExprPhysicalExpr::evaluate_on_groups-returns-clause-ticks t g c =
    let same : called c.args.self.now.call ≡ c.self.inside.function = ap (λ (a : PlannedApply). called a.call) (sym c.self.view_is) ∙ c.self.invariant.1.0 in
    let seen = ap (map plan_of) c.deref.ensures.value ∙ ap (λ (n : PlannedApply). n.inputs) c.self.view_is in
    let h = subst (λ (ps : List Planned). AreContextsOf ps (beside c.args.df.now c.args.state.now) c.args.groups.now c.in_ok-inputs.inputs.items) seen c.in_ok-inputs.ensures.contexts in
    let ran : RunAllExactly (plan_trees c.args.self.now.inputs) c.args.kernels.now c.contexts_on_groups.new.kernels
    = subst (λ (ps : List Planned). RunAllExactly (plan_trees ps) c.args.kernels.now c.contexts_on_groups.new.kernels) seen c.in_ok-inputs.ensures.ticks in
    apply_group_ticks_told c.apply_groups.result c.args.self.now.inputs c.args.self.now.call (beside c.args.df.now c.args.state.now) c.args.groups.now c.in_ok-inputs.inputs.items c.args.kernels.now c.contexts_on_groups.new.kernels c.apply_groups.new.kernels h ran (λ r. c.apply_groups.ensures.ticks (ap is_row_function (sym same) ∙ r))

pub apply::ApplyExprPhysicalExpr::evaluate_on_groups-returns-clause-cost : goal.apply::ApplyExprPhysicalExpr::evaluate_on_groups-returns-clause-cost
apply::ApplyExprPhysicalExpr::evaluate_on_groups-returns-clause-cost t g c =
    let same : called c.args.self.now.call ≡ c.self.inside.function = ap (λ (a : PlannedApply). called a.call) (sym c.self.view_is) ∙ c.self.invariant.1.0 in
    let seen = ap (map plan_of) c.deref.ensures.value ∙ ap (λ (n : PlannedApply). n.inputs) c.self.view_is in
    let h = subst (λ (ps : List Planned). AreContextsOf ps (beside c.args.df.now c.args.state.now) c.args.groups.now c.in_ok-inputs.inputs.items) seen c.in_ok-inputs.ensures.contexts in
    let cost = subst (λ (ps : List Planned). RunAllOnGroups (plan_trees ps) (length c.args.groups.now.groups) c.args.kernels.now c.contexts_on_groups.new.kernels) seen c.in_ok-inputs.ensures.cost in
    apply_group_cost c.args.self.now.inputs c.args.self.now.call (beside c.args.df.now c.args.state.now) c.args.groups.now c.in_ok-inputs.inputs.items c.args.kernels.now c.contexts_on_groups.new.kernels c.apply_groups.new.kernels h cost c.apply_groups.ensures.rises c.apply_groups.ensures.most (λ r. c.apply_groups.ensures.once (ap is_row_function (sym same) ∙ r))

pub apply::ApplyExprPhysicalExpr::evaluate_on_groups-returns-in_err-inputs-clause-cost : goal.apply::ApplyExprPhysicalExpr::evaluate_on_groups-returns-in_err-inputs-clause-cost
apply::ApplyExprPhysicalExpr::evaluate_on_groups-returns-in_err-inputs-clause-cost t g c =
    let seen : map plan_of c.deref.result.now ≡ c.args.self.now.inputs = ap (map plan_of) c.deref.ensures.value ∙ ap (λ (a : PlannedApply). a.inputs) c.self.view_is in
    let cost : RunAllOnGroups (plan_trees c.args.self.now.inputs) (length c.args.groups.now.groups) c.args.kernels.now c.contexts_on_groups.new.kernels
    = subst (λ (ps : List Planned). RunAllOnGroups (plan_trees ps) (length c.args.groups.now.groups) c.args.kernels.now c.contexts_on_groups.new.kernels) seen c.in_err-inputs.ensures.cost in
    apply_group_cost_inputs (plan_trees c.args.self.now.inputs) c.args.self.now.call (length c.args.groups.now.groups) c.args.kernels.now c.contexts_on_groups.new.kernels cost

pub apply::ApplyExprPhysicalExpr::evaluate_on_groups-returns-in_err-inputs-clause-causes : goal.apply::ApplyExprPhysicalExpr::evaluate_on_groups-returns-in_err-inputs-clause-causes
apply::ApplyExprPhysicalExpr::evaluate_on_groups-returns-in_err-inputs-clause-causes t g c =
    let p = err_from_is_err_and c.from_residual.result c.from_residual.ensures.1 in
    let seen = ap (map plan_of) c.deref.ensures.value ∙ ap (λ (n : PlannedApply). n.inputs) c.self.view_is in
    let w = subst (λ (ps : List Planned). IsGroupCauseOfAny c.in_err-inputs.field-0.0 ps (beside c.args.df.now c.args.state.now) c.args.groups.now) seen c.in_err-inputs.ensures.causes in
    rw (p.1, p.2) (apply_input_group_cause c.in_err-inputs.field-0.0 c.args.self.now (beside c.args.df.now c.args.state.now) c.args.groups.now w)

pub apply::ApplyExprPhysicalExpr::evaluate_on_groups-returns-in_err-accept_inputs-clause-cost : goal.apply::ApplyExprPhysicalExpr::evaluate_on_groups-returns-in_err-accept_inputs-clause-cost
apply::ApplyExprPhysicalExpr::evaluate_on_groups-returns-in_err-accept_inputs-clause-cost t g c =
    let seen : map plan_of c.deref.result.now ≡ c.args.self.now.inputs = ap (map plan_of) c.deref.ensures.value ∙ ap (λ (a : PlannedApply). a.inputs) c.self.view_is in
    let cost : RunAllOnGroups (plan_trees c.args.self.now.inputs) (length c.args.groups.now.groups) c.args.kernels.now c.contexts_on_groups.new.kernels
    = subst (λ (ps : List Planned). RunAllOnGroups (plan_trees ps) (length c.args.groups.now.groups) c.args.kernels.now c.contexts_on_groups.new.kernels) seen c.in_ok-inputs.ensures.cost in
    apply_group_cost_inputs (plan_trees c.args.self.now.inputs) c.args.self.now.call (length c.args.groups.now.groups) c.args.kernels.now c.contexts_on_groups.new.kernels cost

pub apply::ApplyExprPhysicalExpr::evaluate_on_groups-returns-in_err-accept_inputs-clause-causes : goal.apply::ApplyExprPhysicalExpr::evaluate_on_groups-returns-in_err-accept_inputs-clause-causes
apply::ApplyExprPhysicalExpr::evaluate_on_groups-returns-in_err-accept_inputs-clause-causes t g c =
    let same : called c.args.self.now.call ≡ c.self.inside.function = ap (λ (a : PlannedApply). called a.call) (sym c.self.view_is) ∙ c.self.invariant.1.0 in
    let seen = ap (map plan_of) c.deref.ensures.value ∙ ap (λ (n : PlannedApply). n.inputs) c.self.view_is in
    let h = subst (λ (ps : List Planned). AreContextsOf ps (beside c.args.df.now c.args.state.now) c.args.groups.now c.in_ok-inputs.inputs.items) seen c.in_ok-inputs.ensures.contexts in
    let p = err_from_is_err_and c.from_residual-in_err-accept_inputs.result c.from_residual-in_err-accept_inputs.ensures.1 in
    let again = ap (map plan_of) c.deref-2.ensures.value ∙ ap (λ (n : PlannedApply). n.inputs) c.self.view_is in
    let tested = subst (λ (ps : List Planned). or_first [] (input_refusals c.self.inside.function (plan_trees ps)) ≡ c.in_err-accept_inputs.field-0.0 ∷ []) again c.in_err-accept_inputs.ensures.accepted in
    rw (p.1, p.2) (apply_tested c.in_err-accept_inputs.field-0.0 c.args.self.now (beside c.args.df.now c.args.state.now) c.args.groups.now c.in_ok-inputs.inputs.items h (ap (λ f. or_first [] (input_refusals f (plan_trees c.args.self.now.inputs))) same ∙ tested))

pub sort_by::SortByExprPhysicalExpr::evaluate_on_groups-sort_by_groups-requires : goal.sort_by::SortByExprPhysicalExpr::evaluate_on_groups-sort_by_groups-requires
sort_by::SortByExprPhysicalExpr::evaluate_on_groups-sort_by_groups-requires t g c =
    let is_input = ap plan_of c.deref-2.ensures ∙ ap (λ (n : PlannedSortBy). n.input) c.self.view_is in
    let x = context_below c.args.df.now c.args.groups.now is_input c.contexts_on_groups.ensures.frame c.in_ok-input.ensures.context in
    let seen = ap (map plan_of) c.deref.ensures.value ∙ ap (λ (n : PlannedSortBy). n.by) c.self.view_is in
    let h = subst (λ (ps : List Planned). AreContextsOf ps (beside c.args.df.now c.args.state.now) c.args.groups.now c.in_ok-by.by.items) seen c.in_ok-by.ensures.contexts in
    first_paired c.args.self.now.input c.args.self.now.by (beside c.args.df.now c.args.state.now) c.args.groups.now c.in_ok-input.input c.in_ok-by.by.items x h

pub sort_by::SortByExprPhysicalExpr::evaluate_on_groups-returns-clause-context : goal.sort_by::SortByExprPhysicalExpr::evaluate_on_groups-returns-clause-context
sort_by::SortByExprPhysicalExpr::evaluate_on_groups-returns-clause-context t g c =
    let is_input = ap plan_of c.deref-2.ensures ∙ ap (λ (n : PlannedSortBy). n.input) c.self.view_is in
    let x = context_below c.args.df.now c.args.groups.now is_input c.contexts_on_groups.ensures.frame c.in_ok-input.ensures.context in
    let seen = ap (map plan_of) c.deref.ensures.value ∙ ap (λ (n : PlannedSortBy). n.by) c.self.view_is in
    let h = subst (λ (ps : List Planned). AreContextsOf ps (beside c.args.df.now c.args.state.now) c.args.groups.now c.in_ok-by.by.items) seen c.in_ok-by.ensures.contexts in
    let tested = ap plan_of c.deref-3.ensures ∙ ap (λ (n : PlannedSortBy). n.input) c.self.view_is in
    let a = subst (λ (p : Planned). scalar_refusal p.tree ≡ []) tested c.in_ok-accept_rows.ensures in
    keyed_context c.args.self.now.input c.args.self.now.by c.args.self.now.sort_options (beside c.args.df.now c.args.state.now) c.args.groups.now c.in_ok-input.input c.in_ok-by.by.items x h c.sort_by_groups.result a (subst (λ (n : PlannedSortBy). IfOk c.sort_by_groups.result (IsSortedBy n.sort_options c.in_ok-input.input c.in_ok-by.by.items)) c.self.view_is c.sort_by_groups.ensures.made) c.sort_by_groups.ensures.groups

pub sort_by::SortByExprPhysicalExpr::evaluate_on_groups-returns-clause-causes : goal.sort_by::SortByExprPhysicalExpr::evaluate_on_groups-returns-clause-causes
sort_by::SortByExprPhysicalExpr::evaluate_on_groups-returns-clause-causes t g c =
    let is_input = ap plan_of c.deref-2.ensures ∙ ap (λ (n : PlannedSortBy). n.input) c.self.view_is in
    let x = context_below c.args.df.now c.args.groups.now is_input c.contexts_on_groups.ensures.frame c.in_ok-input.ensures.context in
    let seen = ap (map plan_of) c.deref.ensures.value ∙ ap (λ (n : PlannedSortBy). n.by) c.self.view_is in
    let h = subst (λ (ps : List Planned). AreContextsOf ps (beside c.args.df.now c.args.state.now) c.args.groups.now c.in_ok-by.by.items) seen c.in_ok-by.ensures.contexts in
    let tested = ap plan_of c.deref-3.ensures ∙ ap (λ (n : PlannedSortBy). n.input) c.self.view_is in
    let a = subst (λ (p : Planned). scalar_refusal p.tree ≡ []) tested c.in_ok-accept_rows.ensures in
    let options : c.self.inside.sort_options ≡ c.args.self.now.sort_options = ap (λ (a : PlannedSortBy). a.sort_options) c.self.view_is in
    keyed_refused c.args.self.now.input c.args.self.now.by c.args.self.now.sort_options (beside c.args.df.now c.args.state.now) c.args.groups.now c.in_ok-input.input c.in_ok-by.by.items x h c.sort_by_groups.result a (subst (λ o. IfErr c.sort_by_groups.result (λ e. (sort_by_kind c.in_ok-input.input c.in_ok-by.by.items ≡ Err e) ⊎ IsRefusal e (sort_by_answers o c.in_ok-input.input c.in_ok-by.by.items) (counts_in (sort_by_answers o c.in_ok-input.input c.in_ok-by.by.items)))) options c.sort_by_groups.ensures.refused)

pub sort_by::SortByExprPhysicalExpr::evaluate_on_groups-returns-clause-ticks : goal.sort_by::SortByExprPhysicalExpr::evaluate_on_groups-returns-clause-ticks
sort_by::SortByExprPhysicalExpr::evaluate_on_groups-returns-clause-ticks t g c =
    unflat_ticks_told c.sort_by_groups.result (sort_by_plan c.args.self.now).tree c.args.kernels.now c.sort_by_groups.new.kernels refl

pub sort_by::SortByExprPhysicalExpr::evaluate_on_groups-returns-clause-cost : goal.sort_by::SortByExprPhysicalExpr::evaluate_on_groups-returns-clause-cost
sort_by::SortByExprPhysicalExpr::evaluate_on_groups-returns-clause-cost t g c =
    let is_input = ap plan_of c.deref-2.ensures ∙ ap (λ (n : PlannedSortBy). n.input) c.self.view_is in
    let x = context_below c.args.df.now c.args.groups.now is_input c.contexts_on_groups.ensures.frame c.in_ok-input.ensures.context in
    let seen : map plan_of c.deref.result.now ≡ c.args.self.now.by = ap (map plan_of) c.deref.ensures.value ∙ ap (λ (a : PlannedSortBy). a.by) c.self.view_is in
    let hc : RunAllOnGroups (plan_trees c.args.self.now.by) (length c.args.groups.now.groups) c.args.kernels.now c.contexts_on_groups.new.kernels
    = subst (λ (ps : List Planned). RunAllOnGroups (plan_trees ps) (length c.args.groups.now.groups) c.args.kernels.now c.contexts_on_groups.new.kernels) seen c.in_ok-by.ensures.cost in
    let xc = group_cost_at is_input c.evaluate_on_groups.ensures.cost in
    let both = keys_first c.args.self.now.input.tree (plan_trees c.args.self.now.by) (length c.args.groups.now.groups) c.args.kernels.now c.contexts_on_groups.new.kernels c.evaluate_on_groups.new.kernels hc xc in
    sort_by_group_cost c.args.self.now.input c.args.self.now.by c.args.self.now.sort_options (beside c.args.df.now c.args.state.now) c.args.groups.now c.in_ok-input.input c.args.kernels.now (c.args.kernels.now + (c.evaluate_on_groups.new.kernels - c.contexts_on_groups.new.kernels)) c.evaluate_on_groups.new.kernels c.sort_by_groups.new.kernels x both.0 both.1 c.sort_by_groups.ensures.rises c.sort_by_groups.ensures.most

pub sort_by::SortByExprPhysicalExpr::evaluate_on_groups-returns-in_err-input-clause-cost : goal.sort_by::SortByExprPhysicalExpr::evaluate_on_groups-returns-in_err-input-clause-cost
sort_by::SortByExprPhysicalExpr::evaluate_on_groups-returns-in_err-input-clause-cost t g c =
    let seen : map plan_of c.deref.result.now ≡ c.args.self.now.by = ap (map plan_of) c.deref.ensures.value ∙ ap (λ (a : PlannedSortBy). a.by) c.self.view_is in
    let hc : RunAllOnGroups (plan_trees c.args.self.now.by) (length c.args.groups.now.groups) c.args.kernels.now c.contexts_on_groups.new.kernels
    = subst (λ (ps : List Planned). RunAllOnGroups (plan_trees ps) (length c.args.groups.now.groups) c.args.kernels.now c.contexts_on_groups.new.kernels) seen c.in_ok-by.ensures.cost in
    let is_input = ap plan_of c.deref-2.ensures ∙ ap (λ (n : PlannedSortBy). n.input) c.self.view_is in
    let xc = group_cost_at is_input c.evaluate_on_groups.ensures.cost in
    keys_and_rows c.args.self.now.input.tree (plan_trees c.args.self.now.by) c.args.self.now.sort_options (length c.args.groups.now.groups) c.args.kernels.now c.contexts_on_groups.new.kernels c.evaluate_on_groups.new.kernels hc xc

pub sort_by::SortByExprPhysicalExpr::evaluate_on_groups-returns-in_err-by-clause-cost : goal.sort_by::SortByExprPhysicalExpr::evaluate_on_groups-returns-in_err-by-clause-cost
sort_by::SortByExprPhysicalExpr::evaluate_on_groups-returns-in_err-by-clause-cost t g c =
    let seen : map plan_of c.deref.result.now ≡ c.args.self.now.by = ap (map plan_of) c.deref.ensures.value ∙ ap (λ (a : PlannedSortBy). a.by) c.self.view_is in
    let hc : RunAllOnGroups (plan_trees c.args.self.now.by) (length c.args.groups.now.groups) c.args.kernels.now c.contexts_on_groups.new.kernels
    = subst (λ (ps : List Planned). RunAllOnGroups (plan_trees ps) (length c.args.groups.now.groups) c.args.kernels.now c.contexts_on_groups.new.kernels) seen c.in_err-by.ensures.cost in
    keys_alone c.args.self.now.input.tree (plan_trees c.args.self.now.by) c.args.self.now.sort_options (length c.args.groups.now.groups) c.args.kernels.now c.contexts_on_groups.new.kernels hc

pub sort_by::SortByExprPhysicalExpr::evaluate_on_groups-returns-in_err-accept_rows-clause-cost : goal.sort_by::SortByExprPhysicalExpr::evaluate_on_groups-returns-in_err-accept_rows-clause-cost
sort_by::SortByExprPhysicalExpr::evaluate_on_groups-returns-in_err-accept_rows-clause-cost t g c =
    let seen : map plan_of c.deref.result.now ≡ c.args.self.now.by = ap (map plan_of) c.deref.ensures.value ∙ ap (λ (a : PlannedSortBy). a.by) c.self.view_is in
    let hc : RunAllOnGroups (plan_trees c.args.self.now.by) (length c.args.groups.now.groups) c.args.kernels.now c.contexts_on_groups.new.kernels
    = subst (λ (ps : List Planned). RunAllOnGroups (plan_trees ps) (length c.args.groups.now.groups) c.args.kernels.now c.contexts_on_groups.new.kernels) seen c.in_ok-by.ensures.cost in
    let is_input = ap plan_of c.deref-2.ensures ∙ ap (λ (n : PlannedSortBy). n.input) c.self.view_is in
    let xc = group_cost_at is_input c.evaluate_on_groups.ensures.cost in
    keys_and_rows c.args.self.now.input.tree (plan_trees c.args.self.now.by) c.args.self.now.sort_options (length c.args.groups.now.groups) c.args.kernels.now c.contexts_on_groups.new.kernels c.evaluate_on_groups.new.kernels hc xc

pub sort_by::SortByExprPhysicalExpr::evaluate_on_groups-returns-in_err-input-clause-causes : goal.sort_by::SortByExprPhysicalExpr::evaluate_on_groups-returns-in_err-input-clause-causes
sort_by::SortByExprPhysicalExpr::evaluate_on_groups-returns-in_err-input-clause-causes t g c =
    let p = err_from_is_err_and c.from_residual-in_err-input.result c.from_residual-in_err-input.ensures.1 in
    let is_input = ap plan_of c.deref-2.ensures ∙ ap (λ (n : PlannedSortBy). n.input) c.self.view_is in
    let w = group_cause_below c.in_err-input.field-0.0 c.args.df.now c.args.groups.now is_input c.contexts_on_groups.ensures.frame c.in_err-input.ensures.causes in
    rw (p.1, p.2) (sort_by_input_group_cause c.in_err-input.field-0.0 c.args.self.now (beside c.args.df.now c.args.state.now) c.args.groups.now w)

pub sort_by::SortByExprPhysicalExpr::evaluate_on_groups-returns-in_err-by-clause-causes : goal.sort_by::SortByExprPhysicalExpr::evaluate_on_groups-returns-in_err-by-clause-causes
sort_by::SortByExprPhysicalExpr::evaluate_on_groups-returns-in_err-by-clause-causes t g c =
    let p = err_from_is_err_and c.from_residual.result c.from_residual.ensures.1 in
    let seen = ap (map plan_of) c.deref.ensures.value ∙ ap (λ (n : PlannedSortBy). n.by) c.self.view_is in
    let w = subst (λ (ps : List Planned). IsGroupCauseOfAny c.in_err-by.field-0.0 ps (beside c.args.df.now c.args.state.now) c.args.groups.now) seen c.in_err-by.ensures.causes in
    rw (p.1, p.2) (sort_by_key_group_cause c.in_err-by.field-0.0 c.args.self.now (beside c.args.df.now c.args.state.now) c.args.groups.now w)

pub sort_by::SortByExprPhysicalExpr::evaluate_on_groups-returns-in_err-accept_rows-clause-causes : goal.sort_by::SortByExprPhysicalExpr::evaluate_on_groups-returns-in_err-accept_rows-clause-causes
sort_by::SortByExprPhysicalExpr::evaluate_on_groups-returns-in_err-accept_rows-clause-causes t g c =
    let is_input = ap plan_of c.deref-2.ensures ∙ ap (λ (n : PlannedSortBy). n.input) c.self.view_is in
    let x = context_below c.args.df.now c.args.groups.now is_input c.contexts_on_groups.ensures.frame c.in_ok-input.ensures.context in
    let seen = ap (map plan_of) c.deref.ensures.value ∙ ap (λ (n : PlannedSortBy). n.by) c.self.view_is in
    let h = subst (λ (ps : List Planned). AreContextsOf ps (beside c.args.df.now c.args.state.now) c.args.groups.now c.in_ok-by.by.items) seen c.in_ok-by.ensures.contexts in
    let p = err_from_is_err_and c.from_residual-in_err-accept_rows.result c.from_residual-in_err-accept_rows.ensures.1 in
    let tested = ap plan_of c.deref-3.ensures ∙ ap (λ (n : PlannedSortBy). n.input) c.self.view_is in
    let own = subst (λ (p : Planned). or_first [] (scalar_refusal p.tree) ≡ c.in_err-accept_rows.field-0.0 ∷ []) tested c.in_err-accept_rows.ensures in
    rw (p.1, p.2) (keyed_own_refused c.args.self.now.input c.args.self.now.by c.args.self.now.sort_options (beside c.args.df.now c.args.state.now) c.args.groups.now c.in_ok-input.input c.in_ok-by.by.items x h c.in_err-accept_rows.field-0.0 own)

pub on_groups::contexts_on_groups-returns-in_err-contexts-clause-causes : goal.on_groups::contexts_on_groups-returns-in_err-contexts-clause-causes
on_groups::contexts_on_groups-returns-in_err-contexts-clause-causes t g c =
    let p = err_from_is_err_and c.from_residual.result c.from_residual.ensures.1 in
    rw (p.1, p.2) tt

pub on_groups::contexts_on_groups-returns-in_err-contexts-clause-cost : goal.on_groups::contexts_on_groups-returns-in_err-contexts-clause-cost
on_groups::contexts_on_groups-returns-in_err-contexts-clause-cost t g c =
    none_run (plan_trees (map plan_of c.args.nodes.now)) (length c.args.groups.now.groups) c.args.kernels.now

pub on_groups::contexts_on_groups-returns-in_err-evaluate_on_groups-clause-causes : goal.on_groups::contexts_on_groups-returns-in_err-evaluate_on_groups-clause-causes
on_groups::contexts_on_groups-returns-in_err-evaluate_on_groups-clause-causes t g c =
    let p = err_from_is_err_and c.from_residual-in_err-evaluate_on_groups.result c.from_residual-in_err-evaluate_on_groups.ensures.1 in
    rw (p.1, p.2) (next_cause plan_of c.args.nodes.now c.loop-node.node-index c.node-item.result c.loop-node-test.true c.node-item.is (beside c.args.df.now c.args.state.now) c.args.groups.now c.loop-node.contexts.items c.args.kernels.now c.loop-node.kernels c.loop-node.invariant.front c.in_err-evaluate_on_groups.field-0.0 (rw c.loop-node.invariant.state at c.in_err-evaluate_on_groups.ensures.causes))

pub on_groups::contexts_on_groups-returns-in_err-evaluate_on_groups-clause-cost : goal.on_groups::contexts_on_groups-returns-in_err-evaluate_on_groups-clause-cost
on_groups::contexts_on_groups-returns-in_err-evaluate_on_groups-clause-cost t g c =
    next_cost plan_of c.args.nodes.now c.loop-node.node-index c.node-item.result c.loop-node-test.true c.node-item.is (beside c.args.df.now c.args.state.now) c.args.groups.now c.loop-node.contexts.items c.args.kernels.now c.loop-node.kernels c.loop-node.invariant.front c.evaluate_on_groups.new.kernels c.in_err-evaluate_on_groups.ensures.cost

pub on_groups::contexts_on_groups-returns-in_err-push-clause-causes : goal.on_groups::contexts_on_groups-returns-in_err-push-clause-causes
on_groups::contexts_on_groups-returns-in_err-push-clause-causes t g c =
    let p = err_from_is_err_and c.from_residual-in_err-push.result c.from_residual-in_err-push.ensures.1 in
    rw (p.1, p.2) tt

pub on_groups::contexts_on_groups-returns-in_err-push-clause-cost : goal.on_groups::contexts_on_groups-returns-in_err-push-clause-cost
on_groups::contexts_on_groups-returns-in_err-push-clause-cost t g c =
    next_cost plan_of c.args.nodes.now c.loop-node.node-index c.node-item.result c.loop-node-test.true c.node-item.is (beside c.args.df.now c.args.state.now) c.args.groups.now c.loop-node.contexts.items c.args.kernels.now c.loop-node.kernels c.loop-node.invariant.front c.evaluate_on_groups.new.kernels c.in_ok-evaluate_on_groups.ensures.cost

pub on_groups::contexts_on_groups-loop-node-preserved : goal.on_groups::contexts_on_groups-loop-node-preserved
on_groups::contexts_on_groups-loop-node-preserved t g c =
    let inv = c.loop-node.invariant in
    record {
      front = next_context plan_of c.args.nodes.now c.loop-node.node-index c.node-item.result c.loop-node-test.true c.node-item.is (beside c.args.df.now c.args.state.now) c.args.groups.now c.loop-node.contexts.items c.args.kernels.now c.loop-node.kernels c.loop-node.invariant.front _ c.in_ok-evaluate_on_groups.field-0 c.evaluate_on_groups.new.kernels c.in_ok-push.ensures.items (rw inv.state at c.in_ok-evaluate_on_groups.ensures.context) c.in_ok-evaluate_on_groups.ensures.ticks c.in_ok-evaluate_on_groups.ensures.cost;
      state = c.in_ok-evaluate_on_groups.ensures.frame ∙ inv.state;
      grouped = c.in_ok-evaluate_on_groups.ensures.grouped ∙ inv.grouped;
    }

pub on_groups::contexts_on_groups-returns-clause-contexts : goal.on_groups::contexts_on_groups-returns-clause-contexts
on_groups::contexts_on_groups-returns-clause-contexts t g c =
    (all_contexts plan_of c.args.nodes.now c.loop-node.node-index (beside c.args.df.now c.args.state.now) c.args.groups.now c.loop-node.contexts.items c.args.kernels.now c.loop-node.kernels c.loop-node-test.false c.loop-node.invariant.front).0

pub on_groups::contexts_on_groups-returns-clause-ticks : goal.on_groups::contexts_on_groups-returns-clause-ticks
on_groups::contexts_on_groups-returns-clause-ticks t g c =
    (all_contexts plan_of c.args.nodes.now c.loop-node.node-index (beside c.args.df.now c.args.state.now) c.args.groups.now c.loop-node.contexts.items c.args.kernels.now c.loop-node.kernels c.loop-node-test.false c.loop-node.invariant.front).1.0

pub on_groups::contexts_on_groups-returns-clause-cost : goal.on_groups::contexts_on_groups-returns-clause-cost
on_groups::contexts_on_groups-returns-clause-cost t g c =
    (all_contexts plan_of c.args.nodes.now c.loop-node.node-index (beside c.args.df.now c.args.state.now) c.args.groups.now c.loop-node.contexts.items c.args.kernels.now c.loop-node.kernels c.loop-node-test.false c.loop-node.invariant.front).1.1

pub alias::AliasExprPhysicalExpr::evaluate_on_groups-returns-clause-context : goal.alias::AliasExprPhysicalExpr::evaluate_on_groups-returns-clause-context
alias::AliasExprPhysicalExpr::evaluate_on_groups-returns-clause-context t g c =
    let name : c.in_ok-name.name ≡ c.self.inside.name = cc (c.in_ok-name.ensures) in
    let h = subst (λ (n : PhysExpr). IsContextOf (plan_of n) (beside c.args.df.now c.args.state.now) c.args.groups.now c.in_ok-context.context) c.deref.ensures c.in_ok-context.ensures.context in
    renamed_context c.args.self.now (plan_of c.self.inside.physical_expr.node.value) c.self.inside.name (beside c.args.df.now c.args.state.now) c.args.groups.now c.in_ok-context.context c.with_name.result (sym c.self.view_is) h
    (subst (λ n. Answers c.with_name.result (Ok (renamed c.in_ok-context.context n))) name c.with_name.ensures.answer)

pub alias::AliasExprPhysicalExpr::evaluate_on_groups-returns-in_err-context-clause-causes : goal.alias::AliasExprPhysicalExpr::evaluate_on_groups-returns-in_err-context-clause-causes
alias::AliasExprPhysicalExpr::evaluate_on_groups-returns-in_err-context-clause-causes t g c =
    let p = err_from_is_err_and c.from_residual-in_err-context.result c.from_residual-in_err-context.ensures.1 in
    let w = subst (λ (n : PhysExpr). IsGroupCause c.in_err-context.field-0.0 (plan_of n) (beside c.args.df.now c.args.state.now) c.args.groups.now) c.deref.ensures c.in_err-context.ensures.causes in
    rw (p.1, p.2) (alias_group_cause c.in_err-context.field-0.0 c.args.self.now (plan_of c.self.inside.physical_expr.node.value) c.self.inside.name (beside c.args.df.now c.args.state.now) c.args.groups.now (sym c.self.view_is) w)

pub phys_expr::PhysExprPhysicalExpr::evaluate_on_groups-returns-in-Apply-clause-ticks : goal.phys_expr::PhysExprPhysicalExpr::evaluate_on_groups-returns-in-Apply-clause-ticks
phys_expr::PhysExprPhysicalExpr::evaluate_on_groups-returns-in-Apply-clause-ticks t g c =
    subst (λ (e : PhysExpr). OnOk c.evaluate_on_groups-in-Apply.result (RunExactly (plan_of e).tree c.args.kernels.now c.evaluate_on_groups-in-Apply.new.kernels)) (sym c.in-Apply.is) c.evaluate_on_groups-in-Apply.ensures.ticks

pub binary::BinaryExprPhysicalExpr::evaluate_on_groups-returns-in_err-left-clause-causes : goal.binary::BinaryExprPhysicalExpr::evaluate_on_groups-returns-in_err-left-clause-causes
binary::BinaryExprPhysicalExpr::evaluate_on_groups-returns-in_err-left-clause-causes t g c =
    let is_left = ap plan_of c.deref.ensures ∙ ap (λ (n : PlannedBinary). n.left) c.self.view_is in
    let w = group_cause_at c.in_err-left.field-0.0 c.args.df.now c.args.state.now c.args.groups.now is_left c.in_err-left.ensures.causes in
    passed_on c.from_residual.result c.in_err-left.field-0.0 (λ e. IsGroupCause e (binary_plan c.args.self.now) (beside c.args.df.now c.args.state.now) c.args.groups.now) c.from_residual.ensures.1 (left_group_cause c.in_err-left.field-0.0 c.args.self.now (beside c.args.df.now c.args.state.now) c.args.groups.now w)

pub binary::BinaryExprPhysicalExpr::evaluate_on_groups-returns-in_err-right-clause-causes : goal.binary::BinaryExprPhysicalExpr::evaluate_on_groups-returns-in_err-right-clause-causes
binary::BinaryExprPhysicalExpr::evaluate_on_groups-returns-in_err-right-clause-causes t g c =
    let is_right = ap plan_of c.deref-2.ensures ∙ ap (λ (n : PlannedBinary). n.right) c.self.view_is in
    let w = group_cause_below c.in_err-right.field-0.0 c.args.df.now c.args.groups.now is_right c.evaluate_on_groups.ensures.frame c.in_err-right.ensures.causes in
    passed_on c.from_residual-in_err-right.result c.in_err-right.field-0.0 (λ e. IsGroupCause e (binary_plan c.args.self.now) (beside c.args.df.now c.args.state.now) c.args.groups.now) c.from_residual-in_err-right.ensures.1 (right_group_cause c.in_err-right.field-0.0 c.args.self.now (beside c.args.df.now c.args.state.now) c.args.groups.now w)

pub binary::BinaryExprPhysicalExpr::evaluate_on_groups-binary_groups-requires : goal.binary::BinaryExprPhysicalExpr::evaluate_on_groups-binary_groups-requires
binary::BinaryExprPhysicalExpr::evaluate_on_groups-binary_groups-requires t g c =
    let is_left = ap plan_of c.deref.ensures ∙ ap (λ (n : PlannedBinary). n.left) c.self.view_is in
    let x = context_at c.args.df.now c.args.state.now c.args.groups.now is_left c.in_ok-left.ensures.context in
    let is_right = ap plan_of c.deref-2.ensures ∙ ap (λ (n : PlannedBinary). n.right) c.self.view_is in
    let y = context_below c.args.df.now c.args.groups.now is_right c.evaluate_on_groups.ensures.frame c.in_ok-right.ensures.context in
    two_paired c.args.self.now.left c.args.self.now.right (beside c.args.df.now c.args.state.now) c.args.groups.now c.in_ok-left.left c.in_ok-right.right x y

pub ternary::TernaryExprPhysicalExpr::evaluate_on_groups-returns-in_err-predicate-clause-causes : goal.ternary::TernaryExprPhysicalExpr::evaluate_on_groups-returns-in_err-predicate-clause-causes
ternary::TernaryExprPhysicalExpr::evaluate_on_groups-returns-in_err-predicate-clause-causes t g c =
    let is_predicate = ap plan_of c.deref.ensures ∙ ap (λ (n : PlannedTernary). n.predicate) c.self.view_is in
    let w = group_cause_at c.in_err-predicate.field-0.0 c.args.df.now c.args.state.now c.args.groups.now is_predicate c.in_err-predicate.ensures.causes in
    passed_on c.from_residual.result c.in_err-predicate.field-0.0 (λ e. IsGroupCause e (ternary_plan c.args.self.now) (beside c.args.df.now c.args.state.now) c.args.groups.now) c.from_residual.ensures.1 (predicate_group_cause c.in_err-predicate.field-0.0 c.args.self.now (beside c.args.df.now c.args.state.now) c.args.groups.now w)

pub ternary::TernaryExprPhysicalExpr::evaluate_on_groups-returns-in_err-truthy-clause-causes : goal.ternary::TernaryExprPhysicalExpr::evaluate_on_groups-returns-in_err-truthy-clause-causes
ternary::TernaryExprPhysicalExpr::evaluate_on_groups-returns-in_err-truthy-clause-causes t g c =
    let is_truthy = ap plan_of c.deref-2.ensures ∙ ap (λ (n : PlannedTernary). n.truthy) c.self.view_is in
    let w = group_cause_below c.in_err-truthy.field-0.0 c.args.df.now c.args.groups.now is_truthy c.evaluate_on_groups.ensures.frame c.in_err-truthy.ensures.causes in
    passed_on c.from_residual-in_err-truthy.result c.in_err-truthy.field-0.0 (λ e. IsGroupCause e (ternary_plan c.args.self.now) (beside c.args.df.now c.args.state.now) c.args.groups.now) c.from_residual-in_err-truthy.ensures.1 (truthy_group_cause c.in_err-truthy.field-0.0 c.args.self.now (beside c.args.df.now c.args.state.now) c.args.groups.now w)

pub ternary::TernaryExprPhysicalExpr::evaluate_on_groups-returns-in_err-falsy-clause-causes : goal.ternary::TernaryExprPhysicalExpr::evaluate_on_groups-returns-in_err-falsy-clause-causes
ternary::TernaryExprPhysicalExpr::evaluate_on_groups-returns-in_err-falsy-clause-causes t g c =
    let is_falsy = ap plan_of c.deref-3.ensures ∙ ap (λ (n : PlannedTernary). n.falsy) c.self.view_is in
    let w = group_cause_below c.in_err-falsy.field-0.0 c.args.df.now c.args.groups.now is_falsy (c.evaluate_on_groups-2.ensures.frame ∙ c.evaluate_on_groups.ensures.frame) c.in_err-falsy.ensures.causes in
    passed_on c.from_residual-in_err-falsy.result c.in_err-falsy.field-0.0 (λ e. IsGroupCause e (ternary_plan c.args.self.now) (beside c.args.df.now c.args.state.now) c.args.groups.now) c.from_residual-in_err-falsy.ensures.1 (falsy_group_cause c.in_err-falsy.field-0.0 c.args.self.now (beside c.args.df.now c.args.state.now) c.args.groups.now w)

pub ternary::TernaryExprPhysicalExpr::evaluate_on_groups-ternary_groups-requires : goal.ternary::TernaryExprPhysicalExpr::evaluate_on_groups-ternary_groups-requires
ternary::TernaryExprPhysicalExpr::evaluate_on_groups-ternary_groups-requires t g c =
    let is_predicate = ap plan_of c.deref.ensures ∙ ap (λ (n : PlannedTernary). n.predicate) c.self.view_is in
    let x = context_at c.args.df.now c.args.state.now c.args.groups.now is_predicate c.in_ok-predicate.ensures.context in
    let is_truthy = ap plan_of c.deref-2.ensures ∙ ap (λ (n : PlannedTernary). n.truthy) c.self.view_is in
    let y = context_below c.args.df.now c.args.groups.now is_truthy c.evaluate_on_groups.ensures.frame c.in_ok-truthy.ensures.context in
    let is_falsy = ap plan_of c.deref-3.ensures ∙ ap (λ (n : PlannedTernary). n.falsy) c.self.view_is in
    let z = context_below c.args.df.now c.args.groups.now is_falsy (c.evaluate_on_groups-2.ensures.frame ∙ c.evaluate_on_groups.ensures.frame) c.in_ok-falsy.ensures.context in
    three_paired c.args.self.now.predicate c.args.self.now.truthy c.args.self.now.falsy (beside c.args.df.now c.args.state.now) c.args.groups.now c.in_ok-predicate.predicate c.in_ok-truthy.truthy c.in_ok-falsy.falsy x y z

pub cast::CastExprPhysicalExpr::evaluate_on_groups-returns-in_err-input-clause-causes : goal.cast::CastExprPhysicalExpr::evaluate_on_groups-returns-in_err-input-clause-causes
cast::CastExprPhysicalExpr::evaluate_on_groups-returns-in_err-input-clause-causes t g c =
    let is_input = ap plan_of c.deref.ensures ∙ ap (λ (n : PlannedCast). n.input) c.self.view_is in
    let w = group_cause_at c.in_err-input.field-0.0 c.args.df.now c.args.state.now c.args.groups.now is_input c.in_err-input.ensures.causes in
    passed_on c.from_residual.result c.in_err-input.field-0.0 (λ e. IsGroupCause e (cast_plan c.args.self.now) (beside c.args.df.now c.args.state.now) c.args.groups.now) c.from_residual.ensures.1 (cast_group_cause c.in_err-input.field-0.0 c.args.self.now (beside c.args.df.now c.args.state.now) c.args.groups.now w)

pub filter::FilterExprPhysicalExpr::evaluate_on_groups-returns-in_err-input-clause-causes : goal.filter::FilterExprPhysicalExpr::evaluate_on_groups-returns-in_err-input-clause-causes
filter::FilterExprPhysicalExpr::evaluate_on_groups-returns-in_err-input-clause-causes t g c =
    let is_input = ap plan_of c.deref.ensures ∙ ap (λ (n : PlannedFilter). n.input) c.self.view_is in
    let w = group_cause_at c.in_err-input.field-0.0 c.args.df.now c.args.state.now c.args.groups.now is_input c.in_err-input.ensures.causes in
    passed_on c.from_residual.result c.in_err-input.field-0.0 (λ e. IsGroupCause e (filter_plan c.args.self.now) (beside c.args.df.now c.args.state.now) c.args.groups.now) c.from_residual.ensures.1 (filter_input_group_cause c.in_err-input.field-0.0 c.args.self.now (beside c.args.df.now c.args.state.now) c.args.groups.now w)

pub filter::FilterExprPhysicalExpr::evaluate_on_groups-returns-in_err-by-clause-causes : goal.filter::FilterExprPhysicalExpr::evaluate_on_groups-returns-in_err-by-clause-causes
filter::FilterExprPhysicalExpr::evaluate_on_groups-returns-in_err-by-clause-causes t g c =
    let is_by = ap plan_of c.deref-2.ensures ∙ ap (λ (n : PlannedFilter). n.by) c.self.view_is in
    let w = group_cause_below c.in_err-by.field-0.0 c.args.df.now c.args.groups.now is_by c.evaluate_on_groups.ensures.frame c.in_err-by.ensures.causes in
    passed_on c.from_residual-in_err-by.result c.in_err-by.field-0.0 (λ e. IsGroupCause e (filter_plan c.args.self.now) (beside c.args.df.now c.args.state.now) c.args.groups.now) c.from_residual-in_err-by.ensures.1 (mask_group_cause c.in_err-by.field-0.0 c.args.self.now (beside c.args.df.now c.args.state.now) c.args.groups.now w)

pub filter::FilterExprPhysicalExpr::evaluate_on_groups-filter_groups-requires : goal.filter::FilterExprPhysicalExpr::evaluate_on_groups-filter_groups-requires
filter::FilterExprPhysicalExpr::evaluate_on_groups-filter_groups-requires t g c =
    let is_input = ap plan_of c.deref.ensures ∙ ap (λ (n : PlannedFilter). n.input) c.self.view_is in
    let x = context_at c.args.df.now c.args.state.now c.args.groups.now is_input c.in_ok-input.ensures.context in
    let is_by = ap plan_of c.deref-2.ensures ∙ ap (λ (n : PlannedFilter). n.by) c.self.view_is in
    let y = context_below c.args.df.now c.args.groups.now is_by c.evaluate_on_groups.ensures.frame c.in_ok-by.ensures.context in
    two_paired c.args.self.now.input c.args.self.now.by (beside c.args.df.now c.args.state.now) c.args.groups.now c.in_ok-input.input c.in_ok-by.by x y

pub slice::SliceExprPhysicalExpr::evaluate_on_groups-returns-in_err-input-clause-causes : goal.slice::SliceExprPhysicalExpr::evaluate_on_groups-returns-in_err-input-clause-causes
slice::SliceExprPhysicalExpr::evaluate_on_groups-returns-in_err-input-clause-causes t g c =
    let is_input = ap plan_of c.deref.ensures ∙ ap (λ (n : PlannedSlice). n.input) c.self.view_is in
    let w = group_cause_at c.in_err-input.field-0.0 c.args.df.now c.args.state.now c.args.groups.now is_input c.in_err-input.ensures.causes in
    passed_on c.from_residual.result c.in_err-input.field-0.0 (λ e. IsGroupCause e (slice_plan c.args.self.now) (beside c.args.df.now c.args.state.now) c.args.groups.now) c.from_residual.ensures.1 (slice_input_group_cause c.in_err-input.field-0.0 c.args.self.now (beside c.args.df.now c.args.state.now) c.args.groups.now w)

pub slice::SliceExprPhysicalExpr::evaluate_on_groups-returns-in_err-offset-clause-causes : goal.slice::SliceExprPhysicalExpr::evaluate_on_groups-returns-in_err-offset-clause-causes
slice::SliceExprPhysicalExpr::evaluate_on_groups-returns-in_err-offset-clause-causes t g c =
    let is_offset = ap plan_of c.deref-2.ensures ∙ ap (λ (n : PlannedSlice). n.offset) c.self.view_is in
    let w = group_cause_below c.in_err-offset.field-0.0 c.args.df.now c.args.groups.now is_offset c.evaluate_on_groups.ensures.frame c.in_err-offset.ensures.causes in
    passed_on c.from_residual-in_err-offset.result c.in_err-offset.field-0.0 (λ e. IsGroupCause e (slice_plan c.args.self.now) (beside c.args.df.now c.args.state.now) c.args.groups.now) c.from_residual-in_err-offset.ensures.1 (offset_group_cause c.in_err-offset.field-0.0 c.args.self.now (beside c.args.df.now c.args.state.now) c.args.groups.now w)

pub slice::SliceExprPhysicalExpr::evaluate_on_groups-returns-in_err-length-clause-causes : goal.slice::SliceExprPhysicalExpr::evaluate_on_groups-returns-in_err-length-clause-causes
slice::SliceExprPhysicalExpr::evaluate_on_groups-returns-in_err-length-clause-causes t g c =
    let is_length = ap plan_of c.deref-3.ensures ∙ ap (λ (n : PlannedSlice). n.length) c.self.view_is in
    let w = group_cause_below c.in_err-length.field-0.0 c.args.df.now c.args.groups.now is_length (c.evaluate_on_groups-2.ensures.frame ∙ c.evaluate_on_groups.ensures.frame) c.in_err-length.ensures.causes in
    passed_on c.from_residual-in_err-length.result c.in_err-length.field-0.0 (λ e. IsGroupCause e (slice_plan c.args.self.now) (beside c.args.df.now c.args.state.now) c.args.groups.now) c.from_residual-in_err-length.ensures.1 (length_group_cause c.in_err-length.field-0.0 c.args.self.now (beside c.args.df.now c.args.state.now) c.args.groups.now w)

pub slice::SliceExprPhysicalExpr::evaluate_on_groups-slice_groups-requires : goal.slice::SliceExprPhysicalExpr::evaluate_on_groups-slice_groups-requires
slice::SliceExprPhysicalExpr::evaluate_on_groups-slice_groups-requires t g c =
    let is_input = ap plan_of c.deref.ensures ∙ ap (λ (n : PlannedSlice). n.input) c.self.view_is in
    let x = context_at c.args.df.now c.args.state.now c.args.groups.now is_input c.in_ok-input.ensures.context in
    let is_offset = ap plan_of c.deref-2.ensures ∙ ap (λ (n : PlannedSlice). n.offset) c.self.view_is in
    let y = context_below c.args.df.now c.args.groups.now is_offset c.evaluate_on_groups.ensures.frame c.in_ok-offset.ensures.context in
    let is_length = ap plan_of c.deref-3.ensures ∙ ap (λ (n : PlannedSlice). n.length) c.self.view_is in
    let z = context_below c.args.df.now c.args.groups.now is_length (c.evaluate_on_groups-2.ensures.frame ∙ c.evaluate_on_groups.ensures.frame) c.in_ok-length.ensures.context in
    three_paired c.args.self.now.input c.args.self.now.offset c.args.self.now.length (beside c.args.df.now c.args.state.now) c.args.groups.now c.in_ok-input.input c.in_ok-offset.offset c.in_ok-length.length x y z

pub gather::GatherExprPhysicalExpr::evaluate_on_groups-returns-in_err-input-clause-causes : goal.gather::GatherExprPhysicalExpr::evaluate_on_groups-returns-in_err-input-clause-causes
gather::GatherExprPhysicalExpr::evaluate_on_groups-returns-in_err-input-clause-causes t g c =
    let is_phys_expr = ap plan_of c.deref.ensures ∙ ap (λ (n : PlannedGather). n.phys_expr) c.self.view_is in
    let w = group_cause_at c.in_err-input.field-0.0 c.args.df.now c.args.state.now c.args.groups.now is_phys_expr c.in_err-input.ensures.causes in
    passed_on c.from_residual.result c.in_err-input.field-0.0 (λ e. IsGroupCause e (gather_plan c.args.self.now) (beside c.args.df.now c.args.state.now) c.args.groups.now) c.from_residual.ensures.1 (gathered_group_cause c.in_err-input.field-0.0 c.args.self.now (beside c.args.df.now c.args.state.now) c.args.groups.now w)

pub gather::GatherExprPhysicalExpr::evaluate_on_groups-returns-in_err-idx-clause-causes : goal.gather::GatherExprPhysicalExpr::evaluate_on_groups-returns-in_err-idx-clause-causes
gather::GatherExprPhysicalExpr::evaluate_on_groups-returns-in_err-idx-clause-causes t g c =
    let is_idx = ap plan_of c.deref-2.ensures ∙ ap (λ (n : PlannedGather). n.idx) c.self.view_is in
    let w = group_cause_below c.in_err-idx.field-0.0 c.args.df.now c.args.groups.now is_idx c.evaluate_on_groups.ensures.frame c.in_err-idx.ensures.causes in
    passed_on c.from_residual-in_err-idx.result c.in_err-idx.field-0.0 (λ e. IsGroupCause e (gather_plan c.args.self.now) (beside c.args.df.now c.args.state.now) c.args.groups.now) c.from_residual-in_err-idx.ensures.1 (index_group_cause c.in_err-idx.field-0.0 c.args.self.now (beside c.args.df.now c.args.state.now) c.args.groups.now w)

pub gather::GatherExprPhysicalExpr::evaluate_on_groups-gather_groups-requires : goal.gather::GatherExprPhysicalExpr::evaluate_on_groups-gather_groups-requires
gather::GatherExprPhysicalExpr::evaluate_on_groups-gather_groups-requires t g c =
    let is_phys_expr = ap plan_of c.deref.ensures ∙ ap (λ (n : PlannedGather). n.phys_expr) c.self.view_is in
    let x = context_at c.args.df.now c.args.state.now c.args.groups.now is_phys_expr c.in_ok-input.ensures.context in
    let is_idx = ap plan_of c.deref-2.ensures ∙ ap (λ (n : PlannedGather). n.idx) c.self.view_is in
    let y = context_below c.args.df.now c.args.groups.now is_idx c.evaluate_on_groups.ensures.frame c.in_ok-idx.ensures.context in
    two_paired c.args.self.now.phys_expr c.args.self.now.idx (beside c.args.df.now c.args.state.now) c.args.groups.now c.in_ok-input.input c.in_ok-idx.idx x y

pub sort::SortExprPhysicalExpr::evaluate_on_groups-returns-in_err-input-clause-causes : goal.sort::SortExprPhysicalExpr::evaluate_on_groups-returns-in_err-input-clause-causes
sort::SortExprPhysicalExpr::evaluate_on_groups-returns-in_err-input-clause-causes t g c =
    let is_physical_expr = ap plan_of c.deref.ensures ∙ ap (λ (n : PlannedSort). n.physical_expr) c.self.view_is in
    let w = group_cause_at c.in_err-input.field-0.0 c.args.df.now c.args.state.now c.args.groups.now is_physical_expr c.in_err-input.ensures.causes in
    passed_on c.from_residual.result c.in_err-input.field-0.0 (λ e. IsGroupCause e (sort_plan c.args.self.now) (beside c.args.df.now c.args.state.now) c.args.groups.now) c.from_residual.ensures.1 (sorted_group_cause c.in_err-input.field-0.0 c.args.self.now (beside c.args.df.now c.args.state.now) c.args.groups.now w)

pub aggregation::AggregationExprPhysicalExpr::evaluate_on_groups-returns-in_err-input-clause-causes : goal.aggregation::AggregationExprPhysicalExpr::evaluate_on_groups-returns-in_err-input-clause-causes
aggregation::AggregationExprPhysicalExpr::evaluate_on_groups-returns-in_err-input-clause-causes t g c =
    let is_input = ap plan_of c.deref.ensures ∙ ap (λ (n : PlannedReduction). n.input) c.self.view_is in
    let w = group_cause_at c.in_err-input.field-0.0 c.args.df.now c.args.state.now c.args.groups.now is_input c.in_err-input.ensures.causes in
    passed_on c.from_residual.result c.in_err-input.field-0.0 (λ e. IsGroupCause e (reduction_plan c.args.self.now) (beside c.args.df.now c.args.state.now) c.args.groups.now) c.from_residual.ensures.1 (reduced_group_cause c.in_err-input.field-0.0 c.args.self.now (beside c.args.df.now c.args.state.now) c.args.groups.now w)

pub phys_expr::PhysExprPhysicalExpr::evaluate_on_groups-returns-in-Column-clause-context : goal.phys_expr::PhysExprPhysicalExpr::evaluate_on_groups-returns-in-Column-clause-context
phys_expr::PhysExprPhysicalExpr::evaluate_on_groups-returns-in-Column-clause-context t g c =
    subst (λ (e : PhysExpr). IfOk c.evaluate_on_groups.result (IsContextOf (plan_of e) (beside c.args.df.now c.args.state.now) c.args.groups.now)) (sym c.in-Column.is) c.evaluate_on_groups.ensures.context

pub phys_expr::PhysExprPhysicalExpr::evaluate_on_groups-returns-in-Column-clause-causes : goal.phys_expr::PhysExprPhysicalExpr::evaluate_on_groups-returns-in-Column-clause-causes
phys_expr::PhysExprPhysicalExpr::evaluate_on_groups-returns-in-Column-clause-causes t g c =
    subst (λ (e : PhysExpr). IfErr c.evaluate_on_groups.result (λ w. IsGroupCause w (plan_of e) (beside c.args.df.now c.args.state.now) c.args.groups.now)) (sym c.in-Column.is) c.evaluate_on_groups.ensures.causes

pub phys_expr::PhysExprPhysicalExpr::evaluate_on_groups-returns-in-Column-clause-ticks : goal.phys_expr::PhysExprPhysicalExpr::evaluate_on_groups-returns-in-Column-clause-ticks
phys_expr::PhysExprPhysicalExpr::evaluate_on_groups-returns-in-Column-clause-ticks t g c =
    subst (λ (e : PhysExpr). OnOk c.evaluate_on_groups.result (RunExactly (plan_of e).tree c.args.kernels.now c.evaluate_on_groups.new.kernels)) (sym c.in-Column.is) c.evaluate_on_groups.ensures.ticks

pub phys_expr::PhysExprPhysicalExpr::evaluate_on_groups-returns-in-Column-clause-cost : goal.phys_expr::PhysExprPhysicalExpr::evaluate_on_groups-returns-in-Column-clause-cost
phys_expr::PhysExprPhysicalExpr::evaluate_on_groups-returns-in-Column-clause-cost t g c =
    subst (λ (e : PhysExpr). RunOnGroups (plan_of e).tree (length c.args.groups.now.groups) c.args.kernels.now c.evaluate_on_groups.new.kernels) (sym c.in-Column.is) c.evaluate_on_groups.ensures.cost

pub phys_expr::PhysExprPhysicalExpr::evaluate_on_groups-returns-in-Literal-clause-context : goal.phys_expr::PhysExprPhysicalExpr::evaluate_on_groups-returns-in-Literal-clause-context
phys_expr::PhysExprPhysicalExpr::evaluate_on_groups-returns-in-Literal-clause-context t g c =
    subst (λ (e : PhysExpr). IfOk c.evaluate_on_groups-in-Literal.result (IsContextOf (plan_of e) (beside c.args.df.now c.args.state.now) c.args.groups.now)) (sym c.in-Literal.is) c.evaluate_on_groups-in-Literal.ensures.context

pub phys_expr::PhysExprPhysicalExpr::evaluate_on_groups-returns-in-Literal-clause-causes : goal.phys_expr::PhysExprPhysicalExpr::evaluate_on_groups-returns-in-Literal-clause-causes
phys_expr::PhysExprPhysicalExpr::evaluate_on_groups-returns-in-Literal-clause-causes t g c =
    subst (λ (e : PhysExpr). IfErr c.evaluate_on_groups-in-Literal.result (λ w. IsGroupCause w (plan_of e) (beside c.args.df.now c.args.state.now) c.args.groups.now)) (sym c.in-Literal.is) c.evaluate_on_groups-in-Literal.ensures.causes

pub phys_expr::PhysExprPhysicalExpr::evaluate_on_groups-returns-in-Literal-clause-ticks : goal.phys_expr::PhysExprPhysicalExpr::evaluate_on_groups-returns-in-Literal-clause-ticks
phys_expr::PhysExprPhysicalExpr::evaluate_on_groups-returns-in-Literal-clause-ticks t g c =
    subst (λ (e : PhysExpr). OnOk c.evaluate_on_groups-in-Literal.result (RunExactly (plan_of e).tree c.args.kernels.now c.evaluate_on_groups-in-Literal.new.kernels)) (sym c.in-Literal.is) c.evaluate_on_groups-in-Literal.ensures.ticks

pub phys_expr::PhysExprPhysicalExpr::evaluate_on_groups-returns-in-Literal-clause-cost : goal.phys_expr::PhysExprPhysicalExpr::evaluate_on_groups-returns-in-Literal-clause-cost
phys_expr::PhysExprPhysicalExpr::evaluate_on_groups-returns-in-Literal-clause-cost t g c =
    subst (λ (e : PhysExpr). RunOnGroups (plan_of e).tree (length c.args.groups.now.groups) c.args.kernels.now c.evaluate_on_groups-in-Literal.new.kernels) (sym c.in-Literal.is) c.evaluate_on_groups-in-Literal.ensures.cost

pub phys_expr::PhysExprPhysicalExpr::evaluate_on_groups-returns-in-Alias-clause-context : goal.phys_expr::PhysExprPhysicalExpr::evaluate_on_groups-returns-in-Alias-clause-context
phys_expr::PhysExprPhysicalExpr::evaluate_on_groups-returns-in-Alias-clause-context t g c =
    subst (λ (e : PhysExpr). IfOk c.evaluate_on_groups-in-Alias.result (IsContextOf (plan_of e) (beside c.args.df.now c.args.state.now) c.args.groups.now)) (sym c.in-Alias.is) c.evaluate_on_groups-in-Alias.ensures.context

pub phys_expr::PhysExprPhysicalExpr::evaluate_on_groups-returns-in-Alias-clause-causes : goal.phys_expr::PhysExprPhysicalExpr::evaluate_on_groups-returns-in-Alias-clause-causes
phys_expr::PhysExprPhysicalExpr::evaluate_on_groups-returns-in-Alias-clause-causes t g c =
    subst (λ (e : PhysExpr). IfErr c.evaluate_on_groups-in-Alias.result (λ w. IsGroupCause w (plan_of e) (beside c.args.df.now c.args.state.now) c.args.groups.now)) (sym c.in-Alias.is) c.evaluate_on_groups-in-Alias.ensures.causes

pub phys_expr::PhysExprPhysicalExpr::evaluate_on_groups-returns-in-Alias-clause-ticks : goal.phys_expr::PhysExprPhysicalExpr::evaluate_on_groups-returns-in-Alias-clause-ticks
phys_expr::PhysExprPhysicalExpr::evaluate_on_groups-returns-in-Alias-clause-ticks t g c =
    subst (λ (e : PhysExpr). OnOk c.evaluate_on_groups-in-Alias.result (RunExactly (plan_of e).tree c.args.kernels.now c.evaluate_on_groups-in-Alias.new.kernels)) (sym c.in-Alias.is) c.evaluate_on_groups-in-Alias.ensures.ticks

pub phys_expr::PhysExprPhysicalExpr::evaluate_on_groups-returns-in-Alias-clause-cost : goal.phys_expr::PhysExprPhysicalExpr::evaluate_on_groups-returns-in-Alias-clause-cost
phys_expr::PhysExprPhysicalExpr::evaluate_on_groups-returns-in-Alias-clause-cost t g c =
    subst (λ (e : PhysExpr). RunOnGroups (plan_of e).tree (length c.args.groups.now.groups) c.args.kernels.now c.evaluate_on_groups-in-Alias.new.kernels) (sym c.in-Alias.is) c.evaluate_on_groups-in-Alias.ensures.cost

pub phys_expr::PhysExprPhysicalExpr::evaluate_on_groups-returns-in-Binary-clause-context : goal.phys_expr::PhysExprPhysicalExpr::evaluate_on_groups-returns-in-Binary-clause-context
phys_expr::PhysExprPhysicalExpr::evaluate_on_groups-returns-in-Binary-clause-context t g c =
    subst (λ (e : PhysExpr). IfOk c.evaluate_on_groups-in-Binary.result (IsContextOf (plan_of e) (beside c.args.df.now c.args.state.now) c.args.groups.now)) (sym c.in-Binary.is) c.evaluate_on_groups-in-Binary.ensures.context

pub phys_expr::PhysExprPhysicalExpr::evaluate_on_groups-returns-in-Binary-clause-causes : goal.phys_expr::PhysExprPhysicalExpr::evaluate_on_groups-returns-in-Binary-clause-causes
phys_expr::PhysExprPhysicalExpr::evaluate_on_groups-returns-in-Binary-clause-causes t g c =
    subst (λ (e : PhysExpr). IfErr c.evaluate_on_groups-in-Binary.result (λ w. IsGroupCause w (plan_of e) (beside c.args.df.now c.args.state.now) c.args.groups.now)) (sym c.in-Binary.is) c.evaluate_on_groups-in-Binary.ensures.causes

pub phys_expr::PhysExprPhysicalExpr::evaluate_on_groups-returns-in-Binary-clause-ticks : goal.phys_expr::PhysExprPhysicalExpr::evaluate_on_groups-returns-in-Binary-clause-ticks
phys_expr::PhysExprPhysicalExpr::evaluate_on_groups-returns-in-Binary-clause-ticks t g c =
    subst (λ (e : PhysExpr). OnOk c.evaluate_on_groups-in-Binary.result (RunExactly (plan_of e).tree c.args.kernels.now c.evaluate_on_groups-in-Binary.new.kernels)) (sym c.in-Binary.is) c.evaluate_on_groups-in-Binary.ensures.ticks

pub phys_expr::PhysExprPhysicalExpr::evaluate_on_groups-returns-in-Binary-clause-cost : goal.phys_expr::PhysExprPhysicalExpr::evaluate_on_groups-returns-in-Binary-clause-cost
phys_expr::PhysExprPhysicalExpr::evaluate_on_groups-returns-in-Binary-clause-cost t g c =
    subst (λ (e : PhysExpr). RunOnGroups (plan_of e).tree (length c.args.groups.now.groups) c.args.kernels.now c.evaluate_on_groups-in-Binary.new.kernels) (sym c.in-Binary.is) c.evaluate_on_groups-in-Binary.ensures.cost

pub phys_expr::PhysExprPhysicalExpr::evaluate_on_groups-returns-in-Ternary-clause-context : goal.phys_expr::PhysExprPhysicalExpr::evaluate_on_groups-returns-in-Ternary-clause-context
phys_expr::PhysExprPhysicalExpr::evaluate_on_groups-returns-in-Ternary-clause-context t g c =
    subst (λ (e : PhysExpr). IfOk c.evaluate_on_groups-in-Ternary.result (IsContextOf (plan_of e) (beside c.args.df.now c.args.state.now) c.args.groups.now)) (sym c.in-Ternary.is) c.evaluate_on_groups-in-Ternary.ensures.context

pub phys_expr::PhysExprPhysicalExpr::evaluate_on_groups-returns-in-Ternary-clause-causes : goal.phys_expr::PhysExprPhysicalExpr::evaluate_on_groups-returns-in-Ternary-clause-causes
phys_expr::PhysExprPhysicalExpr::evaluate_on_groups-returns-in-Ternary-clause-causes t g c =
    subst (λ (e : PhysExpr). IfErr c.evaluate_on_groups-in-Ternary.result (λ w. IsGroupCause w (plan_of e) (beside c.args.df.now c.args.state.now) c.args.groups.now)) (sym c.in-Ternary.is) c.evaluate_on_groups-in-Ternary.ensures.causes

pub phys_expr::PhysExprPhysicalExpr::evaluate_on_groups-returns-in-Ternary-clause-ticks : goal.phys_expr::PhysExprPhysicalExpr::evaluate_on_groups-returns-in-Ternary-clause-ticks
phys_expr::PhysExprPhysicalExpr::evaluate_on_groups-returns-in-Ternary-clause-ticks t g c =
    subst (λ (e : PhysExpr). OnOk c.evaluate_on_groups-in-Ternary.result (RunExactly (plan_of e).tree c.args.kernels.now c.evaluate_on_groups-in-Ternary.new.kernels)) (sym c.in-Ternary.is) c.evaluate_on_groups-in-Ternary.ensures.ticks

pub phys_expr::PhysExprPhysicalExpr::evaluate_on_groups-returns-in-Ternary-clause-cost : goal.phys_expr::PhysExprPhysicalExpr::evaluate_on_groups-returns-in-Ternary-clause-cost
phys_expr::PhysExprPhysicalExpr::evaluate_on_groups-returns-in-Ternary-clause-cost t g c =
    subst (λ (e : PhysExpr). RunOnGroups (plan_of e).tree (length c.args.groups.now.groups) c.args.kernels.now c.evaluate_on_groups-in-Ternary.new.kernels) (sym c.in-Ternary.is) c.evaluate_on_groups-in-Ternary.ensures.cost

pub phys_expr::PhysExprPhysicalExpr::evaluate_on_groups-returns-in-Cast-clause-context : goal.phys_expr::PhysExprPhysicalExpr::evaluate_on_groups-returns-in-Cast-clause-context
phys_expr::PhysExprPhysicalExpr::evaluate_on_groups-returns-in-Cast-clause-context t g c =
    subst (λ (e : PhysExpr). IfOk c.evaluate_on_groups-in-Cast.result (IsContextOf (plan_of e) (beside c.args.df.now c.args.state.now) c.args.groups.now)) (sym c.in-Cast.is) c.evaluate_on_groups-in-Cast.ensures.context

pub phys_expr::PhysExprPhysicalExpr::evaluate_on_groups-returns-in-Cast-clause-causes : goal.phys_expr::PhysExprPhysicalExpr::evaluate_on_groups-returns-in-Cast-clause-causes
phys_expr::PhysExprPhysicalExpr::evaluate_on_groups-returns-in-Cast-clause-causes t g c =
    subst (λ (e : PhysExpr). IfErr c.evaluate_on_groups-in-Cast.result (λ w. IsGroupCause w (plan_of e) (beside c.args.df.now c.args.state.now) c.args.groups.now)) (sym c.in-Cast.is) c.evaluate_on_groups-in-Cast.ensures.causes

pub phys_expr::PhysExprPhysicalExpr::evaluate_on_groups-returns-in-Cast-clause-ticks : goal.phys_expr::PhysExprPhysicalExpr::evaluate_on_groups-returns-in-Cast-clause-ticks
phys_expr::PhysExprPhysicalExpr::evaluate_on_groups-returns-in-Cast-clause-ticks t g c =
    subst (λ (e : PhysExpr). OnOk c.evaluate_on_groups-in-Cast.result (RunExactly (plan_of e).tree c.args.kernels.now c.evaluate_on_groups-in-Cast.new.kernels)) (sym c.in-Cast.is) c.evaluate_on_groups-in-Cast.ensures.ticks

pub phys_expr::PhysExprPhysicalExpr::evaluate_on_groups-returns-in-Cast-clause-cost : goal.phys_expr::PhysExprPhysicalExpr::evaluate_on_groups-returns-in-Cast-clause-cost
phys_expr::PhysExprPhysicalExpr::evaluate_on_groups-returns-in-Cast-clause-cost t g c =
    subst (λ (e : PhysExpr). RunOnGroups (plan_of e).tree (length c.args.groups.now.groups) c.args.kernels.now c.evaluate_on_groups-in-Cast.new.kernels) (sym c.in-Cast.is) c.evaluate_on_groups-in-Cast.ensures.cost

pub phys_expr::PhysExprPhysicalExpr::evaluate_on_groups-returns-in-Apply-clause-context : goal.phys_expr::PhysExprPhysicalExpr::evaluate_on_groups-returns-in-Apply-clause-context
phys_expr::PhysExprPhysicalExpr::evaluate_on_groups-returns-in-Apply-clause-context t g c =
    subst (λ (e : PhysExpr). IfOk c.evaluate_on_groups-in-Apply.result (IsContextOf (plan_of e) (beside c.args.df.now c.args.state.now) c.args.groups.now)) (sym c.in-Apply.is) c.evaluate_on_groups-in-Apply.ensures.context

pub phys_expr::PhysExprPhysicalExpr::evaluate_on_groups-returns-in-Apply-clause-causes : goal.phys_expr::PhysExprPhysicalExpr::evaluate_on_groups-returns-in-Apply-clause-causes
phys_expr::PhysExprPhysicalExpr::evaluate_on_groups-returns-in-Apply-clause-causes t g c =
    subst (λ (e : PhysExpr). IfErr c.evaluate_on_groups-in-Apply.result (λ w. IsGroupCause w (plan_of e) (beside c.args.df.now c.args.state.now) c.args.groups.now)) (sym c.in-Apply.is) c.evaluate_on_groups-in-Apply.ensures.causes

pub phys_expr::PhysExprPhysicalExpr::evaluate_on_groups-returns-in-Apply-clause-cost : goal.phys_expr::PhysExprPhysicalExpr::evaluate_on_groups-returns-in-Apply-clause-cost
phys_expr::PhysExprPhysicalExpr::evaluate_on_groups-returns-in-Apply-clause-cost t g c =
    subst (λ (e : PhysExpr). RunOnGroups (plan_of e).tree (length c.args.groups.now.groups) c.args.kernels.now c.evaluate_on_groups-in-Apply.new.kernels) (sym c.in-Apply.is) c.evaluate_on_groups-in-Apply.ensures.cost

pub phys_expr::PhysExprPhysicalExpr::evaluate_on_groups-returns-in-Filter-clause-context : goal.phys_expr::PhysExprPhysicalExpr::evaluate_on_groups-returns-in-Filter-clause-context
phys_expr::PhysExprPhysicalExpr::evaluate_on_groups-returns-in-Filter-clause-context t g c =
    subst (λ (e : PhysExpr). IfOk c.evaluate_on_groups-in-Filter.result (IsContextOf (plan_of e) (beside c.args.df.now c.args.state.now) c.args.groups.now)) (sym c.in-Filter.is) c.evaluate_on_groups-in-Filter.ensures.context

pub phys_expr::PhysExprPhysicalExpr::evaluate_on_groups-returns-in-Filter-clause-causes : goal.phys_expr::PhysExprPhysicalExpr::evaluate_on_groups-returns-in-Filter-clause-causes
phys_expr::PhysExprPhysicalExpr::evaluate_on_groups-returns-in-Filter-clause-causes t g c =
    subst (λ (e : PhysExpr). IfErr c.evaluate_on_groups-in-Filter.result (λ w. IsGroupCause w (plan_of e) (beside c.args.df.now c.args.state.now) c.args.groups.now)) (sym c.in-Filter.is) c.evaluate_on_groups-in-Filter.ensures.causes

pub phys_expr::PhysExprPhysicalExpr::evaluate_on_groups-returns-in-Filter-clause-ticks : goal.phys_expr::PhysExprPhysicalExpr::evaluate_on_groups-returns-in-Filter-clause-ticks
phys_expr::PhysExprPhysicalExpr::evaluate_on_groups-returns-in-Filter-clause-ticks t g c =
    subst (λ (e : PhysExpr). OnOk c.evaluate_on_groups-in-Filter.result (RunExactly (plan_of e).tree c.args.kernels.now c.evaluate_on_groups-in-Filter.new.kernels)) (sym c.in-Filter.is) c.evaluate_on_groups-in-Filter.ensures.ticks

pub phys_expr::PhysExprPhysicalExpr::evaluate_on_groups-returns-in-Filter-clause-cost : goal.phys_expr::PhysExprPhysicalExpr::evaluate_on_groups-returns-in-Filter-clause-cost
phys_expr::PhysExprPhysicalExpr::evaluate_on_groups-returns-in-Filter-clause-cost t g c =
    subst (λ (e : PhysExpr). RunOnGroups (plan_of e).tree (length c.args.groups.now.groups) c.args.kernels.now c.evaluate_on_groups-in-Filter.new.kernels) (sym c.in-Filter.is) c.evaluate_on_groups-in-Filter.ensures.cost

pub phys_expr::PhysExprPhysicalExpr::evaluate_on_groups-returns-in-Slice-clause-context : goal.phys_expr::PhysExprPhysicalExpr::evaluate_on_groups-returns-in-Slice-clause-context
phys_expr::PhysExprPhysicalExpr::evaluate_on_groups-returns-in-Slice-clause-context t g c =
    subst (λ (e : PhysExpr). IfOk c.evaluate_on_groups-in-Slice.result (IsContextOf (plan_of e) (beside c.args.df.now c.args.state.now) c.args.groups.now)) (sym c.in-Slice.is) c.evaluate_on_groups-in-Slice.ensures.context

pub phys_expr::PhysExprPhysicalExpr::evaluate_on_groups-returns-in-Slice-clause-causes : goal.phys_expr::PhysExprPhysicalExpr::evaluate_on_groups-returns-in-Slice-clause-causes
phys_expr::PhysExprPhysicalExpr::evaluate_on_groups-returns-in-Slice-clause-causes t g c =
    subst (λ (e : PhysExpr). IfErr c.evaluate_on_groups-in-Slice.result (λ w. IsGroupCause w (plan_of e) (beside c.args.df.now c.args.state.now) c.args.groups.now)) (sym c.in-Slice.is) c.evaluate_on_groups-in-Slice.ensures.causes

pub phys_expr::PhysExprPhysicalExpr::evaluate_on_groups-returns-in-Slice-clause-ticks : goal.phys_expr::PhysExprPhysicalExpr::evaluate_on_groups-returns-in-Slice-clause-ticks
phys_expr::PhysExprPhysicalExpr::evaluate_on_groups-returns-in-Slice-clause-ticks t g c =
    subst (λ (e : PhysExpr). OnOk c.evaluate_on_groups-in-Slice.result (RunExactly (plan_of e).tree c.args.kernels.now c.evaluate_on_groups-in-Slice.new.kernels)) (sym c.in-Slice.is) c.evaluate_on_groups-in-Slice.ensures.ticks

pub phys_expr::PhysExprPhysicalExpr::evaluate_on_groups-returns-in-Slice-clause-cost : goal.phys_expr::PhysExprPhysicalExpr::evaluate_on_groups-returns-in-Slice-clause-cost
phys_expr::PhysExprPhysicalExpr::evaluate_on_groups-returns-in-Slice-clause-cost t g c =
    subst (λ (e : PhysExpr). RunOnGroups (plan_of e).tree (length c.args.groups.now.groups) c.args.kernels.now c.evaluate_on_groups-in-Slice.new.kernels) (sym c.in-Slice.is) c.evaluate_on_groups-in-Slice.ensures.cost

pub phys_expr::PhysExprPhysicalExpr::evaluate_on_groups-returns-in-Gather-clause-context : goal.phys_expr::PhysExprPhysicalExpr::evaluate_on_groups-returns-in-Gather-clause-context
phys_expr::PhysExprPhysicalExpr::evaluate_on_groups-returns-in-Gather-clause-context t g c =
    subst (λ (e : PhysExpr). IfOk c.evaluate_on_groups-in-Gather.result (IsContextOf (plan_of e) (beside c.args.df.now c.args.state.now) c.args.groups.now)) (sym c.in-Gather.is) c.evaluate_on_groups-in-Gather.ensures.context

pub phys_expr::PhysExprPhysicalExpr::evaluate_on_groups-returns-in-Gather-clause-causes : goal.phys_expr::PhysExprPhysicalExpr::evaluate_on_groups-returns-in-Gather-clause-causes
phys_expr::PhysExprPhysicalExpr::evaluate_on_groups-returns-in-Gather-clause-causes t g c =
    subst (λ (e : PhysExpr). IfErr c.evaluate_on_groups-in-Gather.result (λ w. IsGroupCause w (plan_of e) (beside c.args.df.now c.args.state.now) c.args.groups.now)) (sym c.in-Gather.is) c.evaluate_on_groups-in-Gather.ensures.causes

pub phys_expr::PhysExprPhysicalExpr::evaluate_on_groups-returns-in-Gather-clause-ticks : goal.phys_expr::PhysExprPhysicalExpr::evaluate_on_groups-returns-in-Gather-clause-ticks
phys_expr::PhysExprPhysicalExpr::evaluate_on_groups-returns-in-Gather-clause-ticks t g c =
    subst (λ (e : PhysExpr). OnOk c.evaluate_on_groups-in-Gather.result (RunExactly (plan_of e).tree c.args.kernels.now c.evaluate_on_groups-in-Gather.new.kernels)) (sym c.in-Gather.is) c.evaluate_on_groups-in-Gather.ensures.ticks

pub phys_expr::PhysExprPhysicalExpr::evaluate_on_groups-returns-in-Gather-clause-cost : goal.phys_expr::PhysExprPhysicalExpr::evaluate_on_groups-returns-in-Gather-clause-cost
phys_expr::PhysExprPhysicalExpr::evaluate_on_groups-returns-in-Gather-clause-cost t g c =
    subst (λ (e : PhysExpr). RunOnGroups (plan_of e).tree (length c.args.groups.now.groups) c.args.kernels.now c.evaluate_on_groups-in-Gather.new.kernels) (sym c.in-Gather.is) c.evaluate_on_groups-in-Gather.ensures.cost

pub phys_expr::PhysExprPhysicalExpr::evaluate_on_groups-returns-in-Sort-clause-context : goal.phys_expr::PhysExprPhysicalExpr::evaluate_on_groups-returns-in-Sort-clause-context
phys_expr::PhysExprPhysicalExpr::evaluate_on_groups-returns-in-Sort-clause-context t g c =
    subst (λ (e : PhysExpr). IfOk c.evaluate_on_groups-in-Sort.result (IsContextOf (plan_of e) (beside c.args.df.now c.args.state.now) c.args.groups.now)) (sym c.in-Sort.is) c.evaluate_on_groups-in-Sort.ensures.context

pub phys_expr::PhysExprPhysicalExpr::evaluate_on_groups-returns-in-Sort-clause-causes : goal.phys_expr::PhysExprPhysicalExpr::evaluate_on_groups-returns-in-Sort-clause-causes
phys_expr::PhysExprPhysicalExpr::evaluate_on_groups-returns-in-Sort-clause-causes t g c =
    subst (λ (e : PhysExpr). IfErr c.evaluate_on_groups-in-Sort.result (λ w. IsGroupCause w (plan_of e) (beside c.args.df.now c.args.state.now) c.args.groups.now)) (sym c.in-Sort.is) c.evaluate_on_groups-in-Sort.ensures.causes

pub phys_expr::PhysExprPhysicalExpr::evaluate_on_groups-returns-in-Sort-clause-ticks : goal.phys_expr::PhysExprPhysicalExpr::evaluate_on_groups-returns-in-Sort-clause-ticks
phys_expr::PhysExprPhysicalExpr::evaluate_on_groups-returns-in-Sort-clause-ticks t g c =
    subst (λ (e : PhysExpr). OnOk c.evaluate_on_groups-in-Sort.result (RunExactly (plan_of e).tree c.args.kernels.now c.evaluate_on_groups-in-Sort.new.kernels)) (sym c.in-Sort.is) c.evaluate_on_groups-in-Sort.ensures.ticks

pub phys_expr::PhysExprPhysicalExpr::evaluate_on_groups-returns-in-Sort-clause-cost : goal.phys_expr::PhysExprPhysicalExpr::evaluate_on_groups-returns-in-Sort-clause-cost
phys_expr::PhysExprPhysicalExpr::evaluate_on_groups-returns-in-Sort-clause-cost t g c =
    subst (λ (e : PhysExpr). RunOnGroups (plan_of e).tree (length c.args.groups.now.groups) c.args.kernels.now c.evaluate_on_groups-in-Sort.new.kernels) (sym c.in-Sort.is) c.evaluate_on_groups-in-Sort.ensures.cost

pub phys_expr::PhysExprPhysicalExpr::evaluate_on_groups-returns-in-SortBy-clause-context : goal.phys_expr::PhysExprPhysicalExpr::evaluate_on_groups-returns-in-SortBy-clause-context
phys_expr::PhysExprPhysicalExpr::evaluate_on_groups-returns-in-SortBy-clause-context t g c =
    subst (λ (e : PhysExpr). IfOk c.evaluate_on_groups-in-SortBy.result (IsContextOf (plan_of e) (beside c.args.df.now c.args.state.now) c.args.groups.now)) (sym c.in-SortBy.is) c.evaluate_on_groups-in-SortBy.ensures.context

pub phys_expr::PhysExprPhysicalExpr::evaluate_on_groups-returns-in-SortBy-clause-causes : goal.phys_expr::PhysExprPhysicalExpr::evaluate_on_groups-returns-in-SortBy-clause-causes
phys_expr::PhysExprPhysicalExpr::evaluate_on_groups-returns-in-SortBy-clause-causes t g c =
    subst (λ (e : PhysExpr). IfErr c.evaluate_on_groups-in-SortBy.result (λ w. IsGroupCause w (plan_of e) (beside c.args.df.now c.args.state.now) c.args.groups.now)) (sym c.in-SortBy.is) c.evaluate_on_groups-in-SortBy.ensures.causes

pub phys_expr::PhysExprPhysicalExpr::evaluate_on_groups-returns-in-SortBy-clause-ticks : goal.phys_expr::PhysExprPhysicalExpr::evaluate_on_groups-returns-in-SortBy-clause-ticks
phys_expr::PhysExprPhysicalExpr::evaluate_on_groups-returns-in-SortBy-clause-ticks t g c =
    subst (λ (e : PhysExpr). OnOk c.evaluate_on_groups-in-SortBy.result (RunExactly (plan_of e).tree c.args.kernels.now c.evaluate_on_groups-in-SortBy.new.kernels)) (sym c.in-SortBy.is) c.evaluate_on_groups-in-SortBy.ensures.ticks

pub phys_expr::PhysExprPhysicalExpr::evaluate_on_groups-returns-in-SortBy-clause-cost : goal.phys_expr::PhysExprPhysicalExpr::evaluate_on_groups-returns-in-SortBy-clause-cost
phys_expr::PhysExprPhysicalExpr::evaluate_on_groups-returns-in-SortBy-clause-cost t g c =
    subst (λ (e : PhysExpr). RunOnGroups (plan_of e).tree (length c.args.groups.now.groups) c.args.kernels.now c.evaluate_on_groups-in-SortBy.new.kernels) (sym c.in-SortBy.is) c.evaluate_on_groups-in-SortBy.ensures.cost

pub phys_expr::PhysExprPhysicalExpr::evaluate_on_groups-returns-in-Aggregation-clause-context : goal.phys_expr::PhysExprPhysicalExpr::evaluate_on_groups-returns-in-Aggregation-clause-context
phys_expr::PhysExprPhysicalExpr::evaluate_on_groups-returns-in-Aggregation-clause-context t g c =
    subst (λ (e : PhysExpr). IfOk c.evaluate_on_groups-in-Aggregation.result (IsContextOf (plan_of e) (beside c.args.df.now c.args.state.now) c.args.groups.now)) (sym c.in-Aggregation.is) c.evaluate_on_groups-in-Aggregation.ensures.context

pub phys_expr::PhysExprPhysicalExpr::evaluate_on_groups-returns-in-Aggregation-clause-causes : goal.phys_expr::PhysExprPhysicalExpr::evaluate_on_groups-returns-in-Aggregation-clause-causes
phys_expr::PhysExprPhysicalExpr::evaluate_on_groups-returns-in-Aggregation-clause-causes t g c =
    subst (λ (e : PhysExpr). IfErr c.evaluate_on_groups-in-Aggregation.result (λ w. IsGroupCause w (plan_of e) (beside c.args.df.now c.args.state.now) c.args.groups.now)) (sym c.in-Aggregation.is) c.evaluate_on_groups-in-Aggregation.ensures.causes

pub phys_expr::PhysExprPhysicalExpr::evaluate_on_groups-returns-in-Aggregation-clause-ticks : goal.phys_expr::PhysExprPhysicalExpr::evaluate_on_groups-returns-in-Aggregation-clause-ticks
phys_expr::PhysExprPhysicalExpr::evaluate_on_groups-returns-in-Aggregation-clause-ticks t g c =
    subst (λ (e : PhysExpr). OnOk c.evaluate_on_groups-in-Aggregation.result (RunExactly (plan_of e).tree c.args.kernels.now c.evaluate_on_groups-in-Aggregation.new.kernels)) (sym c.in-Aggregation.is) c.evaluate_on_groups-in-Aggregation.ensures.ticks

pub phys_expr::PhysExprPhysicalExpr::evaluate_on_groups-returns-in-Aggregation-clause-cost : goal.phys_expr::PhysExprPhysicalExpr::evaluate_on_groups-returns-in-Aggregation-clause-cost
phys_expr::PhysExprPhysicalExpr::evaluate_on_groups-returns-in-Aggregation-clause-cost t g c =
    subst (λ (e : PhysExpr). RunOnGroups (plan_of e).tree (length c.args.groups.now.groups) c.args.kernels.now c.evaluate_on_groups-in-Aggregation.new.kernels) (sym c.in-Aggregation.is) c.evaluate_on_groups-in-Aggregation.ensures.cost

pub phys_expr::PhysExprPhysicalExpr::evaluate_on_groups-returns-in-Count-clause-context : goal.phys_expr::PhysExprPhysicalExpr::evaluate_on_groups-returns-in-Count-clause-context
phys_expr::PhysExprPhysicalExpr::evaluate_on_groups-returns-in-Count-clause-context t g c =
    subst (λ (e : PhysExpr). IfOk c.evaluate_on_groups-in-Count.result (IsContextOf (plan_of e) (beside c.args.df.now c.args.state.now) c.args.groups.now)) (sym c.in-Count.is) c.evaluate_on_groups-in-Count.ensures.context

pub phys_expr::PhysExprPhysicalExpr::evaluate_on_groups-returns-in-Count-clause-causes : goal.phys_expr::PhysExprPhysicalExpr::evaluate_on_groups-returns-in-Count-clause-causes
phys_expr::PhysExprPhysicalExpr::evaluate_on_groups-returns-in-Count-clause-causes t g c =
    subst (λ (e : PhysExpr). IfErr c.evaluate_on_groups-in-Count.result (λ w. IsGroupCause w (plan_of e) (beside c.args.df.now c.args.state.now) c.args.groups.now)) (sym c.in-Count.is) c.evaluate_on_groups-in-Count.ensures.causes

pub phys_expr::PhysExprPhysicalExpr::evaluate_on_groups-returns-in-Count-clause-ticks : goal.phys_expr::PhysExprPhysicalExpr::evaluate_on_groups-returns-in-Count-clause-ticks
phys_expr::PhysExprPhysicalExpr::evaluate_on_groups-returns-in-Count-clause-ticks t g c =
    subst (λ (e : PhysExpr). OnOk c.evaluate_on_groups-in-Count.result (RunExactly (plan_of e).tree c.args.kernels.now c.evaluate_on_groups-in-Count.new.kernels)) (sym c.in-Count.is) c.evaluate_on_groups-in-Count.ensures.ticks

pub phys_expr::PhysExprPhysicalExpr::evaluate_on_groups-returns-in-Count-clause-cost : goal.phys_expr::PhysExprPhysicalExpr::evaluate_on_groups-returns-in-Count-clause-cost
phys_expr::PhysExprPhysicalExpr::evaluate_on_groups-returns-in-Count-clause-cost t g c =
    subst (λ (e : PhysExpr). RunOnGroups (plan_of e).tree (length c.args.groups.now.groups) c.args.kernels.now c.evaluate_on_groups-in-Count.new.kernels) (sym c.in-Count.is) c.evaluate_on_groups-in-Count.ensures.cost

pub phys_expr::PhysExprPhysicalExpr::evaluate_on_groups-returns-in-Window-clause-context : goal.phys_expr::PhysExprPhysicalExpr::evaluate_on_groups-returns-in-Window-clause-context
phys_expr::PhysExprPhysicalExpr::evaluate_on_groups-returns-in-Window-clause-context t g c =
    subst (λ (e : PhysExpr). IfOk c.evaluate_on_groups-in-Window.result (IsContextOf (plan_of e) (beside c.args.df.now c.args.state.now) c.args.groups.now)) (sym c.in-Window.is) c.evaluate_on_groups-in-Window.ensures.context

pub phys_expr::PhysExprPhysicalExpr::evaluate_on_groups-returns-in-Window-clause-causes : goal.phys_expr::PhysExprPhysicalExpr::evaluate_on_groups-returns-in-Window-clause-causes
phys_expr::PhysExprPhysicalExpr::evaluate_on_groups-returns-in-Window-clause-causes t g c =
    subst (λ (e : PhysExpr). IfErr c.evaluate_on_groups-in-Window.result (λ w. IsGroupCause w (plan_of e) (beside c.args.df.now c.args.state.now) c.args.groups.now)) (sym c.in-Window.is) c.evaluate_on_groups-in-Window.ensures.causes

pub phys_expr::PhysExprPhysicalExpr::evaluate_on_groups-returns-in-Window-clause-ticks : goal.phys_expr::PhysExprPhysicalExpr::evaluate_on_groups-returns-in-Window-clause-ticks
phys_expr::PhysExprPhysicalExpr::evaluate_on_groups-returns-in-Window-clause-ticks t g c =
    subst (λ (e : PhysExpr). OnOk c.evaluate_on_groups-in-Window.result (RunExactly (plan_of e).tree c.args.kernels.now c.evaluate_on_groups-in-Window.new.kernels)) (sym c.in-Window.is) c.evaluate_on_groups-in-Window.ensures.ticks

pub phys_expr::PhysExprPhysicalExpr::evaluate_on_groups-returns-in-Window-clause-cost : goal.phys_expr::PhysExprPhysicalExpr::evaluate_on_groups-returns-in-Window-clause-cost
phys_expr::PhysExprPhysicalExpr::evaluate_on_groups-returns-in-Window-clause-cost t g c =
    subst (λ (e : PhysExpr). RunOnGroups (plan_of e).tree (length c.args.groups.now.groups) c.args.kernels.now c.evaluate_on_groups-in-Window.new.kernels) (sym c.in-Window.is) c.evaluate_on_groups-in-Window.ensures.cost
