use Rattle.std.proofs.Common.{◌∙◌, arith, inl, length, map, refl}
use Rattle.std.proofs.lemmas.Result.{err_from_is_err_and}
use Rattle.px_expr.specs.NodeView.{plan_of}
use Rattle.px_window.specs.State.{beside}
use Rattle.px_frame.specs.Groups.{rows_of}
use Rattle.px_answers.specs.Counted.{flat_kernels}
use Rattle.px_tree.specs.Cost.{group_cost}
use Rattle.px_tree.specs.Size.{size_on}
use Rattle.px_tree.specs.declared.context.Context.TheVariants.{Aggregation}
use Rattle.px_steps.specs.Finds.{agg_faults, node_tree, part_frames}
use Rattle.px_tree.specs.Grouped.{aggregated_on}
use Rattle.px_steps.proofs.Looped.{all_least, all_made, all_most, none_found}
use Rattle.px_steps.proofs.Members.{in_here, lacks_in, least_next, most_next, sound_next, values_next}
use Rattle.px_steps.proofs.Kernels.{least_on_groups}
use Rattle.px_steps.proofs.Nodes.{in_accepted}
use Rattle.px_steps.proofs.group_step.push_aggregations.Goals as goal

pub aggregate-requires-clause-accepted : goal.aggregate-requires-clause-accepted
aggregate-requires-clause-accepted g c =
    rw c.loop-node.invariant.state
    (in_accepted (beside c.args.frame.now c.args.state.now) Aggregation (map plan_of c.args.aggs.now) (plan_of c.node-item.result) (in_here plan_of c.args.aggs.now c.loop-node.node-index c.node-item.result c.loop-node-test.true c.node-item.is) c.requires.accepted)

pub returns-in_err-column-clause-answer : goal.returns-in_err-column-clause-answer
returns-in_err-column-clause-answer g c =
    let p = err_from_is_err_and c.from_residual.result c.from_residual.ensures.1 in
    let F = beside c.args.frame.now c.args.state.now in
    let parts = rows_of c.args.groups.now in
    rw (p.1, p.2)
    (lacks_in c.in_err-column.field-0.0 (agg_faults F parts) (λ t. size_on t (part_frames F parts)) (map node_tree c.args.aggs.now) (node_tree c.node-item.result)
    (in_here node_tree c.args.aggs.now c.loop-node.node-index c.node-item.result c.loop-node-test.true c.node-item.is) (rw c.loop-node.invariant.state at c.in_err-column.ensures.answer))

pub loop-node-init : goal.loop-node-init
loop-node-init g c = record {
  values = refl;
  sound = refl;
  state = refl;
  grouped = refl;
  ticks = omega arith;
  most = omega arith;
}

pub loop-node-preserved : goal.loop-node-preserved
loop-node-preserved g c =
    let inv = c.loop-node.invariant in
    let F = beside c.args.frame.now c.args.state.now in
    let parts = rows_of c.args.groups.now in
    let aggs = c.args.aggs.now in
    let i = c.loop-node.node-index in
    let k = c.node-item.result in
    let n = length c.args.groups.now.groups in
    let found = rw inv.state at c.in_ok-column.ensures.answer in
    record {
      values = values_next node_tree aggs i k c.loop-node-test.true c.node-item.is (aggregated_on F parts) c.loop-node.columns.items c.push.new.self.items c.in_ok-column.column _ inv.values found.1 c.in_ok-push.ensures.items;
      sound = sound_next node_tree aggs i k c.loop-node-test.true c.node-item.is (agg_faults F parts) _ inv.sound found.0;
      state = c.in_ok-column.ensures.state ∙ inv.state;
      grouped = c.in_ok-column.ensures.grouped ∙ inv.grouped;
      ticks = least_next node_tree aggs i k c.loop-node-test.true c.node-item.is flat_kernels _ c.loop-node.kernels _ inv.ticks (least_on_groups (node_tree k) n c.loop-node.kernels c.aggregate.new.kernels c.in_ok-column.ensures.ticks c.in_ok-column.ensures.cost);
      most = most_next node_tree aggs i k c.loop-node-test.true c.node-item.is (λ t. group_cost t n) _ c.loop-node.kernels _ inv.most c.in_ok-column.ensures.cost.cost;
    }

pub returns-in_err-push-clause-answer : goal.returns-in_err-push-clause-answer
returns-in_err-push-clause-answer g c =
    let p = err_from_is_err_and c.from_residual-in_err-push.result c.from_residual-in_err-push.ensures.1 in
    rw (p.1, p.2) (inl refl)

pub returns-clause-answer : goal.returns-clause-answer
returns-clause-answer g c =
    let inv = c.loop-node.invariant in
    let F = beside c.args.frame.now c.args.state.now in
    let parts = rows_of c.args.groups.now in
    let aggs = c.args.aggs.now in
    let i = c.loop-node.node-index in (
      none_found node_tree aggs i c.loop-node-test.false (agg_faults F parts) _ inv.sound,
      all_made node_tree aggs i c.loop-node-test.false (aggregated_on F parts) c.loop-node.columns.items _ inv.values,
    )

pub returns-clause-ticks : goal.returns-clause-ticks
returns-clause-ticks g c =
    all_least node_tree c.args.aggs.now c.loop-node.node-index c.loop-node-test.false flat_kernels c.loop-node.kernels _ c.loop-node.invariant.ticks

pub returns-clause-most : goal.returns-clause-most
returns-clause-most g c =
    all_most node_tree c.args.aggs.now c.loop-node.node-index c.loop-node-test.false (λ t. group_cost t (length c.args.groups.now.groups)) c.loop-node.kernels _ c.loop-node.invariant.most
