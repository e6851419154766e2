use Rattle.std.proofs.Common.{ap, map, option_map}
use Rattle.px_window.specs.State.{beside}
use Rattle.px_tree.specs.View.{tree}
use Rattle.px_tree.specs.Step.{step_view}
use Rattle.px_steps.proofs.Grouped.{group_most, group_run}
use Rattle.px_steps.proofs.runner.run_step.Goals as goal

pub returns-in-GroupAgg-clause-answer : goal.returns-in-GroupAgg-clause-answer
returns-in-GroupAgg-clause-answer g c =
    group_run (step_view c.args.step.now) (map tree c.in-GroupAgg.keys.items) (map tree c.in-GroupAgg.aggs.items) (option_map (λ v. v.items) c.in-GroupAgg.chunks) (beside c.args.frame.now c.args.state.now) c.group_step.result (ap step_view c.in-GroupAgg.is) c.requires
    (rw (c.deref-in-GroupAgg.ensures.value, c.deref-in-GroupAgg-2.ensures.value) at c.group_step.ensures.answer)

pub returns-in-GroupAgg-clause-most : goal.returns-in-GroupAgg-clause-most
returns-in-GroupAgg-clause-most g c =
    group_most (step_view c.args.step.now) (map tree c.in-GroupAgg.keys.items) (map tree c.in-GroupAgg.aggs.items) (option_map (λ v. v.items) c.in-GroupAgg.chunks) (beside c.args.frame.now c.args.state.now) c.args.kernels.now c.group_step.new.kernels c.group_step.result (ap step_view c.in-GroupAgg.is) c.requires
    (rw (c.deref-in-GroupAgg.ensures.value, c.deref-in-GroupAgg-2.ensures.value) at c.group_step.ensures.most)
