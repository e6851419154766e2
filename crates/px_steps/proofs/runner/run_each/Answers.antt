use Rattle.std.proofs.Common.{ℕ, Ok, Err, ◌∙◌, arith, map, refl}
use Rattle.std.proofs.lemmas.Result.{err_from_is_err_and}
use Rattle.px_tree.specs.Step.{step_view}
use Rattle.px_window.specs.State.{beside}
use Rattle.px_answers.specs.Counted.{RisesAtMost}
use Rattle.px_steps.specs.Plain.{groupings_in, kernels_in, most_kernels_of}
use Rattle.px_steps.proofs.Looped.{all_counted, all_least}
use Rattle.px_steps.proofs.StepLoop.{unchunked_next, answer_end, answer_next, cause_here, grouped_next, most_after, most_end, ticks_next, within_next}
use Rattle.px_steps.proofs.runner.run_each.Goals as goal

pub loop-step-init : goal.loop-step-init
loop-step-init g c = record {
  unchunked = c.requires;
  answer = λ r h. h;
  state = refl;
  grouped = refl;
  risen = omega arith;
  most = λ new h. h;
  ticks = omega arith;
}

pub loop-step-preserved : goal.loop-step-preserved
loop-step-preserved g c =
    let inv = c.loop-step.invariant in
    let steps = c.args.steps.now in
    let i = c.loop-step.step-index in
    let k = c.step-item.result in
    let F = beside c.loop-step.frame c.args.state.now in
    let answer = rw inv.state at c.in_ok-frame.ensures.answer in
    record {
      unchunked = unchunked_next steps i k c.loop-step-test.true c.step-item.is inv.unchunked;
      answer = answer_next steps i k c.loop-step-test.true c.step-item.is F c.in_ok-frame.frame _ _ inv.answer answer;
      state = c.in_ok-frame.ensures.state ∙ inv.state;
      grouped = grouped_next steps i k c.loop-step-test.true c.step-item.is c.loop-step.groupings _ _ inv.grouped c.in_ok-frame.ensures.grouped;
      risen = omega (arith, inv.risen, c.in_ok-frame.ensures.risen);
      most = most_after steps i k c.loop-step-test.true c.step-item.is F (beside c.in_ok-frame.frame c.args.state.now) (λ (new : ℕ). RisesAtMost (most_kernels_of (map step_view steps) (beside c.args.frame c.args.state.now)) c.args.kernels.now new) c.loop-step.kernels
          c.run_step.new.kernels inv.most answer.made (rw inv.state at c.in_ok-frame.ensures.most);
      ticks = ticks_next steps i k c.loop-step-test.true c.step-item.is c.loop-step.kernels _ _ inv.ticks c.in_ok-frame.ensures.ticks;
    }

pub returns-in_err-frame-clause-answer : goal.returns-in_err-frame-clause-answer
returns-in_err-frame-clause-answer g c =
    let p = err_from_is_err_and c.from_residual.result c.from_residual.ensures.1 in
    let F = beside c.loop-step.frame c.args.state.now in
    rw (p.1, p.2)
    (c.loop-step.invariant.answer (Err c.in_err-frame.field-0.0)
    (cause_here c.args.steps.now c.loop-step.step-index c.step-item.result c.loop-step-test.true c.step-item.is F c.in_err-frame.field-0.0 (rw c.loop-step.invariant.state at c.in_err-frame.ensures.answer)))

pub returns-in_err-frame-clause-within : goal.returns-in_err-frame-clause-within
returns-in_err-frame-clause-within g c =
    within_next c.args.steps.now c.loop-step.step-index c.step-item.result c.loop-step-test.true c.step-item.is c.loop-step.groupings c.run_step.new.groupings _ c.loop-step.invariant.grouped c.in_err-frame.ensures.within

pub returns-clause-answer : goal.returns-clause-answer
returns-clause-answer g c = c.loop-step.invariant.answer (Ok c.loop-step.frame) (answer_end c.args.steps.now c.loop-step.step-index (beside c.loop-step.frame c.args.state.now) c.loop-step-test.false)

pub returns-clause-most : goal.returns-clause-most
returns-clause-most g c =
    let F = beside c.args.frame c.args.state.now in
    most_end c.args.steps.now c.loop-step.step-index c.loop-step-test.false (beside c.loop-step.frame c.args.state.now) (λ (new : ℕ). RisesAtMost (most_kernels_of (map step_view c.args.steps.now) F) c.args.kernels.now new) c.loop-step.kernels c.loop-step.invariant.most

pub returns-in_err-frame-clause-risen : goal.returns-in_err-frame-clause-risen
returns-in_err-frame-clause-risen g c = omega (arith, c.loop-step.invariant.risen, c.in_err-frame.ensures.risen)

pub returns-clause-grouped : goal.returns-clause-grouped
returns-clause-grouped g c = all_counted step_view c.args.steps.now c.loop-step.step-index c.loop-step-test.false groupings_in c.loop-step.groupings _ c.loop-step.invariant.grouped

pub returns-clause-within : goal.returns-clause-within
returns-clause-within g c =
    let all = all_counted step_view c.args.steps.now c.loop-step.step-index c.loop-step-test.false groupings_in c.loop-step.groupings _ c.loop-step.invariant.grouped in
    omega (arith, all)

pub returns-clause-ticks : goal.returns-clause-ticks
returns-clause-ticks g c = all_least step_view c.args.steps.now c.loop-step.step-index c.loop-step-test.false kernels_in c.loop-step.kernels _ c.loop-step.invariant.ticks
