use Rattle.std.proofs.Common.{◌≡◌, ◌∙◌, Err, arith, length, map}
use Rattle.std.proofs.lemmas.Result.{err_from_is_err_and}
use Rattle.px_tree.specs.Step.{step_view}
use Rattle.px_window.specs.State.{beside}
use Rattle.px_steps.specs.Plain.{groupings_in, kernels_in}
use Rattle.px_steps.proofs.FirstStep.{answer_none, cause_whole, count_first, count_whole, least_whole, most_none, none_counted, unchunked_both, within_whole}
use Rattle.px_steps.proofs.Kernels.{on_ok_so}
use Rattle.px_steps.proofs.Members.{on_ok}
use Rattle.px_steps.proofs.StepLoop.{answer_whole, causes_told, complete_told, most_whole, plain_told, run_told}
use Rattle.px_steps.proofs.runner.run_steps.Goals as goal

pub returns-in-empty-clause-plain : goal.returns-in-empty-clause-plain
returns-in-empty-clause-plain g c =
    let steps = c.args.steps.now in
    let F = beside c.args.frame.now c.args.state.now in
    let none : length c.args.steps.now ≡ 0 = omega arith in
    plain_told c.try_clone.result (map step_view steps) F (answer_none steps F c.try_clone.result none c.try_clone.ensures)

pub returns-in-empty-clause-run : goal.returns-in-empty-clause-run
returns-in-empty-clause-run g c =
    let steps = c.args.steps.now in
    let F = beside c.args.frame.now c.args.state.now in
    let none : length c.args.steps.now ≡ 0 = omega arith in
    run_told c.try_clone.result (map step_view steps) F (answer_none steps F c.try_clone.result none c.try_clone.ensures)

pub returns-in-empty-clause-causes : goal.returns-in-empty-clause-causes
returns-in-empty-clause-causes g c =
    let steps = c.args.steps.now in
    let F = beside c.args.frame.now c.args.state.now in
    let none : length c.args.steps.now ≡ 0 = omega arith in
    causes_told c.try_clone.result (map step_view steps) F (answer_none steps F c.try_clone.result none c.try_clone.ensures)

pub returns-in-empty-clause-complete : goal.returns-in-empty-clause-complete
returns-in-empty-clause-complete g c =
    let steps = c.args.steps.now in
    let F = beside c.args.frame.now c.args.state.now in
    let none : length c.args.steps.now ≡ 0 = omega arith in
    complete_told c.try_clone.result (map step_view steps) F (answer_none steps F c.try_clone.result none c.try_clone.ensures)

pub returns-in-empty-clause-grouped : goal.returns-in-empty-clause-grouped
returns-in-empty-clause-grouped g c =
    let none : length c.args.steps.now ≡ 0 = omega arith in
    on_ok c.try_clone.result (none_counted groupings_in c.args.steps.now c.args.groupings.now none)

pub returns-in-empty-clause-within : goal.returns-in-empty-clause-within
returns-in-empty-clause-within g c = omega arith

pub returns-in-empty-clause-ticks : goal.returns-in-empty-clause-ticks
returns-in-empty-clause-ticks g c =
    let none : length c.args.steps.now ≡ 0 = omega arith in
    let same = none_counted kernels_in c.args.steps.now c.args.kernels.now none in
    on_ok c.try_clone.result (omega (arith, same))

pub returns-in-empty-clause-most : goal.returns-in-empty-clause-most
returns-in-empty-clause-most g c =
    let none : length c.args.steps.now ≡ 0 = omega arith in
    on_ok c.try_clone.result (most_none c.args.steps.now (beside c.args.frame.now c.args.state.now) c.args.kernels.now none)

pub run_step-requires : goal.run_step-requires
run_step-requires g c = (unchunked_both c.args.steps.now c.first-item.result c.in-len1-up.len_at_least c.first-item.is c.requires.unchunked).0

pub run_each-requires : goal.run_each-requires
run_each-requires g c = (unchunked_both c.args.steps.now c.first-item.result c.in-len1-up.len_at_least c.first-item.is c.requires.unchunked).1

pub returns-in_err-made-in-len1-up-clause-causes : goal.returns-in_err-made-in-len1-up-clause-causes
returns-in_err-made-in-len1-up-clause-causes g c =
    let p = err_from_is_err_and c.from_residual.result c.from_residual.ensures.1 in
    let e = c.in_err-made-in-len1-up.field-0.0 in
    rw (p.1, p.2) (cause_whole c.args.steps.now c.first-item.result c.in-len1-up.len_at_least c.first-item.is (beside c.args.frame.now c.args.state.now) e c.in_err-made-in-len1-up.ensures.answer)

pub returns-in_err-made-in-len1-up-clause-complete : goal.returns-in_err-made-in-len1-up-clause-complete
returns-in_err-made-in-len1-up-clause-complete g c =
    let p = err_from_is_err_and c.from_residual.result c.from_residual.ensures.1 in
    let e = c.in_err-made-in-len1-up.field-0.0 in
    let F = beside c.args.frame.now c.args.state.now in
    rw (p.1, p.2)
    (complete_told (Err e) (map step_view c.args.steps.now) F
    (cause_whole c.args.steps.now c.first-item.result c.in-len1-up.len_at_least c.first-item.is F e c.in_err-made-in-len1-up.ensures.answer))

pub returns-in_err-made-in-len1-up-clause-within : goal.returns-in_err-made-in-len1-up-clause-within
returns-in_err-made-in-len1-up-clause-within g c =
    count_first c.args.steps.now c.first-item.result c.in-len1-up.len_at_least c.first-item.is groupings_in c.args.groupings.now c.run_step.new.groupings c.in_err-made-in-len1-up.ensures.within

pub returns-in_ok-made-in-len1-up-clause-state : goal.returns-in_ok-made-in-len1-up-clause-state
returns-in_ok-made-in-len1-up-clause-state g c = c.run_each.ensures.state ∙ c.in_ok-made-in-len1-up.ensures.state

pub returns-in_ok-made-in-len1-up-clause-grouped : goal.returns-in_ok-made-in-len1-up-clause-grouped
returns-in_ok-made-in-len1-up-clause-grouped g c =
    on_ok_so c.run_each.result c.run_each.ensures.grouped
    (count_whole c.args.steps.now c.first-item.result c.in-len1-up.len_at_least c.first-item.is groupings_in c.args.groupings.now c.run_step.new.groupings c.run_each.new.groupings c.in_ok-made-in-len1-up.ensures.grouped)

pub returns-in_ok-made-in-len1-up-clause-risen : goal.returns-in_ok-made-in-len1-up-clause-risen
returns-in_ok-made-in-len1-up-clause-risen g c = omega (arith, c.in_ok-made-in-len1-up.ensures.risen, c.run_each.ensures.risen)

pub returns-in_ok-made-in-len1-up-clause-within : goal.returns-in_ok-made-in-len1-up-clause-within
returns-in_ok-made-in-len1-up-clause-within g c =
    within_whole c.args.steps.now c.first-item.result c.in-len1-up.len_at_least c.first-item.is groupings_in c.args.groupings.now c.run_step.new.groupings c.run_each.new.groupings c.in_ok-made-in-len1-up.ensures.within c.run_each.ensures.within

pub returns-in_ok-made-in-len1-up-clause-ticks : goal.returns-in_ok-made-in-len1-up-clause-ticks
returns-in_ok-made-in-len1-up-clause-ticks g c =
    on_ok_so c.run_each.result c.run_each.ensures.ticks
    (least_whole c.args.steps.now c.first-item.result c.in-len1-up.len_at_least c.first-item.is kernels_in c.args.kernels.now c.run_step.new.kernels c.run_each.new.kernels c.in_ok-made-in-len1-up.ensures.ticks)

pub returns-in_ok-made-in-len1-up-clause-complete : goal.returns-in_ok-made-in-len1-up-clause-complete
returns-in_ok-made-in-len1-up-clause-complete g c =
    let steps = c.args.steps.now in
    let F = beside c.args.frame.now c.args.state.now in
    let made = c.in_ok-made-in-len1-up in
    complete_told c.run_each.result (map step_view steps) F
    (answer_whole steps c.first-item.result F made.made c.run_each.result c.in-len1-up.len_at_least c.first-item.is made.ensures.answer (rw made.ensures.state at c.run_each.ensures.answer))

pub returns-in_ok-made-in-len1-up-clause-plain : goal.returns-in_ok-made-in-len1-up-clause-plain
returns-in_ok-made-in-len1-up-clause-plain g c =
    let steps = c.args.steps.now in
    let F = beside c.args.frame.now c.args.state.now in
    let made = c.in_ok-made-in-len1-up in
    plain_told c.run_each.result (map step_view steps) F
    (answer_whole steps c.first-item.result F made.made c.run_each.result c.in-len1-up.len_at_least c.first-item.is made.ensures.answer (rw made.ensures.state at c.run_each.ensures.answer))

pub returns-in_ok-made-in-len1-up-clause-run : goal.returns-in_ok-made-in-len1-up-clause-run
returns-in_ok-made-in-len1-up-clause-run g c =
    let steps = c.args.steps.now in
    let F = beside c.args.frame.now c.args.state.now in
    let made = c.in_ok-made-in-len1-up in
    run_told c.run_each.result (map step_view steps) F
    (answer_whole steps c.first-item.result F made.made c.run_each.result c.in-len1-up.len_at_least c.first-item.is made.ensures.answer (rw made.ensures.state at c.run_each.ensures.answer))

pub returns-in_ok-made-in-len1-up-clause-causes : goal.returns-in_ok-made-in-len1-up-clause-causes
returns-in_ok-made-in-len1-up-clause-causes g c =
    let steps = c.args.steps.now in
    let F = beside c.args.frame.now c.args.state.now in
    let made = c.in_ok-made-in-len1-up in
    causes_told c.run_each.result (map step_view steps) F
    (answer_whole steps c.first-item.result F made.made c.run_each.result c.in-len1-up.len_at_least c.first-item.is made.ensures.answer (rw made.ensures.state at c.run_each.ensures.answer))

pub returns-in_ok-made-in-len1-up-clause-most : goal.returns-in_ok-made-in-len1-up-clause-most
returns-in_ok-made-in-len1-up-clause-most g c =
    let made = c.in_ok-made-in-len1-up in
    on_ok_so c.run_each.result (rw made.ensures.state at c.run_each.ensures.most)
    (most_whole c.args.steps.now c.first-item.result (beside c.args.frame.now c.args.state.now) (beside made.made c.args.state.now) c.args.kernels.now c.run_step.new.kernels c.run_each.new.kernels c.in-len1-up.len_at_least c.first-item.is made.ensures.answer.made made.ensures.most)
