use Rattle.std.proofs.Common.{◌∙◌, ℕ, ◌∷◌, [], arith, inl, map, refl}
use Rattle.std.proofs.lemmas.Result.{err_from_is_err_and}
use Rattle.px_answers.specs.Counted.{RisesAtMost, costs_on, flat_kernels}
use Rattle.px_expr.specs.NodeView.{plan_of}
use Rattle.px_window.specs.State.{beside}
use Rattle.px_tree.specs.Cost.{windows_in}
use Rattle.px_tree.specs.Size.{size_on}
use Rattle.px_tree.specs.declared.context.Context.TheVariants.{Default}
use Rattle.px_steps.specs.Finds.{key_faults, node_tree}
use Rattle.px_tree.specs.Grouped.{key_on}
use Rattle.px_answers.proofs.Costs.{cost_end, cost_next}
use Rattle.px_steps.proofs.Looped.{all_counted, all_least, all_made, front_start, none_found}
use Rattle.px_steps.proofs.Members.{exactly_next, in_here, lacks_in, least_next, sound_next, values_next, within_here}
use Rattle.px_steps.proofs.Nodes.{in_accepted}
use Rattle.px_steps.proofs.group_step.key_columns.Goals as goal

pub spread_value-requires : goal.spread_value-requires
spread_value-requires g c =
    rw c.loop-key.invariant.state
    (in_accepted (beside c.args.frame.now c.args.state.now) Default (map plan_of c.args.keys.now) (plan_of c.key-item.result) (in_here plan_of c.args.keys.now c.loop-key.key-index c.key-item.result c.loop-key-test.true c.key-item.is) c.requires)

pub returns-in_err-spread_value-clause-answer : goal.returns-in_err-spread_value-clause-answer
returns-in_err-spread_value-clause-answer g c =
    let p = err_from_is_err_and c.from_residual-in_err-spread_value.result c.from_residual-in_err-spread_value.ensures.1 in
    let F = beside c.args.frame.now c.args.state.now in
    rw (p.1, p.2)
    (lacks_in c.in_err-spread_value.field-0.0 (key_faults F) (λ t. size_on t (F ∷ [])) (map node_tree c.args.keys.now) (node_tree c.key-item.result)
    (in_here node_tree c.args.keys.now c.loop-key.key-index c.key-item.result c.loop-key-test.true c.key-item.is) (rw c.loop-key.invariant.state at c.in_err-spread_value.ensures.answer))

pub returns-in_err-spread_value-clause-within : goal.returns-in_err-spread_value-clause-within
returns-in_err-spread_value-clause-within g c =
    within_here node_tree c.args.keys.now c.loop-key.key-index c.key-item.result c.loop-key-test.true c.key-item.is windows_in _ c.loop-key.groupings c.spread_value.new.groupings c.loop-key.invariant.grouped c.in_err-spread_value.ensures.within

pub returns-in_err-push-clause-within : goal.returns-in_err-push-clause-within
returns-in_err-push-clause-within g c =
    within_here node_tree c.args.keys.now c.loop-key.key-index c.key-item.result c.loop-key-test.true c.key-item.is windows_in _ c.loop-key.groupings c.spread_value.new.groupings c.loop-key.invariant.grouped c.in_ok-spread_value.ensures.within

pub loop-key-preserved : goal.loop-key-preserved
loop-key-preserved g c =
    let inv = c.loop-key.invariant in
    let F = beside c.args.frame.now c.args.state.now in
    let keys = c.args.keys.now in
    let i = c.loop-key.key-index in
    let k = c.key-item.result in
    let found = rw inv.state at c.in_ok-spread_value.ensures.answer in
    record {
      values = values_next node_tree keys i k c.loop-key-test.true c.key-item.is (key_on F) c.loop-key.columns.items c.push.new.self.items c.in_ok-spread_value.field-0 _ inv.values found.1 c.in_ok-push.ensures.items;
      sound = sound_next node_tree keys i k c.loop-key-test.true c.key-item.is (key_faults F) _ inv.sound found.0;
      state = c.in_ok-spread_value.ensures.state ∙ inv.state;
      grouped = exactly_next node_tree keys i k c.loop-key-test.true c.key-item.is windows_in _ c.loop-key.groupings c.spread_value.new.groupings inv.grouped c.in_ok-spread_value.ensures.grouped;
      risen = omega (arith, inv.risen, c.in_ok-spread_value.ensures.risen);
      most = cost_next node_tree keys i k c.loop-key-test.true c.key-item.is F (λ (new : ℕ). RisesAtMost (costs_on (map node_tree keys) F) c.args.kernels.now new) c.loop-key.kernels c.spread_value.new.kernels inv.most (rw inv.state at c.in_ok-spread_value.ensures.most);
      ticks = least_next node_tree keys i k c.loop-key-test.true c.key-item.is flat_kernels _ c.loop-key.kernels _ inv.ticks c.in_ok-spread_value.ensures.ticks;
    }

pub returns-clause-most : goal.returns-clause-most
returns-clause-most g c =
    let F = beside c.args.frame.now c.args.state.now in
    cost_end node_tree c.args.keys.now c.loop-key.key-index c.loop-key-test.false F (λ (new : ℕ). RisesAtMost (costs_on (map node_tree c.args.keys.now) F) c.args.kernels.now new) c.loop-key.kernels c.loop-key.invariant.most

pub returns-in_err-push-clause-answer : goal.returns-in_err-push-clause-answer
returns-in_err-push-clause-answer g c =
    let p = err_from_is_err_and c.from_residual-in_err-push.result c.from_residual-in_err-push.ensures.1 in
    rw (p.1, p.2) (inl refl)

pub loop-key-init : goal.loop-key-init
loop-key-init g c = record {
  values = front_start c.in_ok-columns.columns.items _ c.in_ok-columns.ensures.items;
  sound = refl;
  state = refl;
  grouped = refl;
  risen = omega arith;
  most = λ new h. h;
  ticks = omega arith;
}

pub returns-in_err-spread_value-clause-risen : goal.returns-in_err-spread_value-clause-risen
returns-in_err-spread_value-clause-risen g c = omega (arith, c.loop-key.invariant.risen, c.in_err-spread_value.ensures.risen)

pub returns-in_err-push-clause-risen : goal.returns-in_err-push-clause-risen
returns-in_err-push-clause-risen g c = omega (arith, c.loop-key.invariant.risen, c.in_ok-spread_value.ensures.risen)

pub returns-clause-answer : goal.returns-clause-answer
returns-clause-answer g c =
    let inv = c.loop-key.invariant in
    let F = beside c.args.frame.now c.args.state.now in
    let keys = c.args.keys.now in
    let i = c.loop-key.key-index in (
      none_found node_tree keys i c.loop-key-test.false (key_faults F) _ inv.sound,
      all_made node_tree keys i c.loop-key-test.false (key_on F) c.loop-key.columns.items _ inv.values,
    )

pub returns-clause-grouped : goal.returns-clause-grouped
returns-clause-grouped g c =
    all_counted node_tree c.args.keys.now c.loop-key.key-index c.loop-key-test.false windows_in c.loop-key.groupings _ c.loop-key.invariant.grouped

pub returns-clause-within : goal.returns-clause-within
returns-clause-within g c =
    let all = all_counted node_tree c.args.keys.now c.loop-key.key-index c.loop-key-test.false windows_in c.loop-key.groupings _ c.loop-key.invariant.grouped in
    omega (arith, all)

pub returns-clause-ticks : goal.returns-clause-ticks
returns-clause-ticks g c =
    all_least node_tree c.args.keys.now c.loop-key.key-index c.loop-key-test.false flat_kernels c.loop-key.kernels _ c.loop-key.invariant.ticks
