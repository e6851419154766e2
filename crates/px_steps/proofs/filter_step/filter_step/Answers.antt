use Rattle.std.proofs.Common.{◌≡◌, ◌+◌, ◌≤◌, ◌∷◌, [], ◌∙◌, ap, subst, sym}
use Rattle.std.proofs.lemmas.Option.{same_Some}
use Rattle.std.proofs.lemmas.Result.{err_from_is_err_and}
use Rattle.px_expr.specs.NodeView.{plan_of}
use Rattle.px_expr.specs.Plan.{planned_over}
use Rattle.px_answers.specs.Counted.{RisesAtMost, flat_kernels}
use Rattle.px_answers.specs.Planned.{Planned}
use Rattle.px_frame.specs.External.{scope_of}
use Rattle.px_window.specs.State.{beside}
use Rattle.px_tree.specs.Cost.{cost_on, windows_in}
use Rattle.px_tree.specs.Size.{size_on}
use Rattle.px_tree.specs.View.{tree}
use Rattle.px_tree.specs.declared.context.Context.TheVariants.{Default}
use Rattle.px_steps.specs.Finds.{Lacks, key_faults}
use Rattle.px_tree.specs.Grouped.{key_on}
use Rattle.px_steps.proofs.Held.{ok_same}
use Rattle.px_steps.proofs.Filtered.{lacks_cause, mask_accepted, mask_cause, mask_typed, rows_kept}
use Rattle.px_steps.proofs.Grouping.{accepted_made}
use Rattle.px_steps.proofs.Members.{on_ok}
use Rattle.px_steps.proofs.filter_step.filter_step.Goals as goal

pub returns-in_err-node-clause-answer : goal.returns-in_err-node-clause-answer
returns-in_err-node-clause-answer g c =
    let p = err_from_is_err_and c.from_residual-in_err-node.result c.from_residual-in_err-node.ensures.1 in
    let F = beside c.args.frame.now c.args.state.now in
    let scope : c.in_ok-schema.schema.value ≡ scope_of F = ok_same _ _ c.in_ok-schema.ensures in
    rw (p.1, p.2) (mask_cause c.in_err-node.field-0.0 (tree c.args.mask.now) F c.in_ok-schema.schema.value scope c.in_err-node.ensures)

pub spread_value-requires : goal.spread_value-requires
spread_value-requires g c =
    let t = tree c.args.mask.now in
    let F = beside c.args.frame.now c.args.state.now in
    let scope : c.in_ok-schema.schema.value ≡ scope_of F = ok_same _ _ c.in_ok-schema.ensures in
    accepted_made (plan_of c.in_ok-node.node) t F c.in_ok-schema.schema.value Default c.in_ok-node.ensures.1 scope (mask_typed t F (mask_accepted t F c.in_ok-schema.schema.value scope c.in_ok-node.ensures.0))

pub returns-in_err-truths-clause-answer : goal.returns-in_err-truths-clause-answer
returns-in_err-truths-clause-answer g c =
    let p = err_from_is_err_and c.from_residual-in_err-truths.result c.from_residual-in_err-truths.ensures.1 in
    let t = tree c.args.mask.now in
    let F = beside c.args.frame.now c.args.state.now in
    let e = c.in_err-truths.field-0.0 in
    let scope : c.in_ok-schema.schema.value ≡ scope_of F = ok_same _ _ c.in_ok-schema.ensures in
    let node : planned_over c.in_ok-schema.schema.value t ≡ plan_of c.in_ok-node.node = same_Some _ _ c.in_ok-node.ensures.1 in
    rw (p.1, p.2)
    (lacks_cause t F (mask_accepted t F c.in_ok-schema.schema.value scope c.in_ok-node.ensures.0) e
    (subst (λ (q : Planned). Lacks e (key_faults F q.tree) (size_on q.tree (F ∷ []))) (sym node) c.in_err-truths.ensures.answer))

pub returns-clause-answer : goal.returns-clause-answer
returns-clause-answer g c =
    let t = tree c.args.mask.now in
    let F = beside c.args.frame.now c.args.state.now in
    let scope : c.in_ok-schema.schema.value ≡ scope_of F = ok_same _ _ c.in_ok-schema.ensures in
    let node : planned_over c.in_ok-schema.schema.value t ≡ plan_of c.in_ok-node.node = same_Some _ _ c.in_ok-node.ensures.1 in
    let found = c.in_ok-truths.ensures.answer in
    rows_kept t F (mask_accepted t F c.in_ok-schema.schema.value scope c.in_ok-node.ensures.0) c.in_ok-truths.truths (ap (λ (q : Planned). key_on F q.tree) node ∙ found.1) c.filter.result
    (ap (λ (q : Planned). key_faults F q.tree) node ∙ found.0) c.filter.ensures.answer c.filter.ensures.short

pub returns-in_err-truths-clause-within : goal.returns-in_err-truths-clause-within
returns-in_err-truths-clause-within g c =
    let node : planned_over c.in_ok-schema.schema.value (tree c.args.mask.now) ≡ plan_of c.in_ok-node.node = same_Some _ _ c.in_ok-node.ensures.1 in
    subst (λ (q : Planned). c.spread_value.new.groupings ≤ c.args.groupings.now + windows_in q.tree) (sym node) c.in_err-truths.ensures.within

pub returns-clause-within : goal.returns-clause-within
returns-clause-within g c =
    let node : planned_over c.in_ok-schema.schema.value (tree c.args.mask.now) ≡ plan_of c.in_ok-node.node = same_Some _ _ c.in_ok-node.ensures.1 in
    subst (λ (q : Planned). c.spread_value.new.groupings ≤ c.args.groupings.now + windows_in q.tree) (sym node) c.in_ok-truths.ensures.within

pub returns-clause-grouped : goal.returns-clause-grouped
returns-clause-grouped g c =
    let node : planned_over c.in_ok-schema.schema.value (tree c.args.mask.now) ≡ plan_of c.in_ok-node.node = same_Some _ _ c.in_ok-node.ensures.1 in
    on_ok c.filter.result (subst (λ (q : Planned). c.spread_value.new.groupings ≡ c.args.groupings.now + windows_in q.tree) (sym node) c.in_ok-truths.ensures.grouped)

pub returns-clause-ticks : goal.returns-clause-ticks
returns-clause-ticks g c =
    let node : planned_over c.in_ok-schema.schema.value (tree c.args.mask.now) ≡ plan_of c.in_ok-node.node = same_Some _ _ c.in_ok-node.ensures.1 in
    on_ok c.filter.result (subst (λ (q : Planned). c.args.kernels.now + flat_kernels q.tree ≤ c.spread_value.new.kernels) (sym node) c.in_ok-truths.ensures.ticks)

pub returns-clause-most : goal.returns-clause-most
returns-clause-most g c =
    let node : planned_over c.in_ok-schema.schema.value (tree c.args.mask.now) ≡ plan_of c.in_ok-node.node = same_Some _ _ c.in_ok-node.ensures.1 in
    on_ok c.filter.result (subst (λ (q : Planned). RisesAtMost (cost_on q.tree (beside c.args.frame.now c.args.state.now)) c.args.kernels.now c.spread_value.new.kernels) (sym node) c.in_ok-truths.ensures.most)
