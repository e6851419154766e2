use Rattle.std.proofs.Common.{◌≡◌, ◌∙◌, subst, sym}
use Rattle.std.specs.Prelude.{codes}
use Rattle.px_frame.specs.Aggregate.{count_column}
use Rattle.px_window.specs.State.{beside}
use Rattle.px_group_answers.proofs.Leaves.{length_context}
use Rattle.px_group_answers.specs.OnGroups.{IsContextOf}
use Rattle.px_physical.proofs.count.CountExprPhysicalExpr.evaluate_on_groups.Goals as goal

pub returns-clause-context : goal.returns-clause-context
returns-clause-context g c =
    let count : c.in_ok-group_count.field-0 ≡ count_column c.args.groups.now = cc (c.in_ok-group_count.ensures) in
    let name : c.in_ok-name.name ≡ codes "len" = cc (c.in_ok-name.ensures) in
    subst (IsContextOf c.args.self.now (beside c.args.df.now c.args.state.now) c.args.groups.now) (sym c.new-2.ensures)
    (length_context c.args.self.now (beside c.args.df.now c.args.state.now) c.args.groups.now _ (sym c.self.view_is) c.requires c.len.ensures.groups (c.with_name-lengths.ensures ∙ (λ i. record (count i) { name = name i })))
