use Rattle.std.proofs.Common.{◌≡◌, ◌∙◌, ℕ, List, map, ap, subst, sym, true}
use Rattle.std.proofs.lemmas.Result.{err_from_is_err_and}
use Rattle.px_column.specs.Prelude.{Refuses}
use Rattle.px_frame.specs.Consecutive.{consecutive}
use Rattle.px_context.specs.Changes.{is_pending}
use Rattle.px_context.specs.Context.{Context}
use Rattle.px_context.specs.LentView.{groups_in, layout_of, values_of}
use Rattle.px_context.specs.Final.{len_at}
use Rattle.px_context.proofs.Regrouping.{IsContext-regrouped, regrouped_made, regrouped_refused}
use Rattle.px_context.proofs.context.AggregationContext.update_groups.Goals as goal

pub returns-in_err-groups-clause-answer : goal.returns-in_err-groups-clause-answer
returns-in_err-groups-clause-answer c =
    let was : Context = record { layout = layout_of c.self.inside.is_unit c.self.inside.state; values = values_of c.self.inside.state; groups = groups_in c.self.inside.groups; update = c.self.inside.update; untouched = c.self.inside.is_untouched } in
    let lens : c.deref.result.now ≡ map len_at was.values.slots = cc (c.deref.ensures.value, c.in_ok-lengths.ensures.lengths, c.column.ensures) in
    let pending : is_pending was.update ≡ true = cc (c.is_pending.ensures, c.if-not-is_pending.false) in
    let e = err_from_is_err_and c.from_residual-in_err-groups.result c.from_residual-in_err-groups.ensures.1 in
    rw (e.1, e.2, ← c.self.view_is) (regrouped_refused was c.self.invariant pending _ (subst (λ (ls : List ℕ). Refuses c.in_err-groups.field-0.0 (consecutive ls)) lens c.in_err-groups.ensures))

pub invariant_of-self : goal.invariant_of-self
invariant_of-self c =
    let was : Context = record { layout = layout_of c.self.inside.is_unit c.self.inside.state; values = values_of c.self.inside.state; groups = groups_in c.self.inside.groups; update = c.self.inside.update; untouched = c.self.inside.is_untouched } in
    let lens : c.deref.result.now ≡ map len_at was.values.slots = cc (c.deref.ensures.value, c.in_ok-lengths.ensures.lengths, c.column.ensures) in
    let pending : is_pending was.update ≡ true = cc (c.is_pending.ensures, c.if-not-is_pending.false) in
    IsContext-regrouped was c.self.invariant pending c.in_ok-groups.groups (ap consecutive (sym lens) ∙ c.in_ok-groups.ensures)

pub returns-clause-answer : goal.returns-clause-answer
returns-clause-answer c =
    let was : Context = record { layout = layout_of c.self.inside.is_unit c.self.inside.state; values = values_of c.self.inside.state; groups = groups_in c.self.inside.groups; update = c.self.inside.update; untouched = c.self.inside.is_untouched } in
    let lens : c.deref.result.now ≡ map len_at was.values.slots = cc (c.deref.ensures.value, c.in_ok-lengths.ensures.lengths, c.column.ensures) in
    let pending : is_pending was.update ≡ true = cc (c.is_pending.ensures, c.if-not-is_pending.false) in
    rw (← c.self.view_is) (regrouped_made was c.self.invariant pending c.in_ok-groups.groups (ap consecutive (sym lens) ∙ c.in_ok-groups.ensures))
