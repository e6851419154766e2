use Rattle.std.proofs.Common.{◌≡◌, ◌∙◌, ap, refl, subst}
use Rattle.std.specs.List.{list_any}
use Rattle.px_value.specs.Datum.{Slot}
use Rattle.px_value.specs.Equality.{slot_eq}
use Rattle.px_operation.specs.Function.{in_slot}
use Rattle.px_operation.specs.Operator.{truth}
use Rattle.px_column.proofs.column.Column.membership.Goals as goal

pub returns-in-None : goal.returns-in-None
returns-in-None c = λ xs e. ap (in_slot xs) c.in-None.ensures.value

pub returns-in-Some : goal.returns-in-Some
returns-in-Some c = λ xs e.
    ap truth (c.stands_in.ensures xs e) ∙ subst (λ (t : Slot). truth (list_any (slot_eq t) xs) ≡ in_slot xs t) c.in-Some.ensures.value refl
