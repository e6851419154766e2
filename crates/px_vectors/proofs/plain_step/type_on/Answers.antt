use Rattle.std.proofs.Common.{◌∙◌, List, ℕ, Err, ap, sym}
use Rattle.px_column.specs.Sum.{sum_kind}
use Rattle.px_value.specs.declared.error.PxError.TheVariants.{ColumnNotFound}
use Rattle.px_steps.specs.Meets.{unless_refused}
use Rattle.px_vectors.proofs.PlainValues.{sum_meets, sum_not_found}
use Rattle.px_vectors.proofs.Told.{told}
use Rattle.px_vectors.proofs.plain_step.type_on.Goals as goal

pub returns-in_ok-try_clone-in-None : goal.returns-in_ok-try_clone-in-None
returns-in_ok-try_clone-in-None c =
    rw c.in-Sum.is
    (ap unless_refused (sum_not_found c.args.frame.now c.in-Sum.name c.in-None.ensures.found) ∙ ap (λ (n : List ℕ). Err (ColumnNotFound n)) (sym (told _ _ c.in_ok-try_clone-in-None.ensures)))

pub returns-in-Some : goal.returns-in-Some
returns-in-Some c =
    rw (c.in-Sum.is, c.ok_or.ensures.value)
    (sum_meets c.args.frame.now c.in-Sum.name c.in-Some.column.now c.sum_type.result c.in-Some.ensures.found (c.sum_type.ensures ∙ ap sum_kind c.dtype.ensures))
