use Rattle.std.proofs.Common.{◌∙◌, ap, subst, map, Ok, List}
use Rattle.px_column.specs.Prelude.{AnswersBy, Series}
use Rattle.px_frame.specs.Frame.{subframe}
use Rattle.px_vectors.proofs.PlainValues.{first_keys}
use Rattle.px_vectors.proofs.Told.{told}
use Rattle.px_vectors.proofs.plain_step.first_values.Goals as goal

pub returns : goal.returns
returns c =
    let ps = map (λ p. p.items) c.args.parts.now in
    subst (λ (columns : List Series). AnswersBy (λ v. v.items) c.rows_of_each.result (Ok columns))
    (ap (subframe c.args.by.now) (c.deref.ensures.value ∙ told _ _ c.in_ok-rows.ensures) ∙ first_keys ps c.args.by.now) c.rows_of_each.ensures
