use Rattle.std.proofs.Common.{◌∙◌, ap, map, sym, subst, Ok, None}
use Rattle.std.proofs.lemmas.Result.{IfOk-weaker}
use Rattle.std.specs.Option.{option_map_or}
use Rattle.px_column.specs.Prelude.{AnswersBy, slot_of}
use Rattle.px_frame.specs.Cell.{value_of_cell}
use Rattle.px_frame.specs.External.{alone}
use Rattle.px_frame.specs.Schema.{column_field}
use Rattle.px_tree.specs.Typing.{kind_in}
use Rattle.px_tree.specs.Value.{value_on}
use Rattle.px_vectors.specs.PlainStep.{tree_of}
use Rattle.px_vectors.specs.declared.plain_step.Aggregation.{Aggregation}
use Rattle.px_vectors.proofs.PlainValues.{sum_typed, sum_value}
use Rattle.px_vectors.proofs.plain_step.value_on.Goals as goal

pub returns-in-Some-clause-value : goal.returns-in-Some-clause-value
returns-in-Some-clause-value c =
    subst (λ a. AnswersBy slot_of c.sum_of.result (Ok (option_map_or value_of_cell (value_on (tree_of a) (alone c.args.frame.now)) None))) (sym c.in-Sum.is)
    (subst (λ s. AnswersBy slot_of c.sum_of.result (Ok s)) (sym (sum_value c.args.frame.now c.in-Sum.name c.in-Some.column.now c.in-Some.ensures.found)) c.sum_of.ensures.sum)

pub returns-in-Some-clause-fits : goal.returns-in-Some-clause-fits
returns-in-Some-clause-fits c =
    let frame = c.args.frame.now in
    IfOk-weaker c.sum_of.result _ _
    (λ v h k e. h k (sym (sum_typed frame c.in-Sum.name c.in-Some.column.now c.in-Some.ensures.found) ∙ (ap (λ (a : Aggregation). kind_in (tree_of a) (map column_field frame)) (sym c.in-Sum.is) ∙ e)))
    c.sum_of.ensures.fits
