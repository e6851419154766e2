use Rattle.std.proofs.Common.{◌≡◌, ◌∙◌, ap, map, None, List, arith}
use Rattle.std.specs.Option.{option_map_or}
use Rattle.px_column.specs.Prelude.{Series, slot_of}
use Rattle.px_frame.specs.Cell.{value_of_cell}
use Rattle.px_frame.specs.Frame.{subframe}
use Rattle.px_value.proofs.FitLaws.{fit_next}
use Rattle.px_frame.specs.External.{alone}
use Rattle.px_frame.specs.Schema.{column_field}
use Rattle.px_tree.specs.Typing.{kind_in}
use Rattle.px_tree.specs.Value.{value_on}
use Rattle.px_vectors.specs.PlainStep.{tree_of, value_at_part}
use Rattle.px_vectors.proofs.PlainValues.{kind_on_rows, part_next}
use Rattle.px_vectors.proofs.Told.{told}
use Rattle.px_vectors.proofs.plain_step.part_values.Goals as goal

pub loop-part-preserved : goal.loop-part-preserved
loop-part-preserved c =
    let inv = c.loop-part.invariant in
    let frame = c.args.frame.now in
    let e = tree_of c.args.agg.now in
    let part = c.part-item.result in
    let rows : c.in_ok-rows.rows ≡ subframe frame part.items = told _ _ c.in_ok-rows.ensures ∙ ap (subframe frame) c.deref.ensures.value in
    let value : slot_of c.in_ok-value_on.field-0 ≡ value_at_part frame e part.items =
    told _ _ c.in_ok-value_on.ensures.value ∙ ap (λ (f : List Series). option_map_or value_of_cell (value_on e (alone f)) None) rows in
    record {
      values = part_next (λ p. p.items) (value_at_part frame e) c.args.parts.now c.loop-part.part-index part _ _ _ _ c.loop-part-test.true c.part-item.is c.in_ok-push.ensures.items value inv.values;
      fit = λ k h. fit_next k _ _ _ c.in_ok-push.ensures.items (inv.fit k h) (c.in_ok-value_on.ensures.fits k (ap (λ (f : List Series). kind_in e (map column_field f)) rows ∙ kind_on_rows part.items e frame ∙ h));
      len = omega (arith, c.in_ok-push.ensures.len, inv.len);
    }
