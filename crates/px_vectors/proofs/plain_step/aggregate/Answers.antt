use Rattle.std.proofs.Common.{◌≡◌, Result, Some, map, refl, subst, true}
use Rattle.px_column.specs.Prelude.{Answers, Series, kind_of, slots_fit, slots_of}
use Rattle.px_value.specs.declared.error.PxError.{PxError}
use Rattle.px_frame.specs.Schema.{column_field}
use Rattle.px_tree.specs.Shape.{name_of}
use Rattle.px_tree.specs.Typing.{kind_in}
use Rattle.px_vectors.specs.PlainStep.{tree_of, value_at_part}
use Rattle.px_vectors.proofs.PlainColumns.{made_as}
use Rattle.px_vectors.proofs.PlainValues.{column_made, meets_made}
use Rattle.px_vectors.proofs.Told.{told}
use Rattle.px_vectors.proofs.plain_step.aggregate.Goals as goal

pub returns : goal.returns
returns c =
    let t = tree_of c.args.agg.now in
    let frame = c.args.frame.now in
    let k = kind_of c.in_ok-dtype.dtype in
    let xs = slots_of c.in_ok-values.values.items in
    let typed : kind_in t (map column_field frame) ≡ Some k = c.in_ok-dtype.ensures.1 in
    let named : c.in_ok-name_of.field-0 ≡ name_of t = told _ _ c.in_ok-name_of.ensures in
    let values : xs ≡ map (value_at_part frame t) (map (λ p. p.items) c.args.parts.now) = told _ _ c.in_ok-values.ensures.values in
    let fit : slots_fit k xs ≡ true = c.in_ok-values.ensures.fit k typed in
    let s : Series = record { name = c.in_ok-name_of.field-0; kind = k; slots = xs } in
    meets_made c.from_values.result s _ _ c.in_ok-dtype.ensures.0 (column_made frame c.args.agg.now k c.in_ok-name_of.field-0 xs (map (λ p. p.items) c.args.parts.now) typed named values)
    (subst (λ (r : Result Series PxError). Answers c.from_values.result r) (made_as s c.in_ok-name_of.field-0 k xs refl refl refl fit) c.from_values.ensures)
