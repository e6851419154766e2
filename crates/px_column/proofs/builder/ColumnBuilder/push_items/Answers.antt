use Rattle.std.proofs.Common.{◌∙◌, ap, arith}
use Rattle.px_value.specs.Kind.{slot_fits}
use Rattle.px_value.specs.LentView.{slot_of_ref}
use Rattle.px_value.specs.Series.{Series}
use Rattle.px_column.proofs.Building.{items_more}
use Rattle.px_column.proofs.Exploding.{item_fits}
use Rattle.px_column.proofs.builder.ColumnBuilder.push_items.Goals as goal

pub push_ref-requires-clause-fits : goal.push_ref-requires-clause-fits
push_ref-requires-clause-fits c =
    let kind = ap (λ (s : Series). s.kind) c.loop-index.invariant in
    (λ i. slot_fits (kind i) (c.get.ensures i)) ∙ item_fits c.args.self.now.kind c.args.values.now c.loop-index.index c.requires.fits

pub loop-index-preserved : goal.loop-index-preserved
loop-index-preserved c =
    items_more c.args.self.now c.loop-index.self c.push_ref.new.self c.args.values.now c.loop-index.index (slot_of_ref c.get.result)
    (omega (arith, c.len-index-end.ensures)) c.loop-index.invariant c.in_ok-push_ref.ensures.ok c.get.ensures
