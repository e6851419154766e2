use Rattle.std.proofs.Common.{◌∙◌, ap, arith}
use Rattle.px_column.specs.Prelude.{Series, slot_fits, slot_of_ref}
use Rattle.px_value.proofs.FitLaws.{fits_at}
use Rattle.px_column.proofs.Building.{items_more}
use Rattle.px_context.proofs.context.joining.push_all.Goals as goal

pub push_ref-requires-clause-fits : goal.push_ref-requires-clause-fits
push_ref-requires-clause-fits c =
    let kind = ap (λ (s : Series). s.kind) c.loop-index.invariant in
    (λ i. slot_fits (kind i) (c.get.ensures i)) ∙ fits_at c.args.rows.now.kind c.args.values.now c.loop-index.index c.requires.fits

pub loop-index-preserved : goal.loop-index-preserved
loop-index-preserved c =
    items_more c.args.rows.now c.loop-index.rows c.push_ref.new.self c.args.values.now c.loop-index.index (slot_of_ref c.get.result)
    (omega (arith, c.len-index-end.ensures)) c.loop-index.invariant c.in_ok-push_ref.ensures.ok c.get.ensures
