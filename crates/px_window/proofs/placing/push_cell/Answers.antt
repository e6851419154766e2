use Rattle.std.proofs.Common.{◌∙◌, ap, arith}
use Rattle.px_column.specs.Prelude.{Series, slot_fits, slot_of_ref}
use Rattle.px_frame.specs.Cell.{list_of}
use Rattle.px_column.proofs.Building.{items_more}
use Rattle.px_window.proofs.placing.push_cell.Goals as goal

pub push_ref-requires-clause-fits : goal.push_ref-requires-clause-fits
push_ref-requires-clause-fits c =
    let kind = ap (λ (s : Series). s.kind) c.loop-index.invariant ∙ c.requires.kind in
    ap (λ k. slot_fits k (slot_of_ref c.get.result)) kind ∙ c.get.ensures.fits

pub loop-index-preserved : goal.loop-index-preserved
loop-index-preserved c =
    items_more c.args.rows.now c.loop-index.rows c.push_ref.new.self (list_of c.args.piece.now.cell) c.loop-index.index (slot_of_ref c.get.result)
    (omega (arith, c.len-index-end.ensures)) c.loop-index.invariant c.in_ok-push_ref.ensures.ok c.get.ensures.value
