use Rattle.std.proofs.Common.{◌∙◌, ap, arith}
use Rattle.px_column.specs.Prelude.{Series, slot_at, slot_fits, slot_of_ref}
use Rattle.px_frame.specs.Cell.{list_of}
use Rattle.px_window.proofs.Laying.{unit_more, unit_room}
use Rattle.px_window.proofs.placing.push_unit.Goals as goal

pub push_ref-requires-clause-fits : goal.push_ref-requires-clause-fits
push_ref-requires-clause-fits c =
    let kind = ap (λ (s : Series). s.kind) c.loop.invariant ∙ c.requires.kind in
    ap (λ k. slot_fits k (slot_of_ref c.get.result)) kind ∙ c.get.ensures.fits

pub push_ref-requires-clause-room : goal.push_ref-requires-clause-room
push_ref-requires-clause-room c = unit_room c.args.rows.now c.loop.rows c.loop.counter c.args.count (slot_at (list_of c.args.piece.now.cell) 0) c.loop.invariant (omega arith) c.requires.room

pub loop-preserved : goal.loop-preserved
loop-preserved c =
    unit_more c.args.rows.now c.loop.rows c.push_ref.new.self c.loop.counter (slot_at (list_of c.args.piece.now.cell) 0) (slot_of_ref c.get.result) c.loop.invariant c.in_ok-push_ref.ensures.ok c.get.ensures.value
