use Rattle.std.proofs.Common.{List, take, subst}
use Rattle.px_value.specs.Datum.{Slot}
use Rattle.px_value.specs.KindView.{kind_of}
use Rattle.px_value.specs.View.{slots_of}
use Rattle.px_operation.proofs.RowByRow.{row_fits, row_next, row_room}
use Rattle.px_operation.proofs.reductions.rows.state_of.Goals as goal

pub absorb-requires : goal.absorb-requires
absorb-requires g c = record {
  kind = kind_of c.args.dtype.now;
  rows = slots_of (take c.loop-row.row-index c.args.rows.now);
  stands = c.loop-row.invariant;
  fits = row_fits (kind_of c.args.dtype.now) c.args.rows.now c.loop-row.row-index c.row-item.result _ c.loop-row-test.true c.row-item.is c.lend.ensures c.requires.fit;
  short = row_room c.args.rows.now c.loop-row.row-index c.loop-row-test.true c.requires.short;
}

pub loop-row-preserved : goal.loop-row-preserved
loop-row-preserved g c =
    let k = kind_of c.args.dtype.now in
    let i = c.loop-row.row-index in
    let fits = row_fits k c.args.rows.now i c.row-item.result _ c.loop-row-test.true c.row-item.is c.lend.ensures c.requires.fit in
    let room = row_room c.args.rows.now i c.loop-row-test.true c.requires.short in
    subst (λ (xs : List Slot). g.R.Reduce.stands_for c.absorb.new.self k xs)
    (row_next c.args.rows.now i c.row-item.result _ c.loop-row-test.true c.row-item.is c.lend.ensures)
    (c.in_ok-absorb.ensures.one k (slots_of (take i c.args.rows.now)) c.loop-row.invariant fits room)
