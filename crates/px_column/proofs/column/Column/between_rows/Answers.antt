use Rattle.std.proofs.Common.{◌≡◌, ◌∙◌, length, ap, sym, arith}
use Rattle.px_value.specs.Kind.{booleans, slot_fits}
use Rattle.px_value.specs.LentView.{slot_of_ref}
use Rattle.px_value.specs.Series.{Series, slot_at}
use Rattle.px_value.specs.View.{slot_of}
use Rattle.px_operation.specs.Function.{between_slot}
use Rattle.px_column.specs.Beside.{rows_to, zipped_three}
use Rattle.px_column.proofs.Beside.{slot_beside_three, length_beside_three}
use Rattle.px_column.proofs.Between.{fits_between}
use Rattle.px_column.proofs.Building.{built_more, built_all}
use Rattle.px_column.proofs.column.Column.between_rows.Goals as goal

pub push-requires-clause-fits : goal.push-requires-clause-fits
push-requires-clause-fits c =
    let f = between_slot c.args.self.now.kind c.args.closed in
    let s = slot_of_ref c.row_beside-slot.result in
    let x = slot_of_ref c.row_beside-x.result in
    let y = slot_of_ref c.row_beside-y.result in
    let value : slot_of c.in_ok-between.field-0 ≡ f s x y = cc (c.in_ok-between.ensures, c.dtype.ensures) in
    let type : c.loop-row.rows.kind ≡ booleans = ap (λ (r : Series). r.kind) c.loop-row.invariant ∙ c.requires.kind in
    (λ i. slot_fits (type i) (value i)) ∙ fits_between c.args.self.now.kind c.args.closed s x y

pub loop-row-preserved : goal.loop-row-preserved
loop-row-preserved c =
    let n = c.args.len in
    let f = between_slot c.args.self.now.kind c.args.closed in
    let ss = rows_to n c.args.self.now.slots in
    let xs = rows_to n c.args.low.now.slots in
    let ys = rows_to n c.args.high.now.slots in
    let all : length (zipped_three f ss xs ys) ≡ n = length_beside_three f ss xs ys n c.requires.self_len c.requires.low_len c.requires.high_len in
    let s = c.row_beside-slot.ensures.value n c.loop-row-test.true in
    let x = c.row_beside-x.ensures.value n c.loop-row-test.true in
    let y = c.row_beside-y.ensures.value n c.loop-row-test.true in
    let made : slot_of c.in_ok-between.field-0 ≡ f (slot_of_ref c.row_beside-slot.result) (slot_of_ref c.row_beside-x.result) (slot_of_ref c.row_beside-y.result) = cc (c.in_ok-between.ensures, c.dtype.ensures) in
    let beside = slot_beside_three f ss xs ys c.loop-row.row (omega (arith, c.requires.self_len)) (omega (arith, c.requires.low_len)) (omega (arith, c.requires.high_len)) in
    let value : slot_of c.in_ok-between.field-0 ≡ slot_at (zipped_three f ss xs ys) c.loop-row.row = made ∙ (λ i. f (s i) (x i) (y i)) ∙ sym beside in
    built_more c.args.rows.name c.args.rows.kind (zipped_three f ss xs ys) c.loop-row.row c.loop-row.rows c.push.new.self (slot_of c.in_ok-between.field-0)
    (omega (arith, all)) c.loop-row.invariant c.in_ok-push.ensures.ok value

pub returns : goal.returns
returns c =
    let n = c.args.len in
    let f = between_slot c.args.self.now.kind c.args.closed in
    let ss = rows_to n c.args.self.now.slots in
    let xs = rows_to n c.args.low.now.slots in
    let ys = rows_to n c.args.high.now.slots in
    let all : length (zipped_three f ss xs ys) ≡ n = length_beside_three f ss xs ys n c.requires.self_len c.requires.low_len c.requires.high_len in
    built_all c.args.rows.name c.args.rows.kind (zipped_three f ss xs ys) c.loop-row.row c.loop-row.rows c.finish.result (omega (arith, all)) c.loop-row.invariant c.finish.ensures
