use Rattle.std.proofs.Common.{◌≡◌, ◌∙◌, ap, length, true, arith, subst, sym}
use Rattle.px_value.specs.Kind.{Kind, slot_fits}
use Rattle.px_value.specs.LentView.{slot_of_ref}
use Rattle.px_value.specs.Series.{Series, slot_at}
use Rattle.px_value.specs.View.{slot_of}
use Rattle.px_column.specs.Beside.{rows_to, zipped}
use Rattle.px_column.proofs.Beside.{slot_beside, length_beside}
use Rattle.px_column.proofs.Building.{built_more, built_all}
use Rattle.px_column.proofs.row_by_row.zip_rows.Goals as goal

pub push-requires-clause-fits : goal.push-requires-clause-fits
push-requires-clause-fits g c =
    let made = g.F.OfTwoRows.made c.args.f.now in
    let kind = g.F.OfTwoRows.takes c.args.f.now in
    let x = slot_of_ref c.row_beside-x.result in
    let y = slot_of_ref c.row_beside-y.result in
    let left : slot_fits kind x ≡ true = subst (λ (k : Kind). slot_fits k x ≡ true) c.requires.left c.row_beside-x.ensures.fits in
    let right : slot_fits kind y ≡ true = subst (λ (k : Kind). slot_fits k y ≡ true) c.requires.right c.row_beside-y.ensures.fits in
    let value : slot_of c.in_ok-make.field-0 ≡ made x y = cc c.in_ok-make.ensures in
    let type : c.loop-row.rows.kind ≡ c.args.rows.kind = ap (λ (s : Series). s.kind) c.loop-row.invariant in
    (λ i. slot_fits (type i) (value i)) ∙ c.requires.fits x y left right

pub loop-row-preserved : goal.loop-row-preserved
loop-row-preserved g c =
    let made = g.F.OfTwoRows.made c.args.f.now in
    let xs = rows_to c.args.len c.args.left.now.slots in
    let ys = rows_to c.args.len c.args.right.now.slots in
    let all : length (zipped made xs ys) ≡ c.args.len = length_beside made xs ys c.args.len c.requires.left_len c.requires.right_len in
    let x = c.row_beside-x.ensures.value c.args.len c.loop-row-test.true in
    let y = c.row_beside-y.ensures.value c.args.len c.loop-row-test.true in
    let here : slot_of c.in_ok-make.field-0 ≡ made (slot_of_ref c.row_beside-x.result) (slot_of_ref c.row_beside-y.result) = cc c.in_ok-make.ensures in
    let beside = slot_beside made xs ys c.loop-row.row (omega (arith, c.requires.left_len)) (omega (arith, c.requires.right_len)) in
    let value : slot_of c.in_ok-make.field-0 ≡ slot_at (zipped made xs ys) c.loop-row.row = here ∙ (λ i. made (x i) (y i)) ∙ sym beside in
    built_more c.args.rows.name c.args.rows.kind (zipped made xs ys) c.loop-row.row c.loop-row.rows c.push.new.self (slot_of c.in_ok-make.field-0)
    (omega (arith, all)) c.loop-row.invariant c.in_ok-push.ensures.ok value

pub returns : goal.returns
returns g c =
    let made = g.F.OfTwoRows.made c.args.f.now in
    let xs = rows_to c.args.len c.args.left.now.slots in
    let ys = rows_to c.args.len c.args.right.now.slots in
    let all : length (zipped made xs ys) ≡ c.args.len = length_beside made xs ys c.args.len c.requires.left_len c.requires.right_len in
    built_all c.args.rows.name c.args.rows.kind (zipped made xs ys) c.loop-row.row c.loop-row.rows c.finish.result (omega (arith, all)) c.loop-row.invariant c.finish.ensures
