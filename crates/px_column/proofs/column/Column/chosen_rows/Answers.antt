use Rattle.std.proofs.Common.{◌≡◌, ◌∙◌, length, sym, arith}
use Rattle.px_value.specs.LentView.{slot_of_ref}
use Rattle.px_value.specs.Series.{slot_at}
use Rattle.px_column.specs.Beside.{rows_to, zipped_three}
use Rattle.px_column.specs.Chosen.{chosen}
use Rattle.px_column.proofs.Beside.{slot_beside_three, length_beside_three}
use Rattle.px_column.proofs.Building.{built_more, built_all}
use Rattle.px_column.proofs.column.Column.chosen_rows.Goals as goal

pub loop-row-preserved : goal.loop-row-preserved
loop-row-preserved c =
    let n = c.args.len in
    let ms = rows_to n c.args.mask.now.slots in
    let xs = rows_to n c.args.self.now.slots in
    let ys = rows_to n c.args.other.now.slots in
    let all : length (zipped_three chosen ms xs ys) ≡ n = length_beside_three chosen ms xs ys n c.requires.mask_len c.requires.self_len c.requires.other_len in
    let m = c.row_beside-keep.ensures.value n c.loop-row-test.true in
    let x = c.row_beside-x.ensures.value n c.loop-row-test.true in
    let y = c.row_beside-y.ensures.value n c.loop-row-test.true in
    let beside = slot_beside_three chosen ms xs ys c.loop-row.row (omega (arith, c.requires.mask_len)) (omega (arith, c.requires.self_len)) (omega (arith, c.requires.other_len)) in
    let value : slot_of_ref c.choose.result ≡ slot_at (zipped_three chosen ms xs ys) c.loop-row.row = c.choose.ensures ∙ (λ i. chosen (m i) (x i) (y i)) ∙ sym beside in
    built_more c.args.self.now.name c.args.self.now.kind (zipped_three chosen ms xs ys) c.loop-row.row c.loop-row.rows c.push_ref.new.self (slot_of_ref c.choose.result)
    (omega (arith, all)) c.loop-row.invariant c.in_ok-push_ref.ensures.ok value

pub returns : goal.returns
returns c =
    let n = c.args.len in
    let ms = rows_to n c.args.mask.now.slots in
    let xs = rows_to n c.args.self.now.slots in
    let ys = rows_to n c.args.other.now.slots in
    let all : length (zipped_three chosen ms xs ys) ≡ n = length_beside_three chosen ms xs ys n c.requires.mask_len c.requires.self_len c.requires.other_len in
    built_all c.args.self.now.name c.args.self.now.kind (zipped_three chosen ms xs ys) c.loop-row.row c.loop-row.rows c.finish.result (omega (arith, all)) c.loop-row.invariant c.finish.ensures
