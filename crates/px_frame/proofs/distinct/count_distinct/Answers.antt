use Rattle.std.proofs.Common.{◌≡◌, ◌∙◌, ◌<◌, ◌≤◌, ℕ, Bool, true, false, cond, length, ap, sym, arith}
use Rattle.px_column.specs.Prelude.{slot_at}
use Rattle.px_column.specs.Key.{key_at, row_of}
use Rattle.px_column.proofs.Distinct.{distinct_row}
use Rattle.px_frame.specs.Frame.{slots_at}
use Rattle.px_frame.specs.GroupsView.{lent_group}
use Rattle.px_frame.proofs.Reducing.{length_slots_at, slot_at_rows}
use Rattle.px_frame.proofs.distinct.count_distinct.Goals as goal

at_most_one : (b : Bool) → cond b 1 0 ≤ 1
at_most_one true = omega arith
at_most_one false = omega arith

pub loop-index-preserved : goal.loop-index-preserved
loop-index-preserved c =
    let xs = c.args.values.now.slots in
    let rows = (lent_group c.args.group).rows in
    let i = c.loop-index.index in
    let there : i < length rows = omega arith in
    let within : i < length (slots_at xs rows) = omega (arith, length_slots_at xs rows, there) in
    let read : c.new.result ≡ row_of (slot_at xs c.row.result) = c.new.ensures ∙ ap (λ by. key_at by c.row.result) c.from_ref-by.ensures.value in
    let key : c.new.result ≡ row_of (slot_at (slots_at xs rows) i) = read ∙ ap (λ (r : ℕ). row_of (slot_at xs r)) c.row.ensures ∙ ap row_of (sym (slot_at_rows xs rows i there)) in
    record {
      few = omega (arith, c.in_ok-insert.ensures.len, at_most_one c.in_ok-insert.field-0);
      keys = c.in_ok-insert.ensures.keys ∙ distinct_row (slots_at xs rows) i c.loop-index.seen.keys c.new.result within c.loop-index.invariant.keys key;
    }
