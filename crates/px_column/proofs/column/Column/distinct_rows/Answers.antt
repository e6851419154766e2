use Rattle.std.proofs.Common.{◌≡◌, ◌∙◌, ◌<◌, ◌≤◌, Bool, true, false, cond, length, ap, arith}
use Rattle.px_column.specs.Key.{key_at, row_of}
use Rattle.px_value.specs.Series.{slot_at}
use Rattle.px_column.proofs.Distinct.{distinct_row}
use Rattle.px_column.proofs.column.Column.distinct_rows.Goals as goal

at_most_one : (b : Bool) → cond b 1 0 ≤ 1
at_most_one true = omega arith
at_most_one false = omega arith

pub loop-row-preserved : goal.loop-row-preserved
loop-row-preserved c =
    let there : c.loop-row.row < length c.args.self.now.slots = omega arith in
    let key : c.new.result ≡ row_of (slot_at c.args.self.now.slots c.loop-row.row) = c.new.ensures ∙ ap (λ by. key_at by c.loop-row.row) c.from_ref-by.ensures.value in
    record {
      few = omega (arith, c.in_ok-insert.ensures.len, at_most_one c.in_ok-insert.field-0);
      keys = c.in_ok-insert.ensures.keys ∙ distinct_row c.args.self.now.slots c.loop-row.row c.loop-row.seen.keys c.new.result there c.loop-row.invariant.keys key;
    }
