use Rattle.px_value.specs.Series.{slot_at}
use Rattle.px_value.proofs.LengthLaws.{differ_len_map}
use Rattle.px_column.proofs.row_key.same_rows.Goals as goal

pub returns-then-a-b : goal.returns-then-a-b
returns-then-a-b c = differ_len_map (λ s. slot_at s.slots c.args.a_row) (λ s. slot_at s.slots c.args.b_row) c.args.a.now c.args.b.now c.if-a-b.true
