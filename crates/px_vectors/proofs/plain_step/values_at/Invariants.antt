use Rattle.std.proofs.Common.{◌≡◌, ◌++◌, drop, true, vec_len}
use Rattle.px_column.specs.Prelude.{slots_fit, slots_of}
use Rattle.px_frame.specs.Frame.{slots_at}
use Rattle.px_vectors.proofs.plain_step.values_at.Given as goal

abbrev pub invariant-loop-row : goal.invariant-loop-row
invariant-loop-row l = record {
  values : slots_at l.column.slots l.rows ≡ slots_of l.values.items ++ slots_at l.column.slots (drop l.row-index l.rows);
  fit : slots_fit l.column.kind (slots_of l.values.items) ≡ true;
  len : vec_len l.values ≡ l.row-index;
}
