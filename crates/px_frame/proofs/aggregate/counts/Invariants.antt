use Rattle.std.proofs.Common.{◌≡◌, pos, Some, length, map, take, true, vec_len}
use Rattle.px_column.specs.Prelude.{integer, slots_fit, uint32s, slots_of}
use Rattle.px_frame.proofs.aggregate.counts.Given as goal

abbrev pub invariant-loop-index : goal.invariant-loop-index
invariant-loop-index l = record {
  made : slots_of l.counts.items ≡ map (λ p. Some (integer (pos (length p.rows)))) (take l.index l.groups.groups);
  fit : slots_fit (uint32s) (slots_of l.counts.items) ≡ true;
  counted : vec_len l.counts ≡ l.index;
}
