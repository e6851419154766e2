use Rattle.std.proofs.Common.{◌≡◌, ◌≤◌, ◌*◌, length, map, sum, take}
use Rattle.px_frame.proofs.reduce.total_len.Given as goal

abbrev pub invariant-loop-index : goal.invariant-loop-index
invariant-loop-index l = record {
  sum : l.total ≡ sum (map (λ p. length p.rows) (take l.index l.groups.groups));
  bound : l.total ≤ l.index * 4294967295;
}
