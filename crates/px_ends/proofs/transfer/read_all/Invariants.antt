use Rattle.std.proofs.Common.{◌≡◌, ◌≤◌, ◌-◌, ◌^◌, vec_len}
use Rattle.px_ends.proofs.HasRead.{HasRead}
use Rattle.px_ends.proofs.transfer.read_all.Given as goal

abbrev pub invariant-loop-bytes : goal.invariant-loop-bytes
invariant-loop-bytes g l = record {
  room : vec_len l.piece ≡ 65536;
  within : vec_len l.bytes ≤ 2 ^ 26;
  reads : HasRead l.bytes.items (g.S.Source.left l.initial.source) (g.S.Source.left l.source);
  steady : g.S.Source.faults l.source ≡ g.S.Source.faults l.initial.source;
}

abbrev pub decreases-loop-bytes : goal.decreases-loop-bytes
decreases-loop-bytes g l = 2 ^ 26 - vec_len l.bytes
