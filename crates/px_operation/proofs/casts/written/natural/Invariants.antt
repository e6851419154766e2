use Rattle.std.proofs.Common.{◌≡◌, ◌^◌, ◌<◌, drop}
use Rattle.px_operation.proofs.Written.{reads}
use Rattle.px_operation.proofs.casts.written.natural.Given as goal

abbrev pub invariant-loop-digit : goal.invariant-loop-digit
invariant-loop-digit l = record {
  small : l.number < 2 ^ 65;
  same : reads 0 l.digits ≡ reads l.number (drop l.digit-index l.digits);
}
