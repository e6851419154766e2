use Rattle.std.proofs.Common.{◌∙◌, ℕ, ◌+◌, ◌<◌, length, drop, ap, sym, arith}
use Rattle.px_operation.proofs.Written.{reads, reads_at}
use Rattle.px_operation.proofs.casts.written.natural.Goals as goal

pub loop-digit-preserved : goal.loop-digit-preserved
loop-digit-preserved c =
    let there : c.loop-digit.digit-index < length c.args.digits.now = omega arith in
    let next = reads_at c.loop-digit.number c.loop-digit.digit-index c.args.digits.now there (sym c.is_ascii_digit.ensures.value ∙ c.if-not-is_ascii_digit.false) in
    record {
      small = c.fold-number.ensures.small;
      same = c.loop-digit.invariant.same ∙ next ∙ ap (λ (n : ℕ). reads n (drop (c.loop-digit.digit-index + 1) c.args.digits.now)) (sym c.fold-number.ensures.value);
    }
