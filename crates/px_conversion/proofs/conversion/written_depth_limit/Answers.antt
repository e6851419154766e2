use Rattle.std.proofs.Common.{◌∙◌, ap, sym}
use Rattle.std.specs.Prelude.{Ok}
use Rattle.std.specs.Str.Parse.{without_leading_plus}
use Rattle.px_conversion.proofs.Numerals.{numeral_limits, no_numeral_limits, kept_number}
use Rattle.px_conversion.proofs.conversion.written_depth_limit.Goals as goal

pub returns-in-Ok : goal.returns-in-Ok
returns-in-Ok c =
    let read = c.in-Ok.ensures.value.0 in
    let kept = kept_number c.in-Ok.number c.try_from.result c.try_from.ensures in
    let limits = numeral_limits (without_leading_plus c.args.text.now) read.0.0 read.0.1 in
    let same = read.1 in
    ap Ok (c.unwrap_or.ensures ∙ kept) ∙ rw same (sym limits)

pub returns-in-Err : goal.returns-in-Err
returns-in-Err c = sym (no_numeral_limits (without_leading_plus c.args.text.now) c.in-Err.ensures.value.0)
