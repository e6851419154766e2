use Rattle.std.proofs.Common.{◌∙◌, ℕ, List, Result, option_map, ap, sym, subst}
use Rattle.px_value.specs.Answer.{AnswersBy}
use Rattle.px_value.specs.Datum.{Slot}
use Rattle.px_value.specs.KindView.{kind_of}
use Rattle.px_value.specs.View.{slot_of}
use Rattle.px_value.specs.declared.error.PxError.{PxError}
use Rattle.px_operation.specs.Cast.{number_written, written_cast}
use Rattle.px_operation.specs.Written.{folded_number}
use Rattle.px_operation.proofs.WrittenCasts.{text_cast_is}
use Rattle.px_operation.proofs.casts.single.text_cast.Goals as goal

pub returns-in_default : goal.returns-in_default
returns-in_default c =
    let same = text_cast_is (kind_of c.args.to.now) c.args.options c.args.text.now (sym c.is_integer.ensures ∙ c.if-is_integer.true) in
    let written = c.number_written.ensures ∙ ap (λ (s : List ℕ). option_map folded_number (number_written s)) c.as_bytes-in_default.ensures.value in
    subst (λ (r : Result Slot PxError). AnswersBy slot_of c.written_cast.result r) (ap (written_cast (kind_of c.args.to.now) c.args.options) written ∙ same) c.written_cast.ensures
