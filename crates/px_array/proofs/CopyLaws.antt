-- A copy of a place fits where the place does.
use Rattle.std.proofs.Common.{◌≡◌, true, Option, Result, Ok, Err, sym, ap, ◌∙◌}
use Rattle.std.specs.Prelude.{IfOk}
use Rattle.px_value.specs.Answer.{AnswersBy}
use Rattle.px_value.specs.Datum.{Slot}
use Rattle.px_value.specs.Kind.{Kind, slot_fits}
use Rattle.px_value.specs.View.{slot_of}
use Rattle.px_value.specs.declared.error.PxError.{PxError}
use Rattle.px_value.specs.declared.value.Value.{Value}

pub fits_answered : (k : Kind) (s : Slot) (r : Result (Option Value) PxError) → AnswersBy slot_of r (Ok s) → slot_fits k s ≡ true → IfOk r (λ v. slot_fits k (slot_of v) ≡ true)
fits_answered k s (Ok v) a h = let same : s ≡ slot_of v = cc in ap (slot_fits k) (sym same) ∙ h
fits_answered k s (Err e) a h = tt
