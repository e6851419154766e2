-- What an answer tells of its value.
use Rattle.std.proofs.Common.{◌≡◌, Result, Ok}
use Rattle.px_value.specs.declared.error.PxError.{PxError}

abbrev Same : {X : Type 0} → Result X PxError → Result X PxError → Type 0
Same a b = a ≡ b

pub told : {X : Type 0} (expected found : X) → Same (Ok expected) (Ok found) → found ≡ expected
told expected found h = cc
