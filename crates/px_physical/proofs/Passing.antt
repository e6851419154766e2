-- An error that is passed on.
use Rattle.std.proofs.Common.{◌≡◌, Result, Ok, Err}
use Rattle.std.specs.Prelude.{IfErr}
use Rattle.std.specs.Result.{IsErrAnd}
use Rattle.px_value.specs.declared.error.PxError.{PxError}

-- what holds of an error holds where it is passed on
pub passed_on : {X : Type 0} (r : Result X PxError) (error : PxError) (P : PxError → Type 0) → IsErrAnd r (λ e. e ≡ error) → P error → IfErr r P
passed_on (Ok x) error P h p = tt
passed_on (Err e) error P h p = rw h p
