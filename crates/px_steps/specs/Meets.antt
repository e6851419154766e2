-- How the answer of a step is told: by its refusals and its plain meaning. Want of memory is always allowed.
use Rattle.std.specs.Prelude.{◌≡◌, List, [], ◌∷◌, Option, Some, Result, Ok, Err}
use Rattle.px_column.specs.Prelude.{Refuses}
use Rattle.px_value.specs.declared.error.PxError.{PxError}

-- nothing where there is no refusal, else the first one
abbrev pub unless_refused : List PxError → Result (Unit {0}) PxError
unless_refused [] = Ok tt
unless_refused (e ∷ refusals) = Err e

-- memory was wanting, or this is the first refusal
abbrev pub IsFirst : PxError → List PxError → Type 0
IsFirst e refusals = Refuses e (unless_refused refusals)

-- there was no refusal and the answer, seen by view, is the plain one; or the first refusal was answered
abbrev pub MeetsBy : {X Y : Type 0} → (X → Y) → Result X PxError → List PxError → Option Y → Type 0
MeetsBy view (Ok x) refusals plain = (refusals ≡ []) × (plain ≡ Some (view x))
MeetsBy view (Err e) refusals plain = IsFirst e refusals

abbrev pub Meets : {X : Type 0} → Result X PxError → List PxError → Option X → Type 0
Meets (Ok x) refusals plain = (refusals ≡ []) × (plain ≡ Some x)
Meets (Err e) refusals plain = IsFirst e refusals
