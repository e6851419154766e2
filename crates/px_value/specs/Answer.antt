-- How a call's answer is told: by the value or the refusal that is expected. Want of memory is always allowed.
use Rattle.std.specs.Prelude.{◌≡◌, Result, Ok, Err}
use Rattle.px_value.specs.declared.error.PxError.{PxError}
use Rattle.px_value.specs.declared.error.PxError.TheVariants.{ColumnNotFound, Duplicate, InvalidOperation, ComputeError, OutOfBounds, ShapeMismatch, SchemaMismatch, OutOfMemory}

-- memory was wanting, or this refusal is the one that is expected
abbrev pub Refuses : {Y : Type 0} → PxError → Result Y PxError → Type 0
Refuses OutOfMemory expected = Unit {0}
Refuses (ColumnNotFound n) expected = expected ≡ Err (ColumnNotFound n)
Refuses (Duplicate n) expected = expected ≡ Err (Duplicate n)
Refuses (InvalidOperation w) expected = expected ≡ Err (InvalidOperation w)
Refuses (ComputeError w) expected = expected ≡ Err (ComputeError w)
Refuses OutOfBounds expected = expected ≡ Err OutOfBounds
Refuses ShapeMismatch expected = expected ≡ Err ShapeMismatch
Refuses SchemaMismatch expected = expected ≡ Err SchemaMismatch

-- what was answered, seen by view, is what is expected, unless memory was wanting
abbrev pub AnswersBy : {X Y : Type 0} → (X → Y) → Result X PxError → Result Y PxError → Type 0
AnswersBy view (Ok x) expected = expected ≡ Ok (view x)
AnswersBy view (Err e) expected = Refuses e expected

-- what was answered is what is expected, unless memory was wanting
abbrev pub Answers : {X : Type 0} → Result X PxError → Result X PxError → Type 0
Answers (Ok x) expected = expected ≡ Ok x
Answers (Err e) expected = Refuses e expected
