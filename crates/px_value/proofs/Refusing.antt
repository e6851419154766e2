-- A refusal that is told: memory was wanting, or it is the one that is expected.
use Rattle.std.proofs.Common.{◌≡◌, ◌⊎◌, inl, inr, Result, Ok, Err, refl, ap}
use Rattle.px_value.specs.Answer.{Refuses}
use Rattle.px_value.specs.Result.{◌>>=◌}
use Rattle.px_value.specs.declared.error.PxError.{PxError}
use Rattle.px_value.specs.declared.error.PxError.TheVariants.{ColumnNotFound, Duplicate, InvalidOperation, ComputeError, OutOfBounds, ShapeMismatch, SchemaMismatch, OutOfMemory}

-- what holds where memory was wanting, and where the refusal is expected
pub Refuses-cases : {Y : Type 0} (P : PxError → Type 0) (e : PxError) (r : Result Y PxError) → P OutOfMemory → (r ≡ Err e → P e) → Refuses e r → P e
Refuses-cases P (ColumnNotFound n) r m w h = w h
Refuses-cases P (Duplicate n) r m w h = w h
Refuses-cases P (InvalidOperation y) r m w h = w h
Refuses-cases P (ComputeError y) r m w h = w h
Refuses-cases P OutOfBounds r m w h = w h
Refuses-cases P ShapeMismatch r m w h = w h
Refuses-cases P SchemaMismatch r m w h = w h
Refuses-cases P OutOfMemory r m w h = m

-- a refusal that is expected is told
pub Refuses-of : {Y : Type 0} (e : PxError) (r : Result Y PxError) → r ≡ Err e → Refuses e r
Refuses-of (ColumnNotFound n) r h = h
Refuses-of (Duplicate n) r h = h
Refuses-of (InvalidOperation y) r h = h
Refuses-of (ComputeError y) r h = h
Refuses-of OutOfBounds r h = h
Refuses-of ShapeMismatch r h = h
Refuses-of SchemaMismatch r h = h
Refuses-of OutOfMemory r h = tt

-- memory was wanting, or the refusal is the one that is expected
pub refuses_or : {Y : Type 0} (e : PxError) (r : Result Y PxError) → Refuses e r → (e ≡ OutOfMemory) ⊎ (r ≡ Err e)
refuses_or e r = Refuses-cases (λ x. (x ≡ OutOfMemory) ⊎ (r ≡ Err x)) e r (inl refl) inr

-- a refusal of one answer is that of another, which is refused where the first is
pub refuses_too : {X Y : Type 0} (e : PxError) (r : Result X PxError) (s : Result Y PxError) → (r ≡ Err e → s ≡ Err e) → Refuses e r → Refuses e s
refuses_too e r s g = Refuses-cases (λ x. Refuses x s) e r tt (λ h. Refuses-of e s (g h))

-- a refusal is that of all that comes after
pub refuses_then : {X Y : Type 0} (e : PxError) (r : Result X PxError) (f : X → Result Y PxError) → Refuses e r → Refuses e (r >>= f)
refuses_then e r f = refuses_too e r (r >>= f) (ap (λ q. q >>= f))

-- a refusal is one of any type
pub refuses_same : (X Y : Type 0) (x e : PxError) → Refuses {Y = X} e (Err x) → Refuses {Y = Y} e (Err x)
refuses_same X Y x e = refuses_too {X = X} {Y = Y} e (Err x) (Err x) (λ h. let same : x ≡ e = cc in ap Err same)

-- where a value is expected, memory was wanting
pub no_refusal : {Y : Type 0} (e : PxError) (r : Result Y PxError) (y : Y) → r ≡ Ok y → Refuses e r → e ≡ OutOfMemory
no_refusal e r y o = Refuses-cases (λ x. x ≡ OutOfMemory) e r refl (λ h. absurd (cc (o, h)))

-- want of memory refuses anything
pub only_memory : {X Y : Type 0} (e : PxError) (x : X) (r : Result Y PxError) → Refuses e (Ok x) → Refuses e r
only_memory e x r = refuses_too e (Ok x) r (λ h. absurd (cc h))
