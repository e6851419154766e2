-- What follows from how a run ends.
use Rattle.std.proofs.Common.{◌≡◌, ℕ, ◌⊎◌, inl, inr, List, refl, arith, subst}
use Rattle.std.specs.Prelude.{Option, Some, None, IfSome}
use Rattle.px_value.specs.declared.error.PxError.{PxError}
use Rattle.px_value.specs.declared.error.PxError.TheVariants.{OutOfMemory}
use Rattle.px_frame.specs.External.{alone}
use Rattle.px_steps.specs.Causes.{IsCauseIn}
use Rattle.px_document.specs.Document.{Doc}
use Rattle.px_ends.specs.Ends.{IsTooLong, Rose, TakesAll, TakesPart}
use Rattle.px_text.specs.Label.{bad_document_line}
use Rattle.px_steps.specs.Plain.{AreValid}
use Rattle.px_document.specs.DocumentText.{IsDocument}
use Rattle.px_steps.specs.Reply.{IsNoDocument, IsRefusal}
use Rattle.px_steps.specs.Run.{Calm, Ends}
use Rattle.px_steps.specs.declared.status.Status.{Status}
use Rattle.px_steps.specs.declared.status.Status.TheVariants as ended
use Rattle.px_steps.specs.declared.status.Status.TheVariants.{Done, Refused, Usage, BadDocument, ReadFault, WriteFault}
use Rattle.px_steps.proofs.Replied.{one_document}
use Rattle.px_steps.proofs.StepLoop.{none_stands}

-- 2^26 bytes and more are no document
too-long-none : (bytes : List ℕ) (left : Option (List ℕ)) → IsTooLong (Some bytes) left → IsNoDocument bytes bad_document_line
too-long-none bytes left long = record {
  none = λ doc d. omega (arith, d.says.short, long.0);
  written = refl;
}

-- where so many bytes were left, all or a front of the bad document's line was written
pub too-long-ends : (status : Status) (line : List ℕ) (before left old new : Option (List ℕ)) (faults now : ℕ) →
    line ≡ bad_document_line → IsTooLong before left →
    ((status ≡ BadDocument) × TakesAll line old new) ⊎ ((status ≡ WriteFault) × TakesPart line old new × Rose faults now) →
    IfSome before (λ b. Ends status b left old new)
too-long-ends status line None left old new faults now e long wrote = tt
too-long-ends status line (Some b) left old new faults now e long (inl wrote) =
    rw wrote.0 (inr long, (bad_document_line, (too-long-none b left long, rw e at wrote.1)))
too-long-ends status line (Some b) left old new faults now e long (inr wrote) =
    rw wrote.0 (inr long, (bad_document_line, (inr (inr (too-long-none b left long)), rw e at wrote.1)))

rose_calm : (before now : ℕ) → Rose before now → Calm before now → ⊥
rose_calm before now (inl more) calm = omega (arith, more, calm.0)
rose_calm before now (inr top) calm = omega (arith, top, calm.1)

-- a document of valid steps is not refused
refused_never : (bytes text : List ℕ) (doc : Doc) → IsDocument bytes doc → AreValid doc.steps (alone doc.columns) → IsRefusal bytes text → ⊥
refused_never bytes text doc is valid r =
    let same : doc ≡ r.doc = one_document bytes doc r.doc is r.document in
    by r.fault r.told (subst (λ (d : Doc). AreValid d.steps (alone d.columns)) same valid) r.cause
  where
    by : (e : PxError) → (e ≡ OutOfMemory → ⊥) → AreValid r.doc.steps (alone r.doc.columns) → IsCauseIn e r.doc.steps (alone r.doc.columns) → ⊥
    by e told v (inl m) = told m
    by e told v (inr c) = none_stands r.doc.steps (alone r.doc.columns) e v c

-- a document of valid steps is done, or memory was wanting
valid_ends : (status : Status) (bytes : List ℕ) (doc : Doc) (left old new : Option (List ℕ)) (before now faults more : ℕ) → IsDocument bytes doc → AreValid doc.steps (alone doc.columns)
    → Ends status bytes left old new → (status ≡ Usage → ⊥) → (status ≡ ReadFault → Rose before now) → (status ≡ WriteFault → Rose faults more) → Calm before now → Calm faults more
    → (status ≡ Done) ⊎ (status ≡ ended.OutOfMemory)
valid_ends Done bytes doc left old new before now faults more is valid ends usage read wrote calm still = inl refl
valid_ends Refused bytes doc left old new before now faults more is valid ends usage read wrote calm still = absurd (refused_never bytes ends.1.0 doc is valid ends.1.1.0)
valid_ends Usage bytes doc left old new before now faults more is valid ends usage read wrote calm still = absurd (usage refl)
valid_ends BadDocument bytes doc left old new before now faults more is valid ends usage read wrote calm still = absurd (ends.1.1.0.none doc is)
valid_ends ReadFault bytes doc left old new before now faults more is valid ends usage read wrote calm still = absurd (rose_calm before now (read refl) calm)
valid_ends WriteFault bytes doc left old new before now faults more is valid ends usage read wrote calm still = absurd (rose_calm faults more (wrote refl) still)
valid_ends ended.OutOfMemory bytes doc left old new before now faults more is valid ends usage read wrote calm still = inr refl

-- the same, over the bytes that a source tells
pub valid_ended : (status : Status) (told : Option (List ℕ)) (bytes : List ℕ) (doc : Doc) (left old new : Option (List ℕ)) (before now faults more : ℕ) → told ≡ Some bytes → IsDocument bytes doc → AreValid doc.steps (alone doc.columns)
    → IfSome told (λ b. Ends status b left old new) → (status ≡ Usage → ⊥) → (status ≡ ReadFault → Rose before now) → (status ≡ WriteFault → Rose faults more) → Calm before now → Calm faults more
    → (status ≡ Done) ⊎ (status ≡ ended.OutOfMemory)
valid_ended status None bytes doc left old new before now faults more tells is valid ends usage read wrote calm still = cc
valid_ended status (Some b) bytes doc left old new before now faults more tells is valid ends usage read wrote calm still =
    let same : b ≡ bytes = cc in
    valid_ends status bytes doc left old new before now faults more is valid (subst (λ (x : List ℕ). Ends status x left old new) same ends) usage read wrote calm still
