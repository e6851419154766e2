-- What is written for a document.
use Rattle.std.proofs.Common.{◌≡◌, ◌≤◌, ℕ, ◌+◌, true, List, Some, ◌∙◌, ap, subst}
use Rattle.std.specs.List.{list_all}
use Rattle.std.specs.Prelude.{IfOk, OnOk, Result, Ok, Err}
use Rattle.px_column.specs.Prelude.{Series}
use Rattle.px_value.specs.declared.error.PxError.{PxError}
use Rattle.px_value.specs.declared.error.PxError.TheVariants.{OutOfMemory}
use Rattle.px_frame.specs.External.{alone}
use Rattle.px_frame.specs.Frame.{height_of}
use Rattle.px_tree.specs.Chunks.{is_unchunked}
use Rattle.px_steps.specs.Causes.{AreRun, IsCauseIn}
use Rattle.px_document.specs.Document.{Doc}
use Rattle.px_text.specs.Label.{line_of}
use Rattle.px_answers.specs.Counted.{RisesAtMost}
use Rattle.px_steps.specs.Plain.{groupings_of, kernels_of, most_kernels_of, plain_on}
use Rattle.px_document.specs.DocumentText.{IsDocument}
use Rattle.px_steps.specs.Reply.{IsResult, IsRefusal}
use Rattle.px_text.specs.Text.{text_of}

-- the steps of a document have no chunks
pub document_unchunked : (bytes : List ℕ) (doc : Doc) → IsDocument bytes doc → list_all is_unchunked doc.steps ≡ true
document_unchunked bytes doc is = is.says.readable

-- bytes say at most one document
pub one_document : (bytes : List ℕ) (doc other : Doc) → IsDocument bytes doc → IsDocument bytes other → doc ≡ other
one_document bytes doc other is also = let a = is.says.says in let b = also.says.says in cc

pub is_result : (bytes text : List ℕ) (doc : Doc) (made : List Series) → IsDocument bytes doc → AreRun doc.steps (alone doc.columns) (alone made) → plain_on doc.steps (alone doc.columns) ≡ Some (alone made) → text ≡ text_of made (height_of made) → IsResult bytes text
is_result bytes text doc made is run plain written = record { doc = doc; document = is; made = made; run = run; plain = plain; written = written }

pub is_refusal : (bytes text : List ℕ) (doc : Doc) (e : PxError) → IsDocument bytes doc → IsCauseIn e doc.steps (alone doc.columns) → (e ≡ OutOfMemory → ⊥) → text ≡ line_of e → IsRefusal bytes text
is_refusal bytes text doc e is cause told written = record { doc = doc; document = is; fault = e; cause = cause; told = told; written = written }

-- the groupings of one reading are those of each
pub grouped_by : (bytes : List ℕ) (doc : Doc) (old new : ℕ) → IsDocument bytes doc → new ≡ old + groupings_of doc.steps → (other : Doc) → IsDocument bytes other → new ≡ old + groupings_of other.steps
grouped_by bytes doc old new is h other also = let same = one_document bytes doc other is also in h ∙ ap (λ (d : Doc). old + groupings_of d.steps) same

-- and so are its kernels
pub ticked_by : (bytes : List ℕ) (doc : Doc) (old new : ℕ) → IsDocument bytes doc → old + kernels_of doc.steps ≤ new → (other : Doc) → IsDocument bytes other → old + kernels_of other.steps ≤ new
ticked_by bytes doc old new is h other also = subst (λ (d : Doc). old + kernels_of d.steps ≤ new) (one_document bytes doc other is also) h

pub bounded_by : (bytes : List ℕ) (doc : Doc) (old new : ℕ) → IsDocument bytes doc → RisesAtMost (most_kernels_of doc.steps (alone doc.columns)) old new → (other : Doc) → IsDocument bytes other → RisesAtMost (most_kernels_of other.steps (alone other.columns)) old new
bounded_by bytes doc old new is h other also = subst (λ (d : Doc). RisesAtMost (most_kernels_of d.steps (alone d.columns)) old new) (one_document bytes doc other is also) h

-- what holds on Ok beside what holds of the value
pub with_cause : {A E : Type 0} (r : Result A E) (P Q : A → Type 0) (C : Type 0) → IfOk r P → OnOk r C → ((a : A) → P a → C → Q a) → IfOk r Q
with_cause (Ok a) P Q C p h f = f a p h
with_cause (Err e) P Q C p h f = tt
