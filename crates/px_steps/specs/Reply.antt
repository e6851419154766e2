-- What is written for an input.
use Rattle.std.specs.Prelude.{◌≡◌, ◌≢◌, ℕ, List, Some}
use Rattle.px_column.specs.Prelude.{Series}
use Rattle.px_value.specs.declared.error.PxError.{PxError}
use Rattle.px_value.specs.declared.error.PxError.TheVariants.{OutOfMemory}
use Rattle.px_frame.specs.Frame.{height_of}
use Rattle.px_document.specs.Document.{Doc}
use Rattle.px_document.specs.DocumentText.{IsDocument}
use Rattle.px_text.specs.Label.{line_of, bad_document_line}
use Rattle.px_frame.specs.External.{alone}
use Rattle.px_steps.specs.Causes.{AreRun, IsCauseIn}
use Rattle.px_steps.specs.Plain.{plain_on}
use Rattle.px_text.specs.Text.{text_of}

-- the steps are run one after another, and the text is that of the frame which they make
pub record IsResult (bytes text : List ℕ) : Type 0 where
  pub doc : Doc
  pub document : IsDocument bytes doc
  pub made : List Series
  pub run : AreRun doc.steps (alone doc.columns) (alone made)
  pub plain : plain_on doc.steps (alone doc.columns) ≡ Some (alone made)
  pub written : text ≡ text_of made (height_of made)

-- a step is refused or has a fault, and the text is the line of that cause, which is not want of memory
pub record IsRefusal (bytes text : List ℕ) : Type 0 where
  pub doc : Doc
  pub document : IsDocument bytes doc
  pub fault : PxError
  pub cause : IsCauseIn fault doc.steps (alone doc.columns)
  pub told : fault ≢ OutOfMemory
  pub written : text ≡ line_of fault

-- the bytes say no document, and the text is the line that tells so
pub record IsNoDocument (bytes text : List ℕ) : Type 0 where
  pub none : (doc : Doc) → IsDocument bytes doc → ⊥
  pub written : text ≡ bad_document_line
