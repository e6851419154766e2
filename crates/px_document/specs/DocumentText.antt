-- The document that some bytes say.
use Rattle.std.specs.Prelude.{◌≡◌, ℕ, ◌^◌, ◌<◌, true, List, length, Some, option_and_then, IsUtf8}
use Rattle.serde_json.specs.Read.{read}
use Rattle.px_frame.specs.Frame.{IsFrame}
use Rattle.px_document.specs.Document.{Doc}
use Rattle.px_document.specs.Readable.{is_readable_document}
use Rattle.px_document.specs.StepForm.{any_document_of}

-- the bytes are JSON in UTF-8 that says this document, there are fewer than 2^26 of them, and each step is one that is read
pub record IsDocumentText (bytes : List ℕ) (doc : Doc) : Type 0 where
  pub short : length bytes < 2 ^ 26
  pub utf8 : IsUtf8 bytes
  pub says : option_and_then any_document_of (read bytes) ≡ Some doc
  pub readable : is_readable_document doc ≡ true

-- the bytes say this document, and its columns are a frame: distinct names, one length
pub record IsDocument (bytes : List ℕ) (doc : Doc) : Type 0 where
  pub says : IsDocumentText bytes doc
  pub frame : IsFrame doc.columns
