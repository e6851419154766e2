-- What a reply tells of its input.
use Rattle.std.specs.Prelude.{◌≡◌, ◌≤◌, ℕ, ◌+◌, List}
use Rattle.px_text.specs.Label.{bad_document_line}
use Rattle.px_document.specs.Document.{Doc}
use Rattle.px_frame.specs.External.{alone}
use Rattle.px_answers.specs.Counted.{RisesAtMost}
use Rattle.px_steps.specs.Plain.{groupings_of, kernels_of, most_kernels_of}
use Rattle.px_document.specs.DocumentText.{IsDocument}
use Rattle.px_steps.specs.Reply.{IsResult, IsRefusal, IsNoDocument}
use Rattle.px_steps.specs.declared.reply.Reply.{Reply}
use Rattle.px_steps.specs.declared.reply.Reply.TheVariants.{Frame, Refusal, BadDocument}

-- the reply's text is of its kind for these bytes
abbrev pub Replies : List ℕ → Reply → Type 0
Replies bytes (Frame text) = IsResult bytes text
Replies bytes (Refusal text) = IsRefusal bytes text
Replies bytes BadDocument = IsNoDocument bytes bad_document_line

-- a frame was made by one grouping for each window and each group step of the document
abbrev pub Grouped : List ℕ → Reply → ℕ → ℕ → Type 0
Grouped bytes (Frame text) old new = (doc : Doc) → IsDocument bytes doc → new ≡ old + groupings_of doc.steps
Grouped bytes (Refusal text) old new = Unit {0}
Grouped bytes BadDocument old new = Unit {0}

-- a frame was made by at least the kernels that the document's steps run
abbrev pub Ticked : List ℕ → Reply → ℕ → ℕ → Type 0
Ticked bytes (Frame text) old new = (doc : Doc) → IsDocument bytes doc → old + kernels_of doc.steps ≤ new
Ticked bytes (Refusal text) old new = Unit {0}
Ticked bytes BadDocument old new = Unit {0}

-- and by at most the kernels that these run, where there is such a bound
abbrev pub Bounded : List ℕ → Reply → ℕ → ℕ → Type 0
Bounded bytes (Frame text) old new = (doc : Doc) → IsDocument bytes doc → RisesAtMost (most_kernels_of doc.steps (alone doc.columns)) old new
Bounded bytes (Refusal text) old new = Unit {0}
Bounded bytes BadDocument old new = Unit {0}
