-- The document that a `Document` stands for.
use Rattle.std.specs.Prelude.{map}
use Rattle.px_document.specs.Document.{Doc}
use Rattle.px_tree.specs.Step.{step_view}
use Rattle.px_document.specs.declared.document.Document.{Document}

abbrev pub document_view : Document → Doc
document_view d = record { columns = d.frame; steps = map step_view d.steps.items }
