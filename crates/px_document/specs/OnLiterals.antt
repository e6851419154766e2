-- Computing what a text says.
use Rattle.std.specs.Prelude.{⊤}
use Rattle.serde_json.proofs.OnLiterals.{serde_json_on_literals}
use Rattle.px_document.specs.ExprForm.{expr_form, expr_of, row_form, whole_form}
use Rattle.px_document.specs.StepForm.{any_step_of}

-- what an answer unfolds to compute what a literal text says as a document
unfoldable pub px_document_on_literals : ⊤
unfolding serde_json_on_literals expr_form row_form whole_form expr_of any_step_of
px_document_on_literals = tt
