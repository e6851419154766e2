use Rattle.std.proofs.Common.{◌≡◌, inl, inr, Some, None, codes, refl, lit<}
use Rattle.std.specs.Int.{int_wrap}
use Rattle.px_value.specs.declared.error.PxError.TheVariants.{ColumnNotFound}
use Rattle.px_frame.specs.External.{alone}
use Rattle.px_document.specs.Document.{Doc}
use Rattle.px_document.specs.OnLiterals.{px_document_on_literals}
use Rattle.px_vectors.specs.Worked.{four_grouped}
use Rattle.px_vectors.specs.WorkedDocument.{four_rows_doc, document_text}
use Rattle.px_vectors.proofs.worked.worked_documents.Goals as goal

pub returns-clause-result : goal.returns-clause-result
unfolding px_document_on_literals int_wrap
returns-clause-result c = record {
  doc = four_rows_doc (codes "x");
  document = record { says = record { short = lit< tt; utf8 = (document_text (codes "x"), (refl, refl)); says = refl; readable = refl }; frame = record { distinct = refl; even = refl } };
  made = four_grouped;
  run = (alone four_grouped, (record { accepted = refl; sound = refl; made = refl; short = lit< tt }, refl));
  plain = refl;
  written = refl;
}

pub returns-clause-refusal : goal.returns-clause-refusal
unfolding px_document_on_literals
returns-clause-refusal c = record {
  doc = four_rows_doc (codes "y");
  document = record { says = record { short = lit< tt; utf8 = (document_text (codes "y"), (refl, refl)); says = refl; readable = refl }; frame = record { distinct = refl; even = refl } };
  fault = ColumnNotFound (codes "y");
  cause = inr (inl (inl refl));
  told = λ e. cc;
  written = refl;
}

nothing : (doc : Doc) → None ≡ Some doc → ⊥
nothing doc h = cc

pub returns-clause-no_document : goal.returns-clause-no_document
unfolding px_document_on_literals
returns-clause-no_document c = record { none = λ doc is. nothing doc is.says.says; written = refl }
