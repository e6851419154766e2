-- A group step that is run is one without chunks.
use Rattle.std.proofs.Common.{◌≡◌, true, false, List, Option, Some, None, Result, refl, sym, ◌∙◌, ap, subst}
use Rattle.std.specs.Prelude.{OnOk, ℕ}
use Rattle.px_frame.specs.External.{Frame}
use Rattle.px_answers.specs.Counted.{RisesAtMost}
use Rattle.px_steps.specs.Plain.{most_kernels_in}
use Rattle.px_column.specs.Prelude.{Series}
use Rattle.px_value.specs.declared.error.PxError.{PxError}
use Rattle.px_tree.specs.Chunks.{is_unchunked}
use Rattle.px_tree.specs.Step.{PlainStep, group}
use Rattle.px_tree.specs.Tree.{Tree}
use Rattle.px_steps.specs.Causes.{StepAnswers}

-- such a step has no chunks
no_chunks : (step : PlainStep) (keys aggs : List Tree) (chunks : Option (List ℕ)) → step ≡ group keys aggs chunks → is_unchunked step ≡ true → chunks ≡ None
no_chunks step keys aggs None e b = refl
no_chunks step keys aggs (Some ns) e b = let no : false ≡ true = sym (ap is_unchunked e) ∙ b in cc

-- what it answers
pub group_run : (step : PlainStep) (keys aggs : List Tree) (chunks : Option (List ℕ)) (frame : Frame) (r : Result (List Series) PxError) → step ≡ group keys aggs chunks → is_unchunked step ≡ true
    → StepAnswers r (group keys aggs None) frame → StepAnswers r step frame
group_run step keys aggs chunks frame r e b h =
    let none = no_chunks step keys aggs chunks e b in
    subst (λ (s : PlainStep). StepAnswers r s frame) (ap (group keys aggs) (sym none) ∙ sym e) h

-- and how many kernels it runs at most
pub group_most : (step : PlainStep) (keys aggs : List Tree) (chunks : Option (List ℕ)) (F : Frame) (old new : ℕ) (r : Result (List Series) PxError) → step ≡ group keys aggs chunks → is_unchunked step ≡ true
    → OnOk r (RisesAtMost (most_kernels_in (group keys aggs None) F) old new) → OnOk r (RisesAtMost (most_kernels_in step F) old new)
group_most step keys aggs chunks F old new r e b h =
    let none = no_chunks step keys aggs chunks e b in
    subst (λ (s : PlainStep). OnOk r (RisesAtMost (most_kernels_in s F) old new)) (ap (group keys aggs) (sym none) ∙ sym e) h
