-- One more step run.
use Rattle.std.proofs.Common.{◌≡◌, inl, inr, ℕ, ◌+◌, ◌<◌, ◌≤◌, true, List, [], ◌∷◌, Some, None, Result, Ok, Err, length, drop, take, ◌-◌, map, get_or, option_and_then, sym, ◌∙◌, ap, subst, arith, refl}
use Rattle.std.specs.List.{list_all}
use Rattle.std.specs.Prelude.{IfOk, IfErr}
use Rattle.std.proofs.lemmas.List.{at_drop_all, at_drop_more, take_all}
use Rattle.std.proofs.lemmas.List.Sums.{sum_by-cons}
use Rattle.px_column.specs.Prelude.{Series}
use Rattle.px_value.specs.declared.error.PxError.{PxError}
use Rattle.px_value.specs.declared.error.PxError.TheVariants.{OutOfMemory}
use Rattle.px_answers.specs.Value.{IsOneOf}
use Rattle.px_frame.specs.External.{Frame}
use Rattle.px_tree.specs.Chunks.{is_unchunked}
use Rattle.px_steps.specs.Causes.{AreRun, IsCauseIn, StandsIn, StepAnswers, StepsAnswer}
use Rattle.px_answers.specs.Counted.{RisesAtMost}
use Rattle.px_steps.specs.Plain.{AreValid, groupings_in, groupings_of, kernels_in, kernels_of, most_kernels_in, most_kernels_of, plain_on, step_on, with_columns}
use Rattle.px_tree.specs.Step.{PlainStep, step_view}
use Rattle.px_tree.specs.declared.step.Step.{Step}
use Rattle.px_value.proofs.FitLaws.{both}
use Rattle.px_steps.proofs.Kernels.{steps_more}

-- a step before others that answer
pub answer_first : (s : PlainStep) (steps : List PlainStep) (frame : Frame) (next : List Series) (r : Result (List Series) PxError) → StepAnswers (Ok next) s frame → StepsAnswer r steps (with_columns frame next) → StepsAnswer r (s ∷ steps) frame
answer_first s steps frame next (Ok f) one rest = (with_columns frame next, (one, rest))
answer_first s steps frame next (Err e) one (inl m) = inl m
answer_first s steps frame next (Err e) one (inr c) = inr (inr (with_columns frame next, (one, c)))

-- the first step has no answer
pub cause_first : (s : PlainStep) (steps : List PlainStep) (frame : Frame) (e : PxError) → StepAnswers (Err e) s frame → IsCauseIn e (s ∷ steps) frame
cause_first s steps frame e (inl m) = inl m
cause_first s steps frame e (inr c) = inr (inl c)

module _ (steps : List Step) (i : ℕ) (k : Step) (below : i < length steps) (is : k ≡ get_or steps i k) where
  at : {Y : Type 0} (f : List PlainStep → Y) → f (map step_view (drop i steps)) ≡ f (step_view k ∷ map step_view (drop (i + 1) steps))
  at f = at_drop_more (λ ss. f (map step_view ss)) steps i k below ∙ ap (λ s. f (step_view s ∷ map step_view (drop (i + 1) steps))) (sym is)

  pub unchunked_next : list_all is_unchunked (map step_view (drop i steps)) ≡ true → list_all is_unchunked (map step_view (drop (i + 1) steps)) ≡ true
  unchunked_next h = (both (is_unchunked (step_view k)) (list_all is_unchunked (map step_view (drop (i + 1) steps))) (sym (at (list_all is_unchunked)) ∙ h)).1

  pub unchunked_here : list_all is_unchunked (map step_view (drop i steps)) ≡ true → is_unchunked (step_view k) ≡ true
  unchunked_here h = (both (is_unchunked (step_view k)) (list_all is_unchunked (map step_view (drop (i + 1) steps))) (sym (at (list_all is_unchunked)) ∙ h)).0

  pub grouped_next : (before after all : ℕ) → before + groupings_of (map step_view (drop i steps)) ≡ all → after ≡ before + groupings_in (step_view k) → after + groupings_of (map step_view (drop (i + 1) steps)) ≡ all
  grouped_next before after all h e = omega (arith, at groupings_of, sum_by-cons groupings_in (step_view k) (map step_view (drop (i + 1) steps)))

  pub within_next : (before after all : ℕ) → before + groupings_of (map step_view (drop i steps)) ≡ all → after ≤ before + groupings_in (step_view k) → after ≤ all
  within_next before after all h e = omega (arith, h, e, at groupings_of, sum_by-cons groupings_in (step_view k) (map step_view (drop (i + 1) steps)))

  pub ticks_next : (before after all : ℕ) → all ≤ before + kernels_of (map step_view (drop i steps)) → before + kernels_in (step_view k) ≤ after → all ≤ after + kernels_of (map step_view (drop (i + 1) steps))
  ticks_next before after all h e = omega (arith, h, e, at kernels_of, sum_by-cons kernels_in (step_view k) (map step_view (drop (i + 1) steps)))

  pub most_after : (F next : Frame) (whole : ℕ → Type 0) (old mid : ℕ) → ((new : ℕ) → RisesAtMost (most_kernels_of (map step_view (drop i steps)) F) old new → whole new) → step_on (step_view k) F ≡ Some next
      → RisesAtMost (most_kernels_in (step_view k) F) old mid → (new : ℕ) → RisesAtMost (most_kernels_of (map step_view (drop (i + 1) steps)) next) mid new → whole new
  most_after F next whole old mid h made one new rest =
      h new (subst (λ o. RisesAtMost o old new) (sym (at (λ ss. most_kernels_of ss F))) (steps_more (step_view k) (map step_view (drop (i + 1) steps)) F next old mid new made one rest))

  pub answer_next : (frame : Frame) (next : List Series) (all : List PlainStep) (initial : Frame) → ((r : Result (List Series) PxError) → StepsAnswer r (map step_view (drop i steps)) frame → StepsAnswer r all initial)
      → StepAnswers (Ok next) (step_view k) frame → (r : Result (List Series) PxError) → StepsAnswer r (map step_view (drop (i + 1) steps)) (with_columns frame next) → StepsAnswer r all initial
  answer_next frame next all initial h one r rest =
      h r (subst (λ (ss : List PlainStep). StepsAnswer r ss frame) (sym (at (λ ss. ss))) (answer_first (step_view k) (map step_view (drop (i + 1) steps)) frame next r one rest))

  pub cause_here : (frame : Frame) (e : PxError) → StepAnswers (Err e) (step_view k) frame → IsCauseIn e (map step_view (drop i steps)) frame
  cause_here frame e h = subst (λ (ss : List PlainStep). IsCauseIn e ss frame) (sym (at (λ ss. ss))) (cause_first (step_view k) (map step_view (drop (i + 1) steps)) frame e h)

-- no step is left
pub answer_end : (steps : List Step) (i : ℕ) (frame : Frame) → length steps ≤ i → StepsAnswer (Ok frame.columns) (map step_view (drop i steps)) frame
answer_end steps i frame h = subst (λ (ss : List PlainStep). StepsAnswer (Ok frame.columns) ss frame) (sym (at_drop_all (λ ss. map step_view ss) steps i h)) refl

pub most_end : (steps : List Step) (i : ℕ) → length steps ≤ i → (F : Frame) (whole : ℕ → Type 0) (now : ℕ) → ((new : ℕ) → RisesAtMost (most_kernels_of (map step_view (drop i steps)) F) now new → whole new) → whole now
most_end steps i end F whole now h = h now (subst (λ o. RisesAtMost o now now) (sym (at_drop_all (λ ss. most_kernels_of (map step_view ss) F) steps i end)) (omega arith))

-- the kernels of the first of some steps, and then of the others
pub most_whole : (steps : List Step) (k : Step) (F next : Frame) (old mid new : ℕ) → 1 ≤ length steps → k ≡ get_or steps 0 k → step_on (step_view k) F ≡ Some next → RisesAtMost (most_kernels_in (step_view k) F) old mid
    → RisesAtMost (most_kernels_of (map step_view (take (length steps - 1) (drop 1 steps))) next) mid new → RisesAtMost (most_kernels_of (map step_view steps) F) old new
most_whole [] k F next old mid new some is made one rest = absurd (omega arith)
most_whole (s ∷ steps) k F next old mid new some is made one rest =
    let others : take (length (s ∷ steps) - 1) (drop 1 (s ∷ steps)) ≡ steps = take_all (length (s ∷ steps) - 1) steps (omega arith) in
    subst (λ (x : Step). RisesAtMost (most_kernels_of (step_view x ∷ map step_view steps) F) old new) is
    (steps_more (step_view k) (map step_view steps) F next old mid new made one (subst (λ (ss : List Step). RisesAtMost (most_kernels_of (map step_view ss) next) mid new) others rest))

-- the first of some steps, before the others
pub answer_whole : (steps : List Step) (k : Step) (frame : Frame) (next : List Series) (r : Result (List Series) PxError) → 1 ≤ length steps → k ≡ get_or steps 0 k → StepAnswers (Ok next) (step_view k) frame
    → StepsAnswer r (map step_view (take (length steps - 1) (drop 1 steps))) (with_columns frame next) → StepsAnswer r (map step_view steps) frame
answer_whole [] k frame next r some is one rest = absurd (omega arith)
answer_whole (s ∷ steps) k frame next r some is one rest =
    let others : take (length (s ∷ steps) - 1) (drop 1 (s ∷ steps)) ≡ steps = take_all (length (s ∷ steps) - 1) steps (omega arith) in
    answer_first (step_view s) (map step_view steps) frame next r (subst (λ (x : Step). StepAnswers (Ok next) (step_view x) frame) is one) (subst (λ (ss : List Step). StepsAnswer r (map step_view ss) (with_columns frame next)) others rest)

-- where steps are valid, no cause stands
pub none_stands : (steps : List PlainStep) (frame : Frame) (e : PxError) → AreValid steps frame → StandsIn e steps frame → ⊥
none_stands [] frame e v h = h
none_stands (s ∷ steps) frame e v (inl (inl f)) = let no : None ≡ Some e = sym v.0.accepted ∙ f in cc
none_stands (s ∷ steps) frame e v (inl (inr (a, inl o))) = subst (IsOneOf e) v.0.sound o
none_stands (s ∷ steps) frame e v (inl (inr (a, inr t))) = omega (arith, v.0.short, t.1)
none_stands (s ∷ steps) frame e v (inr h) = none_stands steps h.0 e (v.1 h.0 h.1.0.made) h.1.1

-- steps that are run make their plain frame
pub run_plain : (steps : List PlainStep) (frame last : Frame) → AreRun steps frame last → plain_on steps frame ≡ Some last
run_plain [] frame last h = ap Some h
run_plain (s ∷ steps) frame last h = ap (λ o. option_and_then (plain_on steps) o) h.1.0.made ∙ run_plain steps h.0 last h.1.1

pub plain_told : (r : Result (List Series) PxError) (steps : List PlainStep) (frame : Frame) → StepsAnswer r steps frame → IfOk r (λ f. plain_on steps frame ≡ Some (with_columns frame f))
plain_told (Ok f) steps frame h = run_plain steps frame (with_columns frame f) h
plain_told (Err e) steps frame h = tt

pub run_told : (r : Result (List Series) PxError) (steps : List PlainStep) (frame : Frame) → StepsAnswer r steps frame → IfOk r (λ f. AreRun steps frame (with_columns frame f))
run_told (Ok f) steps frame h = h
run_told (Err e) steps frame h = tt

pub causes_told : (r : Result (List Series) PxError) (steps : List PlainStep) (frame : Frame) → StepsAnswer r steps frame → IfErr r (λ e. IsCauseIn e steps frame)
causes_told (Ok f) steps frame h = tt
causes_told (Err e) steps frame h = h

pub complete_told : (r : Result (List Series) PxError) (steps : List PlainStep) (frame : Frame) → StepsAnswer r steps frame → AreValid steps frame → IfErr r (λ e. e ≡ OutOfMemory)
complete_told (Ok f) steps frame h v = tt
complete_told (Err e) steps frame (inl m) v = m
complete_told (Err e) steps frame (inr c) v = absurd (none_stands steps frame e v c)
