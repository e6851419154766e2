-- Some steps as the first one and the others, and no step.
use Rattle.std.proofs.Common.{◌≡◌, inl, ℕ, ◌+◌, ◌-◌, ◌≤◌, true, List, [], ◌∷◌, Result, Ok, Err, length, drop, take, take_all, map, get_or, refl, sym, ◌∙◌, ap, subst, arith}
use Rattle.std.specs.List.{list_all, sum_by}
use Rattle.std.proofs.lemmas.List.Sums.{sum_by-cons}
use Rattle.px_column.specs.Prelude.{Answers, Series}
use Rattle.px_value.specs.declared.error.PxError.{PxError}
use Rattle.px_value.proofs.FitLaws.{both}
use Rattle.px_value.proofs.Refusing.{no_refusal}
use Rattle.px_answers.specs.Counted.{RisesAtMost}
use Rattle.px_frame.specs.External.{Frame}
use Rattle.px_tree.specs.Chunks.{is_unchunked}
use Rattle.px_tree.specs.Step.{PlainStep, step_view}
use Rattle.px_tree.specs.declared.step.Step.{Step}
use Rattle.px_steps.specs.Causes.{IsCauseIn, StepAnswers, StepsAnswer}
use Rattle.px_steps.specs.Plain.{most_kernels_of, with_columns}
use Rattle.px_steps.proofs.Held.{ok_same}
use Rattle.px_steps.proofs.StepLoop.{cause_first}

-- no step answers the frame itself
pub answer_none : (steps : List Step) (frame : Frame) (r : Result (List Series) PxError) → length steps ≡ 0 → Answers r (Ok frame.columns) → StepsAnswer r (map step_view steps) frame
answer_none [] frame (Ok f) none a = ap (λ (cs : List Series). with_columns frame cs) (sym (ok_same _ _ a))
answer_none [] frame (Err e) none a = inl (no_refusal {Y = List Series} e (Ok frame.columns) frame.columns refl a)
answer_none (s ∷ steps) frame r none a = absurd (omega (arith, none))

-- and counts nothing
pub none_counted : (f : PlainStep → ℕ) (steps : List Step) (old : ℕ) → length steps ≡ 0 → old ≡ old + sum_by f (map step_view steps)
none_counted f [] old none = omega arith
none_counted f (s ∷ steps) old none = absurd (omega (arith, none))

pub most_none : (steps : List Step) (frame : Frame) (old : ℕ) → length steps ≡ 0 → RisesAtMost (most_kernels_of (map step_view steps) frame) old old
most_none [] frame old none = omega arith
most_none (s ∷ steps) frame old none = absurd (omega (arith, none))

-- the steps after the first one
abbrev pub rest_of : List Step → List Step
rest_of steps = take (length steps - 1) (drop 1 steps)

-- some steps, of which k is the first
module _ (steps : List Step) (k : Step) (some : 1 ≤ length steps) (is : k ≡ get_or steps 0 k) where
  split : steps ≡ k ∷ rest_of steps
  split = by steps some is
    where
      by : (ss : List Step) → 1 ≤ length ss → k ≡ get_or ss 0 k → ss ≡ k ∷ rest_of ss
      by [] h e = absurd (omega (arith, h))
      by (s ∷ ss) h e =
          let rest : rest_of (s ∷ ss) ≡ ss = take_all (length (s ∷ ss) - 1) ss (omega arith) in
          ap (λ (x : Step). x ∷ ss) (sym e) ∙ ap (λ (xs : List Step). k ∷ xs) (sym rest)

  at : {Y : Type 0} (f : List PlainStep → Y) → f (map step_view steps) ≡ f (step_view k ∷ map step_view (rest_of steps))
  at f = ap (λ (ss : List Step). f (map step_view ss)) split

  whole : (f : PlainStep → ℕ) → sum_by f (map step_view steps) ≡ f (step_view k) + sum_by f (map step_view (rest_of steps))
  whole f = at (sum_by f) ∙ sum_by-cons f (step_view k) (map step_view (rest_of steps))

  pub unchunked_both : list_all is_unchunked (map step_view steps) ≡ true → (is_unchunked (step_view k) ≡ true) × (list_all is_unchunked (map step_view (rest_of steps)) ≡ true)
  unchunked_both h = both (is_unchunked (step_view k)) (list_all is_unchunked (map step_view (rest_of steps))) (sym (at (list_all is_unchunked)) ∙ h)

  pub cause_whole : (frame : Frame) (e : PxError) → StepAnswers (Err e) (step_view k) frame → IsCauseIn e (map step_view steps) frame
  cause_whole frame e h =
      subst (λ (ss : List PlainStep). IsCauseIn e ss frame) (sym (at (λ ss. ss))) (cause_first (step_view k) (map step_view (rest_of steps)) frame e h)

  pub count_first : (f : PlainStep → ℕ) (old mid : ℕ) → mid ≤ old + f (step_view k) → mid ≤ old + sum_by f (map step_view steps)
  count_first f old mid a = omega (arith, a, whole f)

  pub count_whole : (f : PlainStep → ℕ) (old mid new : ℕ) → mid ≡ old + f (step_view k) → new ≡ mid + sum_by f (map step_view (rest_of steps)) → new ≡ old + sum_by f (map step_view steps)
  count_whole f old mid new a b = omega (arith, a, b, whole f)

  pub within_whole : (f : PlainStep → ℕ) (old mid new : ℕ) → mid ≤ old + f (step_view k) → new ≤ mid + sum_by f (map step_view (rest_of steps)) → new ≤ old + sum_by f (map step_view steps)
  within_whole f old mid new a b = omega (arith, a, b, whole f)

  pub least_whole : (f : PlainStep → ℕ) (old mid new : ℕ) → old + f (step_view k) ≤ mid → mid + sum_by f (map step_view (rest_of steps)) ≤ new → old + sum_by f (map step_view steps) ≤ new
  least_whole f old mid new a b = omega (arith, a, b, whole f)
