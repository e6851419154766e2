-- How often kernels run at least and at most: of some expressions one after another, of a group step, and of steps.
use Rattle.std.proofs.Common.{◌≡◌, ℕ, ◌+◌, ◌≤◌, Bool, true, false, cond, List, ◌∷◌, Option, Some, None, Result, Ok, Err, length, option_and_then, option_map, refl, sym, ◌∙◌, ap, subst, arith}
use Rattle.std.specs.Prelude.{OnOk}
use Rattle.std.specs.List.{sum_by}
use Rattle.std.proofs.lemmas.List.{length-map}
use Rattle.px_column.specs.Option.{each}
use Rattle.px_column.specs.Prelude.{Series}
use Rattle.px_answers.specs.Counted.{RisesAtMost, RunAtMost, RunExactly, costs_on, flat_kernels}
use Rattle.px_group_answers.specs.Counted.{RunOnGroups}
use Rattle.px_frame.specs.External.{Frame, height, rows_of_frame}
use Rattle.px_frame.specs.Parts.{parts_of}
use Rattle.px_tree.specs.Cost.{is_flat, ticks_of, windows_in}
use Rattle.px_tree.specs.Step.{PlainStep, group}
use Rattle.px_tree.specs.Tree.{Tree}
use Rattle.px_steps.specs.Plain.{frames_by, group_costs, group_frames, groupings_in, kernels_in, most_kernels_in, most_kernels_of, step_on}
use Rattle.px_tree.specs.Grouped.{key_on}

-- a flat aggregation runs its kernels
pub least_on_groups : (t : Tree) (n old new : ℕ) → RunExactly t old new → RunOnGroups t n old new → old + flat_kernels t ≤ new
least_on_groups t n old new exact most = by (is_flat t) refl
  where
    by : (b : Bool) → is_flat t ≡ b → old + cond b (ticks_of t) 0 ≤ new
    by true h = let same = exact h in omega (arith, same)
    by false h = omega (arith, most.rises)

-- and so does a flat expression on a frame
pub least_on_frame : (t : Tree) (f : Frame) (old new : ℕ) → RunExactly t old new → RunAtMost t f old new → old + flat_kernels t ≤ new
least_on_frame t f old new exact most = by (is_flat t) refl
  where
    by : (b : Bool) → is_flat t ≡ b → old + cond b (ticks_of t) 0 ≤ new
    by true h = let same = exact h in omega (arith, same)
    by false h = omega (arith, most.rises)

-- what holds on Ok, from what holds there
pub on_ok_so : {X E P Q : Type 0} (r : Result X E) → OnOk r P → (P → Q) → OnOk r Q
on_ok_so (Ok x) h f = f h
on_ok_so (Err e) h f = tt

-- the kernels of keys and then of aggregations
pub least_both : (keys aggs ks ns : List Tree) → ks ≡ keys → ns ≡ aggs → (old mid new : ℕ) → old + sum_by flat_kernels ks ≤ mid → mid + sum_by flat_kernels ns ≤ new → old + kernels_in (group keys aggs None) ≤ new
least_both keys aggs ks ns k n old mid new a b =
    let first = ap (sum_by flat_kernels) k in
    let second = ap (sum_by flat_kernels) n in
    omega (arith, a, b, first, second)

-- the groupings of keys, and then of the groups
pub grouped_both : (keys aggs ks : List Tree) → ks ≡ keys → (old mid new : ℕ) → mid ≡ old + sum_by windows_in ks → new ≡ mid + 1 → new ≡ old + groupings_in (group keys aggs None)
grouped_both keys aggs ks k old mid new a b = let first = ap (sum_by windows_in) k in omega (arith, a, b, first)

pub within_both : (keys aggs ks : List Tree) → ks ≡ keys → (old mid new : ℕ) → mid ≤ old + sum_by windows_in ks → new ≡ mid + 1 → new ≤ old + groupings_in (group keys aggs None)
within_both keys aggs ks k old mid new a b = let first = ap (sum_by windows_in) k in omega (arith, a, b, first)

pub within_first : (keys aggs ks : List Tree) → ks ≡ keys → (old mid : ℕ) → mid ≤ old + sum_by windows_in ks → mid ≤ old + groupings_in (group keys aggs None)
within_first keys aggs ks k old mid a = let first = ap (sum_by windows_in) k in omega (arith, a, first)

pub most_both : (F : Frame) (keys aggs ks ns : List Tree) → ks ≡ keys → ns ≡ aggs → (by : List Series) → each (key_on F) keys ≡ Some by → (old mid new : ℕ) → RisesAtMost (costs_on ks F) old mid
    → new ≤ mid + group_costs ns (length (parts_of by (height F))) → RisesAtMost (most_kernels_in (group keys aggs None) F) old new
most_both F keys aggs ks ns k n by made old mid new a b = within (costs_on keys F) (subst (λ (ts : List Tree). RisesAtMost (costs_on ts F) old mid) k a)
  where
    many : length (frames_by F keys) ≡ length (parts_of by (height F))
    many = ap (λ o. length (group_frames F o)) made ∙ length-map (parts_of by (height F)) (rows_of_frame F)

    same : group_costs aggs (length (frames_by F keys)) ≡ group_costs ns (length (parts_of by (height F)))
    same = ap (group_costs aggs) many ∙ ap (λ (ts : List Tree). group_costs ts (length (parts_of by (height F)))) (sym n)

    within : (o : Option ℕ) → RisesAtMost o old mid → RisesAtMost (option_map (λ m. m + group_costs aggs (length (frames_by F keys))) o) old new
    within None h = tt
    within (Some m) h = omega (arith, h, b, same)

-- steps after a first one
pub steps_more : (s : PlainStep) (steps : List PlainStep) (F next : Frame) (old mid new : ℕ) → step_on s F ≡ Some next → RisesAtMost (most_kernels_in s F) old mid → RisesAtMost (most_kernels_of steps next) mid new → RisesAtMost (most_kernels_of (s ∷ steps) F) old new
steps_more s steps F next old mid new made a b = by (most_kernels_in s F) (step_on s F) made a
  where
    rest : (n : ℕ) (o : Option ℕ) → mid ≤ old + n → RisesAtMost o mid new → RisesAtMost (option_and_then (λ m. Some (n + m)) o) old new
    rest n None h k = tt
    rest n (Some m) h k = omega (arith, h, k)

    by : (o : Option ℕ) (f : Option Frame) → f ≡ Some next → RisesAtMost o old mid → RisesAtMost (option_and_then (λ n. option_and_then (λ g. option_and_then (λ m. Some (n + m)) (most_kernels_of steps g)) f) o) old new
    by None f e h = tt
    by (Some n) None e h = tt
    by (Some n) (Some g) e h =
        let same : g ≡ next = cc in
        rest n (most_kernels_of steps g) h (subst (λ (x : Frame). RisesAtMost (most_kernels_of steps x) mid new) (sym same) b)
