-- A step that is not refused has faults of values and of lengths alone.
use Rattle.std.proofs.Common.{◌≡◌, ℕ, Bool, true, false, ◌&&◌, List, [], ◌∷◌, ◌++◌, Option, Some, None, Result, Ok, Err, map, refl, sym, ◌∙◌, ap}
use Rattle.std.specs.List.{flat_map, list_any, list_all, filter_map}
use Rattle.std.proofs.lemmas.List.Folds.{list_all-append}
use Rattle.px_column.specs.Option.{each}
use Rattle.px_column.specs.Prelude.{Series}
use Rattle.px_value.proofs.FitLaws.{both, all_append}
use Rattle.px_value.specs.declared.error.PxError.{PxError}
use Rattle.px_value.specs.declared.error.PxError.TheVariants.{ShapeMismatch}
use Rattle.px_frame.specs.Cell.{Cell}
use Rattle.px_frame.specs.External.{Frame, height, scope_of, rows_of_frame}
use Rattle.px_frame.specs.Parts.{parts_of}
use Rattle.px_frame.specs.Spread.{NamedCell, rows_beside, spread, spread_all}
use Rattle.px_laws.proofs.Defined.{scope_of_rows}
use Rattle.px_laws.proofs.Typed.{frame_fits}
use Rattle.px_laws.proofs.ValueFaults.{fails_by_value, spread_fails, columns_fail, value_faults}
use Rattle.px_laws.specs.Faults.{is_value_fault}
use Rattle.px_laws.specs.Fitting.{has_fitting_columns, has_fitting_literals}
use Rattle.px_step_laws.specs.Faults.{step_trees}
use Rattle.px_steps.specs.Plain.{frame_refusals, agg_refusals, key_refusals, no_key_refusal, repeat_refusal, step_refusals, first_of, first_refusal, refused_by, uneven_fault, height_fault, misfit_faults, group_frames, frames_by, step_faults}
use Rattle.px_tree.specs.Grouped.{named_value, key_on}
use Rattle.px_tree.proofs.KindLaws.{none_left, none_right}
use Rattle.px_tree.specs.Step.{PlainStep, select, filter, group}
use Rattle.px_tree.specs.Tree.{Tree}
use Rattle.px_tree.specs.Typing.{refusals_of, refused_where}
use Rattle.px_tree.specs.Value.{value_on, faults_on, has_misfit}
use Rattle.px_tree.specs.declared.context.Context.TheVariants.{Default, Aggregation}

-- each of some faults is one of values, or of how many there are
abbrev Fail : List PxError → Type 0
Fail es = list_all is_value_fault es ≡ true

-- where there is no first refusal, there is none
none_first : (refusals : List PxError) → first_of refusals ≡ None → refusals ≡ []
none_first [] h = refl
none_first (e ∷ es) h = cc

-- what refuses an answer
refused_fails : {A : Type 0} (r : Result A PxError) → fails_by_value r ≡ true → Fail (refused_by r)
refused_fails (Ok a) h = refl
refused_fails (Err e) h = λ i. h i && true

height_fails : (frame : Frame) (c : Option Cell) → Fail (height_fault frame c)
height_fails frame None = refl
height_fails frame (Some c) = refused_fails (spread (height frame) c) (spread_fails (height frame) c)

misfits_fail : (frame : Frame) (es : List Tree) → Fail (misfit_faults frame es)
misfits_fail frame es = by (list_any (λ e. has_misfit e frame) es)
  where
    by : (b : Bool) → Fail (refused_where b ShapeMismatch)
    by true = refl
    by false = refl

-- the faults of each of some expressions, where each of them fails so
each_fails : (refusals faults : Tree → List PxError) (es : List Tree) → ((e : Tree) → has_fitting_literals e ≡ true → refusals e ≡ [] → Fail (faults e))
    → list_all has_fitting_literals es ≡ true → flat_map refusals es ≡ [] → Fail (flat_map faults es)
each_fails refusals faults [] h lits r = refl
each_fails refusals faults (e ∷ es) h lits r =
    let p = both (has_fitting_literals e) (list_all has_fitting_literals es) lits in
    all_append is_value_fault (faults e) (flat_map faults es) (h e p.0 (none_left _ _ r)) (each_fails refusals faults es h p.1 (none_right (refusals e) _ r))

-- those on the frames of some parts
parts_fail : (frame : Frame) (e : Tree) (parts : List (List ℕ)) → has_fitting_columns frame ≡ true → has_fitting_literals e ≡ true → agg_refusals frame e ≡ [] → Fail (flat_map (faults_on e) (map (rows_of_frame frame) parts))
parts_fail frame e [] fit lits r = refl
parts_fail frame e (p ∷ parts) fit lits r =
    let on_part : refusals_of e (scope_of (rows_of_frame frame p)) Aggregation ≡ [] = ap (λ s. refusals_of e s Aggregation) (scope_of_rows frame p) ∙ r in
    all_append is_value_fault (faults_on e (rows_of_frame frame p)) (flat_map (faults_on e) (map (rows_of_frame frame) parts))
    (value_faults e (rows_of_frame frame p) Aggregation (frame_fits frame p fit) lits on_part) (parts_fail frame e parts fit lits r)

groups_fail : (frame : Frame) (by : Option (List Series)) (e : Tree) → has_fitting_columns frame ≡ true → has_fitting_literals e ≡ true → agg_refusals frame e ≡ [] → Fail (flat_map (faults_on e) (group_frames frame by))
groups_fail frame None e fit lits r = refl
groups_fail frame (Some by) e fit lits r = parts_fail frame e (parts_of by (height frame)) fit lits r

-- the faults of a step that is not refused, where columns and literals fit their types
pub step_value_faults : (s : PlainStep) (frame : Frame) → has_fitting_columns frame ≡ true → list_all has_fitting_literals (step_trees s) ≡ true → first_refusal s frame ≡ None → list_all is_value_fault (step_faults s frame) ≡ true
step_value_faults (select es) frame fit lits h =
    let r : flat_map (frame_refusals frame) es ≡ [] = none_left _ _ (none_first (step_refusals (select es) frame) h) in
    let cells = filter_map (named_value frame) es in
    let faults = flat_map (λ e. faults_on e frame) es in
    all_append is_value_fault (faults ++ uneven_fault cells) (misfit_faults frame es)
    (all_append is_value_fault faults (uneven_fault cells)
    (each_fails (frame_refusals frame) (λ e. faults_on e frame) es (λ e l g. value_faults e frame Default fit l g) lits r)
    (refused_fails (spread_all (rows_beside (map (λ (c : NamedCell). c.cell) cells)) cells) (columns_fail _ cells)))
    (misfits_fail frame es)
step_value_faults (filter e) frame fit lits h =
    let r : frame_refusals frame e ≡ [] = none_left _ _ (none_first (step_refusals (filter e) frame) h) in
    let l = (both (has_fitting_literals e) true lits).0 in
    all_append is_value_fault (faults_on e frame ++ height_fault frame (value_on e frame)) (misfit_faults frame (e ∷ []))
    (all_append is_value_fault (faults_on e frame) (height_fault frame (value_on e frame)) (value_faults e frame Default fit l r) (height_fails frame (value_on e frame)))
    (misfits_fail frame (e ∷ []))
step_value_faults (group keys aggs chunks) frame fit lits h =
    let none = none_first (step_refusals (group keys aggs chunks) frame) h in
    let K = no_key_refusal keys ++ flat_map (key_refusals frame) keys in
    let both_kinds : K ++ flat_map (agg_refusals frame) aggs ≡ [] = none_left _ _ (none_left (K ++ flat_map (agg_refusals frame) aggs ++ repeat_refusal (keys ++ aggs)) _ none) in
    let of_keys : flat_map (key_refusals frame) keys ≡ [] = none_right (no_key_refusal keys) _ (none_left K _ both_kinds) in
    let of_aggs : flat_map (agg_refusals frame) aggs ≡ [] = none_right K _ both_kinds in
    let l = both (list_all has_fitting_literals keys) (list_all has_fitting_literals aggs) (sym (list_all-append has_fitting_literals keys aggs) ∙ lits) in
    let on_keys = flat_map (λ e. faults_on e frame) keys in
    let heights = flat_map (λ e. height_fault frame (value_on e frame)) keys in
    let on_groups = flat_map (λ e. flat_map (faults_on e) (frames_by frame keys)) aggs in
    all_append is_value_fault (on_keys ++ heights ++ on_groups) (misfit_faults frame (keys ++ aggs))
    (all_append is_value_fault (on_keys ++ heights) on_groups
    (all_append is_value_fault on_keys heights
    (each_fails (key_refusals frame) (λ e. faults_on e frame) keys (λ e t g. value_faults e frame Default fit t (none_left _ _ g)) l.0 of_keys)
    (each_fails (key_refusals frame) (λ e. height_fault frame (value_on e frame)) keys (λ e t g. height_fails frame (value_on e frame)) l.0 of_keys))
    (each_fails (agg_refusals frame) (λ e. flat_map (faults_on e) (frames_by frame keys)) aggs (λ e t g. groups_fail frame (each (key_on frame) keys) e fit t g) l.1 of_aggs))
    (misfits_fail frame (keys ++ aggs))
