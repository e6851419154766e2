-- A filter step's mask, and what the step answers.
use Rattle.std.proofs.Common.{◌≡◌, ◌⊎◌, inl, inr, ◌<◌, ◌^◌, ◌==◌, Bool, true, false, not, List, [], ◌∷◌, ◌++◌, Option, Some, None, Result, Ok, Err, length, map, refl, sym, ◌∙◌, ap, subst, arith, option_map, option_and_then, if◌then◌else◌}
use Rattle.std.specs.Prelude.{IfOk}
use Rattle.std.specs.Result.{result_ok}
use Rattle.std.proofs.lemmas.Bool.Decides.{nat_tests}
use Rattle.px_column.specs.Prelude.{Answers, Slot, Kind, Series}
use Rattle.px_column.specs.Operator.{is_boolean_kind}
use Rattle.px_value.specs.declared.error.PxError.{PxError}
use Rattle.px_value.specs.declared.error.PxError.TheVariants.{OutOfMemory, SchemaMismatch, ShapeMismatch}
use Rattle.px_frame.specs.External.{Frame, height, scope_of}
use Rattle.px_frame.specs.Frame.{height_of, kept_frame, kept_series}
use Rattle.px_frame.specs.Spread.{NamedCell, spread, spread_column, with_slots}
use Rattle.px_tree.specs.Size.{size_on}
use Rattle.px_tree.specs.Step.{filter}
use Rattle.px_tree.specs.Tree.{Tree}
use Rattle.px_tree.specs.Typing.{Scope, fails, kind_in, refusals_of, refused_where}
use Rattle.px_tree.specs.Value.{faults_on, value_on}
use Rattle.px_tree.specs.declared.context.Context.TheVariants.{Default}
use Rattle.px_answers.specs.Value.{IsOneOf}
use Rattle.px_steps.specs.Causes.{IsStepCause, StepAnswers}
use Rattle.px_steps.specs.Finds.{Lacks, key_faults, mask_refusals, misfit_fault}
use Rattle.px_steps.specs.Meets.{IsFirst}
use Rattle.px_steps.specs.Plain.{columns_made, first_of, first_refusal, height_fault, misfit_faults, step_on, with_columns}
use Rattle.px_tree.specs.Grouped.{key_on, named_value}
use Rattle.px_tree.proofs.KindLaws.{none_left as nil_left, none_right as nil_right}
use Rattle.px_steps.proofs.Columns.{and_then_some}
use Rattle.px_steps.proofs.GroupStep.{spread_made}
use Rattle.px_value.proofs.Refusing.{no_refusal}
use Rattle.px_steps.proofs.Grouping.{value_there}
use Rattle.px_steps.proofs.Selected.{refusal_cause}
use Rattle.px_steps.proofs.Misfits.{misfit_first, no_misfits, one_apart, one_left, one_right}

-- a mask whose type is not refused has truths
has_truths : (k : Kind) (o : Option Kind) → o ≡ Some k → refused_where (fails is_boolean_kind o) SchemaMismatch ≡ [] → is_boolean_kind k ≡ true
has_truths k None e h = cc
has_truths k (Some j) e h = let same : j ≡ k = cc in ap is_boolean_kind (sym same) ∙ by (is_boolean_kind j) h
  where
    by : (b : Bool) → refused_where (not b) SchemaMismatch ≡ [] → b ≡ true
    by true h = refl
    by false h = cc

-- the places of a value that is brought to a height
slots_made : (c : NamedCell) (q : Result (List Slot) PxError) (s : Series) → result_ok (with_slots c q) ≡ Some s → result_ok q ≡ Some s.slots
slots_made c (Ok xs) s h = let same : record { name = c.name; kind = c.kind; slots = xs } ≡ s = cc in ap (λ (x : Series). Some x.slots) same
slots_made c (Err e) s h = cc

-- a mask of truths that has the frame's height keeps rows
keeps : (cs : List Series) (mask : Series) → is_boolean_kind mask.kind ≡ true → length mask.slots ≡ height_of cs → kept_frame cs mask ≡ Ok (map (kept_series mask.slots) cs)
keeps cs mask k h =
    let high : (length mask.slots == height_of cs) ≡ true = grind (arith, nat_tests) in
    let rows : Result (List Series) PxError = Ok (map (kept_series mask.slots) cs) in
    ap (λ (b : Bool). if b then (if length mask.slots == height_of cs then rows else Err ShapeMismatch) else Err SchemaMismatch) k ∙ ap (λ (b : Bool). if b then rows else Err ShapeMismatch) high

-- the first refusal of a mask is the step's
pub mask_cause : (e : PxError) (t : Tree) (frame : Frame) (scope : Scope) → scope ≡ scope_of frame → IsFirst e (mask_refusals scope t) → (e ≡ OutOfMemory) ⊎ IsStepCause e (filter t) frame
mask_cause e t frame scope is h = refusal_cause e (filter t) frame (subst (λ (s : Scope). IsFirst e (mask_refusals s t)) is h)

-- over the frame's names and types a mask is not refused
pub mask_accepted : (t : Tree) (frame : Frame) (scope : Scope) → scope ≡ scope_of frame → mask_refusals scope t ≡ [] → mask_refusals (scope_of frame) t ≡ []
mask_accepted t frame scope is n = ap (λ (s : Scope). mask_refusals s t) (sym is) ∙ n

module _ (t : Tree) (frame : Frame) (none : mask_refusals (scope_of frame) t ≡ []) where
  pub mask_typed : refusals_of t (scope_of frame) Default ≡ []
  mask_typed = nil_left (refusals_of t (scope_of frame) Default) _ none

  accepted : first_refusal (filter t) frame ≡ None
  accepted = ap first_of none

  -- the faults of the mask's value
  abbrev value_faults : List PxError
  value_faults = faults_on t frame ++ height_fault frame (value_on t frame)

  -- why a mask that is not refused has no value of the frame's height
  pub lacks_cause : (e : PxError) → Lacks e (key_faults frame t) (size_on t (frame ∷ [])) → (e ≡ OutOfMemory) ⊎ IsStepCause e (filter t) frame
  lacks_cause e (inl m) = inl m
  lacks_cause e (inr (inl o)) = told (one_apart e value_faults (misfit_fault frame t) o)
    where
      told : IsOneOf e value_faults ⊎ IsOneOf e (misfit_fault frame t) → (e ≡ OutOfMemory) ⊎ IsStepCause e (filter t) frame
      told (inl v) = inr (inr (accepted, inl (one_left e value_faults (misfit_faults frame (t ∷ [])) v)))
      told (inr m) = inr (inr (accepted, inl (one_right e value_faults (misfit_faults frame (t ∷ [])) (misfit_first frame e t [] m))))
  lacks_cause e (inr (inr l)) = inr (inr (accepted, inr (l.0, omega (arith, l.1))))

  module _ (mask : Series) (found : key_on frame t ≡ Some mask) where
    -- the cell that was brought to the frame's height
    cell : (c : NamedCell) × (named_value frame t ≡ Some c) × (result_ok (spread_column (height frame) c) ≡ Some mask)
    cell = and_then_some (named_value frame t) (λ c. result_ok (spread_column (height frame) c)) mask found

    made : step_on (filter t) frame ≡ Some (with_columns frame (map (kept_series mask.slots) frame.columns))
    made =
        let whole : columns_made (filter t) frame ≡ Some (map (kept_series mask.slots) frame.columns)
        = ap (λ o. option_and_then (λ x. option_and_then (λ xs. Some (map (kept_series xs) frame.columns)) (result_ok (spread (height frame) x))) o) (value_there frame t cell.0 cell.1).0
        ∙ ap (λ o. option_and_then (λ xs. Some (map (kept_series xs) frame.columns)) o) (slots_made cell.0 (spread (height frame) cell.0.cell) mask cell.2) in
        ap (λ o. option_map (with_columns frame) o) whole

    keeps_rows : kept_frame frame.columns mask ≡ Ok (map (kept_series mask.slots) frame.columns)
    keeps_rows =
        let brought = spread_made (height frame) cell.0 mask cell.2 in
        let kind = (value_there frame t cell.0 cell.1).1 in
        keeps frame.columns mask (ap is_boolean_kind brought.1 ∙ has_truths cell.0.kind (kind_in t (scope_of frame)) kind (nil_right (refusals_of t (scope_of frame) Default) _ none)) brought.2

    -- the frame of the rows that are kept
    pub rows_kept : (r : Result (List Series) PxError) → key_faults frame t ≡ [] → Answers r (kept_frame frame.columns mask) → IfOk r (λ f. height_of f < 2 ^ 32) → StepAnswers r (filter t) frame
    rows_kept (Ok f) sound a short =
        let same : map (kept_series mask.slots) frame.columns ≡ f = cc (keeps_rows, a) in
        let values : value_faults ≡ [] = nil_left value_faults (misfit_fault frame t) sound in
        let fits : misfit_fault frame t ≡ [] = nil_right value_faults (misfit_fault frame t) sound in
        record {
          accepted = accepted;
          sound = λ i. values i ++ no_misfits frame (t ∷ []) (λ j. fits j ++ []) i;
          made = made ∙ ap (λ (x : List Series). Some (with_columns frame x)) same;
          short = short;
        }
    rows_kept (Err e) sound a short = inl (no_refusal e (kept_frame frame.columns mask) _ keeps_rows a)
