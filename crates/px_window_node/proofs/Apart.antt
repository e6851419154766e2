-- What a window has of its keys, of what orders its rows, and of its function.
use Rattle.std.proofs.Common.{◌≡◌, ◌⊎◌, inl, inr, ℕ, ◌^◌, ◌≤◌, Bool, true, false, ◌||◌, List, [], ◌∷◌, ◌++◌, append_assoc, Option, Some, None, option_map, Result, Ok, Err, refl, sym, ◌∙◌, ap, subst, arith}
use Rattle.std.specs.List.{flat_map, list_any}
use Rattle.std.proofs.lemmas.Grind.{flat_map-append}
use Rattle.std.proofs.lemmas.List.Folds.{list_any-append}
use Rattle.px_value.specs.declared.error.PxError.{PxError}
use Rattle.px_value.specs.declared.error.PxError.TheVariants.{ShapeMismatch}
use Rattle.px_value.specs.declared.sort_options.SortOptions.{SortOptions}
use Rattle.px_frame.specs.Cell.{Cell}
use Rattle.px_frame.specs.External.{Frame, rows_of_frame, scope_of}
use Rattle.px_tree.proofs.KindLaws.{none_left, none_right}
use Rattle.px_tree.specs.Shape.{is_unit}
use Rattle.px_tree.specs.Size.{order_size_on, size_on, sizes_on}
use Rattle.px_tree.specs.Tree.{Tree}
use Rattle.px_tree.specs.Typing.{Scope, all_refusals_of, kind_in, or_first, order_refusals_of, own_refusals, refusals_of, refused_where}
use Rattle.px_tree.specs.Value.{all_faults_on, fault_in, faults_on, made, order_faults_on, outcome_on, parts_on, value_on, window_frames}
use Rattle.px_tree.specs.declared.context.Context.{Context}
use Rattle.px_tree.specs.declared.context.Context.TheVariants.{Aggregation, Default}
use Rattle.px_answers.proofs.Inputs.{IsIn, all_faults_apart, all_none, all_refusals_apart, any_in, both_up, cause_of, first_up, in_all, no_misfit, one_apart, one_left, one_right, one_split, parts_of, where_up}
use Rattle.px_answers.proofs.InputLists.{any_cause_of}
use Rattle.px_answers.specs.Parts.{PlannedWindow, order_columns, plan_columns, plan_order, plan_trees, under, window_plan}
use Rattle.px_answers.specs.Planned.{Planned}
use Rattle.px_answers.specs.Value.{IsCause, IsCauseOfAny, IsOneOf, causes_on, finds_misfit, has_misfit_column, unfound_refusal}
use Rattle.px_group_answers.specs.OnGroups.{group_refusals}

-- an expression under another name has what it has under its own
under_refusals : (name : Option (List ℕ)) (e : Tree) (scope : Scope) (place : Context) → refusals_of (under name e) scope place ≡ refusals_of e scope place
under_refusals None e scope place = refl
under_refusals (Some n) e scope place = refl

pub under_kind : (name : Option (List ℕ)) (e : Tree) (scope : Scope) → kind_in (under name e) scope ≡ kind_in e scope
under_kind None e scope = refl
under_kind (Some n) e scope = refl

pub under_unit : (name : Option (List ℕ)) (e : Tree) → is_unit (under name e) ≡ is_unit e
under_unit None e = refl
under_unit (Some n) e = refl

pub under_faults : (name : Option (List ℕ)) (e : Tree) (frame : Frame) → faults_on (under name e) frame ≡ faults_on e frame
under_faults None e frame = refl
under_faults (Some n) e frame = refl

made_again : (o : Option (Result Cell PxError)) → made (option_map Ok (made o)) ≡ made o
made_again None = refl
made_again (Some (Ok c)) = refl
made_again (Some (Err e)) = refl

pub under_value : (name : Option (List ℕ)) (e : Tree) (frame : Frame) → value_on (under name e) frame ≡ value_on e frame
under_value None e frame = refl
under_value (Some n) e frame = made_again (outcome_on e frame)

under_size : (name : Option (List ℕ)) (e : Tree) (fs : List Frame) → size_on e fs ≤ size_on (under name e) fs
under_size None e fs = omega arith
under_size (Some n) e fs = omega arith

-- what rows are ordered by, as inputs
abbrev pub order_plans : Option (Planned × SortOptions) → List Planned
order_plans None = []
order_plans (Some o) = o.0 ∷ []

-- the inputs of a window that are evaluated on the frame
abbrev pub inputs : PlannedWindow → List Planned
inputs w = w.group_by ++ order_plans w.order_by

order_refusals_apart : (o : Option (Planned × SortOptions)) (scope : Scope) → order_refusals_of (plan_order o) scope Default ≡ flat_map (λ (p : Planned). refusals_of p.tree scope Default) (order_plans o)
order_refusals_apart None scope = refl
order_refusals_apart (Some o) scope = one_apart (refusals_of o.0.tree scope Default)

order_faults_apart : (o : Option (Planned × SortOptions)) (frame : Frame) → order_faults_on (plan_order o) frame ≡ flat_map (λ (p : Planned). faults_on p.tree frame) (order_plans o)
order_faults_apart None frame = refl
order_faults_apart (Some o) frame = one_apart (faults_on o.0.tree frame)

order_columns_apart : (o : Option (Planned × SortOptions)) → order_columns o ≡ flat_map (λ (p : Planned). p.columns) (order_plans o)
order_columns_apart None = refl
order_columns_apart (Some o) = one_apart o.0.columns

-- what lists have apart, they have together
apart : {A B : Type 0} (u : A → List B) (v : Planned → List A) (ps : List Planned) → flat_map u (flat_map v ps) ≡ flat_map (λ (p : Planned). flat_map u (v p)) ps
apart u v [] = refl
apart u v (p ∷ ps) = flat_map-append u (v p) (flat_map v ps) ∙ ap (λ es. flat_map u (v p) ++ es) (apart u v ps)

or_right : (a b : Bool) → b ≡ true → (a || b) ≡ true
or_right true b h = refl
or_right false b h = h

not_where : (b : Bool) (s : PxError) → refused_where b s ≡ [] → b ≡ false
not_where true s h = absurd (cc h)
not_where false s h = refl

module _ (w : PlannedWindow) (frame : Frame) where
  abbrev tree : Tree
  tree = (window_plan w).tree

  abbrev scope : Scope
  scope = scope_of frame

  abbrev typed : Planned → List PxError
  typed p = refusals_of p.tree (scope_of frame) Default

  abbrev unfound : Planned → List PxError
  unfound p = flat_map (unfound_refusal frame) p.columns

  abbrev misfits : Planned → List PxError
  misfits p = refused_where (has_misfit_column p frame) ShapeMismatch

  abbrev faulty : Planned → List PxError
  faulty p = faults_on p.tree frame

  abbrev own : List PxError
  own = own_refusals tree scope Default

  abbrev on_parts : List PxError
  on_parts = refusals_of w.phys_function.tree scope Aggregation

  pub refusals_apart : refusals_of (window_plan w).tree (scope_of frame) Default ≡ or_first (refusals_of w.phys_function.tree (scope_of frame) Aggregation ++ flat_map typed (inputs w)) (own_refusals (window_plan w).tree (scope_of frame) Default)
  refusals_apart = ap (λ rs. or_first rs own) lists
    where
      lists : refusals_of (under w.out_name w.phys_function.tree) scope Aggregation ++ all_refusals_of (plan_trees w.group_by) scope Default ++ order_refusals_of (plan_order w.order_by) scope Default ≡ on_parts ++ flat_map typed (inputs w)
      lists =
          (λ i. under_refusals w.out_name w.phys_function.tree scope Aggregation i ++ all_refusals_apart scope Default w.group_by i ++ order_refusals_apart w.order_by scope i)
          ∙ append_assoc on_parts (flat_map typed w.group_by) (flat_map typed (order_plans w.order_by))
          ∙ ap (λ rs. on_parts ++ rs) (sym (flat_map-append typed w.group_by (order_plans w.order_by)))

  -- the column nodes of the inputs
  columns_apart : (window_plan w).columns ≡ w.phys_function.columns ++ flat_map (λ (p : Planned). p.columns) (inputs w)
  columns_apart =
      ap (λ cs. w.phys_function.columns ++ cs)
      (ap (λ cs. plan_columns w.group_by ++ cs) (order_columns_apart w.order_by) ∙ sym (flat_map-append (λ (p : Planned). p.columns) w.group_by (order_plans w.order_by)))

  unfound_apart : flat_map (unfound_refusal frame) (window_plan w).columns ≡ unfound w.phys_function ++ flat_map unfound (inputs w)
  unfound_apart =
      ap (flat_map (unfound_refusal frame)) columns_apart ∙ flat_map-append (unfound_refusal frame) w.phys_function.columns (flat_map (λ (p : Planned). p.columns) (inputs w))
      ∙ ap (λ es. unfound w.phys_function ++ es) (apart (unfound_refusal frame) (λ (p : Planned). p.columns) (inputs w))

  misfits_apart : has_misfit_column (window_plan w) frame ≡ (has_misfit_column w.phys_function frame || list_any (finds_misfit frame) (flat_map (λ (p : Planned). p.columns) (inputs w)))
  misfits_apart = ap (list_any (finds_misfit frame)) columns_apart ∙ list_any-append (finds_misfit frame) w.phys_function.columns (flat_map (λ (p : Planned). p.columns) (inputs w))

  -- the faults of the function on the frame of each part
  abbrev pub part_faults : List PxError
  part_faults = flat_map (λ p. faults_on (under w.out_name w.phys_function.tree) (rows_of_frame frame p)) (parts_on (plan_trees w.group_by) (plan_order w.order_by) frame)

  pub faults_apart : faults_on (window_plan w).tree frame ≡ flat_map faulty (inputs w) ++ part_faults ++ fault_in (outcome_on (window_plan w).tree frame)
  faults_apart = ap (λ es. es ++ part_faults ++ fault_in (outcome_on tree frame)) lists
    where
      lists : all_faults_on (plan_trees w.group_by) frame ++ order_faults_on (plan_order w.order_by) frame ≡ flat_map faulty (inputs w)
      lists = (λ i. all_faults_apart frame w.group_by i ++ order_faults_apart w.order_by frame i) ∙ sym (flat_map-append faulty w.group_by (order_plans w.order_by))

  -- a column of another height that an input finds, or the function, the window finds
  misfit_of_input : (p : Planned) → IsIn p (inputs w) → has_misfit_column p frame ≡ true → has_misfit_column (window_plan w) frame ≡ true
  misfit_of_input p i h =
      misfits_apart ∙ or_right (has_misfit_column w.phys_function frame) (list_any (finds_misfit frame) (flat_map (λ (x : Planned). x.columns) (inputs w))) (any_in (finds_misfit frame) p (inputs w) i h)

  misfit_of_function : has_misfit_column w.phys_function frame ≡ true → has_misfit_column (window_plan w) frame ≡ true
  misfit_of_function h = misfits_apart ∙ ap (λ b. b || list_any (finds_misfit frame) (flat_map (λ (p : Planned). p.columns) (inputs w))) h

  no_misfits : misfits w.phys_function ≡ [] → flat_map misfits (inputs w) ≡ [] → misfits (window_plan w) ≡ []
  no_misfits h k =
      let function = not_where (has_misfit_column w.phys_function frame) ShapeMismatch h in
      let rest = no_misfit (finds_misfit frame) ShapeMismatch (inputs w) k in
      ap (λ b. refused_where b ShapeMismatch) (misfits_apart ∙ (λ i. function i || rest i))

  -- a fault is a cause
  pub fault_up : (e : PxError) → IsOneOf e (faults_on (window_plan w).tree frame) → IsOneOf e (causes_on (window_plan w) frame)
  fault_up e h = one_right e (typed (window_plan w) ++ unfound (window_plan w) ++ misfits (window_plan w)) (faults_on tree frame) h

  -- so is a refusal
  pub refusal_up : (e : PxError) → IsOneOf e (refusals_of (window_plan w).tree (scope_of frame) Default) → IsOneOf e (causes_on (window_plan w) frame)
  refusal_up e h =
      one_left e (typed (window_plan w) ++ unfound (window_plan w) ++ misfits (window_plan w)) (faults_on tree frame)
      (one_left e (typed (window_plan w) ++ unfound (window_plan w)) (misfits (window_plan w)) (one_left e (typed (window_plan w)) (unfound (window_plan w)) h))

  -- what is told of an input is told of the window
  input_up : (e : PxError) (p : Planned) → IsIn p (inputs w) → IsOneOf e (causes_on p frame) → IsOneOf e (causes_on (window_plan w) frame)
  input_up e p i h =
      both_up e (typed p ++ unfound p ++ misfits p) (faulty p) (typed (window_plan w) ++ unfound (window_plan w) ++ misfits (window_plan w)) (faulty (window_plan w))
      (both_up e (typed p ++ unfound p) (misfits p) (typed (window_plan w) ++ unfound (window_plan w)) (misfits (window_plan w)) (both_up e (typed p) (unfound p) (typed (window_plan w)) (unfound (window_plan w)) types columns) heights) faults h
    where
      types : IsOneOf e (typed p) → IsOneOf e (typed (window_plan w))
      types k = subst (IsOneOf e) (sym refusals_apart) (first_up e (on_parts ++ flat_map typed (inputs w)) own (one_right e on_parts (flat_map typed (inputs w)) (in_all e typed p (inputs w) i k)))

      columns : IsOneOf e (unfound p) → IsOneOf e (unfound (window_plan w))
      columns k = subst (IsOneOf e) (sym unfound_apart) (one_right e (unfound w.phys_function) (flat_map unfound (inputs w)) (in_all e unfound p (inputs w) i k))

      heights : IsOneOf e (misfits p) → IsOneOf e (misfits (window_plan w))
      heights k = where_up e ShapeMismatch (has_misfit_column p frame) (has_misfit_column (window_plan w) frame) (misfit_of_input p i) k

      faults : IsOneOf e (faulty p) → IsOneOf e (faulty (window_plan w))
      faults k = subst (IsOneOf e) (sym faults_apart) (one_left e (flat_map faulty (inputs w) ++ part_faults) (fault_in (outcome_on tree frame)) (one_left e (flat_map faulty (inputs w)) part_faults (in_all e faulty p (inputs w) i k)))

  -- and so is what the function is refused for
  pub function_up : (e : PxError) → IsOneOf e (group_refusals w.phys_function frame) → IsOneOf e (causes_on (window_plan w) frame)
  function_up e h =
      one_left e (typed (window_plan w) ++ unfound (window_plan w) ++ misfits (window_plan w)) (faulty (window_plan w))
      (both_up e (on_parts ++ unfound w.phys_function) (misfits w.phys_function) (typed (window_plan w) ++ unfound (window_plan w)) (misfits (window_plan w)) (both_up e on_parts (unfound w.phys_function) (typed (window_plan w)) (unfound (window_plan w)) types columns) heights h)
    where
      types : IsOneOf e on_parts → IsOneOf e (typed (window_plan w))
      types k = subst (IsOneOf e) (sym refusals_apart) (first_up e (on_parts ++ flat_map typed (inputs w)) own (one_left e on_parts (flat_map typed (inputs w)) k))

      columns : IsOneOf e (unfound w.phys_function) → IsOneOf e (unfound (window_plan w))
      columns k = subst (IsOneOf e) (sym unfound_apart) (one_left e (unfound w.phys_function) (flat_map unfound (inputs w)) k)

      heights : IsOneOf e (misfits w.phys_function) → IsOneOf e (misfits (window_plan w))
      heights k = where_up e ShapeMismatch (has_misfit_column w.phys_function frame) (has_misfit_column (window_plan w) frame) misfit_of_function k

  -- a fault of the function on a part's frame, and the window's own
  pub part_fault_up : (e : PxError) → IsOneOf e part_faults → IsOneOf e (causes_on (window_plan w) frame)
  part_fault_up e h =
      fault_up e (subst (IsOneOf e) (sym faults_apart) (one_left e (flat_map faulty (inputs w) ++ part_faults) (fault_in (outcome_on tree frame)) (one_right e (flat_map faulty (inputs w)) part_faults h)))

  pub own_fault_up : (e : PxError) → outcome_on (window_plan w).tree frame ≡ Some (Err e) → IsOneOf e (causes_on (window_plan w) frame)
  own_fault_up e h =
      fault_up e (subst (IsOneOf e) (sym faults_apart) (one_right e (flat_map faulty (inputs w) ++ part_faults) (fault_in (outcome_on tree frame)) (subst (λ o. IsOneOf e (fault_in o)) (sym h) (inl refl))))

  -- nothing is a cause where nothing is one of its inputs, its function is not refused, and it has no refusal and no fault of its own
  pub sound_above : flat_map (λ (p : Planned). causes_on p frame) (inputs w) ≡ [] → group_refusals w.phys_function frame ≡ [] → or_first [] (own_refusals (window_plan w).tree (scope_of frame) Default) ≡ []
      → part_faults ≡ [] → fault_in (outcome_on (window_plan w).tree frame) ≡ [] → causes_on (window_plan w) frame ≡ []
  sound_above h k none faults fault = rw (types, columns, heights, all_faults) refl
    where
      each : (g : Planned → List PxError) → ((p : Planned) → causes_on p frame ≡ [] → g p ≡ []) → flat_map g (inputs w) ≡ []
      each g told = all_none (λ (p : Planned). causes_on p frame) g (inputs w) told h

      types : typed (window_plan w) ≡ []
      types =
          let function : on_parts ≡ [] = none_left on_parts (unfound w.phys_function) (none_left (on_parts ++ unfound w.phys_function) (misfits w.phys_function) k) in
          let rest = each typed (λ p e. (parts_of p frame e).0) in
          refusals_apart ∙ (λ i. or_first (function i ++ rest i) own) ∙ none

      columns : unfound (window_plan w) ≡ []
      columns =
          let function : unfound w.phys_function ≡ [] = none_right on_parts (unfound w.phys_function) (none_left (on_parts ++ unfound w.phys_function) (misfits w.phys_function) k) in
          let rest = each unfound (λ p e. (parts_of p frame e).1) in
          unfound_apart ∙ (λ i. function i ++ rest i)

      heights : misfits (window_plan w) ≡ []
      heights =
          no_misfits (none_right (on_parts ++ unfound w.phys_function) (misfits w.phys_function) k)
          (each misfits (λ p e. (parts_of p frame e).2))

      all_faults : faults_on (window_plan w).tree frame ≡ []
      all_faults =
          let rest = each faulty (λ p e. (parts_of p frame e).3) in
          faults_apart ∙ (λ i. rest i ++ faults i ++ fault i)

-- a part of two lists is one of the first or of the second
pub in_front : (p : Planned) (ps qs : List Planned) → IsIn p ps → IsIn p (ps ++ qs)
in_front p [] qs i = absurd i
in_front p (x ∷ ps) qs (inl s) = inl s
in_front p (x ∷ ps) qs (inr i) = inr (in_front p ps qs i)

pub in_behind : (p : Planned) (ps qs : List Planned) → IsIn p qs → IsIn p (ps ++ qs)
in_behind p [] qs i = i
in_behind p (x ∷ ps) qs i = inr (in_behind p ps qs i)

-- what is one of several is one of a single one of them
one_of_all : (e : PxError) (g : Planned → List PxError) (ps : List Planned) (goal : Type 0) → ((p : Planned) → IsIn p ps → IsOneOf e (g p) → goal) → IsOneOf e (flat_map g ps) → goal
one_of_all e g [] goal w h = absurd h
one_of_all e g (p ∷ ps) goal w h = by (one_of_all e g ps goal (λ q i. w q (inr i))) (one_split e (g p) (flat_map g ps) h)
  where
    by : (IsOneOf e (flat_map g ps) → goal) → IsOneOf e (g p) ⊎ IsOneOf e (flat_map g ps) → goal
    by rest (inl k) = w p (inl refl) k
    by rest (inr k) = rest k

-- a cause of a key is the window's
pub window_key_cause : (e : PxError) (w : PlannedWindow) (frame : Frame) → IsCauseOfAny e w.group_by frame → IsCause e (window_plan w) frame
window_key_cause e w frame h =
    any_cause_of e w.group_by (window_plan w) frame (λ (b : 2 ^ 32 ≤ sizes_on (plan_trees w.group_by) (frame ∷ [])). omega (arith, b))
    (one_of_all e (λ (p : Planned). causes_on p frame) w.group_by (IsOneOf e (causes_on (window_plan w) frame)) (λ p i. input_up w frame e p (in_front p w.group_by (order_plans w.order_by) i))) h

-- a cause of what orders the rows is the window's
pub window_order_cause : (e : PxError) (w : PlannedWindow) (frame : Frame) (o : Planned × SortOptions) → w.order_by ≡ Some o → IsCause e o.0 frame → IsCause e (window_plan w) frame
window_order_cause e w frame o s h =
    cause_of e o.0 (window_plan w) frame (λ (b : 2 ^ 32 ≤ size_on o.0.tree (frame ∷ [])). omega (arith, b, ap (λ x. order_size_on (plan_order x) (frame ∷ [])) s))
    (input_up w frame e o.0 (in_behind o.0 w.group_by (order_plans w.order_by) (subst (λ (x : Option (Planned × SortOptions)). IsIn o.0 (order_plans x)) (sym s) (inl refl)))) h

-- values of the function on the parts' frames count as the window's
pub function_size : (w : PlannedWindow) (frame : Frame) → size_on w.phys_function.tree (window_frames (plan_trees w.group_by) (plan_order w.order_by) frame) ≤ size_on (window_plan w).tree (frame ∷ [])
function_size w frame =
    let one : flat_map (window_frames (plan_trees w.group_by) (plan_order w.order_by)) (frame ∷ []) ≡ window_frames (plan_trees w.group_by) (plan_order w.order_by) frame = sym (one_apart (window_frames (plan_trees w.group_by) (plan_order w.order_by) frame)) in
    let named = under_size w.out_name w.phys_function.tree (window_frames (plan_trees w.group_by) (plan_order w.order_by) frame) in
    omega (arith, named, ap (size_on (under w.out_name w.phys_function.tree)) one)
