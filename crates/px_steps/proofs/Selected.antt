-- What is known of planned expressions that are not refused: their types, their columns, and why they have no value.
use Rattle.std.proofs.Common.{◌≡◌, ◌⊎◌, ◌<◌, ◌≤◌, ◌^◌, inl, inr, ℕ, ◌+◌, Bool, List, [], ◌∷◌, ◌++◌, Option, Some, None, Result, Ok, Err, option_map, option_and_then, map, arith, max, refl, sym, ◌∙◌, ap, subst}
use Rattle.std.specs.Prelude.{IfOk}
use Rattle.std.specs.List.{filter_map, flat_map, sum_by}
use Rattle.std.proofs.lemmas.List.Sums.{sum_by-cons}
use Rattle.std.specs.Option.{option_map_or}
use Rattle.std.specs.Result.{result_ok}
use Rattle.px_value.proofs.Refusing.{no_refusal, refuses_or}
use Rattle.px_column.specs.Prelude.{Answers, AnswersBy, Kind, Series}
use Rattle.px_column.specs.Option.{each}
use Rattle.px_column.specs.Result.{◌>>=◌}
use Rattle.px_value.specs.declared.error.PxError.{PxError}
use Rattle.px_value.specs.declared.error.PxError.TheVariants.{Duplicate, ComputeError, ShapeMismatch, OutOfMemory}
use Rattle.px_value.specs.declared.error.ComputeWhy.TheVariants.{TooLong}
use Rattle.px_expr.specs.Plan.{plan_in, planned_over}
use Rattle.px_answers.specs.Planned.{Planned}
use Rattle.px_answers.specs.Counted.{flat_kernels}
use Rattle.px_answers.specs.Parts.{plan_trees}
use Rattle.px_answers.specs.Value.{AreCellsOf, IsCause, IsCauseOfAny, IsCellOf, IsOneOf, causes_on, has_misfit_column, unfound_refusal}
use Rattle.px_frame.specs.External.{Frame, scope_of}
use Rattle.px_frame.specs.Cell.{Cell}
use Rattle.px_frame.specs.Frame.{first_repeat, height_of, unless_repeated}
use Rattle.px_frame.specs.Spread.{NamedCell, assembled, rows_beside, spread_all}
use Rattle.px_tree.specs.Cost.{all_windows_in, windows_in}
use Rattle.px_tree.specs.Shape.{name_of}
use Rattle.px_tree.specs.Size.{size_on, sizes_on}
use Rattle.px_tree.specs.Tree.{Tree}
use Rattle.px_tree.specs.Typing.{Scope, kind_in, refusals_of, refused_where, first_or_kind}
use Rattle.px_tree.specs.Value.{faults_on, value_on, named}
use Rattle.px_tree.specs.declared.context.Context.{Context}
use Rattle.px_tree.specs.declared.context.Context.TheVariants.{Default}
use Rattle.px_steps.specs.Meets.{MeetsBy, IsFirst}
use Rattle.px_steps.specs.Finds.{Lacks, misfit_fault}
use Rattle.px_steps.specs.Causes.{IsStepCause, StepAnswers}
use Rattle.px_steps.specs.Plain.{first_of, first_refusal, frame_refusals, greatest, misfit_faults, refused_by, repeat_refusal, step_on, step_refusals, uneven_fault, with_columns}
use Rattle.px_tree.specs.Grouped.{named_value}
use Rattle.px_tree.specs.Step.{PlainStep, select}
use Rattle.px_expr.specs.NodeView.{plan_of}
use Rattle.px_physical.specs.declared.phys_expr.PhysExpr.{PhysExpr}
use Rattle.px_value.proofs.EachLaws.{each_maps}
use Rattle.px_steps.proofs.Named.{IsFirst_append, refuses_first, refuses_none}
use Rattle.px_tree.proofs.KindLaws.{There, kind_there, none_left as nil_left, none_right as nil_right}
use Rattle.px_steps.proofs.Found.{leaves_found, misfits_named}
use Rattle.px_steps.proofs.Misfits.{faults_apart, no_misfits, one_apart, one_left, one_right}

-- the planner's answer is told by the refusals
pub planned_meets : {X : Type 0} (view : X → Planned) (t : Tree) (scope : Scope) (place : Context) (r : Result X PxError) → AnswersBy view r (plan_in None t scope place)
    → MeetsBy view r (refusals_of t scope place) (Some (planned_over scope t))
planned_meets {X} view t scope place r a = by (refusals_of t scope place) (kind_in t scope) (kind_there t scope place) r a
  where
    by : (R : List PxError) (K : Option Kind) → (R ≡ [] → There K) → (r : Result X PxError)
        → AnswersBy view r (first_or_kind R K >>= λ k. Ok (planned_over scope t))
        → MeetsBy view r R (Some (planned_over scope t))
    by [] None there r a = let k = there refl in cc
    by [] (Some k) there (Ok x) a = let same : planned_over scope t ≡ view x = cc in (refl, ap Some same)
    by [] (Some k) there (Err e) a = refuses_none e _ [] a
    by (e ∷ es) K there (Ok x) a = cc
    by (e ∷ es) K there (Err f) a = refuses_first _ f e es a

-- the cell of an expression's value is that value, under its name and type
pub cell_named : (p : Planned) (frame : Frame) (c : NamedCell) → IsCellOf p frame c → named_value frame p.tree ≡ Some c
cell_named p frame c h =
    ap (λ o. option_and_then (named p.tree frame) o) h.value
    ∙ ap (λ o. option_map (λ k. record { name = name_of p.tree; kind = k; cell = c.cell }) o) h.kind
    ∙ (λ i. Some (record { name = sym h.name i; kind = c.kind; cell = c.cell }))

-- and has no faults
pub cell_sound : (p : Planned) (frame : Frame) (c : NamedCell) → IsCellOf p frame c → faults_on p.tree frame ≡ []
cell_sound p frame c h = nil_right (refusals_of p.tree (scope_of frame) Default ++ flat_map (unfound_refusal frame) p.columns ++ refused_where (has_misfit_column p frame) ShapeMismatch) _ h.sound

-- nor names a column beside the frame that has not its height
pub cell_fits : (t : Tree) (frame : Frame) (c : NamedCell) → refusals_of t (scope_of frame) Default ≡ [] → IsCellOf (planned_over (scope_of frame) t) frame c → misfit_fault frame t ≡ []
cell_fits t frame c none h =
    let p = planned_over (scope_of frame) t in
    let before = refusals_of t (scope_of frame) Default ++ flat_map (unfound_refusal frame) p.columns in
    let found = nil_right before (refused_where (has_misfit_column p frame) ShapeMismatch) (nil_left (before ++ refused_where (has_misfit_column p frame) ShapeMismatch) (faults_on t frame) h.sound) in
    ap (λ (b : Bool). refused_where b ShapeMismatch) (sym (misfits_named frame t Default none)) ∙ found

-- the same of some expressions
pub cells_named : (scope : Scope) (frame : Frame) (ts : List Tree) (cs : List NamedCell) → AreCellsOf (map (planned_over scope) ts) frame cs → each (named_value frame) ts ≡ Some cs
cells_named scope frame [] [] h = refl
cells_named scope frame [] (c ∷ cs) h = absurd h
cells_named scope frame (t ∷ ts) [] h = absurd h
cells_named scope frame (t ∷ ts) (c ∷ cs) h =
    λ i. option_and_then (λ y. option_map (λ ys. y ∷ ys) (cells_named scope frame ts cs h.1 i)) (cell_named (planned_over scope t) frame c h.0 i)

pub cells_sound : (scope : Scope) (frame : Frame) (ts : List Tree) (cs : List NamedCell) → AreCellsOf (map (planned_over scope) ts) frame cs → flat_map (λ t. faults_on t frame) ts ≡ []
cells_sound scope frame [] cs h = refl
cells_sound scope frame (t ∷ ts) [] h = absurd h
cells_sound scope frame (t ∷ ts) (c ∷ cs) h = λ i. cell_sound (planned_over scope t) frame c h.0 i ++ cells_sound scope frame ts cs h.1 i

pub cells_fit : (frame : Frame) (ts : List Tree) (cs : List NamedCell) → flat_map (frame_refusals frame) ts ≡ [] → AreCellsOf (map (planned_over (scope_of frame)) ts) frame cs → flat_map (misfit_fault frame) ts ≡ []
cells_fit frame [] cs none h = refl
cells_fit frame (t ∷ ts) [] none h = absurd h
cells_fit frame (t ∷ ts) (c ∷ cs) none h =
    let here = nil_left (frame_refusals frame t) (flat_map (frame_refusals frame) ts) none in
    let rest = nil_right (frame_refusals frame t) (flat_map (frame_refusals frame) ts) none in
    λ i. cell_fits t frame c here h.0 i ++ cells_fit frame ts cs rest h.1 i

pub cause_lacks : (e : PxError) (p : Planned) (frame : Frame) → IsCause e p frame → Lacks e (causes_on p frame) (size_on p.tree (frame ∷ []))
cause_lacks OutOfMemory p frame h = inl refl
cause_lacks (ComputeError TooLong) p frame h = inr (inr (refl, h))
cause_lacks _ p frame h = inr (inl h)

-- the causes of an expression that is not refused are its faults, and a column beside the frame that has not its height
pub causes_told : (frame : Frame) (t : Tree) → refusals_of t (scope_of frame) Default ≡ [] → causes_on (planned_over (scope_of frame) t) frame ≡ misfit_fault frame t ++ faults_on t frame
causes_told frame t h = λ i. ((h i ++ leaves_found frame t Default h i) ++ refused_where (misfits_named frame t Default h i) ShapeMismatch) ++ faults_on t frame

-- where a cause is a fault or such a column, it is so in the other order too
pub swapped : (e : PxError) (xs ys : List PxError) → IsOneOf e (xs ++ ys) → IsOneOf e (ys ++ xs)
swapped e xs ys h = by (one_apart e xs ys h)
  where
    by : IsOneOf e xs ⊎ IsOneOf e ys → IsOneOf e (ys ++ xs)
    by (inl o) = one_right e ys xs o
    by (inr o) = one_left e ys xs o

-- the same among what lacks
pub lacks_swapped : (e : PxError) (xs ys : List PxError) (n : ℕ) → Lacks e (xs ++ ys) n → Lacks e (ys ++ xs) n
lacks_swapped e xs ys n (inl m) = inl m
lacks_swapped e xs ys n (inr (inl o)) = inr (inl (swapped e xs ys o))
lacks_swapped e xs ys n (inr (inr l)) = inr (inr l)

-- why some expressions have no values is what they lack
causes_lack : (e : PxError) (ps : List Planned) (frame : Frame) → IsCauseOfAny e ps frame → Lacks e (flat_map (λ p. causes_on p frame) ps) (sizes_on (plan_trees ps) (frame ∷ []))
causes_lack OutOfMemory ps frame h = inl refl
causes_lack (ComputeError TooLong) ps frame h = inr (inr (refl, h))
causes_lack _ ps frame h = inr (inl h)

-- a cause of some expressions that are not refused is a fault of one of them, or such a column
any_told : (e : PxError) (frame : Frame) (ts : List Tree) → flat_map (frame_refusals frame) ts ≡ [] → IsOneOf e (flat_map (λ p. causes_on p frame) (map (planned_over (scope_of frame)) ts))
    → IsOneOf e (flat_map (λ t. faults_on t frame ++ misfit_fault frame t) ts)
any_told e frame [] none h = h
any_told e frame (t ∷ ts) none h = by (one_apart e (causes_on (planned_over (scope_of frame) t) frame) _ h) (any_told e frame ts (nil_right (frame_refusals frame t) (flat_map (frame_refusals frame) ts) none))
  where
    here : refusals_of t (scope_of frame) Default ≡ []
    here = nil_left (frame_refusals frame t) (flat_map (frame_refusals frame) ts) none

    by : IsOneOf e (causes_on (planned_over (scope_of frame) t) frame) ⊎ IsOneOf e (flat_map (λ p. causes_on p frame) (map (planned_over (scope_of frame)) ts))
        → (IsOneOf e (flat_map (λ p. causes_on p frame) (map (planned_over (scope_of frame)) ts)) → IsOneOf e (flat_map (λ t. faults_on t frame ++ misfit_fault frame t) ts))
        → IsOneOf e (flat_map (λ t. faults_on t frame ++ misfit_fault frame t) (t ∷ ts))
    by (inl o) more = one_left e (faults_on t frame ++ misfit_fault frame t) _ (swapped e (misfit_fault frame t) (faults_on t frame) (subst (λ (es : List PxError). IsOneOf e es) (causes_told frame t here) o))
    by (inr o) more = one_right e (faults_on t frame ++ misfit_fault frame t) _ (more o)

all_sizes : (scope : Scope) (ts : List Tree) (frames : List Frame) → sizes_on (plan_trees (map (planned_over scope) ts)) frames ≡ greatest (map (λ t. size_on t frames) ts)
all_sizes scope [] frames = refl
all_sizes scope (t ∷ ts) frames = ap (max (size_on t frames)) (all_sizes scope ts frames)

-- what some expressions lack that are not refused
any_lacks : (frame : Frame) (e : PxError) (ts : List Tree) → flat_map (frame_refusals frame) ts ≡ [] → IsCauseOfAny e (map (planned_over (scope_of frame)) ts) frame
    → Lacks e (flat_map (λ t. faults_on t frame ++ misfit_fault frame t) ts) (greatest (map (λ t. size_on t (frame ∷ [])) ts))
any_lacks frame e ts none c = by (causes_lack e (map (planned_over (scope_of frame)) ts) frame c)
  where
    by : Lacks e (flat_map (λ p. causes_on p frame) (map (planned_over (scope_of frame)) ts)) (sizes_on (plan_trees (map (planned_over (scope_of frame)) ts)) (frame ∷ []))
        → Lacks e (flat_map (λ t. faults_on t frame ++ misfit_fault frame t) ts) (greatest (map (λ t. size_on t (frame ∷ [])) ts))
    by (inl m) = inl m
    by (inr (inl o)) = inr (inl (any_told e frame ts none o))
    by (inr (inr l)) = inr (inr (l.0, subst (λ n. 2 ^ 32 ≤ n) (all_sizes (scope_of frame) ts (frame ∷ [])) l.1))

-- the windows of some nodes are their expressions'
pub all_windows : (scope : Scope) (ts : List Tree) → all_windows_in (plan_trees (map (planned_over scope) ts)) ≡ sum_by windows_in ts
all_windows scope [] = refl
all_windows scope (t ∷ ts) = ap (λ n. windows_in t + n) (all_windows scope ts) ∙ sym (sum_by-cons windows_in t ts)

-- the kernels that some nodes run at least are their expressions'
pub least_ticks : (scope : Scope) (ts : List Tree) → sum_by (λ (p : Planned). flat_kernels p.tree) (map (planned_over scope) ts) ≡ sum_by flat_kernels ts
least_ticks scope [] = refl
least_ticks scope (t ∷ ts) =
    sum_by-cons (λ (p : Planned). flat_kernels p.tree) (planned_over scope t) (map (planned_over scope) ts)
    ∙ ap (λ n. flat_kernels t + n) (least_ticks scope ts) ∙ sym (sum_by-cons flat_kernels t ts)

-- a refusal that is told is the first one, or memory was wanting
pub first_cause : (e : PxError) (refusals : List PxError) → IsFirst e refusals → (e ≡ OutOfMemory) ⊎ (first_of refusals ≡ Some e)
first_cause e [] h = inl (no_refusal e (Ok tt) tt refl h)
first_cause e (x ∷ refusals) h = by (refuses_or {Y = Unit {0}} e (Err x) h)
  where
    by : (e ≡ OutOfMemory) ⊎ (◌≡◌ {A = Result (Unit {0}) PxError} (Err x) (Err e)) → (e ≡ OutOfMemory) ⊎ (Some x ≡ Some e)
    by (inl m) = inl m
    by (inr f) = inr (cc f)

-- the first refusal of a step is a cause
pub refusal_cause : (e : PxError) (s : PlainStep) (frame : Frame) → IsFirst e (step_refusals s frame) → (e ≡ OutOfMemory) ⊎ IsStepCause e s frame
refusal_cause e s frame h = by (first_cause e (step_refusals s frame) h)
  where
    by : (e ≡ OutOfMemory) ⊎ (first_of (step_refusals s frame) ≡ Some e) → (e ≡ OutOfMemory) ⊎ IsStepCause e s frame
    by (inl m) = inl m
    by (inr f) = inr (inl f)

pub typing_cause : (e : PxError) (ts : List Tree) (frame : Frame) → IsFirst e (flat_map (frame_refusals frame) ts) → (e ≡ OutOfMemory) ⊎ IsStepCause e (select ts) frame
typing_cause e ts frame h = refusal_cause e (select ts) frame (IsFirst_append e (flat_map (frame_refusals frame) ts) (repeat_refusal ts) h)

pub naming_cause : (e : PxError) (ts : List Tree) (frame : Frame) → flat_map (frame_refusals frame) ts ≡ [] → IsFirst e (repeat_refusal ts) → (e ≡ OutOfMemory) ⊎ IsStepCause e (select ts) frame
naming_cause e ts frame none h = refusal_cause e (select ts) frame (subst (λ (es : List PxError). IsFirst e (es ++ repeat_refusal ts)) (sym none) h)

accepted : (ts : List Tree) (frame : Frame) → flat_map (frame_refusals frame) ts ≡ [] → repeat_refusal ts ≡ [] → first_refusal (select ts) frame ≡ None
accepted ts frame none once = λ i. first_of (none i ++ once i)

-- the same over a schema that is the frame's
pub typed_over : (scope : Scope) (frame : Frame) (ts : List Tree) → scope ≡ scope_of frame → flat_map (λ t. refusals_of t scope Default) ts ≡ flat_map (frame_refusals frame) ts
typed_over scope frame ts e = ap (λ (s : Scope). flat_map (λ t. refusals_of t s Default) ts) e

pub nodes_over : (scope : Scope) (frame : Frame) (ts : List Tree) (nodes : List PhysExpr) → scope ≡ scope_of frame → Some (map (planned_over scope) ts) ≡ Some (map plan_of nodes) → map plan_of nodes ≡ map (planned_over (scope_of frame)) ts
nodes_over scope frame ts nodes e h = let same : map (planned_over scope) ts ≡ map plan_of nodes = cc in sym same ∙ ap (λ (s : Scope). map (planned_over s) ts) e

-- why the expressions of a select step that is not refused have no values
pub value_cause : (e : PxError) (ts : List Tree) (frame : Frame) → flat_map (frame_refusals frame) ts ≡ [] → repeat_refusal ts ≡ [] → IsCauseOfAny e (map (planned_over (scope_of frame)) ts) frame → (e ≡ OutOfMemory) ⊎ IsStepCause e (select ts) frame
value_cause e ts frame none once c = by (any_lacks frame e ts none c)
  where
    told : IsOneOf e (flat_map (λ t. faults_on t frame) ts) ⊎ IsOneOf e (misfit_faults frame ts) → (e ≡ OutOfMemory) ⊎ IsStepCause e (select ts) frame
    told (inl o) = inr (inr (accepted ts frame none once, inl (one_left e (flat_map (λ t. faults_on t frame) ts ++ uneven_fault (filter_map (named_value frame) ts)) _ (one_left e (flat_map (λ t. faults_on t frame) ts) _ o))))
    told (inr o) = inr (inr (accepted ts frame none once, inl (one_right e (flat_map (λ t. faults_on t frame) ts ++ uneven_fault (filter_map (named_value frame) ts)) _ o)))

    by : Lacks e (flat_map (λ t. faults_on t frame ++ misfit_fault frame t) ts) (greatest (map (λ t. size_on t (frame ∷ [])) ts)) → (e ≡ OutOfMemory) ⊎ IsStepCause e (select ts) frame
    by (inl m) = inl m
    by (inr (inl o)) = told (faults_apart frame (λ t. faults_on t frame) e ts o)
    by (inr (inr l)) = inr (inr (accepted ts frame none once, inr (l.0, omega (arith, l.1))))

-- the values of expressions, each of which has one
filtered : {A B : Type 0} (f : A → Option B) (xs : List A) (ys : List B) → each f xs ≡ Some ys → filter_map f xs ≡ ys
filtered f [] ys h = cc
filtered {A} {B} f (x ∷ xs) ys h = by (f x) (each f xs) (filtered f xs) refl h
  where
    by : (o : Option B) (rest : Option (List B)) → ((zs : List B) → rest ≡ Some zs → filter_map f xs ≡ zs) → f x ≡ o → option_and_then (λ y. option_map (λ ys. y ∷ ys) rest) o ≡ Some ys → filter_map f (x ∷ xs) ≡ ys
    by None rest more e g = cc
    by (Some y) None more e g = cc
    by (Some y) (Some zs) more e g = let same : y ∷ zs ≡ ys = cc in rw (e, more zs refl) same

pub name_kept : (frame : Frame) (t : Tree) (c : NamedCell) → named_value frame t ≡ Some c → c.name ≡ name_of t
name_kept frame t c h = by (value_on t frame) (kind_in t (scope_of frame)) h
  where
    by : (v : Option Cell) (k : Option Kind) → option_and_then (λ x. option_map (λ j. record { name = name_of t; kind = j; cell = x }) k) v ≡ Some c → c.name ≡ name_of t
    by None k h = cc
    by (Some v) None h = cc
    by (Some v) (Some k) h = let same : record { name = name_of t; kind = k; cell = v } ≡ c = cc in ap (λ (x : NamedCell). x.name) (sym same)

names_kept : (frame : Frame) (ts : List Tree) (cells : List NamedCell) → each (named_value frame) ts ≡ Some cells → map (λ c. c.name) cells ≡ map name_of ts
names_kept frame ts cells h = each_maps (named_value frame) (λ c. c.name) name_of (name_kept frame) ts cells h

-- nothing stands twice
pub once_none : (o : Option (List ℕ)) → option_map_or (λ n. Duplicate n ∷ []) o [] ≡ [] → o ≡ None
once_none None h = refl
once_none (Some n) h = cc

-- the frame of the values, or the lists that are not as long
pub selected : (ts : List Tree) (frame : Frame) (cells : List NamedCell) (r : Result (List Series) PxError) → flat_map (frame_refusals frame) ts ≡ [] → repeat_refusal ts ≡ []
    → each (named_value frame) ts ≡ Some cells → flat_map (λ t. faults_on t frame) ts ≡ [] → flat_map (misfit_fault frame) ts ≡ [] → Answers r (assembled cells) → IfOk r (λ f. height_of f < 2 ^ 32) → StepAnswers r (select ts) frame
selected ts frame cells r none once values sound fit a low = by r a low
  where
    distinct : first_repeat [] (map (λ c. c.name) cells) ≡ None
    distinct = ap (first_repeat []) (names_kept frame ts cells values) ∙ once_none (first_repeat [] (map name_of ts)) once

    whole : assembled cells ≡ spread_all (rows_beside (map (λ c. c.cell) cells)) cells
    whole = ap (λ o. unless_repeated o (spread_all (rows_beside (map (λ c. c.cell) cells)) cells)) distinct

    uneven : (q : Result (List Series) PxError) → assembled cells ≡ q → uneven_fault (filter_map (named_value frame) ts) ≡ refused_by q
    uneven q e = ap uneven_fault (filtered (named_value frame) ts cells values) ∙ ap refused_by (sym whole ∙ e)

    made : (f : List Series) → assembled cells ≡ Ok f → step_on (select ts) frame ≡ Some (with_columns frame f)
    made f e = ap (λ o. option_map (with_columns frame) (option_and_then (λ xs. result_ok (assembled xs)) o)) values ∙ ap (λ q. option_map (with_columns frame) (result_ok q)) e

    fault : (e : PxError) → (e ≡ OutOfMemory) ⊎ (assembled cells ≡ Err e) → (e ≡ OutOfMemory) ⊎ IsStepCause e (select ts) frame
    fault e (inl m) = inl m
    fault e (inr f) =
        inr (inr (
          accepted ts frame none once,
          inl (one_left e (flat_map (λ t. faults_on t frame) ts ++ uneven_fault (filter_map (named_value frame) ts)) (misfit_faults frame ts)
              (one_right e (flat_map (λ t. faults_on t frame) ts) _ (subst (IsOneOf e) (sym (uneven (Err e) f)) (inl refl)))),
        ))

    by : (q : Result (List Series) PxError) → Answers q (assembled cells) → IfOk q (λ f. height_of f < 2 ^ 32) → StepAnswers q (select ts) frame
    by (Ok f) h short = record { accepted = accepted ts frame none once; sound = λ i. (sound i ++ uneven (Ok f) h i) ++ no_misfits frame ts fit i; made = made f h; short = short }
    by (Err e) h short = fault e (refuses_or e (assembled cells) h)
