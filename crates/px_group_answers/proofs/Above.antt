-- A node over its inputs on groups: the causes of an input are causes of the node, and from what it answers group by group comes
-- its context, or a cause of its own.
use Rattle.std.proofs.Common.{◌≡◌, ◌⊎◌, inl, inr, ℕ, ◌^◌, ◌≤◌, Bool, true, List, [], ◌∷◌, ◌++◌, Some, Result, Ok, Err, IfOk, length, map, refl, sym, ◌∙◌, ap, subst, arith}
use Rattle.std.specs.List.{flat_map, list_any}
use Rattle.px_column.specs.Prelude.{Kind}
use Rattle.px_value.specs.declared.error.ComputeWhy.TheVariants.{TooLong}
use Rattle.px_value.specs.declared.error.PxError.{PxError}
use Rattle.px_value.specs.declared.error.PxError.TheVariants.{ComputeError, ShapeMismatch, OutOfMemory}
use Rattle.px_frame.specs.External.{Frame, scope_of}
use Rattle.px_frame.specs.Groups.{Groups}
use Rattle.px_frame.specs.Spread.{NamedCell}
use Rattle.px_tree.proofs.KindLaws.{none_left, none_right}
use Rattle.px_tree.specs.Cost.{is_flat_rows}
use Rattle.px_tree.specs.Shape.{is_unit, name_of}
use Rattle.px_tree.specs.Size.{counts_on, size_on}
use Rattle.px_tree.specs.Tree.{Tree, column, literal, alias, binary, ternary, cast, function, filter, slice, gather, sort, sort_by, agg, len, window}
use Rattle.px_tree.specs.Typing.{kind_in, refusals_of, own_refusals, or_first, refusal_of, refused_where}
use Rattle.px_tree.specs.Value.{faults_on}
use Rattle.px_tree.specs.declared.context.Context.TheVariants.{Aggregation}
use Rattle.px_context.specs.Context.{Context}
use Rattle.px_lanes.specs.Lane.{has_lane}
use Rattle.px_lanes.specs.Made.{AreUntouched, IsMade, IsRefusal, KeepsGroups, counts_in, named_cells}
use Rattle.px_answers.proofs.Inputs.{IsIn, IsNode, all_none, both_up, in_all, no_misfit, one_left, one_right, size_in, unfound_above, unfound_apart, where_up, first_up, any_in}
use Rattle.px_answers.proofs.Plain.{Plain, is_plain}
use Rattle.px_answers.specs.Planned.{Planned}
use Rattle.px_answers.specs.Value.{IsOneOf, finds_misfit, has_misfit_column, unfound_refusal}
use Rattle.px_group_answers.proofs.Pointwise.{AreAnswers, IsTold, cells_made, counts_told, fault_told}
use Rattle.px_group_answers.specs.OnGroups.{IsContextOf, IsGroupCause, group_causes, group_frames, group_refusals}

-- no expression has more values than its size
pub counts_in_size : (e : Tree) (fs : List Frame) → counts_on e fs ≤ size_on e fs
counts_in_size (column n) fs = omega arith
counts_in_size (literal v) fs = omega arith
counts_in_size (alias e n) fs = omega arith
counts_in_size (binary l op r) fs = omega arith
counts_in_size (ternary p a b) fs = omega arith
counts_in_size (cast e k options) fs = omega arith
counts_in_size (function es f) fs = omega arith
counts_in_size (filter e by) fs = omega arith
counts_in_size (slice e offset length) fs = omega arith
counts_in_size (gather e idx one) fs = omega arith
counts_in_size (sort e options) fs = omega arith
counts_in_size (sort_by e by options) fs = omega arith
counts_in_size (agg m e) fs = omega arith
counts_in_size len fs = omega arith
counts_in_size (window f keys order mapping) fs = omega arith

-- a plain error that is among the causes is one
pub plain_group_cause : (e : PxError) (p : Planned) (frame : Frame) (g : Groups) → is_plain e ≡ true → IsOneOf e (group_causes p frame g) → IsGroupCause e p frame g
plain_group_cause OutOfMemory p frame g i h = tt
plain_group_cause (ComputeError TooLong) p frame g i h = absurd (cc i)
plain_group_cause _ p frame g i h = h

-- a cause of one expression is a cause of another where each size and each other cause is
pub cause_of : (e : PxError) (p q : Planned) (frame : Frame) (g : Groups) → (2 ^ 32 ≤ size_on p.tree (group_frames frame g) → 2 ^ 32 ≤ size_on q.tree (group_frames frame g)) → (IsOneOf e (group_causes p frame g) → IsOneOf e (group_causes q frame g))
    → IsGroupCause e p frame g → IsGroupCause e q frame g
cause_of OutOfMemory p q frame g s c h = tt
cause_of (ComputeError TooLong) p q frame g s c h = s h
cause_of _ p q frame g s c h = c h

-- faults of one expression on some frames are faults of another where they are on each
faults_up : (e : PxError) (p q : Planned) (fs : List Frame) → ((f : Frame) → IsOneOf e (faults_on p.tree f) → IsOneOf e (faults_on q.tree f)) → IsOneOf e (flat_map (faults_on p.tree) fs) → IsOneOf e (flat_map (faults_on q.tree) fs)
faults_up e p q [] w h = absurd h
faults_up e p q (f ∷ fs) w h = both_up e (faults_on p.tree f) (flat_map (faults_on p.tree) fs) (faults_on q.tree f) (flat_map (faults_on q.tree) fs) (w f) (faults_up e p q fs w) h

module _ (q : Planned) (ps : List Planned) (node : (f : Frame) → IsNode q ps f) where
  -- the refusals of an input are the node's
  refusals_up : (e : PxError) (p : Planned) (frame : Frame) → IsIn p ps → IsOneOf e (group_refusals p frame) → IsOneOf e (group_refusals q frame)
  refusals_up e p frame i h =
      both_up e (refusals_of p.tree (scope_of frame) Aggregation ++ flat_map (unfound_refusal frame) p.columns) (refused_where (has_misfit_column p frame) ShapeMismatch)
      (refusals_of q.tree (scope_of frame) Aggregation ++ flat_map (unfound_refusal frame) q.columns) (refused_where (has_misfit_column q frame) ShapeMismatch)
      (both_up e (refusals_of p.tree (scope_of frame) Aggregation) (flat_map (unfound_refusal frame) p.columns) (refusals_of q.tree (scope_of frame) Aggregation) (flat_map (unfound_refusal frame) q.columns) typed (unfound_above e q ps p frame (node frame) i)) misfit h
    where
      typed : IsOneOf e (refusals_of p.tree (scope_of frame) Aggregation) → IsOneOf e (refusals_of q.tree (scope_of frame) Aggregation)
      typed k =
          subst (IsOneOf e) (sym ((node frame).refusals Aggregation))
          (first_up e (flat_map (λ (x : Planned). refusals_of x.tree (scope_of frame) Aggregation) ps) (own_refusals q.tree (scope_of frame) Aggregation)
          (in_all e (λ (x : Planned). refusals_of x.tree (scope_of frame) Aggregation) p ps i k))

      misfit : IsOneOf e (refused_where (has_misfit_column p frame) ShapeMismatch) → IsOneOf e (refused_where (has_misfit_column q frame) ShapeMismatch)
      misfit j = where_up e ShapeMismatch (has_misfit_column p frame) (has_misfit_column q frame) (λ t. ap (list_any (finds_misfit frame)) (node frame).columns ∙ any_in (finds_misfit frame) p ps i t) j

  -- the causes of an input are causes of the node
  pub group_cause_above : (e : PxError) (p : Planned) (frame : Frame) (g : Groups) → IsIn p ps → IsGroupCause e p frame g → IsGroupCause e q frame g
  group_cause_above e p frame g i h =
      cause_of e p q frame g (λ (b : 2 ^ 32 ≤ size_on p.tree (group_frames frame g)). omega (arith, b, (node frame).sizes (group_frames frame g), size_in p ps (group_frames frame g) i)) among h
    where
      fault : (f : Frame) → IsOneOf e (faults_on p.tree f) → IsOneOf e (faults_on q.tree f)
      fault f j = subst (IsOneOf e) (sym (node f).faults) (one_left e (flat_map (λ (x : Planned). faults_on x.tree f) ps) _ (in_all e (λ (x : Planned). faults_on x.tree f) p ps i j))

      among : IsOneOf e (group_causes p frame g) → IsOneOf e (group_causes q frame g)
      among j = both_up e (group_refusals p frame) (flat_map (faults_on p.tree) (group_frames frame g)) (group_refusals q frame) (flat_map (faults_on q.tree) (group_frames frame g)) (refusals_up e p frame i) (faults_up e p q (group_frames frame g) fault) j

  -- the refusals of a node whose inputs have none
  own_alone : (frame : Frame) → flat_map (λ (p : Planned). group_refusals p frame) ps ≡ [] → refusals_of q.tree (scope_of frame) Aggregation ≡ or_first [] (own_refusals q.tree (scope_of frame) Aggregation)
  own_alone frame h =
      (node frame).refusals Aggregation
      ∙ ap (λ rs. or_first rs (own_refusals q.tree (scope_of frame) Aggregation)) (all_none (λ (p : Planned). group_refusals p frame) (λ (p : Planned). refusals_of p.tree (scope_of frame) Aggregation) ps (λ p k. none_left (refusals_of p.tree (scope_of frame) Aggregation) _ (none_left _ _ k)) h)

  -- its own first refusal is a cause
  pub own_group_cause : (e : PxError) (frame : Frame) (g : Groups) → flat_map (λ (p : Planned). group_refusals p frame) ps ≡ [] → is_plain e ≡ true → or_first [] (own_refusals q.tree (scope_of frame) Aggregation) ≡ e ∷ [] → IsGroupCause e q frame g
  own_group_cause e frame g h i own =
      let first : IsOneOf e (refusals_of q.tree (scope_of frame) Aggregation) = subst (IsOneOf e) (sym (own_alone frame h ∙ own)) (inl refl) in
      plain_group_cause e q frame g i
      (one_left e (group_refusals q frame) (flat_map (faults_on q.tree) (group_frames frame g))
      (one_left e (refusals_of q.tree (scope_of frame) Aggregation ++ flat_map (unfound_refusal frame) q.columns) (refused_where (has_misfit_column q frame) ShapeMismatch)
      (one_left e (refusals_of q.tree (scope_of frame) Aggregation) (flat_map (unfound_refusal frame) q.columns) first)))

  -- a node is not refused where its inputs are not, and it has no refusal of its own
  sound_above : (frame : Frame) → flat_map (λ (p : Planned). group_refusals p frame) ps ≡ [] → or_first [] (own_refusals q.tree (scope_of frame) Aggregation) ≡ [] → group_refusals q frame ≡ []
  sound_above frame h own = rw (own_alone frame h ∙ own, unfound, misfit) refl
    where
      unfound : flat_map (unfound_refusal frame) q.columns ≡ []
      unfound =
          unfound_apart q ps frame (node frame)
          ∙ all_none (λ (p : Planned). group_refusals p frame) (λ (p : Planned). flat_map (unfound_refusal frame) p.columns) ps (λ p k. none_right (refusals_of p.tree (scope_of frame) Aggregation) _ (none_left _ _ k)) h

      misfit : refused_where (has_misfit_column q frame) ShapeMismatch ≡ []
      misfit =
          let none = no_misfit (finds_misfit frame) ShapeMismatch ps
          (all_none (λ (p : Planned). group_refusals p frame) (λ (p : Planned). refused_where (has_misfit_column p frame) ShapeMismatch) ps (λ p k. none_right (refusals_of p.tree (scope_of frame) Aggregation ++ flat_map (unfound_refusal frame) p.columns) _ k) h) in
          ap (λ b. refused_where b ShapeMismatch) (ap (list_any (finds_misfit frame)) (node frame).columns ∙ none)

-- what a node answers on groups, with its name and its type, where its inputs are not refused there
pub record Answers (q : Planned) (ps : List Planned) (frame : Frame) (g : Groups) (name : List ℕ) (typed : Result Kind PxError) (answers : List (Result NamedCell PxError)) : Type 0 where
  pub node : (f : Frame) → IsNode q ps f
  pub sound : flat_map (λ (p : Planned). group_refusals p frame) ps ≡ []
  pub own : or_first [] (own_refusals q.tree (scope_of frame) Aggregation) ≡ refusal_of typed
  pub kind : IfOk typed (λ k. kind_in q.tree (scope_of frame) ≡ Some k)
  pub named : name ≡ name_of q.tree
  pub plain_type : Plain typed
  pub each : AreAnswers q typed (group_frames frame g) answers

-- contexts that are untouched have the groups that were handed in
abbrev pub AreKept : Groups → List Context → Type 0
AreKept g [] = Unit {0}
AreKept g (c ∷ cs) = (c.untouched ≡ true → c.groups ≡ g) × AreKept g cs

kept_by : (g h : Groups) (cs : List Context) → AreKept g cs → AreUntouched h cs → h ≡ g
kept_by g h [] k u = absurd u
kept_by g h (c ∷ cs) k (inl u) = u.1 ∙ k.0 u.0
kept_by g h (c ∷ cs) k (inr u) = kept_by g h cs k.1 u

typed_kind : (q : Planned) (frame : Frame) (typed : Result Kind PxError) (k : Kind) → IfOk typed (λ j. kind_in q.tree (scope_of frame) ≡ Some j) → typed ≡ Ok k → kind_in q.tree (scope_of frame) ≡ Some k
typed_kind q frame (Ok j) k h t = let same : j ≡ k = cc in h ∙ ap Some same
typed_kind q frame (Err e) k h t = absurd (cc t)

-- the context that was made is what the node has on the groups
pub made_context : (q : Planned) (ps : List Planned) (frame : Frame) (g : Groups) (name : List ℕ) (typed : Result Kind PxError) (answers : List (Result NamedCell PxError)) (one : Bool) (count : ℕ) (inputs : List Context) (c : Context)
    → Answers q ps frame g name typed answers → AreKept g inputs → one ≡ is_unit q.tree → count ≡ length g.groups → IsMade answers name typed one count c → KeepsGroups inputs c → (is_flat_rows q.tree ≡ true → has_lane c ≡ true) → IsContextOf q frame g c
made_context q ps frame g name typed answers one count inputs c a k u n m groups lane = record {
  sound = sound_above q ps a.node frame a.sound (a.own ∙ ap refusal_of m.kind_is);
  name = m.name_is ∙ a.named;
  kind = typed_kind q frame typed _ a.kind m.kind_is;
  cells = cells_made q typed (group_frames frame g) answers (named_cells c) a.each m.cells;
  shape = m.shape ∙ u;
  count = m.count_is ∙ n;
  kept = λ t. kept_by g c.groups inputs k (groups t);
  lane = lane;
}

-- a refusal is a cause of the node, where so many values as are counted are its values
pub made_group_cause : (e : PxError) (q : Planned) (ps : List Planned) (frame : Frame) (g : Groups) (name : List ℕ) (typed : Result Kind PxError) (answers : List (Result NamedCell PxError)) (n : ℕ)
    → Answers q ps frame g name typed answers → (2 ^ 32 ≤ n → 2 ^ 32 ≤ size_on q.tree (group_frames frame g)) → (typed ≡ Err e) ⊎ IsRefusal e answers n → IsGroupCause e q frame g
made_group_cause e q ps frame g name typed answers n a s h = by h
  where
    by_type : typed ≡ Err e → IsGroupCause e q frame g
    by_type t =
        own_group_cause q ps a.node e frame g a.sound (subst (λ (r : Result Kind PxError). Plain r) t a.plain_type) (a.own ∙ ap refusal_of t)

    long : e ≡ ComputeError TooLong → 2 ^ 32 ≤ size_on q.tree (group_frames frame g) → IsGroupCause e q frame g
    long i l = subst (λ x. IsGroupCause x q frame g) (sym i) l

    told : IsTold e q typed (group_frames frame g) → IsGroupCause e q frame g
    told (inl t) = by_type t
    told (inr (inl k)) = plain_group_cause e q frame g k.0 (one_right e (group_refusals q frame) (flat_map (faults_on q.tree) (group_frames frame g)) k.1)
    told (inr (inr k)) = let size = counts_in_size q.tree (group_frames frame g) in long k.0 (omega (arith, k.1, size))

    by : (typed ≡ Err e) ⊎ IsRefusal e answers n → IsGroupCause e q frame g
    by (inl t) = by_type t
    by (inr (inl (inl m))) = subst (λ x. IsGroupCause x q frame g) (sym m) tt
    by (inr (inl (inr f))) = told (fault_told e q typed (group_frames frame g) answers a.each f)
    by (inr (inr k)) = long k.0 (s k.1)

-- the values of all answers are the node's
pub answers_in_size : (q : Planned) (ps : List Planned) (frame : Frame) (g : Groups) (name : List ℕ) (typed : Result Kind PxError) (answers : List (Result NamedCell PxError)) → Answers q ps frame g name typed answers
    → 2 ^ 32 ≤ counts_in answers → 2 ^ 32 ≤ size_on q.tree (group_frames frame g)
answers_in_size q ps frame g name typed answers a b =
    let told = counts_told q typed (group_frames frame g) answers a.each in
    let size = counts_in_size q.tree (group_frames frame g) in
    omega (arith, b, told, size)
