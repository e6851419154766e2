-- Columns beside a frame that have not its height, among the faults of some expressions.
use Rattle.std.proofs.Common.{◌≡◌, ◌⊎◌, inl, inr, Bool, true, false, ◌||◌, List, [], ◌∷◌, ◌++◌, refl, ap, subst, sym, ◌∙◌}
use Rattle.std.specs.List.{flat_map, list_any}
use Rattle.std.proofs.lemmas.List.Folds.{list_any-append}
use Rattle.px_value.specs.declared.error.PxError.{PxError}
use Rattle.px_value.specs.declared.error.PxError.TheVariants.{ShapeMismatch}
use Rattle.px_answers.specs.Value.{IsOneOf}
use Rattle.px_frame.specs.External.{Frame}
use Rattle.px_tree.specs.Tree.{Tree}
use Rattle.px_tree.specs.Typing.{refused_where}
use Rattle.px_tree.specs.Value.{has_misfit}
use Rattle.px_steps.specs.Finds.{misfit_fault}
use Rattle.px_steps.specs.Plain.{misfit_faults}
use Rattle.px_tree.proofs.KindLaws.{none_left as nil_left, none_right as nil_right}

pub one_left : (e : PxError) (xs ys : List PxError) → IsOneOf e xs → IsOneOf e (xs ++ ys)
one_left e [] ys h = absurd h
one_left e (x ∷ xs) ys (inl h) = inl h
one_left e (x ∷ xs) ys (inr h) = inr (one_left e xs ys h)

pub one_right : (e : PxError) (xs ys : List PxError) → IsOneOf e ys → IsOneOf e (xs ++ ys)
one_right e [] ys h = h
one_right e (x ∷ xs) ys h = inr (one_right e xs ys h)

pub one_apart : (e : PxError) (xs ys : List PxError) → IsOneOf e (xs ++ ys) → IsOneOf e xs ⊎ IsOneOf e ys
one_apart e [] ys h = inr h
one_apart e (x ∷ xs) ys (inl s) = inl (inl s)
one_apart e (x ∷ xs) ys (inr h) = by (one_apart e xs ys h)
  where
    by : IsOneOf e xs ⊎ IsOneOf e ys → IsOneOf e (x ∷ xs) ⊎ IsOneOf e ys
    by (inl o) = inl (inr o)
    by (inr o) = inr o

-- what is refused where one of two is true
where_first : (e f : PxError) (a b : Bool) → IsOneOf e (refused_where a f) → IsOneOf e (refused_where (a || b) f)
where_first e f true b h = h
where_first e f false b h = absurd h

where_second : (e f : PxError) (a b : Bool) → IsOneOf e (refused_where b f) → IsOneOf e (refused_where (a || b) f)
where_second e f false b h = h
where_second e f true true h = h
where_second e f true false h = absurd h

where_neither : (f : PxError) (a b : Bool) → refused_where a f ≡ [] → refused_where b f ≡ [] → refused_where (a || b) f ≡ []
where_neither f false b h k = k
where_neither f true b h k = cc

module _ (frame : Frame) where
  abbrev any_misfit : List Tree → Bool
  any_misfit ts = list_any (λ e. has_misfit e frame) ts

  -- one of the first of some expressions is one of all of them
  pub misfit_first : (e : PxError) (t : Tree) (ts : List Tree) → IsOneOf e (misfit_fault frame t) → IsOneOf e (misfit_faults frame (t ∷ ts))
  misfit_first e t ts h = where_first e ShapeMismatch (has_misfit t frame) (any_misfit ts) h

  pub misfit_rest : (e : PxError) (t : Tree) (ts : List Tree) → IsOneOf e (misfit_faults frame ts) → IsOneOf e (misfit_faults frame (t ∷ ts))
  misfit_rest e t ts h = where_second e ShapeMismatch (has_misfit t frame) (any_misfit ts) h

  -- where each expression has none, there is none
  pub no_misfits : (ts : List Tree) → flat_map (misfit_fault frame) ts ≡ [] → misfit_faults frame ts ≡ []
  no_misfits [] h = refl
  no_misfits (t ∷ ts) h =
      where_neither ShapeMismatch (has_misfit t frame) (any_misfit ts) (nil_left (misfit_fault frame t) (flat_map (misfit_fault frame) ts) h)
      (no_misfits ts (nil_right (misfit_fault frame t) (flat_map (misfit_fault frame) ts) h))

  -- those of keys and then of aggregations
  pub misfit_keys : (e : PxError) (keys aggs : List Tree) → IsOneOf e (misfit_faults frame keys) → IsOneOf e (misfit_faults frame (keys ++ aggs))
  misfit_keys e keys aggs h =
      subst (λ (b : Bool). IsOneOf e (refused_where b ShapeMismatch)) (sym (list_any-append (λ e. has_misfit e frame) keys aggs)) (where_first e ShapeMismatch (any_misfit keys) (any_misfit aggs) h)

  pub misfit_aggs : (e : PxError) (keys aggs : List Tree) → IsOneOf e (misfit_faults frame aggs) → IsOneOf e (misfit_faults frame (keys ++ aggs))
  misfit_aggs e keys aggs h =
      subst (λ (b : Bool). IsOneOf e (refused_where b ShapeMismatch)) (sym (list_any-append (λ e. has_misfit e frame) keys aggs)) (where_second e ShapeMismatch (any_misfit keys) (any_misfit aggs) h)

  pub no_misfits_both : (keys aggs : List Tree) → misfit_faults frame keys ≡ [] → misfit_faults frame aggs ≡ [] → misfit_faults frame (keys ++ aggs) ≡ []
  no_misfits_both keys aggs h k =
      ap (λ (b : Bool). refused_where b ShapeMismatch) (list_any-append (λ e. has_misfit e frame) keys aggs) ∙ where_neither ShapeMismatch (any_misfit keys) (any_misfit aggs) h k

  -- a fault of some expressions is one of their other faults, or such a column's
  pub faults_apart : (faults : Tree → List PxError) (e : PxError) (ts : List Tree) → IsOneOf e (flat_map (λ t. faults t ++ misfit_fault frame t) ts) → IsOneOf e (flat_map faults ts) ⊎ IsOneOf e (misfit_faults frame ts)
  faults_apart faults e [] h = absurd h
  faults_apart faults e (t ∷ ts) h = by (one_apart e (faults t ++ misfit_fault frame t) (flat_map (λ t. faults t ++ misfit_fault frame t) ts) h) (faults_apart faults e ts)
    where
      own : IsOneOf e (faults t) ⊎ IsOneOf e (misfit_fault frame t) → IsOneOf e (flat_map faults (t ∷ ts)) ⊎ IsOneOf e (misfit_faults frame (t ∷ ts))
      own (inl o) = inl (one_left e (faults t) (flat_map faults ts) o)
      own (inr o) = inr (misfit_first e t ts o)

      rest : IsOneOf e (flat_map faults ts) ⊎ IsOneOf e (misfit_faults frame ts) → IsOneOf e (flat_map faults (t ∷ ts)) ⊎ IsOneOf e (misfit_faults frame (t ∷ ts))
      rest (inl o) = inl (one_right e (faults t) (flat_map faults ts) o)
      rest (inr o) = inr (misfit_rest e t ts o)

      by : IsOneOf e (faults t ++ misfit_fault frame t) ⊎ IsOneOf e (flat_map (λ t. faults t ++ misfit_fault frame t) ts)
          → (IsOneOf e (flat_map (λ t. faults t ++ misfit_fault frame t) ts) → IsOneOf e (flat_map faults ts) ⊎ IsOneOf e (misfit_faults frame ts))
          → IsOneOf e (flat_map faults (t ∷ ts)) ⊎ IsOneOf e (misfit_faults frame (t ∷ ts))
      by (inl o) more = own (one_apart e (faults t) (misfit_fault frame t) o)
      by (inr o) more = rest (more o)

  -- where some expressions have no fault, they have neither
  pub faults_sound : (faults : Tree → List PxError) (ts : List Tree) → flat_map (λ t. faults t ++ misfit_fault frame t) ts ≡ [] → (flat_map faults ts ≡ []) × (flat_map (misfit_fault frame) ts ≡ [])
  faults_sound faults [] h = (refl, refl)
  faults_sound faults (t ∷ ts) h =
      let both = λ (t : Tree). faults t ++ misfit_fault frame t in
      let own = nil_left (both t) (flat_map both ts) h in
      let rest = faults_sound faults ts (nil_right (both t) (flat_map both ts) h) in
      (λ i. nil_left (faults t) (misfit_fault frame t) own i ++ rest.0 i, λ i. nil_right (faults t) (misfit_fault frame t) own i ++ rest.1 i)
