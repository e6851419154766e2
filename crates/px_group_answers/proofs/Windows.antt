-- No window stands on groups: typing refuses it there, first for its inputs.
use Rattle.std.proofs.Common.{◌≡◌, Bool, true, false, ◌&&◌, List, [], ◌∷◌, ◌++◌, Option, Ok, Err, inl, inr, refl, sym, subst}
use Rattle.std.specs.List.{flat_map, list_all}
use Rattle.px_column.specs.Prelude.{Kind, Refuses}
use Rattle.px_value.specs.declared.error.PxError.{PxError}
use Rattle.px_value.specs.declared.error.PxError.TheVariants.{InvalidOperation, OutOfMemory, ShapeMismatch}
use Rattle.px_value.specs.declared.error.InvalidWhy.TheVariants.{WindowOnGroups}
use Rattle.px_frame.specs.External.{Frame, scope_of}
use Rattle.px_frame.specs.Groups.{Groups}
use Rattle.px_tree.specs.Tree.{Tree, Trees, Order, window}
use Rattle.px_tree.specs.Typing.{Scope, all_refusals_of, first_or_kind, kind_in, or_first, order_refusals_of, own_refusals, refusals_of, refused_where, type_of}
use Rattle.px_tree.specs.Value.{faults_on}
use Rattle.px_tree.specs.declared.context.Context.TheVariants.{Aggregation, Default}
use Rattle.px_tree.specs.declared.window.WindowMapping.{WindowMapping}
use Rattle.px_answers.proofs.Inputs.{one_left}
use Rattle.px_answers.proofs.Plain.{is_plain}
use Rattle.px_answers.proofs.Refusals.{plain_refusals}
use Rattle.px_answers.specs.Parts.{PlannedWindow, window_plan}
use Rattle.px_answers.specs.Planned.{Planned}
use Rattle.px_answers.specs.Value.{IsOneOf, has_misfit_column, unfound_refusal}
use Rattle.px_group_answers.proofs.Above.{plain_group_cause}
use Rattle.px_group_answers.specs.OnGroups.{IsGroupCause, group_frames, group_refusals}

-- the first refusal is one of them
first_of : (e x : PxError) (rs own : List PxError) (k : Option Kind) → first_or_kind (or_first rs (x ∷ own)) k ≡ Err e → IsOneOf e (or_first rs (x ∷ own))
first_of e x [] own k h = let same : x ≡ e = cc in inl (sym same)
first_of e x (r ∷ rs) own k h = let same : r ≡ e = cc in inl (sym same)

-- and there is one
none_typed : (x : PxError) (rs own : List PxError) (k : Option Kind) (j : Kind) → first_or_kind (or_first rs (x ∷ own)) k ≡ Ok j → ⊥
none_typed x [] own k j h = absurd (cc h)
none_typed x (r ∷ rs) own k j h = absurd (cc h)

-- one of some plain errors is plain
plain_one : (e : PxError) (es : List PxError) → list_all is_plain es ≡ true → IsOneOf e es → is_plain e ≡ true
plain_one e [] h i = absurd i
plain_one e (x ∷ es) h i = by (is_plain x) refl h i (plain_one e es)
  where
    by : (b : Bool) → is_plain x ≡ b → (b && list_all is_plain es) ≡ true → IsOneOf e (x ∷ es) → (list_all is_plain es ≡ true → IsOneOf e es → is_plain e ≡ true) → is_plain e ≡ true
    by true p j (inl s) rest = subst (λ y. is_plain y ≡ true) (sym s) p
    by true p j (inr k) rest = rest j k
    by false p j k rest = absurd (cc j)

module _ (w : PlannedWindow) (frame : Frame) (g : Groups) where
  window_cause : (e : PxError) → type_of (window_plan w).tree (scope_of frame) Aggregation ≡ Err e → IsGroupCause e (window_plan w) frame g
  window_cause e h =
      let among : IsOneOf e (refusals_of (window_plan w).tree (scope_of frame) Aggregation) = first_of e (InvalidOperation WindowOnGroups) _ _ (kind_in (window_plan w).tree (scope_of frame)) h in
      let plain = plain_one e (refusals_of (window_plan w).tree (scope_of frame) Aggregation) (plain_refusals (window_plan w).tree (scope_of frame) Aggregation) among in
      plain_group_cause e (window_plan w) frame g plain
      (one_left e (group_refusals (window_plan w) frame) (flat_map (faults_on (window_plan w).tree) (group_frames frame g))
      (one_left e (refusals_of (window_plan w).tree (scope_of frame) Aggregation ++ flat_map (unfound_refusal frame) (window_plan w).columns) (refused_where (has_misfit_column (window_plan w) frame) ShapeMismatch)
      (one_left e (refusals_of (window_plan w).tree (scope_of frame) Aggregation) (flat_map (unfound_refusal frame) (window_plan w).columns) among)))

  told : (e : PxError) → (type_of (window_plan w).tree (scope_of frame) Aggregation ≡ Err e → IsGroupCause e (window_plan w) frame g) → Refuses e (type_of (window_plan w).tree (scope_of frame) Aggregation) → IsGroupCause e (window_plan w) frame g
  told OutOfMemory k h = tt
  told _ k h = k h

  -- the refusal of a window's type on groups is its cause there
  pub window_refused : (e : PxError) → Refuses e (type_of (window_plan w).tree (scope_of frame) Aggregation) → IsGroupCause e (window_plan w) frame g
  window_refused e h = told e (window_cause e) h

  -- and there is always one
  pub window_untyped : (j : Kind) → type_of (window_plan w).tree (scope_of frame) Aggregation ≡ Ok j → ⊥
  window_untyped j h = none_typed (InvalidOperation WindowOnGroups) _ _ (kind_in (window_plan w).tree (scope_of frame)) j h
