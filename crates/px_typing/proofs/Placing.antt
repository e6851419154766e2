-- Groups refuse more than the frame.
use Rattle.std.proofs.Common.{◌≡◌, ◌&&◌, not, List, [], ◌∷◌, ◌++◌, Option, Ok, refl}
use Rattle.px_column.specs.Prelude.{Kind}
use Rattle.px_column.specs.Operator.{is_integer_kind}
use Rattle.px_value.specs.declared.error.PxError.{PxError}
use Rattle.px_value.specs.declared.error.PxError.TheVariants.{InvalidOperation, ComputeError}
use Rattle.px_value.specs.declared.error.InvalidWhy.TheVariants.{Types}
use Rattle.px_value.specs.declared.error.ComputeWhy.TheVariants.{SingleIndex}
use Rattle.px_typing.specs.Places.{IsRefusedMoreOnGroups, KeepsTypeOnFrame}
use Rattle.px_tree.specs.Shape.{is_unit}
use Rattle.px_tree.specs.Tree.{Tree, called, Trees, single, range, series, no_trees, one_tree, column, literal, alias, binary, ternary, cast, function, filter, slice, gather, sort, sort_by, agg, len, window}
use Rattle.px_tree.specs.Typing.{Scope, kind_in, kinds_in, function_kind, refused_where, fails, refusal_of_all, scalar_refusal, grouped_function_refusals, is_one_input_missing, own_refusals, refusals_of, all_refusals_of, order_refusals_of, or_first, first_or_kind}
use Rattle.px_tree.specs.declared.context.Context.TheVariants.{Default, Aggregation}
use Rattle.px_tree.proofs.KindLaws.{none_left, none_right}

both_none : {a b c d : List PxError} → (a ≡ [] → b ≡ []) → (c ≡ [] → d ≡ []) → a ++ c ≡ [] → b ++ d ≡ []
both_none {a} {b} {c} {d} f g h = rw (f (none_left a c h), g (none_right a c h))

-- the refusals between two others
without : (xs g ys : List PxError) → xs ++ g ++ ys ≡ [] → xs ++ [] ++ ys ≡ []
without xs g ys h = rw (none_left xs g (none_left (xs ++ g) ys h), none_right (xs ++ g) ys h)

after : (g xs ys : List PxError) → g ++ xs ++ ys ≡ [] → xs ++ ys ≡ []
after g xs ys h = rw (none_right g xs (none_left (g ++ xs) ys h), none_right (g ++ xs) ys h)

inputs_none : (xs ys : List PxError) → or_first xs ys ≡ [] → xs ≡ []
inputs_none [] ys h = refl
inputs_none (x ∷ xs) ys h = absurd (cc h)

own_none : (xs ys : List PxError) → or_first xs ys ≡ [] → ys ≡ []
own_none [] [] h = refl
own_none [] (y ∷ ys) h = absurd (cc h)
own_none (x ∷ xs) ys h = absurd (cc h)

own_fewer : (t : Tree) (scope : Scope) → own_refusals t scope Aggregation ≡ [] → own_refusals t scope Default ≡ []
own_fewer (column n) scope h = h
own_fewer (literal (single k s)) scope h = h
own_fewer (literal (range low high k)) scope h = h
own_fewer (literal (series s)) scope h = h
own_fewer (alias e n) scope h = h
own_fewer (binary l op r) scope h = h
own_fewer (ternary p a b) scope h = h
own_fewer (cast e k options) scope h = h
own_fewer (function es f) scope h = without (refused_where (is_one_input_missing (called f) es) (InvalidOperation Types)) (grouped_function_refusals (called f) es) (refusal_of_all (function_kind (called f)) (kinds_in es scope)) h
own_fewer (filter e by) scope h = none_right _ _ h
own_fewer (slice e offset length) scope h = none_right _ _ h
own_fewer (gather e idx one) scope h = after (scalar_refusal e) (refused_where (fails is_integer_kind (kind_in idx scope)) (InvalidOperation Types)) (refused_where (one && not (is_unit idx)) (ComputeError SingleIndex)) h
own_fewer (sort e options) scope h = none_right _ _ h
own_fewer (sort_by e by options) scope h = none_right _ _ h
own_fewer (agg m e) scope h = none_right _ _ h
own_fewer len scope h = h
own_fewer (window f keys order mapping) scope h = absurd (cc h)

-- the refusals of a tree, from those of its inputs
fewer : (t : Tree) (scope : Scope) {a b : List PxError} → (a ≡ [] → b ≡ []) → or_first a (own_refusals t scope Aggregation) ≡ [] → or_first b (own_refusals t scope Default) ≡ []
fewer t scope {a} {b} f h = rw (f (inputs_none a (own_refusals t scope Aggregation) h), own_fewer t scope (own_none a (own_refusals t scope Aggregation) h))

mutual
  pub refused_more : (t : Tree) → IsRefusedMoreOnGroups t
  refused_more (column n) scope h = h
  refused_more (literal (single k s)) scope h = h
  refused_more (literal (range low high k)) scope h = h
  refused_more (literal (series s)) scope h = h
  refused_more (alias e n) scope h = refused_more e scope h
  refused_more (binary l op r) scope h = fewer (binary l op r) scope (both_none (refused_more l scope) (refused_more r scope)) h
  refused_more (ternary p a b) scope h = fewer (ternary p a b) scope (both_none (both_none (refused_more p scope) (refused_more a scope)) (refused_more b scope)) h
  refused_more (cast e k options) scope h = fewer (cast e k options) scope (refused_more e scope) h
  refused_more (function es f) scope h = fewer (function es f) scope (all_refused_more es scope) h
  refused_more (filter e by) scope h = fewer (filter e by) scope (both_none (refused_more e scope) (refused_more by scope)) h
  refused_more (slice e offset length) scope h = fewer (slice e offset length) scope (both_none (both_none (refused_more e scope) (refused_more offset scope)) (refused_more length scope)) h
  refused_more (gather e idx one) scope h = fewer (gather e idx one) scope (both_none (refused_more e scope) (refused_more idx scope)) h
  refused_more (sort e options) scope h = fewer (sort e options) scope (refused_more e scope) h
  refused_more (sort_by e by options) scope h = fewer (sort_by e by options) scope (both_none (refused_more e scope) (all_refused_more by scope)) h
  refused_more (agg m e) scope h = fewer (agg m e) scope (refused_more e scope) h
  refused_more len scope h = h
  refused_more (window f keys order mapping) scope h =
      let same : refusals_of f scope Aggregation ++ all_refusals_of keys scope Default ++ order_refusals_of order scope Default ≡ [] → refusals_of f scope Aggregation ++ all_refusals_of keys scope Default ++ order_refusals_of order scope Default ≡ [] = λ e. e in
      fewer (window f keys order mapping) scope same h

  all_refused_more : (ts : Trees) (scope : Scope) → all_refusals_of ts scope Aggregation ≡ [] → all_refusals_of ts scope Default ≡ []
  all_refused_more no_trees scope h = h
  all_refused_more (one_tree t ts) scope h = both_none (refused_more t scope) (all_refused_more ts scope) h

typed_more : (xs ys : List PxError) (found : Option Kind) (k : Kind) → (xs ≡ [] → ys ≡ []) → first_or_kind xs found ≡ Ok k → first_or_kind ys found ≡ Ok k
typed_more [] ys found k f h = rw (f refl) h
typed_more (x ∷ xs) ys found k f h = absurd (cc h)

pub type_kept : (t : Tree) → KeepsTypeOnFrame t
type_kept t scope k h = typed_more (refusals_of t scope Aggregation) (refusals_of t scope Default) (kind_in t scope) k (refused_more t scope) h
