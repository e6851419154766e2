-- Laws: an expression that is not refused has a type.
use Rattle.std.proofs.Common.{◌≡◌, List, [], ◌∷◌, ◌++◌, Option, Some, None, Result, Ok, Err, option_map, refl, sym, ◌∙◌, ap}
use Rattle.std.specs.Prelude.{is_none}
use Rattle.px_column.specs.Prelude.{Kind}
use Rattle.px_column.specs.Operator.{operator_kind}
use Rattle.px_column.specs.Option.{◌>>=◌}
use Rattle.px_column.specs.Reduction.{reduced_kind}
use Rattle.px_value.specs.declared.error.PxError.{PxError}
use Rattle.px_tree.specs.Shape.{is_unit}
use Rattle.px_tree.specs.Tree.{Tree, called, Trees, no_trees, one_tree, column, literal, alias, binary, ternary, cast, function, filter, slice, gather, sort, sort_by, agg, len, window}
use Rattle.px_tree.specs.Typing.{Scope, kind_in, kinds_in, kind_of_name, made_kind, literal_kind, function_kind, window_kind, refusals_of, all_refusals_of, or_first, refused_where, refusal_of, refusal_of_one, refusal_of_two, refusal_of_all, on_groups, grouped_reduction_refusals, grouped_function_refusals, is_one_input_missing}
use Rattle.px_tree.specs.declared.context.Context.{Context}
use Rattle.px_tree.specs.declared.context.Context.TheVariants.{Default, Aggregation}

-- a value that is there
abbrev pub There : {A : Type 0} → Option A → Type 0
There {A} o = (a : A) × (o ≡ Some a)

-- nothing is put together of nothing alone
pub none_left : {A : Type 0} (xs ys : List A) → xs ++ ys ≡ [] → xs ≡ []
none_left [] ys h = refl
none_left (x ∷ xs) ys h = cc

-- and so the second is nothing
pub none_right : {A : Type 0} (xs ys : List A) → xs ++ ys ≡ [] → ys ≡ []
none_right [] ys h = h
none_right (x ∷ xs) ys h = cc

-- no refusal at all is none of the inputs
pub none_first : (inputs own : List PxError) → or_first inputs own ≡ [] → inputs ≡ []
none_first [] own h = refl
none_first (e ∷ es) own h = cc

-- and none of the node's own
pub none_own : (inputs own : List PxError) → or_first inputs own ≡ [] → own ≡ []
none_own [] [] h = refl
none_own [] (e ∷ es) h = cc
none_own (e ∷ es) own h = cc

-- what is not refused as missing is there
pub name_there : (o : Option Kind) (e : PxError) → refused_where (is_none o) e ≡ [] → There o
name_there None e h = cc
name_there (Some k) e h = (k, refl)

-- a type that is not refused is there
pub typed_there : (r : Result Kind PxError) → refusal_of r ≡ [] → There (made_kind r)
typed_there (Ok k) h = (k, refl)
typed_there (Err e) h = cc

mutual
  -- an expression that is not refused has a type
  pub kind_there : (e : Tree) (scope : Scope) (place : Context) → refusals_of e scope place ≡ [] → There (kind_in e scope)
  kind_there (column n) scope place h = name_there (kind_of_name n scope) _ h
  kind_there (literal v) scope place h = (literal_kind v, refl)
  kind_there (alias e n) scope place h = kind_there e scope place h
  kind_there (binary l op r) scope place h =
      let inputs = none_first _ _ h in
      let a = kind_there l scope place (none_left _ _ inputs) in
      let b = kind_there r scope place (none_right (refusals_of l scope place) _ inputs) in
      let own : refusal_of (operator_kind op a.0 b.0) ≡ [] = (λ i. refusal_of_two (operator_kind op) (sym a.1 i) (sym b.1 i)) ∙ none_own (refusals_of l scope place ++ refusals_of r scope place) _ h in
      let k = typed_there (operator_kind op a.0 b.0) own in
      (k.0, (λ i. a.1 i >>= λ x. b.1 i >>= λ y. made_kind (operator_kind op x y)) ∙ k.1)
  kind_there (ternary p a b) scope place h =
      let inputs = none_left (refusals_of p scope place ++ refusals_of a scope place) _ (none_first _ _ h) in
      kind_there a scope place (none_right (refusals_of p scope place) _ inputs)
  kind_there (cast e k options) scope place h = (k, refl)
  kind_there (function es f) scope place h =
      let ks = kinds_there es scope place (none_first _ _ h) in
      let own = none_right (refused_where (is_one_input_missing (called f) es) _ ++ on_groups place (grouped_function_refusals (called f) es)) _ (none_own (all_refusals_of es scope place) _ h) in
      let k = typed_there (function_kind (called f) ks.0) (ap (refusal_of_all (function_kind (called f))) (sym ks.1) ∙ own) in
      (k.0, ap (λ o. o >>= λ xs. made_kind (function_kind (called f) xs)) ks.1 ∙ k.1)
  kind_there (filter e by) scope place h = kind_there e scope place (none_left _ _ (none_first _ _ h))
  kind_there (slice e offset length) scope place h = kind_there e scope place (none_left _ _ (none_left (refusals_of e scope place ++ refusals_of offset scope place) _ (none_first _ _ h)))
  kind_there (gather e idx one) scope place h = kind_there e scope place (none_left _ _ (none_first _ _ h))
  kind_there (sort e options) scope place h = kind_there e scope place (none_first _ _ h)
  kind_there (sort_by e by options) scope place h = kind_there e scope place (none_left _ _ (none_first _ _ h))
  kind_there (agg m e) scope place h =
      let a = kind_there e scope place (none_first _ _ h) in
      let own = none_right (on_groups place (grouped_reduction_refusals m e)) _ (none_own (refusals_of e scope place) _ h) in
      let k = typed_there (reduced_kind m a.0) (ap (refusal_of_one (reduced_kind m)) (sym a.1) ∙ own) in
      (k.0, ap (λ o. o >>= λ x. made_kind (reduced_kind m x)) a.1 ∙ k.1)
  kind_there len scope place h = (_, refl)
  kind_there (window f keys order mapping) scope place h =
      let k = kind_there f scope Aggregation (none_left _ _ (none_left (refusals_of f scope Aggregation ++ all_refusals_of keys scope Default) _ (none_first _ _ h))) in
      (window_kind mapping (is_unit f) k.0, ap (option_map (window_kind mapping (is_unit f))) k.1)

  -- and so has each of some
  pub kinds_there : (es : Trees) (scope : Scope) (place : Context) → all_refusals_of es scope place ≡ [] → There (kinds_in es scope)
  kinds_there no_trees scope place h = ([], refl)
  kinds_there (one_tree t ts) scope place h =
      let k = kind_there t scope place (none_left _ _ h) in
      let ks = kinds_there ts scope place (none_right (refusals_of t scope place) _ h) in
      (k.0 ∷ ks.0, λ i. k.1 i >>= λ x. ks.1 i >>= λ xs. Some (x ∷ xs))
