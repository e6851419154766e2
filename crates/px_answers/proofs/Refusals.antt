-- No expression is refused for want of memory, nor for its length.
use Rattle.std.proofs.Common.{◌≡◌, Bool, true, false, not, cond, ◌&&◌, ◌||◌, List, [], ◌∷◌, ◌++◌, Option, Some, None, Result, Ok, Err, refl, ap, ◌∙◌}
use Rattle.std.specs.List.{list_all, list_any}
use Rattle.px_column.specs.Cast.{is_cast}
use Rattle.px_column.specs.Exploded.{element_kind}
use Rattle.px_column.specs.Interval.{compared_kind}
use Rattle.px_column.specs.Operator.{is_boolean_kind, is_integer_kind, kind_where, operator_kind}
use Rattle.px_column.specs.Prelude.{Kind, booleans, is_list_kind, kind_eq}
use Rattle.px_column.specs.Reduction.{reduced_kind}
use Rattle.px_value.specs.Kind.{lists}
use Rattle.px_value.specs.declared.error.ComputeWhy.TheVariants.{AggLiteral, AggScalar, NoKey, SingleIndex}
use Rattle.px_value.specs.declared.error.InvalidWhy.TheVariants.{AggAboveImplode, ListKey, RangeType, ScalarOnGroups, Types, WindowOnGroups}
use Rattle.px_value.specs.declared.error.PxError.{PxError}
use Rattle.px_value.specs.declared.error.PxError.TheVariants.{ColumnNotFound, ComputeError, InvalidOperation, SchemaMismatch}
use Rattle.px_value.specs.declared.method.GroupByMethod.{GroupByMethod}
use Rattle.px_tree.specs.Shape.{has_implode, have_implode, is_implode, is_literal_tree, is_unit}
use Rattle.px_tree.specs.Tree.{Tree, Trees, Order, called, no_trees, one_tree, no_order, ordered, Literal, single, range, series, column, literal, alias, binary, ternary, cast, function, filter, slice, gather, sort, sort_by, agg, len, window}
use Rattle.px_tree.specs.Typing.{Scope, all_refusals_of, fails, first_scalar_refusal, function_kind, grouped_function_refusals, grouped_reduction_refusals, has_list_kind, implode_refusal, is_integer_or_null, is_one_input_missing, is_range_kind, kind_in, kind_of_name, kinds_in, no_key_refusal, not_list, on_groups, or_first, order_kind, order_refusals_of, own_refusals, refusal_of, refusal_of_all, refusal_of_one, refusal_of_two, refusals_of, refused_where, scalar_refusal}
use Rattle.px_tree.specs.declared.context.Context.{Context}
use Rattle.px_tree.specs.declared.context.Context.TheVariants.{Aggregation, Default}
use Rattle.px_tree.specs.declared.function.FunctionExpr.{FunctionExpr}
use Rattle.px_tree.specs.declared.function.FunctionExpr.TheVariants.{DropNulls, Explode, IsBetween, IsIn, IsNotNull, IsNull, Not, NullCount, Reverse, Shift}
use Rattle.px_answers.proofs.Plain.{Plain, is_plain, plain_if, plain_operator, plain_reduced, plain_where}

-- each of some errors is plain
abbrev are_plain : List PxError → Bool
are_plain es = list_all is_plain es

both : (xs ys : List PxError) → are_plain xs ≡ true → are_plain ys ≡ true → are_plain (xs ++ ys) ≡ true
both [] ys h k = k
both (x ∷ xs) ys h k = by (is_plain x) h (λ j. both xs ys j k)
  where
    by : (b : Bool) → (b && are_plain xs) ≡ true → (are_plain xs ≡ true → are_plain (xs ++ ys) ≡ true) → (b && are_plain (xs ++ ys)) ≡ true
    by true j rest = rest j
    by false j rest = absurd (cc j)

first : (rs own : List PxError) → are_plain rs ≡ true → are_plain own ≡ true → are_plain (or_first rs own) ≡ true
first [] [] h k = refl
first [] (e ∷ own) h k = by (is_plain e) k
  where
    by : (b : Bool) → (b && are_plain own) ≡ true → (b && true) ≡ true
    by true j = refl
    by false j = absurd (cc j)
first (r ∷ rs) own h k = h

where_plain : (b : Bool) (e : PxError) → is_plain e ≡ true → are_plain (refused_where b e) ≡ true
where_plain true e h = ap (λ p. p && true) h
where_plain false e h = refl

placed : (place : Context) (es : List PxError) → are_plain es ≡ true → are_plain (on_groups place es) ≡ true
placed Default es h = refl
placed Aggregation es h = h

typed : (r : Result Kind PxError) → Plain r → are_plain (refusal_of r) ≡ true
typed (Ok k) h = refl
typed (Err e) h = ap (λ p. p && true) h

typed_one : (t : Kind → Result Kind PxError) (o : Option Kind) → ((k : Kind) → Plain (t k)) → are_plain (refusal_of_one t o) ≡ true
typed_one t None h = refl
typed_one t (Some k) h = typed (t k) (h k)

typed_two : (t : Kind → Kind → Result Kind PxError) (o p : Option Kind) → ((j k : Kind) → Plain (t j k)) → are_plain (refusal_of_two t o p) ≡ true
typed_two t None p h = refl
typed_two t (Some j) None h = refl
typed_two t (Some j) (Some k) h = typed (t j k) (h j k)

typed_all : (t : List Kind → Result Kind PxError) (o : Option (List Kind)) → ((ks : List Kind) → Plain (t ks)) → are_plain (refusal_of_all t o) ≡ true
typed_all t None h = refl
typed_all t (Some ks) h = typed (t ks) (h ks)

plain_compared : (k : Kind) (ks : List Kind) → Plain (compared_kind k ks)
plain_compared k ks =
    plain_if (list_any is_list_kind (k ∷ ks)) (Err (InvalidOperation ListKey)) (kind_where (not (list_any (λ j. not (kind_eq k j)) ks)) booleans) refl (plain_where (not (list_any (λ j. not (kind_eq k j)) ks)) booleans)

plain_element : (k : Kind) → Plain (element_kind k)
plain_element (lists k) = tt
plain_element _ = refl

-- the types of functions
plain_function : (f : FunctionExpr) (ks : List Kind) → Plain (function_kind f ks)
plain_function IsNull (k ∷ []) = tt
plain_function IsNotNull (k ∷ []) = tt
plain_function Not (k ∷ []) = plain_where (is_boolean_kind k) booleans
plain_function (IsBetween closed) (k ∷ low ∷ high ∷ []) = plain_compared k (low ∷ high ∷ [])
plain_function IsIn (k ∷ among ∷ []) = plain_compared k (among ∷ [])
plain_function Reverse (k ∷ []) = tt
plain_function (Shift periods) (k ∷ []) = tt
plain_function DropNulls (k ∷ []) = tt
plain_function NullCount (k ∷ []) = tt
plain_function Explode (k ∷ []) = plain_element k
plain_function _ _ = refl

scalar : (e : Tree) → are_plain (scalar_refusal e) ≡ true
scalar e = where_plain (is_unit e && not (is_literal_tree e)) (InvalidOperation ScalarOnGroups) refl

above : (i : Bool) → are_plain (implode_refusal i) ≡ true
above i = where_plain i (InvalidOperation AggAboveImplode) refl

first_scalar : (es : Trees) → are_plain (first_scalar_refusal es) ≡ true
first_scalar no_trees = refl
first_scalar (one_tree t ts) = scalar t

grouped : (f : FunctionExpr) (es : Trees) → are_plain (grouped_function_refusals f es) ≡ true
grouped Reverse es = first_scalar es
grouped (Shift periods) es = first_scalar es
grouped DropNulls es = first_scalar es
grouped NullCount es = both (implode_refusal (have_implode es)) (first_scalar_refusal es) (above (have_implode es)) (first_scalar es)
grouped Explode es = first_scalar es
grouped _ es = refl

reduced : (m : GroupByMethod) (e : Tree) → are_plain (grouped_reduction_refusals m e) ≡ true
reduced m e =
    both (implode_refusal (has_implode e) ++ refused_where (is_literal_tree e) (ComputeError AggLiteral)) (refused_where (is_unit e && not (is_implode m)) (ComputeError AggScalar))
    (both (implode_refusal (has_implode e)) (refused_where (is_literal_tree e) (ComputeError AggLiteral)) (above (has_implode e)) (where_plain (is_literal_tree e) (ComputeError AggLiteral) refl))
    (where_plain (is_unit e && not (is_implode m)) (ComputeError AggScalar) refl)

keyed : (ts : Trees) → are_plain (no_key_refusal ts) ≡ true
keyed no_trees = refl
keyed (one_tree t ts) = refl

-- an expression's own refusals
own : (e : Tree) (scope : Scope) (place : Context) → are_plain (own_refusals e scope place) ≡ true
own (column n) scope place = where_plain _ (ColumnNotFound n) refl
own (literal (range low high k)) scope place = where_plain (not (is_range_kind k)) (InvalidOperation RangeType) refl
own (literal (single k s)) scope place = refl
own (literal (series s)) scope place = refl
own (alias e n) scope place = refl
own (binary l op r) scope place = typed_two (operator_kind op) (kind_in l scope) (kind_in r scope) (plain_operator op)
own (ternary p a b) scope place =
    both (refused_where (fails is_boolean_kind (kind_in p scope)) SchemaMismatch) _ (where_plain (fails is_boolean_kind (kind_in p scope)) SchemaMismatch refl)
    (typed_two (λ j k. kind_where (kind_eq j k) j) (kind_in a scope) (kind_in b scope) (λ j k. plain_where (kind_eq j k) j))
own (cast e to options) scope place = typed_one (λ from. kind_where (is_cast from to) to) (kind_in e scope) (λ from. plain_where (is_cast from to) to)
own (function es f) scope place =
    both (refused_where (is_one_input_missing (called f) es) (InvalidOperation Types) ++ on_groups place (grouped_function_refusals (called f) es)) _
    (both (refused_where (is_one_input_missing (called f) es) (InvalidOperation Types)) _ (where_plain (is_one_input_missing (called f) es) (InvalidOperation Types) refl) (placed place (grouped_function_refusals (called f) es) (grouped (called f) es)))
    (typed_all (function_kind (called f)) (kinds_in es scope) (plain_function (called f)))
own (filter e by) scope place =
    both (on_groups place (scalar_refusal e)) _ (placed place (scalar_refusal e) (scalar e)) (where_plain (fails is_boolean_kind (kind_in by scope)) SchemaMismatch refl)
own (slice e offset length) scope place =
    both (on_groups place (implode_refusal (has_implode (slice e offset length)) ++ scalar_refusal e)) _
    (placed place (implode_refusal (has_implode (slice e offset length)) ++ scalar_refusal e) (both (implode_refusal (has_implode (slice e offset length))) (scalar_refusal e) (above (has_implode (slice e offset length))) (scalar e)))
    (where_plain (fails is_integer_or_null (kind_in offset scope) || fails is_integer_or_null (kind_in length scope)) (InvalidOperation Types) refl)
own (gather e idx one) scope place =
    both (on_groups place (scalar_refusal e) ++ refused_where (fails is_integer_kind (kind_in idx scope)) (InvalidOperation Types)) _
    (both (on_groups place (scalar_refusal e)) _ (placed place (scalar_refusal e) (scalar e)) (where_plain (fails is_integer_kind (kind_in idx scope)) (InvalidOperation Types) refl))
    (where_plain (one && not (is_unit idx)) (ComputeError SingleIndex) refl)
own (sort e options) scope place =
    both (on_groups place (scalar_refusal e)) _ (placed place (scalar_refusal e) (scalar e)) (where_plain (fails not_list (kind_in e scope)) (InvalidOperation ListKey) refl)
own (sort_by e by options) scope place =
    both (on_groups place (scalar_refusal e)) _ (placed place (scalar_refusal e) (scalar e)) (where_plain (has_list_kind (kinds_in by scope)) (InvalidOperation ListKey) refl)
own (agg m e) scope place =
    both (on_groups place (grouped_reduction_refusals m e)) _ (placed place (grouped_reduction_refusals m e) (reduced m e)) (typed_one (reduced_kind m) (kind_in e scope) (plain_reduced m))
own len scope place = refl
own (window f keys order mapping) scope place =
    both (on_groups place (InvalidOperation WindowOnGroups ∷ []) ++ no_key_refusal keys) _
    (both (on_groups place (InvalidOperation WindowOnGroups ∷ [])) (no_key_refusal keys) (placed place (InvalidOperation WindowOnGroups ∷ []) refl) (keyed keys))
    (where_plain (has_list_kind (kinds_in keys scope) || fails not_list (order_kind order scope)) (InvalidOperation ListKey) refl)

-- those of its inputs, and then its own first
above_one : (a e : Tree) (scope : Scope) (place : Context) → are_plain (refusals_of a scope place) ≡ true → are_plain (or_first (refusals_of a scope place) (own_refusals e scope place)) ≡ true
above_one a e scope place h = first (refusals_of a scope place) (own_refusals e scope place) h (own e scope place)

above_two : (a b e : Tree) (scope : Scope) (place : Context) → are_plain (refusals_of a scope place) ≡ true → are_plain (refusals_of b scope place) ≡ true
    → are_plain (or_first (refusals_of a scope place ++ refusals_of b scope place) (own_refusals e scope place)) ≡ true
above_two a b e scope place h k =
    first (refusals_of a scope place ++ refusals_of b scope place) (own_refusals e scope place) (both (refusals_of a scope place) (refusals_of b scope place) h k) (own e scope place)

above_three : (a b d e : Tree) (scope : Scope) (place : Context) → are_plain (refusals_of a scope place) ≡ true → are_plain (refusals_of b scope place) ≡ true → are_plain (refusals_of d scope place) ≡ true
    → are_plain (or_first (refusals_of a scope place ++ refusals_of b scope place ++ refusals_of d scope place) (own_refusals e scope place)) ≡ true
above_three a b d e scope place h k l =
    first (refusals_of a scope place ++ refusals_of b scope place ++ refusals_of d scope place) (own_refusals e scope place)
    (both (refusals_of a scope place ++ refusals_of b scope place) (refusals_of d scope place) (both (refusals_of a scope place) (refusals_of b scope place) h k) l) (own e scope place)

mutual
  -- all refusals of an expression
  pub plain_refusals : (e : Tree) (scope : Scope) (place : Context) → list_all is_plain (refusals_of e scope place) ≡ true
  plain_refusals (column n) scope place = own (column n) scope place
  plain_refusals (literal v) scope place = own (literal v) scope place
  plain_refusals (alias e n) scope place = plain_refusals e scope place
  plain_refusals (binary l op r) scope place = above_two l r (binary l op r) scope place (plain_refusals l scope place) (plain_refusals r scope place)
  plain_refusals (ternary p a b) scope place = above_three p a b (ternary p a b) scope place (plain_refusals p scope place) (plain_refusals a scope place) (plain_refusals b scope place)
  plain_refusals (cast e to options) scope place = above_one e (cast e to options) scope place (plain_refusals e scope place)
  plain_refusals (function es f) scope place = first (all_refusals_of es scope place) (own_refusals (function es f) scope place) (all_plain_refusals es scope place) (own (function es f) scope place)
  plain_refusals (filter e by) scope place = above_two e by (filter e by) scope place (plain_refusals e scope place) (plain_refusals by scope place)
  plain_refusals (slice e offset length) scope place = above_three e offset length (slice e offset length) scope place (plain_refusals e scope place) (plain_refusals offset scope place) (plain_refusals length scope place)
  plain_refusals (gather e idx one) scope place = above_two e idx (gather e idx one) scope place (plain_refusals e scope place) (plain_refusals idx scope place)
  plain_refusals (sort e options) scope place = above_one e (sort e options) scope place (plain_refusals e scope place)
  plain_refusals (sort_by e by options) scope place =
      first (refusals_of e scope place ++ all_refusals_of by scope place) (own_refusals (sort_by e by options) scope place)
      (both (refusals_of e scope place) (all_refusals_of by scope place) (plain_refusals e scope place) (all_plain_refusals by scope place)) (own (sort_by e by options) scope place)
  plain_refusals (agg m e) scope place = above_one e (agg m e) scope place (plain_refusals e scope place)
  plain_refusals len scope place = refl
  plain_refusals (window f keys order mapping) scope place =
      first (refusals_of f scope Aggregation ++ all_refusals_of keys scope Default ++ order_refusals_of order scope Default) (own_refusals (window f keys order mapping) scope place)
      (both (refusals_of f scope Aggregation ++ all_refusals_of keys scope Default) (order_refusals_of order scope Default)
      (both (refusals_of f scope Aggregation) (all_refusals_of keys scope Default) (plain_refusals f scope Aggregation) (all_plain_refusals keys scope Default)) (order_plain_refusals order scope Default))
      (own (window f keys order mapping) scope place)

  -- and of some
  pub all_plain_refusals : (es : Trees) (scope : Scope) (place : Context) → list_all is_plain (all_refusals_of es scope place) ≡ true
  all_plain_refusals no_trees scope place = refl
  all_plain_refusals (one_tree t ts) scope place = both (refusals_of t scope place) (all_refusals_of ts scope place) (plain_refusals t scope place) (all_plain_refusals ts scope place)

  -- and of what an order is by
  pub order_plain_refusals : (o : Order) (scope : Scope) (place : Context) → list_all is_plain (order_refusals_of o scope place) ≡ true
  order_plain_refusals no_order scope place = refl
  order_plain_refusals (ordered t options) scope place = plain_refusals t scope place
