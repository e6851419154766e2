-- What typing finds of a tree is what the definitions say of it.
use Rattle.std.proofs.Common.{◌≡◌, ◌==◌, ℕ, suc, Bool, true, false, ◌&&◌, ◌||◌, not, List, [], ◌∷◌, ◌++◌, Option, Some, None, Result, Ok, Err, length, refl, arith, if◌then◌else◌}
use Rattle.std.proofs.lemmas.Bool.Decides.{nat_tests}
use Rattle.std.specs.Prelude.{is_none, option_and_then, option_map}
use Rattle.px_column.specs.Cast.{is_cast, cast_kind}
use Rattle.px_column.specs.Prelude.{Kind, kind_eq, is_list_kind}
use Rattle.px_column.specs.Operator.{operator_kind, kind_where, is_boolean_kind, is_integer_kind}
use Rattle.px_column.specs.Reduction.{reduced_kind}
use Rattle.px_value.specs.declared.operator.Operator.{Operator}
use Rattle.px_value.specs.declared.closed_interval.ClosedInterval.{ClosedInterval}
use Rattle.px_value.specs.declared.method.GroupByMethod.{GroupByMethod}
use Rattle.px_value.specs.declared.method.GroupByMethod.TheVariants.{Min, Max, Sum, First, Last, NUnique, Count, Implode}
use Rattle.px_value.specs.declared.error.PxError.{PxError}
use Rattle.px_value.specs.declared.error.PxError.TheVariants.{ColumnNotFound, InvalidOperation, ComputeError, SchemaMismatch}
use Rattle.px_value.specs.declared.error.InvalidWhy.TheVariants.{WindowOnGroups, AggAboveImplode, ScalarOnGroups, ListKey, RangeType, Types}
use Rattle.px_value.specs.declared.error.ComputeWhy.TheVariants.{AggLiteral, AggScalar, SingleIndex, NoKey}
use Rattle.px_column.specs.Result.{◌>>=◌}
use Rattle.px_typing.specs.Facts.{Facts, kinds_of, have_list, all_units, all_literals, any_implode, is_first_unit, is_scalar, column_facts, binary_facts, ternary_facts, cast_facts, only_input, compared_facts, compared_all, filter_facts, slice_facts, gather_facts, sort_facts, sort_by_facts, agg_facts, len_facts, window_facts, facts_in, all_facts_in, order_facts_in, kind_found}
use Rattle.px_tree.specs.Shape.{is_unit, is_unit_first, are_units, is_literal_tree, are_literal_trees, is_literal_order, has_implode, have_implode, has_implode_order, is_implode}
use Rattle.px_tree.specs.Tree.{Tree, called, by_name, Trees, Order, Literal, single, range, series, no_trees, one_tree, no_order, ordered, column, literal, alias, binary, ternary, cast, function, filter, slice, gather, sort, sort_by, agg, len, window}
use Rattle.px_tree.specs.Typing.{Scope, kind_in, kinds_in, kind_of_name, is_range_kind, is_integer_or_null, function_kind, window_kind, made_kind, refused_where, on_groups, refusal_of, fails, refusal_of_one, refusal_of_two, refusal_of_all, has_list_kind, implode_refusal, no_key_refusal, order_kind, not_list, or_first, refusals_of, all_refusals_of, order_refusals_of, first_or_kind, type_of, is_on_groups}
use Rattle.px_column.specs.Interval.{compared_kind}
use Rattle.px_tree.specs.declared.context.Context.{Context}
use Rattle.px_tree.specs.declared.context.Context.TheVariants.{Default, Aggregation}
use Rattle.px_tree.specs.declared.function.FunctionExpr.{FunctionExpr}
use Rattle.px_tree.specs.declared.function.FunctionExpr.TheVariants.{IsNull, IsNotNull, Not, IsBetween, IsIn, Reverse, Shift, DropNulls, NullCount, Explode}
use Rattle.px_tree.specs.declared.window.WindowMapping.{WindowMapping}

-- refusals, a type and three truths are those of facts; or the first refusal was found
data Fits : List PxError → Option Kind → Bool → Bool → Bool → Result Facts PxError → Type 0 where
  found : (f : Facts) → Fits [] (Some f.kind) f.unit f.literal f.implode (Ok f)
  refused : (e : PxError) (es : List PxError) (k : Option Kind) (u l i : Bool) → Fits (e ∷ es) k u l i (Err e)

-- an expression's own refusals and its type, where the inputs have none
made : (u l i : Bool) (r : Result Kind PxError) → Fits (or_first [] (refusal_of r)) (made_kind r) u l i (r >>= λ k. Ok (record { kind = k; unit = u; literal = l; implode = i }))
made u l i (Ok k) = found (record { kind = k; unit = u; literal = l; implode = i })
made u l i (Err e) = refused e [] None u l i

column_fits : (n : List ℕ) (k : Option Kind) → Fits (refused_where (is_none k) (ColumnNotFound n)) k false false false (column_facts n k)
column_fits n None = refused _ _ _ _ _ _
column_fits n (Some k) = found (record { kind = k; unit = false; literal = false; implode = false })

range_fits : (k : Kind) (b : Bool) → Fits (refused_where (not b) (InvalidOperation RangeType)) (Some k) false true false (if b then Ok (record { kind = k; unit = false; literal = true; implode = false }) else Err (InvalidOperation RangeType))
range_fits k true = found (record { kind = k; unit = false; literal = true; implode = false })
range_fits k false = refused _ _ _ _ _ _

-- numbers of inputs
some_there : (n : ℕ) → (suc n == 0) ≡ false
some_there n = grind (arith, nat_tests)

four_there : (n : ℕ) → (suc (suc (suc (suc n))) == 3) ≡ false
four_there n = grind (arith, nat_tests)

three_there : (n : ℕ) → (suc (suc (suc n)) == 2) ≡ false
three_there n = grind (arith, nat_tests)

binary_fits : (op : Operator) {rl rr : List PxError} {kl kr : Option Kind} {ul ur ll lr il ir : Bool} {x y : Result Facts PxError} → Fits rl kl ul ll il x → Fits rr kr ur lr ir y → Fits (or_first (rl ++ rr) (refusal_of_two (operator_kind op) kl kr)) (option_and_then (λ a. option_and_then (λ b. made_kind (operator_kind op a b)) kr) kl) (ul && ur) (ll && lr) (il || ir) (x >>= λ a. y >>= λ b. binary_facts op a b)
binary_fits op (found a) (found b) = made (a.unit && b.unit) (a.literal && b.literal) (a.implode || b.implode) (operator_kind op a.kind b.kind)
binary_fits op (found a) (refused e es k u l i) = refused e _ _ _ _ _
binary_fits op (refused e es k u l i) q = refused e _ _ _ _ _

chosen : (k : Kind) (u l i t s : Bool) → Fits (or_first [] (refused_where (not t) SchemaMismatch ++ refusal_of (kind_where s k))) (Some k) u l i (if t then (if s then Ok (record { kind = k; unit = u; literal = l; implode = i }) else Err (InvalidOperation Types)) else Err SchemaMismatch)
chosen k u l i true true = found (record { kind = k; unit = u; literal = l; implode = i })
chosen k u l i true false = refused _ _ _ _ _ _
chosen k u l i false true = refused _ _ _ _ _ _
chosen k u l i false false = refused _ _ _ _ _ _

ternary_fits : {rp ra rb : List PxError} {kp ka kb : Option Kind} {up ua ub lp la lb ip ia ib : Bool} {x y z : Result Facts PxError} → Fits rp kp up lp ip x → Fits ra ka ua la ia y → Fits rb kb ub lb ib z → Fits (or_first (rp ++ ra ++ rb) (refused_where (fails is_boolean_kind kp) SchemaMismatch ++ refusal_of_two (λ j k. kind_where (kind_eq j k) j) ka kb)) ka (up && (ua && ub)) (lp && (la && lb)) (ip || (ia || ib)) (x >>= λ p. y >>= λ a. z >>= λ b. ternary_facts p a b)
ternary_fits (found p) (found a) (found b) = chosen a.kind _ _ _ (is_boolean_kind p.kind) (kind_eq a.kind b.kind)
ternary_fits (found p) (found a) (refused e es k u l i) = refused e _ _ _ _ _
ternary_fits (found p) (refused e es k u l i) q = refused e _ _ _ _ _
ternary_fits (refused e es k u l i) q r = refused e _ _ _ _ _

cast_made : (k : Kind) (u l i b : Bool) → Fits (or_first [] (refusal_of (kind_where b k))) (Some k) u l i (if b then Ok (record { kind = k; unit = u; literal = l; implode = i }) else Err (InvalidOperation Types))
cast_made k u l i true = found (record { kind = k; unit = u; literal = l; implode = i })
cast_made k u l i false = refused _ _ _ _ _ _

cast_fits : (to : Kind) {r : List PxError} {k : Option Kind} {u l i : Bool} {x : Result Facts PxError} → Fits r k u l i x → Fits (or_first r (refusal_of_one (λ from. cast_kind from to) k)) (Some to) u l i (x >>= λ a. cast_facts a to)
cast_fits to (found a) = cast_made to a.unit a.literal a.implode (is_cast a.kind to)
cast_fits to (refused e es k u l i) = refused e _ _ _ _ _

-- one value on groups is refused first, and then what fails a test
tested : (place : Context) (e : PxError) (k : Kind) (u l i s b : Bool) → Fits (or_first [] (on_groups place (refused_where s (InvalidOperation ScalarOnGroups)) ++ refused_where (not b) e)) (Some k) u l i (if is_on_groups place && s then Err (InvalidOperation ScalarOnGroups) else (if b then Ok (record { kind = k; unit = u; literal = l; implode = i }) else Err e))
tested Default e k u l i s true = found (record { kind = k; unit = u; literal = l; implode = i })
tested Default e k u l i s false = refused _ _ _ _ _ _
tested Aggregation e k u l i true b = refused _ _ _ _ _ _
tested Aggregation e k u l i false true = found (record { kind = k; unit = u; literal = l; implode = i })
tested Aggregation e k u l i false false = refused _ _ _ _ _ _

filter_fits : (place : Context) {r rm : List PxError} {k km : Option Kind} {u um l lm i im : Bool} {x y : Result Facts PxError} → Fits r k u l i x → Fits rm km um lm im y → Fits (or_first (r ++ rm) (on_groups place (refused_where (u && not l) (InvalidOperation ScalarOnGroups)) ++ refused_where (fails is_boolean_kind km) SchemaMismatch)) k false (l && lm) (i || im) (x >>= λ a. y >>= λ b. filter_facts place a b)
filter_fits place (found a) (found b) = tested place SchemaMismatch a.kind _ _ _ (a.unit && not a.literal) (is_boolean_kind b.kind)
filter_fits place (found a) (refused e es k u l i) = refused e _ _ _ _ _
filter_fits place (refused e es k u l i) q = refused e _ _ _ _ _

sliced : (place : Context) (k : Kind) (u l i h s p q : Bool) → Fits (or_first [] (on_groups place (implode_refusal h ++ refused_where s (InvalidOperation ScalarOnGroups)) ++ refused_where (not p || not q) (InvalidOperation Types))) (Some k) u l i (if is_on_groups place && h then Err (InvalidOperation AggAboveImplode) else (if is_on_groups place && s then Err (InvalidOperation ScalarOnGroups) else (if p && q then Ok (record { kind = k; unit = u; literal = l; implode = i }) else Err (InvalidOperation Types))))
sliced Default k u l i h s true true = found (record { kind = k; unit = u; literal = l; implode = i })
sliced Default k u l i h s true false = refused _ _ _ _ _ _
sliced Default k u l i h s false q = refused _ _ _ _ _ _
sliced Aggregation k u l i true s p q = refused _ _ _ _ _ _
sliced Aggregation k u l i false true p q = refused _ _ _ _ _ _
sliced Aggregation k u l i false false true true = found (record { kind = k; unit = u; literal = l; implode = i })
sliced Aggregation k u l i false false true false = refused _ _ _ _ _ _
sliced Aggregation k u l i false false false q = refused _ _ _ _ _ _

slice_fits : (place : Context) {r ro rl : List PxError} {k ko kl : Option Kind} {u uo ul l lo ll i io il : Bool} {x y z : Result Facts PxError} → Fits r k u l i x → Fits ro ko uo lo io y → Fits rl kl ul ll il z → Fits (or_first (r ++ ro ++ rl) (on_groups place (implode_refusal (i || (io || il)) ++ refused_where (u && not l) (InvalidOperation ScalarOnGroups)) ++ refused_where (fails is_integer_or_null ko || fails is_integer_or_null kl) (InvalidOperation Types))) k false (l && (lo && ll)) (i || (io || il)) (x >>= λ a. y >>= λ o. z >>= λ n. slice_facts place a o n)
slice_fits place (found a) (found o) (found n) = sliced place a.kind _ _ _ (a.implode || (o.implode || n.implode)) (a.unit && not a.literal) (is_integer_or_null o.kind) (is_integer_or_null n.kind)
slice_fits place (found a) (found o) (refused e es k u l i) = refused e _ _ _ _ _
slice_fits place (found a) (refused e es k u l i) q = refused e _ _ _ _ _
slice_fits place (refused e es k u l i) q r = refused e _ _ _ _ _

gathered : (place : Context) (k : Kind) (u l i s m n : Bool) → Fits (or_first [] (on_groups place (refused_where s (InvalidOperation ScalarOnGroups)) ++ refused_where (not m) (InvalidOperation Types) ++ refused_where n (ComputeError SingleIndex))) (Some k) u l i (if is_on_groups place && s then Err (InvalidOperation ScalarOnGroups) else (if m then (if n then Err (ComputeError SingleIndex) else Ok (record { kind = k; unit = u; literal = l; implode = i })) else Err (InvalidOperation Types)))
gathered Default k u l i s true true = refused _ _ _ _ _ _
gathered Default k u l i s true false = found (record { kind = k; unit = u; literal = l; implode = i })
gathered Default k u l i s false n = refused _ _ _ _ _ _
gathered Aggregation k u l i true m n = refused _ _ _ _ _ _
gathered Aggregation k u l i false true true = refused _ _ _ _ _ _
gathered Aggregation k u l i false true false = found (record { kind = k; unit = u; literal = l; implode = i })
gathered Aggregation k u l i false false n = refused _ _ _ _ _ _

gather_fits : (place : Context) (one : Bool) {r rm : List PxError} {k km : Option Kind} {u um l lm i im : Bool} {x y : Result Facts PxError} → Fits r k u l i x → Fits rm km um lm im y → Fits (or_first (r ++ rm) (on_groups place (refused_where (u && not l) (InvalidOperation ScalarOnGroups)) ++ refused_where (fails is_integer_kind km) (InvalidOperation Types) ++ refused_where (one && not um) (ComputeError SingleIndex))) k one (l && lm) (i || im) (x >>= λ a. y >>= λ b. gather_facts place a b one)
gather_fits place one (found a) (found b) = gathered place a.kind _ _ _ (a.unit && not a.literal) (is_integer_kind b.kind) (one && not b.unit)
gather_fits place one (found a) (refused e es k u l i) = refused e _ _ _ _ _
gather_fits place one (refused e es k u l i) q = refused e _ _ _ _ _

unlisted : (place : Context) (k : Kind) (u l i s b : Bool) → Fits (or_first [] (on_groups place (refused_where s (InvalidOperation ScalarOnGroups)) ++ refused_where b (InvalidOperation ListKey))) (Some k) u l i (if is_on_groups place && s then Err (InvalidOperation ScalarOnGroups) else (if b then Err (InvalidOperation ListKey) else Ok (record { kind = k; unit = u; literal = l; implode = i })))
unlisted Default k u l i s true = refused _ _ _ _ _ _
unlisted Default k u l i s false = found (record { kind = k; unit = u; literal = l; implode = i })
unlisted Aggregation k u l i true b = refused _ _ _ _ _ _
unlisted Aggregation k u l i false true = refused _ _ _ _ _ _
unlisted Aggregation k u l i false false = found (record { kind = k; unit = u; literal = l; implode = i })

twice : (b : Bool) → not (not b) ≡ b
twice true = refl
twice false = refl

sort_fits : (place : Context) {r : List PxError} {k : Option Kind} {u l i : Bool} {x : Result Facts PxError} → Fits r k u l i x → Fits (or_first r (on_groups place (refused_where (u && not l) (InvalidOperation ScalarOnGroups)) ++ refused_where (fails not_list k) (InvalidOperation ListKey))) k false l i (x >>= λ a. sort_facts place a)
sort_fits place (found a) = rw (twice (is_list_kind a.kind)) (unlisted place a.kind false a.literal a.implode (a.unit && not a.literal) (is_list_kind a.kind))
sort_fits place (refused e es k u l i) = refused e _ _ _ _ _

reduced_fits : (place : Context) (r : Result Kind PxError) (u l i g h s : Bool) → Fits (or_first [] (on_groups place (implode_refusal g ++ refused_where h (ComputeError AggLiteral) ++ refused_where s (ComputeError AggScalar)) ++ refusal_of r)) (made_kind r) u l i (if is_on_groups place && g then Err (InvalidOperation AggAboveImplode) else (if is_on_groups place && h then Err (ComputeError AggLiteral) else (if is_on_groups place && s then Err (ComputeError AggScalar) else r >>= λ k. Ok (record { kind = k; unit = u; literal = l; implode = i }))))
reduced_fits Default r u l i g h s = made u l i r
reduced_fits Aggregation r u l i true h s = refused _ _ _ _ _ _
reduced_fits Aggregation r u l i false true s = refused _ _ _ _ _ _
reduced_fits Aggregation r u l i false false true = refused _ _ _ _ _ _
reduced_fits Aggregation r u l i false false false = made u l i r

agg_fits : (place : Context) (m : GroupByMethod) {r : List PxError} {k : Option Kind} {u l i : Bool} {x : Result Facts PxError} → Fits r k u l i x → Fits (or_first r (on_groups place (implode_refusal i ++ refused_where l (ComputeError AggLiteral) ++ refused_where (u && not (is_implode m)) (ComputeError AggScalar)) ++ refusal_of_one (reduced_kind m) k)) (option_and_then (λ j. made_kind (reduced_kind m j)) k) (not (is_implode m)) l (is_implode m || i) (x >>= λ a. agg_facts place m a)
agg_fits place m (found a) = reduced_fits place (reduced_kind m a.kind) (not (is_implode m)) a.literal (is_implode m || a.implode) a.implode a.literal (a.unit && not (is_implode m))
agg_fits place m (refused e es k u l i) = refused e _ _ _ _ _

abbrev pub no_key : List Facts → List PxError
no_key [] = ComputeError NoKey ∷ []
no_key (a ∷ inputs) = []

-- the same for a list of inputs, with the refusal that there is none
data AllFit : List PxError → Option (List Kind) → List PxError → Bool → Bool → Bool → Bool → Result (List Facts) PxError → Type 0 where
  all_found : (fs : List Facts) → AllFit [] (Some (kinds_of fs)) (no_key fs) (is_first_unit fs) (all_units fs) (all_literals fs) (any_implode fs) (Ok fs)
  one_refused : (e : PxError) (es : List PxError) (ks : Option (List Kind)) (n : List PxError) (f u l i : Bool) → AllFit (e ∷ es) ks n f u l i (Err e)

none_fits : AllFit [] (Some []) (ComputeError NoKey ∷ []) false true true false (Ok [])
none_fits = all_found []

one_more_fits : {r rs : List PxError} {k : Option Kind} {ks : Option (List Kind)} {n : List PxError} {u l i f us ls is : Bool} {x : Result Facts PxError} {y : Result (List Facts) PxError} → Fits r k u l i x → AllFit rs ks n f us ls is y → AllFit (r ++ rs) (option_and_then (λ j. option_and_then (λ js. Some (j ∷ js)) ks) k) [] u (u && us) (l && ls) (i || is) (x >>= λ a. y >>= λ b. Ok (a ∷ b))
one_more_fits (found a) (all_found fs) = all_found (a ∷ fs)
one_more_fits (found a) (one_refused e es ks n f u l i) = one_refused e _ _ _ _ _ _ _
one_more_fits (refused e es k u l i) q = one_refused e _ _ _ _ _ _ _

-- for each of some trees
abbrev Each : Trees → Scope → Context → Type 0
Each no_trees scope place = Unit {0}
Each (one_tree t ts) scope place = Fits (refusals_of t scope place) (kind_in t scope) (is_unit t) (is_literal_tree t) (has_implode t) (facts_in t scope place) × Each ts scope place

all_fit : (ts : Trees) (scope : Scope) (place : Context) → Each ts scope place → AllFit (all_refusals_of ts scope place) (kinds_in ts scope) (no_key_refusal ts) (is_unit_first ts) (are_units ts) (are_literal_trees ts) (have_implode ts) (all_facts_in ts scope place)
all_fit no_trees scope place h = none_fits
all_fit (one_tree t ts) scope place h = one_more_fits h.0 (all_fit ts scope place h.1)

sort_by_fits : (place : Context) {r rs n : List PxError} {k : Option Kind} {ks : Option (List Kind)} {u l i f us ls is : Bool} {x : Result Facts PxError} {y : Result (List Facts) PxError} → Fits r k u l i x → AllFit rs ks n f us ls is y → Fits (or_first (r ++ rs) (on_groups place (refused_where (u && not l) (InvalidOperation ScalarOnGroups)) ++ refused_where (has_list_kind ks) (InvalidOperation ListKey))) k false (l && ls) (i || is) (x >>= λ a. y >>= λ b. sort_by_facts place a b)
sort_by_fits place (found a) (all_found fs) = unlisted place a.kind _ _ _ (a.unit && not a.literal) (have_list fs)
sort_by_fits place (found a) (one_refused e es ks n f u l i) = refused e _ _ _ _ _
sort_by_fits place (refused e es k u l i) q = refused e _ _ _ _ _

-- the same for an order
data OrderFits : List PxError → Option Kind → Bool → Bool → Result (Option Facts) PxError → Type 0 where
  no_order_fits : OrderFits [] None true false (Ok None)
  order_found : (a : Facts) → OrderFits [] (Some a.kind) a.literal a.implode (Ok (Some a))
  order_refused : (e : PxError) (es : List PxError) (k : Option Kind) (l i : Bool) → OrderFits (e ∷ es) k l i (Err e)

ordered_fits : {r : List PxError} {k : Option Kind} {u l i : Bool} {x : Result Facts PxError} → Fits r k u l i x → OrderFits r k l i (x >>= λ a. Ok (Some a))
ordered_fits (found a) = order_found a
ordered_fits (refused e es k u l i) = order_refused e es k l i

windowed : (place : Context) (k : Kind) (l i b : Bool) (fs : List Facts) → Fits (or_first [] (on_groups place (InvalidOperation WindowOnGroups ∷ []) ++ no_key fs ++ refused_where b (InvalidOperation ListKey))) (Some k) false l i (if is_on_groups place then Err (InvalidOperation WindowOnGroups) else (if length fs == 0 then Err (ComputeError NoKey) else (if b then Err (InvalidOperation ListKey) else Ok (record { kind = k; unit = false; literal = l; implode = i }))))
windowed Aggregation k l i b fs = refused _ _ _ _ _ _
windowed Default k l i b [] = refused _ _ _ _ _ _
windowed Default k l i true (a ∷ fs) = rw (some_there (length fs)) (refused _ _ _ _ _ _)
windowed Default k l i false (a ∷ fs) = rw (some_there (length fs)) (found (record { kind = k; unit = false; literal = l; implode = i }))

window_fits : (place : Context) (mapping : WindowMapping) {r rs n ro : List PxError} {k ko : Option Kind} {ks : Option (List Kind)} {u l i f us ls is lo io : Bool} {x : Result Facts PxError} {y : Result (List Facts) PxError} {z : Result (Option Facts) PxError} → Fits r k u l i x → AllFit rs ks n f us ls is y → OrderFits ro ko lo io z → Fits (or_first (r ++ rs ++ ro) (on_groups place (InvalidOperation WindowOnGroups ∷ []) ++ n ++ refused_where (has_list_kind ks || fails not_list ko) (InvalidOperation ListKey))) (option_map (window_kind mapping u) k) false (l && (ls && lo)) (i || (is || io)) (x >>= λ a. y >>= λ b. z >>= λ o. window_facts place mapping a b o)
window_fits place mapping (found a) (all_found fs) no_order_fits = windowed place (window_kind mapping a.unit a.kind) _ _ (have_list fs || false) fs
window_fits place mapping (found a) (all_found fs) (order_found o) = rw (twice (is_list_kind o.kind)) (windowed place (window_kind mapping a.unit a.kind) _ _ (have_list fs || is_list_kind o.kind) fs)
window_fits place mapping (found a) (all_found fs) (order_refused e es k l i) = refused e _ _ _ _ _
window_fits place mapping (found a) (one_refused e es ks n f u l i) q = refused e _ _ _ _ _
window_fits place mapping (refused e es k u l i) p q = refused e _ _ _ _ _

-- functions that take exactly three inputs, and exactly two
three_compared : (closed : ClosedInterval) (u l i : Bool) (fs : List Facts) → Fits (or_first [] (refusal_of (function_kind (IsBetween closed) (kinds_of fs)))) (made_kind (function_kind (IsBetween closed) (kinds_of fs))) u l i (if length fs == 3 then (compared_all (kinds_of fs) >>= λ k. Ok (record { kind = k; unit = u; literal = l; implode = i })) else Err (InvalidOperation Types))
three_compared closed u l i [] = refused _ _ _ _ _ _
three_compared closed u l i (a ∷ []) = refused _ _ _ _ _ _
three_compared closed u l i (a ∷ b ∷ []) = refused _ _ _ _ _ _
three_compared closed u l i (a ∷ b ∷ c ∷ []) = made u l i (compared_kind a.kind (b.kind ∷ c.kind ∷ []))
three_compared closed u l i (a ∷ b ∷ c ∷ d ∷ ds) = rw (four_there (length ds)) (refused _ _ _ _ _ _)

two_compared : (u l i : Bool) (fs : List Facts) → Fits (or_first [] (refusal_of (function_kind IsIn (kinds_of fs)))) (made_kind (function_kind IsIn (kinds_of fs))) u l i (if length fs == 2 then (compared_all (kinds_of fs) >>= λ k. Ok (record { kind = k; unit = u; literal = l; implode = i })) else Err (InvalidOperation Types))
two_compared u l i [] = refused _ _ _ _ _ _
two_compared u l i (a ∷ []) = refused _ _ _ _ _ _
two_compared u l i (a ∷ b ∷ []) = made u l i (compared_kind a.kind (b.kind ∷ []))
two_compared u l i (a ∷ b ∷ c ∷ cs) = rw (three_there (length cs)) (refused _ _ _ _ _ _)

between_fits : (closed : ClosedInterval) (place : Context) {rs n : List PxError} {ks : Option (List Kind)} {f u l i : Bool} {y : Result (List Facts) PxError} → AllFit rs ks n f u l i y → Fits (or_first rs (on_groups place [] ++ refusal_of_all (function_kind (IsBetween closed)) ks)) (option_and_then (λ js. made_kind (function_kind (IsBetween closed) js)) ks) u l i (y >>= λ b. compared_facts 3 (all_units b) b)
between_fits closed Default (all_found fs) = three_compared closed (all_units fs) (all_literals fs) (any_implode fs) fs
between_fits closed Aggregation (all_found fs) = three_compared closed (all_units fs) (all_literals fs) (any_implode fs) fs
between_fits closed place (one_refused e es ks n f u l i) = refused e _ _ _ _ _

is_in_fits : (place : Context) {rs n : List PxError} {ks : Option (List Kind)} {f u l i : Bool} {y : Result (List Facts) PxError} → AllFit rs ks n f u l i y → Fits (or_first rs (on_groups place [] ++ refusal_of_all (function_kind IsIn) ks)) (option_and_then (λ js. made_kind (function_kind IsIn js)) ks) f l i (y >>= λ b. compared_facts 2 (is_first_unit b) b)
is_in_fits Default (all_found fs) = two_compared (is_first_unit fs) (all_literals fs) (any_implode fs) fs
is_in_fits Aggregation (all_found fs) = two_compared (is_first_unit fs) (all_literals fs) (any_implode fs) fs
is_in_fits place (one_refused e es ks n f u l i) = refused e _ _ _ _ _

-- functions that take exactly one
counted : (place : Context) (p s u l i : Bool) (r : Result Kind PxError) → Fits (or_first [] (on_groups place (implode_refusal p ++ refused_where s (InvalidOperation ScalarOnGroups)) ++ refusal_of r)) (made_kind r) u l i (if is_on_groups place && p then Err (InvalidOperation AggAboveImplode) else (if is_on_groups place && s then Err (InvalidOperation ScalarOnGroups) else r >>= λ k. Ok (record { kind = k; unit = u; literal = l; implode = i })))
counted Default p s u l i r = made u l i r
counted Aggregation true s u l i r = refused _ _ _ _ _ _
counted Aggregation false true u l i r = refused _ _ _ _ _ _
counted Aggregation false false u l i r = made u l i r

plain_fits : (place : Context) (typed : List Kind → Result Kind PxError) {r : List PxError} {k : Option Kind} {u l i : Bool} {x : Result Facts PxError} → Fits r k u l i x → Fits (or_first (r ++ []) (on_groups place [] ++ refusal_of_all typed (option_and_then (λ j. Some (j ∷ [])) k))) (option_and_then (λ js. made_kind (typed js)) (option_and_then (λ j. Some (j ∷ [])) k)) u (l && true) (i || false) ((x >>= λ a. Ok (a ∷ [])) >>= λ b. only_input b >>= λ a. (if is_on_groups place && false then Err (InvalidOperation AggAboveImplode) else (typed (a.kind ∷ []) >>= λ j. Ok (record { kind = j; unit = a.unit; literal = a.literal && true; implode = a.implode || false }))))
plain_fits Default typed (found a) = made a.unit (a.literal && true) (a.implode || false) (typed (a.kind ∷ []))
plain_fits Aggregation typed (found a) = made a.unit (a.literal && true) (a.implode || false) (typed (a.kind ∷ []))
plain_fits place typed (refused e es k u l i) = refused e _ _ _ _ _

rows_fits : (place : Context) (typed : List Kind → Result Kind PxError) {r : List PxError} {k : Option Kind} {u l i : Bool} {x : Result Facts PxError} → Fits r k u l i x → Fits (or_first (r ++ []) (on_groups place (refused_where (u && not l) (InvalidOperation ScalarOnGroups)) ++ refusal_of_all typed (option_and_then (λ j. Some (j ∷ [])) k))) (option_and_then (λ js. made_kind (typed js)) (option_and_then (λ j. Some (j ∷ [])) k)) false (l && true) (i || false) ((x >>= λ a. Ok (a ∷ [])) >>= λ b. only_input b >>= λ a. (if is_on_groups place && false then Err (InvalidOperation AggAboveImplode) else (if is_scalar place a then Err (InvalidOperation ScalarOnGroups) else (typed (a.kind ∷ []) >>= λ j. Ok (record { kind = j; unit = false; literal = a.literal && true; implode = a.implode || false })))))
rows_fits place typed (found a) = counted place false (a.unit && not a.literal) false (a.literal && true) (a.implode || false) (typed (a.kind ∷ []))
rows_fits place typed (refused e es k u l i) = refused e _ _ _ _ _

null_count_fits : (place : Context) (typed : List Kind → Result Kind PxError) {r : List PxError} {k : Option Kind} {u l i : Bool} {x : Result Facts PxError} → Fits r k u l i x → Fits (or_first (r ++ []) (on_groups place (implode_refusal (i || false) ++ refused_where (u && not l) (InvalidOperation ScalarOnGroups)) ++ refusal_of_all typed (option_and_then (λ j. Some (j ∷ [])) k))) (option_and_then (λ js. made_kind (typed js)) (option_and_then (λ j. Some (j ∷ [])) k)) true (l && true) (i || false) ((x >>= λ a. Ok (a ∷ [])) >>= λ b. only_input b >>= λ a. (if is_on_groups place && (a.implode || false) then Err (InvalidOperation AggAboveImplode) else (if is_scalar place a then Err (InvalidOperation ScalarOnGroups) else (typed (a.kind ∷ []) >>= λ j. Ok (record { kind = j; unit = true; literal = a.literal && true; implode = a.implode || false })))))
null_count_fits place typed (found a) = counted place (a.implode || false) (a.unit && not a.literal) true (a.literal && true) (a.implode || false) (typed (a.kind ∷ []))
null_count_fits place typed (refused e es k u l i) = refused e _ _ _ _ _

many_fits : (next : Facts → Result Facts PxError) (own : List PxError) (kind : Option Kind) (unit all any : Bool) {r s rs n : List PxError} {k j : Option Kind} {ks : Option (List Kind)} {u l i v m h f us ls is : Bool} {x y : Result Facts PxError} {z : Result (List Facts) PxError} → Fits r k u l i x → Fits s j v m h y → AllFit rs ks n f us ls is z → Fits (or_first (r ++ (s ++ rs)) (InvalidOperation Types ∷ own)) kind unit all any ((x >>= λ a. (y >>= λ b. z >>= λ c. Ok (b ∷ c)) >>= λ c. Ok (a ∷ c)) >>= λ c. only_input c >>= next)
many_fits next own kind unit all any (found a) (found b) (all_found fs) = refused _ _ _ _ _ _
many_fits next own kind unit all any (found a) (found b) (one_refused e es ks n f u l i) = refused e _ _ _ _ _
many_fits next own kind unit all any (found a) (refused e es k u l i) q = refused e _ _ _ _ _
many_fits next own kind unit all any (refused e es k u l i) p q = refused e _ _ _ _ _

abbrev FitsTree : Tree → Scope → Context → Type 0
FitsTree t scope place = Fits (refusals_of t scope place) (kind_in t scope) (is_unit t) (is_literal_tree t) (has_implode t) (facts_in t scope place)

function_fits : (f : FunctionExpr) (es : Trees) (scope : Scope) (place : Context) → Each es scope place → FitsTree (function es (by_name f)) scope place
function_fits (IsBetween closed) es scope place h = between_fits closed place (all_fit es scope place h)
function_fits IsIn es scope place h = is_in_fits place (all_fit es scope place h)
function_fits f no_trees scope place h = refused _ _ _ _ _ _
function_fits f (one_tree t (one_tree v vs)) scope place h = many_fits _ _ _ _ _ _ h.0 h.1.0 (all_fit vs scope place h.1.1)
function_fits IsNull (one_tree t no_trees) scope place h = plain_fits place (function_kind IsNull) h.0
function_fits IsNotNull (one_tree t no_trees) scope place h = plain_fits place (function_kind IsNotNull) h.0
function_fits Not (one_tree t no_trees) scope place h = plain_fits place (function_kind Not) h.0
function_fits Reverse (one_tree t no_trees) scope place h = rows_fits place (function_kind Reverse) h.0
function_fits (Shift periods) (one_tree t no_trees) scope place h = rows_fits place (function_kind (Shift periods)) h.0
function_fits DropNulls (one_tree t no_trees) scope place h = rows_fits place (function_kind DropNulls) h.0
function_fits NullCount (one_tree t no_trees) scope place h = null_count_fits place (function_kind NullCount) h.0
function_fits Explode (one_tree t no_trees) scope place h = rows_fits place (function_kind Explode) h.0

literal_fits : (v : Literal) (scope : Scope) (place : Context) → FitsTree (literal v) scope place
literal_fits (single k s) scope place = found (record { kind = k; unit = true; literal = true; implode = false })
literal_fits (range low high k) scope place = range_fits k (is_range_kind k)
literal_fits (series s) scope place = found (record { kind = s.kind; unit = false; literal = true; implode = false })

reduction_fits : (m : GroupByMethod) (e : Tree) (scope : Scope) (place : Context) → FitsTree e scope place → FitsTree (agg m e) scope place
reduction_fits Min e scope place h = agg_fits place Min h
reduction_fits Max e scope place h = agg_fits place Max h
reduction_fits Sum e scope place h = agg_fits place Sum h
reduction_fits First e scope place h = agg_fits place First h
reduction_fits Last e scope place h = agg_fits place Last h
reduction_fits NUnique e scope place h = agg_fits place NUnique h
reduction_fits (Count nulls) e scope place h = agg_fits place (Count nulls) h
reduction_fits Implode e scope place h = agg_fits place Implode h

mutual
  tree_fits : (t : Tree) (scope : Scope) (place : Context) → FitsTree t scope place
  tree_fits (column n) scope place = column_fits n (kind_of_name n scope)
  tree_fits (literal v) scope place = literal_fits v scope place
  tree_fits (alias e n) scope place = tree_fits e scope place
  tree_fits (binary l op r) scope place = binary_fits op (tree_fits l scope place) (tree_fits r scope place)
  tree_fits (ternary p a b) scope place = ternary_fits (tree_fits p scope place) (tree_fits a scope place) (tree_fits b scope place)
  tree_fits (cast e k options) scope place = cast_fits k (tree_fits e scope place)
  tree_fits (function es f) scope place = function_fits (called f) es scope place (each_fits es scope place)
  tree_fits (filter e by) scope place = filter_fits place (tree_fits e scope place) (tree_fits by scope place)
  tree_fits (slice e offset length) scope place = slice_fits place (tree_fits e scope place) (tree_fits offset scope place) (tree_fits length scope place)
  tree_fits (gather e idx one) scope place = gather_fits place one (tree_fits e scope place) (tree_fits idx scope place)
  tree_fits (sort e options) scope place = sort_fits place (tree_fits e scope place)
  tree_fits (sort_by e by options) scope place = sort_by_fits place (tree_fits e scope place) (all_fit by scope place (each_fits by scope place))
  tree_fits (agg m e) scope place = reduction_fits m e scope place (tree_fits e scope place)
  tree_fits len scope place = found len_facts
  tree_fits (window f keys order mapping) scope place = window_fits place mapping (tree_fits f scope Aggregation) (all_fit keys scope Default (each_fits keys scope Default)) (key_fits order scope Default)

  each_fits : (ts : Trees) (scope : Scope) (place : Context) → Each ts scope place
  each_fits no_trees scope place = tt
  each_fits (one_tree t ts) scope place = (tree_fits t scope place, each_fits ts scope place)

  key_fits : (o : Order) (scope : Scope) (place : Context) → OrderFits (order_refusals_of o scope place) (order_kind o scope) (is_literal_order o) (has_implode_order o) (order_facts_in o scope place)
  key_fits no_order scope place = no_order_fits
  key_fits (ordered t options) scope place = ordered_fits (tree_fits t scope place)

first_fits : {r : List PxError} {k : Option Kind} {u l i : Bool} {x : Result Facts PxError} → Fits r k u l i x → first_or_kind r k ≡ kind_found x
first_fits (found f) = refl
first_fits (refused e es k u l i) = refl

-- the type that is found is the expression's
pub type_of_found : (t : Tree) (scope : Scope) (place : Context) → type_of t scope place ≡ kind_found (facts_in t scope place)
type_of_found t scope place = first_fits (tree_fits t scope place)
