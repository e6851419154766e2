-- Values like those of a type, and what operators, casts, functions and reductions make of them.
use Rattle.std.proofs.Common.{◌≡◌, ℕ, zero, suc, ℤ, pos, negsuc, ◌-ℤ◌, Bool, true, false, cond, ◌&&◌, List, [], ◌∷◌, Option, Some, None, Result, Ok, Err, fold, length, subst, refl, ◌∙◌, sym, ap}
use Rattle.std.specs.List.{list_all, reduce}
use Rattle.std.specs.Ordering.{is_lt, ord_min, ord_max}
use Rattle.px_column.specs.Cast.{is_binary_kind}
use Rattle.px_column.specs.Chosen.{chosen}
use Rattle.px_column.specs.Exploded.{element_kind}
use Rattle.px_column.specs.Function.{not_slot, between_slot, above, below, in_slot, exploded, exploded_items, exploded_slot, shifted, slot_from}
use Rattle.px_column.specs.Operator.{is_integer_kind, is_boolean_kind, is_string_kind, operated, operator_kind, kind_where, compared, of_numbers, divided, number_in, truth_of, kleene_and, kleene_or, plus_slot, and_slot, or_slot, xor_slot, is_zero}
use Rattle.px_column.specs.Order.{datum_cmp}
use Rattle.px_column.specs.Prelude.{Datum, boolean, integer, text, bytes, list, Slots, no_slots, absent, present, Slot, slots, items, Kind, booleans, int8s, int16s, int32s, int64s, uint8s, uint16s, uint32s, uint64s, strings, binaries, lists, is_list_kind, fits, slot_fits, slots_fit, kind_eq, slot_at}
use Rattle.px_column.specs.Kind.{all_fit}
use Rattle.px_column.specs.Reduction.{values_of, kind_there, reduced_kind, reduced_slot, sum_slot}
use Rattle.px_column.specs.Sum.{sum_kind}
use Rattle.px_value.proofs.FitLaws.{both}
use Rattle.px_value.specs.declared.closed_interval.ClosedInterval.{ClosedInterval}
use Rattle.px_value.specs.declared.error.PxError.{PxError}
use Rattle.px_value.specs.declared.method.GroupByMethod.{GroupByMethod}
use Rattle.px_value.specs.declared.method.GroupByMethod.TheVariants.{Min, Max, Sum, First, Last, NUnique, Count, Implode}
use Rattle.px_value.specs.declared.operator.Operator.{Operator}
use Rattle.px_value.specs.declared.operator.Operator.TheVariants.{Eq, EqValidity, NotEq, NotEqValidity, Lt, LtEq, Gt, GtEq, Plus, Minus, Multiply, Divide, FloorDivide, Modulus, And, Or, Xor, LogicalAnd, LogicalOr}
use Rattle.px_operation.proofs.OperatorLaws.{integer_kind}
use Rattle.px_tree.specs.Node.{indexed, row_of_index}
use Rattle.px_tree.specs.Typing.{made_kind}
use Rattle.px_laws.proofs.Passing.{all_flat, all_made}

abbrev mutual
  -- a value like those of a type: of their kind, whether it lies in the type's range or not
  pub is_like : Kind → Datum → Bool
  is_like k (boolean b) = is_boolean_kind k
  is_like k (integer z) = is_integer_kind k
  is_like k (text s) = is_string_kind k
  is_like k (bytes s) = is_binary_kind k
  is_like (lists k) (list ds) = are_like k ds
  is_like _ (list ds) = false

  -- each item of a list is like the values of a type; a null always is
  pub are_like : Kind → Slots → Bool
  are_like k no_slots = true
  are_like k (absent ds) = are_like k ds
  are_like k (present d ds) = is_like k d && are_like k ds

-- a place that holds such a value, or a null
abbrev pub is_slot_like : Kind → Slot → Bool
is_slot_like k None = true
is_slot_like k (Some d) = is_like k d

-- each place does
abbrev pub are_slots_like : Kind → List Slot → Bool
are_slots_like k xs = list_all (is_slot_like k) xs

mutual
  -- a value that fits a type is like its values
  fit_is_like : (k : Kind) (d : Datum) → fits k d ≡ true → is_like k d ≡ true
  fit_is_like booleans (boolean b) h = refl
  fit_is_like k (boolean b) h = cc
  fit_is_like k (integer z) h = integer_kind k z h
  fit_is_like strings (text s) h = refl
  fit_is_like k (text s) h = cc
  fit_is_like binaries (bytes s) h = refl
  fit_is_like k (bytes s) h = cc
  fit_is_like (lists k) (list ds) h = all_fit_are_like k ds h
  fit_is_like k (list ds) h = cc

  all_fit_are_like : (k : Kind) (ds : Slots) → all_fit k ds ≡ true → are_like k ds ≡ true
  all_fit_are_like k no_slots h = refl
  all_fit_are_like k (absent ds) h = all_fit_are_like k ds h
  all_fit_are_like k (present d ds) h = let p = both (fits k d) (all_fit k ds) h in λ i. fit_is_like k d p.0 i && all_fit_are_like k ds p.1 i

-- so a place, and places
pub slot_fit_is_like : (k : Kind) (s : Slot) → slot_fits k s ≡ true → is_slot_like k s ≡ true
slot_fit_is_like k None h = refl
slot_fit_is_like k (Some d) h = fit_is_like k d h

pub slots_fit_are_like : (k : Kind) (xs : List Slot) → slots_fit k xs ≡ true → are_slots_like k xs ≡ true
slots_fit_are_like k [] h = refl
slots_fit_are_like k (x ∷ xs) h = let p = both (slot_fits k x) (slots_fit k xs) h in λ i. slot_fit_is_like k x p.0 i && slots_fit_are_like k xs p.1 i

-- places as the items of a list, and back
pub slots_like : (k : Kind) (xs : List Slot) → are_like k (slots xs) ≡ are_slots_like k xs
slots_like k [] = refl
slots_like k (None ∷ xs) = slots_like k xs
slots_like k (Some d ∷ xs) = ap (λ b. is_like k d && b) (slots_like k xs)

items_like : (k : Kind) (ds : Slots) → are_slots_like k (items ds) ≡ are_like k ds
items_like k no_slots = refl
items_like k (absent ds) = items_like k ds
items_like k (present d ds) = ap (λ b. is_like k d && b) (items_like k ds)

-- what stands at a row
pub at_like : (k : Kind) (xs : List Slot) (i : ℕ) → are_slots_like k xs ≡ true → is_slot_like k (slot_at xs i) ≡ true
at_like k [] i h = refl
at_like k (x ∷ xs) zero h = (both (is_slot_like k x) (are_slots_like k xs) h).0
at_like k (x ∷ xs) (suc i) h = at_like k xs i (both (is_slot_like k x) (are_slots_like k xs) h).1

-- a place like those of the same type
pub as_kind : (i k : Kind) (s : Slot) → i ≡ k → is_slot_like i s ≡ true → is_slot_like k s ≡ true
as_kind i k s e h = subst (λ j. is_slot_like j s ≡ true) e h

-- a comparison is a truth, or a null
compared_like : (f : Datum → Datum → Bool) (a b : Slot) → is_slot_like booleans (compared f a b) ≡ true
compared_like f None b = refl
compared_like f (Some a) None = refl
compared_like f (Some a) (Some b) = refl

-- And of two truths is a truth, or a null
and_like_truths : (p q : Option Bool) → is_slot_like booleans (kleene_and p q) ≡ true
and_like_truths None None = refl
and_like_truths None (Some true) = refl
and_like_truths None (Some false) = refl
and_like_truths (Some false) q = refl
and_like_truths (Some true) None = refl
and_like_truths (Some true) (Some true) = refl
and_like_truths (Some true) (Some false) = refl

-- and so is Or
or_like_truths : (p q : Option Bool) → is_slot_like booleans (kleene_or p q) ≡ true
or_like_truths None None = refl
or_like_truths None (Some true) = refl
or_like_truths None (Some false) = refl
or_like_truths (Some true) q = refl
or_like_truths (Some false) None = refl
or_like_truths (Some false) (Some true) = refl
or_like_truths (Some false) (Some false) = refl

-- what is made of two numbers is a number, or a null
numbers_like : (k : Kind) (f : ℤ → ℤ → Slot) → ((x y : ℤ) → is_integer_kind k ≡ true → is_slot_like k (f x y) ≡ true) → (a b : Slot) → is_slot_like k a ≡ true → is_slot_like k (of_numbers f a b) ≡ true
numbers_like k f g (Some (integer x)) (Some (integer y)) h = g x y h
numbers_like k f g a b h = refl

-- a quotient is a number, or a null
divided_like : (k : Kind) (f : ℤ → ℤ → ℤ) (x y : ℤ) → is_integer_kind k ≡ true → is_slot_like k (divided f k x y) ≡ true
divided_like k f x y h = by (is_zero y)
  where
    by : (b : Bool) → is_slot_like k (cond b None (number_in k (f x y))) ≡ true
    by true = refl
    by false = h

-- a sum is a number, a text or a null, as its left operand
sum_like : (k : Kind) (a b : Slot) → is_slot_like k a ≡ true → is_slot_like k (plus_slot k a b) ≡ true
sum_like k (Some (integer x)) (Some (integer y)) h = h
sum_like k (Some (text x)) (Some (text y)) h = h
sum_like k a b h = refl

-- And is like its operands, and so are Or and Xor
and_like : (k : Kind) (a b : Slot) → is_slot_like k a ≡ true → is_slot_like k (and_slot k a b) ≡ true
and_like booleans a b h = and_like_truths (truth_of a) (truth_of b)
and_like k a b h = numbers_like k _ (λ x y g. g) a b h

or_like : (k : Kind) (a b : Slot) → is_slot_like k a ≡ true → is_slot_like k (or_slot k a b) ≡ true
or_like booleans a b h = or_like_truths (truth_of a) (truth_of b)
or_like k a b h = numbers_like k _ (λ x y g. g) a b h

xor_like : (k : Kind) (a b : Slot) → is_slot_like k a ≡ true → is_slot_like k (xor_slot k a b) ≡ true
xor_like booleans a b h = compared_like _ a b
xor_like k a b h = numbers_like k _ (λ x y g. g) a b h

-- the type that an operator's result has
pub where_kind : (w : Bool) (i k : Kind) → made_kind (kind_where w i) ≡ Some k → i ≡ k
where_kind true i k h = cc
where_kind false i k h = cc

-- a comparison's type is that of truths
pub compared_is : (w v : Bool) (e : PxError) (k : Kind) → made_kind (cond w (Err e) (kind_where v booleans)) ≡ Some k → booleans ≡ k
compared_is true v e k h = cc
compared_is false v e k h = where_kind v booleans k h

-- a type that is made, unless a test holds
unless_is : (w : Bool) (i : Kind) (e : PxError) (k : Kind) → made_kind (cond w (Err e) (Ok i)) ≡ Some k → i ≡ k
unless_is true i e k h = cc
unless_is false i e k h = cc

-- operands of one type
same_is : (w : Bool) (r : Result Kind PxError) (e : PxError) (k : Kind) → made_kind (cond w r (Err e)) ≡ Some k → made_kind r ≡ Some k
same_is true r e k h = h
same_is false r e k h = cc

-- what an operator makes is like the values of its type
pub operated_like : (op : Operator) (i j k : Kind) (a b : Slot) → made_kind (operator_kind op i j) ≡ Some k → is_slot_like i a ≡ true → is_slot_like k (operated i op a b) ≡ true
operated_like Eq i j k a b h x = as_kind booleans k _ (compared_is _ _ _ k h) (compared_like _ a b)
operated_like EqValidity i j k a b h x = as_kind booleans k (operated i EqValidity a b) (compared_is _ _ _ k h) refl
operated_like NotEq i j k a b h x = as_kind booleans k _ (compared_is _ _ _ k h) (compared_like _ a b)
operated_like NotEqValidity i j k a b h x = as_kind booleans k (operated i NotEqValidity a b) (compared_is _ _ _ k h) refl
operated_like Lt i j k a b h x = as_kind booleans k _ (compared_is _ _ _ k h) (compared_like _ a b)
operated_like LtEq i j k a b h x = as_kind booleans k _ (compared_is _ _ _ k h) (compared_like _ a b)
operated_like Gt i j k a b h x = as_kind booleans k _ (compared_is _ _ _ k h) (compared_like _ a b)
operated_like GtEq i j k a b h x = as_kind booleans k _ (compared_is _ _ _ k h) (compared_like _ a b)
operated_like Plus i j k a b h x = as_kind i k _ (where_kind _ i k (same_is (kind_eq i j) _ _ k h)) (sum_like i a b x)
operated_like Minus i j k a b h x = as_kind i k _ (where_kind _ i k (same_is (kind_eq i j) _ _ k h)) (numbers_like i _ (λ x y g. g) a b x)
operated_like Multiply i j k a b h x = as_kind i k _ (where_kind _ i k (same_is (kind_eq i j) _ _ k h)) (numbers_like i _ (λ x y g. g) a b x)
operated_like Divide i j k a b h x = as_kind i k _ (where_kind _ i k (same_is (kind_eq i j) _ _ k h)) (numbers_like i _ (divided_like i _) a b x)
operated_like FloorDivide i j k a b h x = as_kind i k _ (where_kind _ i k (same_is (kind_eq i j) _ _ k h)) (numbers_like i _ (divided_like i _) a b x)
operated_like Modulus i j k a b h x = as_kind i k _ (where_kind _ i k (same_is (kind_eq i j) _ _ k h)) (numbers_like i _ (divided_like i _) a b x)
operated_like And i j k a b h x = as_kind i k _ (where_kind _ i k (same_is (kind_eq i j) _ _ k h)) (and_like i a b x)
operated_like Or i j k a b h x = as_kind i k _ (where_kind _ i k (same_is (kind_eq i j) _ _ k h)) (or_like i a b x)
operated_like Xor i j k a b h x = as_kind i k _ (where_kind _ i k (same_is (kind_eq i j) _ _ k h)) (xor_like i a b x)
operated_like LogicalAnd i j k a b h x = as_kind booleans k _ (where_kind _ booleans k (same_is (kind_eq i j) _ _ k h)) (and_like_truths (truth_of a) (truth_of b))
operated_like LogicalOr i j k a b h x = as_kind booleans k _ (where_kind _ booleans k (same_is (kind_eq i j) _ _ k h)) (or_like_truths (truth_of a) (truth_of b))

-- the second or the third of three
pub chosen_like : (k : Kind) (p a b : Slot) → is_slot_like k a ≡ true → is_slot_like k b ≡ true → is_slot_like k (chosen p a b) ≡ true
chosen_like k (Some (boolean true)) a b h g = h
chosen_like k p a b h g = g

-- the other truth, whether a value lies in an interval, and whether it is one of some are truths, or nulls
pub not_like : (s : Slot) → is_slot_like booleans (not_slot s) ≡ true
not_like (Some (boolean b)) = refl
not_like s = refl

pub between_like : (k : Kind) (closed : ClosedInterval) (s low high : Slot) → is_slot_like booleans (between_slot k closed s low high) ≡ true
between_like k closed s low high = and_like_truths (truth_of (operated k (above closed) s low)) (truth_of (operated k (below closed) s high))

pub in_like : (xs : List Slot) (s : Slot) → is_slot_like booleans (in_slot xs s) ≡ true
in_like xs None = refl
in_like xs (Some d) = refl

-- rows that are moved
slot_from_like : (k : Kind) (xs : List Slot) (z : ℤ) → are_slots_like k xs ≡ true → is_slot_like k (slot_from xs z) ≡ true
slot_from_like k xs (pos i) h = at_like k xs i h
slot_from_like k xs (negsuc i) h = refl

pub shifted_like : (k : Kind) (n : ℤ) (xs : List Slot) → are_slots_like k xs ≡ true → are_slots_like k (shifted n xs) ≡ true
shifted_like k n xs h = all_made (is_slot_like k) _ _ (λ i. slot_from_like k xs (pos i -ℤ n) h)

-- the row that an index names
pub indexed_like : (k : Kind) (xs : List Slot) (s : Slot) → are_slots_like k xs ≡ true → is_slot_like k (indexed xs s) ≡ true
indexed_like k xs (Some (integer z)) h = at_like k xs (row_of_index (length xs) z) h
indexed_like k xs s h = refl

-- what lists hold is like the values of their elements' type
held_like : (k : Kind) (ds : Slots) → are_like k ds ≡ true → are_slots_like k (exploded_items ds) ≡ true
held_like k no_slots h = refl
held_like k (absent ds) h = items_like k (absent ds) ∙ h
held_like k (present d ds) h = items_like k (present d ds) ∙ h

exploded_slot_like : (k : Kind) (s : Slot) → is_slot_like (lists k) s ≡ true → are_slots_like k (exploded_slot s) ≡ true
exploded_slot_like k (Some (list ds)) h = held_like k ds h
exploded_slot_like k s h = refl

pub exploded_like : (j k : Kind) (xs : List Slot) → made_kind (element_kind j) ≡ Some k → are_slots_like j xs ≡ true → are_slots_like k (exploded xs) ≡ true
exploded_like (lists i) k xs h e =
    let same : i ≡ k = cc in
    subst (λ j. are_slots_like j (exploded xs) ≡ true) same (all_flat (is_slot_like i) (is_slot_like (lists i)) exploded_slot xs (exploded_slot_like i) e)
exploded_like j k xs h e = cc

-- the type of a sum is one of integers
number_sum : (j i : Kind) → sum_kind j ≡ Some i → is_integer_kind i ≡ true
number_sum booleans i e = let s : uint32s ≡ i = cc in ap is_integer_kind (sym s)
number_sum int8s i e = let s : int64s ≡ i = cc in ap is_integer_kind (sym s)
number_sum int16s i e = let s : int64s ≡ i = cc in ap is_integer_kind (sym s)
number_sum int32s i e = let s : int32s ≡ i = cc in ap is_integer_kind (sym s)
number_sum int64s i e = let s : int64s ≡ i = cc in ap is_integer_kind (sym s)
number_sum uint8s i e = let s : int64s ≡ i = cc in ap is_integer_kind (sym s)
number_sum uint16s i e = let s : int64s ≡ i = cc in ap is_integer_kind (sym s)
number_sum uint32s i e = let s : uint32s ≡ i = cc in ap is_integer_kind (sym s)
number_sum uint64s i e = let s : uint64s ≡ i = cc in ap is_integer_kind (sym s)
number_sum j i e = cc

summed_like : (o : Option Kind) (k : Kind) (xs : List Slot) → ((i : Kind) → o ≡ Some i → is_integer_kind i ≡ true) → made_kind (kind_there o) ≡ Some k → is_slot_like k (sum_slot o xs) ≡ true
summed_like None k xs g h = cc
summed_like (Some i) k xs g h = let e : i ≡ k = cc in as_kind i k (sum_slot (Some i) xs) e (g i refl)

-- a choice of two values
abbrev Chooses : (Datum → Datum → Datum) → Type 0
Chooses f = (k : Kind) (a b : Datum) → is_like k a ≡ true → is_like k b ≡ true → is_like k (f a b) ≡ true

one_of : (t : Bool) (k : Kind) (a b : Datum) → is_like k a ≡ true → is_like k b ≡ true → is_like k (cond t a b) ≡ true
one_of true k a b p q = p
one_of false k a b p q = q

min_chooses : Chooses (ord_min datum_cmp)
min_chooses k a b p q = one_of (is_lt (datum_cmp b a)) k b a q p

max_chooses : Chooses (ord_max datum_cmp)
max_chooses k a b p q = one_of (is_lt (datum_cmp b a)) k a b p q

fold_like : (k : Kind) (f : Datum → Datum → Datum) → Chooses f → (a : Datum) (xs : List Slot) → is_like k a ≡ true → are_slots_like k xs ≡ true → is_like k (fold f a (values_of xs)) ≡ true
fold_like k f h a [] p q = p
fold_like k f h a (None ∷ xs) p q = fold_like k f h a xs p q
fold_like k f h a (Some b ∷ xs) p q = let r = both (is_like k b) (are_slots_like k xs) q in fold_like k f h (f a b) xs (h k a b p r.0) r.1

best_like : (k : Kind) (f : Datum → Datum → Datum) → Chooses f → (xs : List Slot) → are_slots_like k xs ≡ true → is_slot_like k (reduce f (values_of xs)) ≡ true
best_like k f h [] q = refl
best_like k f h (None ∷ xs) q = best_like k f h xs q
best_like k f h (Some a ∷ xs) q = let r = both (is_like k a) (are_slots_like k xs) q in fold_like k f h a xs r.0 r.1

-- a type that is made
made_is : (i k : Kind) → made_kind (Ok i) ≡ Some k → i ≡ k
made_is i k h = cc

-- a reduction is like the values of its type
pub reduced_like : (m : GroupByMethod) (j k : Kind) (xs : List Slot) → made_kind (reduced_kind m j) ≡ Some k → are_slots_like j xs ≡ true → is_slot_like k (reduced_slot m j xs) ≡ true
reduced_like Min j k xs h e = as_kind j k _ (unless_is (is_list_kind j) j _ k h) (best_like j (ord_min datum_cmp) min_chooses xs e)
reduced_like Max j k xs h e = as_kind j k _ (unless_is (is_list_kind j) j _ k h) (best_like j (ord_max datum_cmp) max_chooses xs e)
reduced_like Sum j k xs h e = summed_like (sum_kind j) k xs (number_sum j) h
reduced_like First j k xs h e = as_kind j k (reduced_slot First j xs) (made_is j k h) (at_like j xs 0 e)
reduced_like Last j k xs h e = as_kind j k (reduced_slot Last j xs) (made_is j k h) (at_like j xs _ e)
reduced_like NUnique j k xs h e = as_kind uint32s k (reduced_slot NUnique j xs) (unless_is (is_list_kind j) uint32s _ k h) refl
reduced_like (Count b) j k xs h e = as_kind uint32s k (reduced_slot (Count b) j xs) (made_is uint32s k h) refl
reduced_like Implode j k xs h e = as_kind (lists j) k (reduced_slot Implode j xs) (made_is (lists j) k h) (slots_like j xs ∙ e)
