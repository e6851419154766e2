-- What an operator makes of two slots of a type fits the type of its result.
use Rattle.std.proofs.Common.{◌≡◌, ◌||◌, if◌then◌else◌, ℤ, ◌+ℤ◌, ◌-ℤ◌, ◌*ℤ◌, int_div, ◌++◌, ℕ, List, Bool, true, false, not, Option, Some, None, Result, Ok, Err, refl, subst}
use Rattle.px_value.specs.Datum.{Datum, boolean, integer, text, bytes, list, Slot}
use Rattle.px_value.specs.Kind.{Kind, booleans, int8s, int16s, int32s, int64s, uint8s, uint16s, uint32s, uint64s, strings, binaries, nulls, lists, fits, slot_fits, kind_eq, is_list_kind}
use Rattle.px_operation.specs.Operator.{is_integer_kind, is_boolean_kind, is_string_kind, kind_where, operator_kind, compared, of_numbers, number_in, is_zero, divided, floor_div, floor_rem, truth_of, kleene_and, kleene_or, plus_slot, and_slot, or_slot, xor_slot, operated}
use Rattle.std.specs.Int.{w128, int_bit_and, int_bit_or, int_bit_xor}
use Rattle.std.specs.Ordering.{is_lt, is_le, is_gt, is_ge}
use Rattle.px_value.specs.Equality.{datum_eq}
use Rattle.px_value.specs.Order.{datum_cmp}
use Rattle.px_operation.proofs.WrapLaws.{fits_wrapped}
use Rattle.px_value.specs.declared.error.PxError.{PxError}
use Rattle.px_value.specs.declared.error.PxError.TheVariants.{InvalidOperation}
use Rattle.px_value.specs.declared.error.InvalidWhy.TheVariants.{ListKey, Types}
use Rattle.px_value.specs.declared.operator.Operator.{Operator}
use Rattle.px_value.specs.declared.operator.Operator.TheVariants.{Eq, EqValidity, NotEq, NotEqValidity, Lt, LtEq, Gt, GtEq, Plus, Minus, Multiply, Divide, FloorDivide, Modulus, And, Or, Xor, LogicalAnd, LogicalOr}

-- numbers fit types of integers alone
pub integer_kind : (k : Kind) (z : ℤ) → fits k (integer z) ≡ true → is_integer_kind k ≡ true
integer_kind booleans z h = cc
integer_kind int8s z h = refl
integer_kind int16s z h = refl
integer_kind int32s z h = refl
integer_kind int64s z h = refl
integer_kind uint8s z h = refl
integer_kind uint16s z h = refl
integer_kind uint32s z h = refl
integer_kind uint64s z h = refl
integer_kind strings z h = cc
integer_kind binaries z h = cc
integer_kind nulls z h = cc
integer_kind (lists k) z h = cc

-- where one text fits, each does
fits_text : (k : Kind) (s t : List ℕ) → fits k (text s) ≡ true → fits k (text t) ≡ true
fits_text booleans s t h = h
fits_text int8s s t h = h
fits_text int16s s t h = h
fits_text int32s s t h = h
fits_text int64s s t h = h
fits_text uint8s s t h = h
fits_text uint16s s t h = h
fits_text uint32s s t h = h
fits_text uint64s s t h = h
fits_text strings s t h = h
fits_text binaries s t h = h
fits_text nulls s t h = h
fits_text (lists k) s t h = h

fits_compared : (f : Datum → Datum → Bool) (a b : Slot) → slot_fits booleans (compared f a b) ≡ true
fits_compared f (Some a) (Some b) = refl
fits_compared f (Some a) None = refl
fits_compared f None b = refl

fits_kleene_and : (a b : Option Bool) → slot_fits booleans (kleene_and a b) ≡ true
fits_kleene_and (Some false) b = refl
fits_kleene_and (Some true) (Some false) = refl
fits_kleene_and (Some true) (Some true) = refl
fits_kleene_and (Some true) None = refl
fits_kleene_and None (Some false) = refl
fits_kleene_and None (Some true) = refl
fits_kleene_and None None = refl

fits_kleene_or : (a b : Option Bool) → slot_fits booleans (kleene_or a b) ≡ true
fits_kleene_or (Some true) b = refl
fits_kleene_or (Some false) (Some true) = refl
fits_kleene_or (Some false) (Some false) = refl
fits_kleene_or (Some false) None = refl
fits_kleene_or None (Some true) = refl
fits_kleene_or None (Some false) = refl
fits_kleene_or None None = refl

fits_numbers : (k : Kind) (f : ℤ → ℤ → Slot) (a b : Slot) → ((x y : ℤ) → slot_fits k (f x y) ≡ true) → slot_fits k (of_numbers f a b) ≡ true
fits_numbers k f (Some (integer x)) (Some (integer y)) h = h x y
fits_numbers k f (Some (integer x)) (Some (boolean d)) h = refl
fits_numbers k f (Some (integer x)) (Some (text d)) h = refl
fits_numbers k f (Some (integer x)) (Some (bytes d)) h = refl
fits_numbers k f (Some (integer x)) (Some (list d)) h = refl
fits_numbers k f (Some (integer x)) None h = refl
fits_numbers k f (Some (boolean d)) b h = refl
fits_numbers k f (Some (text d)) b h = refl
fits_numbers k f (Some (bytes d)) b h = refl
fits_numbers k f (Some (list d)) b h = refl
fits_numbers k f None b h = refl

-- numbers in a type of integers
fits_in : (k : Kind) (f : ℤ → ℤ → ℤ) (a b : Slot) → is_integer_kind k ≡ true → slot_fits k (of_numbers (λ x y. number_in k (f x y)) a b) ≡ true
fits_in k f a b h = fits_numbers k (λ x y. number_in k (f x y)) a b (λ x y. fits_wrapped k (f x y) h)

fits_divided : (k : Kind) (f : ℤ → ℤ → ℤ) (a b : Slot) → is_integer_kind k ≡ true → slot_fits k (of_numbers (divided f k) a b) ≡ true
fits_divided k f a b h = fits_numbers k (divided f k) a b (λ x y. by x y (is_zero y))
  where
    by : (x y : ℤ) (z : Bool) → slot_fits k (if z then None else number_in k (f x y)) ≡ true
    by x y true = refl
    by x y false = fits_wrapped k (f x y) h

fits_sum : (k : Kind) (a b : Slot) → slot_fits k a ≡ true → slot_fits k (plus_slot k a b) ≡ true
fits_sum k (Some (text s)) (Some (text t)) h = fits_text k s (s ++ t) h
fits_sum k (Some (text s)) (Some (boolean d)) h = refl
fits_sum k (Some (text s)) (Some (integer d)) h = refl
fits_sum k (Some (text s)) (Some (bytes d)) h = refl
fits_sum k (Some (text s)) (Some (list d)) h = refl
fits_sum k (Some (text s)) None h = refl
fits_sum k (Some (integer x)) b h = fits_in k ◌+ℤ◌ (Some (integer x)) b (integer_kind k x h)
fits_sum k (Some (boolean d)) b h = refl
fits_sum k (Some (bytes d)) b h = refl
fits_sum k (Some (list d)) b h = refl
fits_sum k None b h = refl

-- the three operators on truths, or on numbers bit by bit
record LogicFits (k : Kind) (a b : Slot) : Type 0 where
  both : slot_fits k (and_slot k a b) ≡ true
  either : slot_fits k (or_slot k a b) ≡ true
  one : slot_fits k (xor_slot k a b) ≡ true

fits_logic : (k : Kind) (a b : Slot) → (is_boolean_kind k || is_integer_kind k) ≡ true → LogicFits k a b
fits_logic booleans a b h = record {
  both = fits_kleene_and (truth_of a) (truth_of b);
  either = fits_kleene_or (truth_of a) (truth_of b);
  one = fits_compared (λ x y. not (datum_eq x y)) a b;
}
fits_logic int8s a b h = record {
  both = fits_in int8s (int_bit_and w128) a b refl;
  either = fits_in int8s (int_bit_or w128) a b refl;
  one = fits_in int8s (int_bit_xor w128) a b refl;
}
fits_logic int16s a b h = record {
  both = fits_in int16s (int_bit_and w128) a b refl;
  either = fits_in int16s (int_bit_or w128) a b refl;
  one = fits_in int16s (int_bit_xor w128) a b refl;
}
fits_logic int32s a b h = record {
  both = fits_in int32s (int_bit_and w128) a b refl;
  either = fits_in int32s (int_bit_or w128) a b refl;
  one = fits_in int32s (int_bit_xor w128) a b refl;
}
fits_logic int64s a b h = record {
  both = fits_in int64s (int_bit_and w128) a b refl;
  either = fits_in int64s (int_bit_or w128) a b refl;
  one = fits_in int64s (int_bit_xor w128) a b refl;
}
fits_logic uint8s a b h = record {
  both = fits_in uint8s (int_bit_and w128) a b refl;
  either = fits_in uint8s (int_bit_or w128) a b refl;
  one = fits_in uint8s (int_bit_xor w128) a b refl;
}
fits_logic uint16s a b h = record {
  both = fits_in uint16s (int_bit_and w128) a b refl;
  either = fits_in uint16s (int_bit_or w128) a b refl;
  one = fits_in uint16s (int_bit_xor w128) a b refl;
}
fits_logic uint32s a b h = record {
  both = fits_in uint32s (int_bit_and w128) a b refl;
  either = fits_in uint32s (int_bit_or w128) a b refl;
  one = fits_in uint32s (int_bit_xor w128) a b refl;
}
fits_logic uint64s a b h = record {
  both = fits_in uint64s (int_bit_and w128) a b refl;
  either = fits_in uint64s (int_bit_or w128) a b refl;
  one = fits_in uint64s (int_bit_xor w128) a b refl;
}
fits_logic strings a b h = cc
fits_logic binaries a b h = cc
fits_logic nulls a b h = cc
fits_logic (lists k) a b h = cc

-- what is known where an operator takes a type
where_true : (p : Bool) (k r : Kind) → kind_where p k ≡ Ok r → (p ≡ true) × (k ≡ r)
where_true true k r h = (refl, cc)
where_true false k r h = cc

comparison_kind : (l p : Bool) (r : Kind) (e : PxError) → (if l then Err e else kind_where p booleans) ≡ Ok r → booleans ≡ r
comparison_kind true p r e h = cc
comparison_kind false p r e h = (where_true p booleans r h).1

same_kind : (p : Bool) (k : Result Kind PxError) (r : Kind) (e : PxError) → (if p then k else Err e) ≡ Ok r → k ≡ Ok r
same_kind true k r e h = h
same_kind false k r e h = cc

-- the same of a type that is equal
along : (k r : Kind) (s : Slot) → k ≡ r → slot_fits k s ≡ true → slot_fits r s ≡ true
along k r s e h = subst (λ (q : Kind). slot_fits q s ≡ true) e h

fits_comparison : (k r : Kind) (s : Slot) → (if is_list_kind k || is_list_kind k then Err (InvalidOperation ListKey) else kind_where (kind_eq k k) booleans) ≡ Ok r → slot_fits booleans s ≡ true → slot_fits r s ≡ true
fits_comparison k r s h t = along booleans r s (comparison_kind (is_list_kind k || is_list_kind k) (kind_eq k k) r (InvalidOperation ListKey) h) t

fits_where : (k q r : Kind) (p : Bool) (s : Slot) → (if kind_eq k k then kind_where p q else Err (InvalidOperation Types)) ≡ Ok r → (p ≡ true → slot_fits q s ≡ true) → slot_fits r s ≡ true
fits_where k q r p s h t =
    let w : (p ≡ true) × (q ≡ r) = where_true p q r (same_kind (kind_eq k k) (kind_where p q) r (InvalidOperation Types) h) in
    along q r s w.1 (t w.0)

pub fits_operated : (k r : Kind) (op : Operator) (a b : Slot) → slot_fits k a ≡ true → slot_fits k b ≡ true → operator_kind op k k ≡ Ok r → slot_fits r (operated k op a b) ≡ true
fits_operated k r Eq a b f g h = fits_comparison k r (operated k Eq a b) h (fits_compared datum_eq a b)
fits_operated k r NotEq a b f g h = fits_comparison k r (operated k NotEq a b) h (fits_compared (λ x y. not (datum_eq x y)) a b)
fits_operated k r Lt a b f g h = fits_comparison k r (operated k Lt a b) h (fits_compared (λ x y. is_lt (datum_cmp x y)) a b)
fits_operated k r LtEq a b f g h = fits_comparison k r (operated k LtEq a b) h (fits_compared (λ x y. is_le (datum_cmp x y)) a b)
fits_operated k r Gt a b f g h = fits_comparison k r (operated k Gt a b) h (fits_compared (λ x y. is_gt (datum_cmp x y)) a b)
fits_operated k r GtEq a b f g h = fits_comparison k r (operated k GtEq a b) h (fits_compared (λ x y. is_ge (datum_cmp x y)) a b)
fits_operated k r EqValidity a b f g h = fits_comparison k r (operated k EqValidity a b) h refl
fits_operated k r NotEqValidity a b f g h = fits_comparison k r (operated k NotEqValidity a b) h refl
fits_operated k r Plus a b f g h = fits_where k k r (is_integer_kind k || is_string_kind k) (operated k Plus a b) h (λ t. fits_sum k a b f)
fits_operated k r Minus a b f g h = fits_where k k r (is_integer_kind k) (operated k Minus a b) h (λ t. fits_in k ◌-ℤ◌ a b t)
fits_operated k r Multiply a b f g h = fits_where k k r (is_integer_kind k) (operated k Multiply a b) h (λ t. fits_in k ◌*ℤ◌ a b t)
fits_operated k r Divide a b f g h = fits_where k k r (is_integer_kind k) (operated k Divide a b) h (λ t. fits_divided k int_div a b t)
fits_operated k r FloorDivide a b f g h = fits_where k k r (is_integer_kind k) (operated k FloorDivide a b) h (λ t. fits_divided k floor_div a b t)
fits_operated k r Modulus a b f g h = fits_where k k r (is_integer_kind k) (operated k Modulus a b) h (λ t. fits_divided k floor_rem a b t)
fits_operated k r And a b f g h = fits_where k k r (is_boolean_kind k || is_integer_kind k) (operated k And a b) h (λ t. (fits_logic k a b t).both)
fits_operated k r Or a b f g h = fits_where k k r (is_boolean_kind k || is_integer_kind k) (operated k Or a b) h (λ t. (fits_logic k a b t).either)
fits_operated k r Xor a b f g h = fits_where k k r (is_boolean_kind k || is_integer_kind k) (operated k Xor a b) h (λ t. (fits_logic k a b t).one)
fits_operated k r LogicalAnd a b f g h = fits_where k booleans r (is_boolean_kind k || is_integer_kind k) (operated k LogicalAnd a b) h (λ t. fits_kleene_and (truth_of a) (truth_of b))
fits_operated k r LogicalOr a b f g h = fits_where k booleans r (is_boolean_kind k || is_integer_kind k) (operated k LogicalOr a b) h (λ t. fits_kleene_or (truth_of a) (truth_of b))
