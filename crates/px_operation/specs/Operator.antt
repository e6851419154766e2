-- Operators: the types that they take, the types of their results, and what they make of two slots.
use Rattle.std.specs.Prelude.{Bool, true, false, not, Result, Ok, Err, ◌||◌, if◌then◌else◌, ℤ, pos, negsuc, neg_ℤ, suc, ◌+ℤ◌, ◌-ℤ◌, ◌*ℤ◌, int_div, ◌++◌, Option, Some, None}
use Rattle.std.specs.Int.{w128, int_bit_and, int_bit_or, int_bit_xor, int_div_euclid}
use Rattle.std.specs.Ordering.{int_eq, is_lt, is_le, is_gt, is_ge}
use Rattle.px_value.specs.Datum.{Datum, boolean, integer, text, Slot}
use Rattle.px_value.specs.Equality.{datum_eq, slot_eq}
use Rattle.px_value.specs.Order.{datum_cmp}
use Rattle.px_operation.specs.Wrap.{wrapped_in}
use Rattle.px_value.specs.Kind.{Kind, booleans, int8s, int16s, int32s, int64s, uint8s, uint16s, uint32s, uint64s, strings, kind_eq, is_list_kind}
use Rattle.px_value.specs.declared.error.PxError.{PxError}
use Rattle.px_value.specs.declared.error.PxError.TheVariants.{InvalidOperation}
use Rattle.px_value.specs.declared.error.InvalidWhy.TheVariants.{ListKey, Types}
use Rattle.px_value.specs.declared.operator.Operator.{Operator}
use Rattle.px_value.specs.declared.operator.Operator.TheVariants.{Eq, EqValidity, NotEq, NotEqValidity, Lt, LtEq, Gt, GtEq, Plus, Minus, Multiply, Divide, FloorDivide, Modulus, And, Or, Xor, LogicalAnd, LogicalOr}

-- a type of integers
abbrev pub is_integer_kind : Kind → Bool
is_integer_kind int8s = true
is_integer_kind int16s = true
is_integer_kind int32s = true
is_integer_kind int64s = true
is_integer_kind uint8s = true
is_integer_kind uint16s = true
is_integer_kind uint32s = true
is_integer_kind uint64s = true
is_integer_kind _ = false

-- the type of truths
abbrev pub is_boolean_kind : Kind → Bool
is_boolean_kind booleans = true
is_boolean_kind _ = false

-- the type of texts
abbrev pub is_string_kind : Kind → Bool
is_string_kind strings = true
is_string_kind _ = false

-- an operator that compares two values
abbrev pub is_comparison : Operator → Bool
is_comparison Eq = true
is_comparison EqValidity = true
is_comparison NotEq = true
is_comparison NotEqValidity = true
is_comparison Lt = true
is_comparison LtEq = true
is_comparison Gt = true
is_comparison GtEq = true
is_comparison _ = false

-- the result's type where the operand's is one that the operator takes, else this refusal
abbrev pub kind_where : Bool → Kind → Result Kind PxError
kind_where true k = Ok k
kind_where false k = Err (InvalidOperation Types)

-- the type of the result on two values of one type
abbrev pub operated_kind : Operator → Kind → Result Kind PxError
operated_kind Plus k = kind_where (is_integer_kind k || is_string_kind k) k
operated_kind Minus k = kind_where (is_integer_kind k) k
operated_kind Multiply k = kind_where (is_integer_kind k) k
operated_kind Divide k = kind_where (is_integer_kind k) k
operated_kind FloorDivide k = kind_where (is_integer_kind k) k
operated_kind Modulus k = kind_where (is_integer_kind k) k
operated_kind And k = kind_where (is_boolean_kind k || is_integer_kind k) k
operated_kind Or k = kind_where (is_boolean_kind k || is_integer_kind k) k
operated_kind Xor k = kind_where (is_boolean_kind k || is_integer_kind k) k
operated_kind LogicalAnd k = kind_where (is_boolean_kind k || is_integer_kind k) booleans
operated_kind LogicalOr k = kind_where (is_boolean_kind k || is_integer_kind k) booleans
operated_kind _ k = Ok booleans

-- the type of the result: no comparison takes a list, and both operands have one type
abbrev pub operator_kind : Operator → Kind → Kind → Result Kind PxError
operator_kind op a b =
    if is_comparison op then
    (if is_list_kind a || is_list_kind b then Err (InvalidOperation ListKey) else kind_where (kind_eq a b) booleans)
    else
    (if kind_eq a b then operated_kind op a else Err (InvalidOperation Types))

-- a truth at a place
abbrev pub truth : Bool → Slot
truth b = Some (boolean b)

-- what f says of two values; null where one is missing
abbrev pub compared : (Datum → Datum → Bool) → Slot → Slot → Slot
compared f (Some a) (Some b) = truth (f a b)
compared f _ _ = None

-- what f makes of two numbers; null where one is missing
abbrev pub of_numbers : (ℤ → ℤ → Slot) → Slot → Slot → Slot
of_numbers f (Some (integer x)) (Some (integer y)) = f x y
of_numbers f _ _ = None

-- a number as a value of an integer type, in which it wraps
abbrev pub number_in : Kind → ℤ → Slot
number_in k z = Some (integer (wrapped_in k z))

-- a number is zero
abbrev pub is_zero : ℤ → Bool
is_zero z = int_eq z (pos 0)

-- what f makes of a number and a divisor; null for a divisor of zero
abbrev pub divided : (ℤ → ℤ → ℤ) → Kind → ℤ → ℤ → Slot
divided f k x y = if is_zero y then None else number_in k (f x y)

-- the quotient toward minus infinity, with both signs turned for a negative divisor
abbrev pub floor_div : ℤ → ℤ → ℤ
floor_div x (pos n) = int_div_euclid x (pos n)
floor_div x (negsuc n) = int_div_euclid (neg_ℤ x) (pos (suc n))

-- what the floored quotient leaves, with the divisor's sign
abbrev pub floor_rem : ℤ → ℤ → ℤ
floor_rem x y = x -ℤ (y *ℤ floor_div x y)

-- whether a value is true, or not zero
abbrev pub truth_of : Slot → Option Bool
truth_of (Some (boolean b)) = Some b
truth_of (Some (integer z)) = Some (not (is_zero z))
truth_of _ = None

-- And of truths that may be missing: false decides, and else a missing one leaves it open
abbrev pub kleene_and : Option Bool → Option Bool → Slot
kleene_and (Some false) _ = truth false
kleene_and _ (Some false) = truth false
kleene_and (Some true) (Some true) = truth true
kleene_and _ _ = None

-- Or of truths that may be missing: true decides, and else a missing one leaves it open
abbrev pub kleene_or : Option Bool → Option Bool → Slot
kleene_or (Some true) _ = truth true
kleene_or _ (Some true) = truth true
kleene_or (Some false) (Some false) = truth false
kleene_or _ _ = None

-- the sum of two numbers, or one text followed by the other
abbrev pub plus_slot : Kind → Slot → Slot → Slot
plus_slot k (Some (text s)) (Some (text t)) = Some (text (s ++ t))
plus_slot k a b = of_numbers (λ x y. number_in k (x +ℤ y)) a b

-- And of truths that may be missing, or of numbers bit by bit in two's complement
abbrev pub and_slot : Kind → Slot → Slot → Slot
and_slot booleans a b = kleene_and (truth_of a) (truth_of b)
and_slot k a b = of_numbers (λ x y. number_in k (int_bit_and w128 x y)) a b

-- Or of truths that may be missing, or of numbers bit by bit in two's complement
abbrev pub or_slot : Kind → Slot → Slot → Slot
or_slot booleans a b = kleene_or (truth_of a) (truth_of b)
or_slot k a b = of_numbers (λ x y. number_in k (int_bit_or w128 x y)) a b

-- Xor of truths, null where one is missing, or of numbers bit by bit in two's complement
abbrev pub xor_slot : Kind → Slot → Slot → Slot
xor_slot booleans a b = compared (λ x y. not (datum_eq x y)) a b
xor_slot k a b = of_numbers (λ x y. number_in k (int_bit_xor w128 x y)) a b

-- the value on two slots of a type
abbrev pub operated : Kind → Operator → Slot → Slot → Slot
operated k Eq a b = compared datum_eq a b
operated k EqValidity a b = truth (slot_eq a b)
operated k NotEq a b = compared (λ x y. not (datum_eq x y)) a b
operated k NotEqValidity a b = truth (not (slot_eq a b))
operated k Lt a b = compared (λ x y. is_lt (datum_cmp x y)) a b
operated k LtEq a b = compared (λ x y. is_le (datum_cmp x y)) a b
operated k Gt a b = compared (λ x y. is_gt (datum_cmp x y)) a b
operated k GtEq a b = compared (λ x y. is_ge (datum_cmp x y)) a b
operated k Plus a b = plus_slot k a b
operated k Minus a b = of_numbers (λ x y. number_in k (x -ℤ y)) a b
operated k Multiply a b = of_numbers (λ x y. number_in k (x *ℤ y)) a b
operated k Divide a b = of_numbers (divided int_div k) a b
operated k FloorDivide a b = of_numbers (divided floor_div k) a b
operated k Modulus a b = of_numbers (divided floor_rem k) a b
operated k And a b = and_slot k a b
operated k Or a b = or_slot k a b
operated k Xor a b = xor_slot k a b
operated k LogicalAnd a b = kleene_and (truth_of a) (truth_of b)
operated k LogicalOr a b = kleene_or (truth_of a) (truth_of b)
