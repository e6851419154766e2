-- What operators make of small values: nulls, both signs of a division, both ends of a type.
use Rattle.std.specs.Prelude.{◌≡◌, [], ◌∷◌, codes}
use Rattle.px_value.specs.Kind.{booleans, int8s, int64s, uint8s, uint64s, strings, binaries}
use Rattle.px_operation.specs.Operator.{operated}
use Rattle.px_value.specs.Rows.{num, neg, yes, no, gone, text_of, bytes_of}
use Rattle.px_value.specs.declared.operator.Operator.TheVariants.{Eq, EqValidity, NotEq, NotEqValidity, Lt, LtEq, Gt, GtEq, Plus, Minus, Multiply, Divide, FloorDivide, Modulus, And, Or, Xor, LogicalAnd, LogicalOr}

-- comparisons: of the same and of other values, of nulls, of texts and bytes
pub record ComparisonRows : Type 0 where
  pub eq : operated int64s Eq (num 3) (num 3) ≡ yes
  pub eq_differs : operated int64s Eq (num 3) (neg 3) ≡ no
  pub eq_null : operated int64s Eq (num 3) gone ≡ gone
  pub eq_nulls : operated int64s Eq gone gone ≡ gone
  pub not_eq : operated int64s NotEq (num 3) (num 4) ≡ yes
  pub not_eq_same : operated int64s NotEq (num 3) (num 3) ≡ no
  pub not_eq_null : operated int64s NotEq gone (num 3) ≡ gone
  pub validity : operated int64s EqValidity (num 3) (num 3) ≡ yes
  pub validity_null : operated int64s EqValidity (num 3) gone ≡ no
  pub validity_nulls : operated int64s EqValidity gone gone ≡ yes
  pub not_validity_null : operated int64s NotEqValidity gone (num 3) ≡ yes
  pub not_validity_nulls : operated int64s NotEqValidity gone gone ≡ no
  pub lt : operated int64s Lt (neg 4) (neg 3) ≡ yes
  pub lt_same : operated int64s Lt (num 3) (num 3) ≡ no
  pub lt_null : operated int64s Lt gone (num 3) ≡ gone
  pub lt_eq_same : operated int64s LtEq (num 3) (num 3) ≡ yes
  pub lt_eq_greater : operated int64s LtEq (num 4) (num 3) ≡ no
  pub gt : operated int64s Gt (num 0) (neg 1) ≡ yes
  pub gt_same : operated int64s Gt (num 3) (num 3) ≡ no
  pub gt_eq_same : operated int64s GtEq (num 3) (num 3) ≡ yes
  pub gt_eq_less : operated int64s GtEq (num 2) (num 3) ≡ no
  pub false_first : operated booleans Lt no yes ≡ yes
  pub texts : operated strings Lt (text_of (codes "ab")) (text_of (codes "b")) ≡ yes
  pub front_first : operated strings Lt (text_of (codes "a")) (text_of (codes "ab")) ≡ yes
  pub bytes : operated binaries Gt (bytes_of (200 ∷ [])) (bytes_of (127 ∷ 255 ∷ [])) ≡ yes

-- sums, products, quotients and remainders: past both ends of a type, both signs, by zero, of nulls
pub record ArithmeticRows : Type 0 where
  pub plus : operated int64s Plus (num 2) (neg 5) ≡ neg 3
  pub plus_null : operated int64s Plus (num 2) gone ≡ gone
  pub plus_past : operated int64s Plus (num 9223372036854775807) (num 1) ≡ neg 9223372036854775808
  pub plus_past_unsigned : operated uint8s Plus (num 200) (num 100) ≡ num 44
  pub plus_texts : operated strings Plus (text_of (codes "ab")) (text_of (codes "c")) ≡ text_of (codes "abc")
  pub plus_text_null : operated strings Plus gone (text_of (codes "c")) ≡ gone
  pub minus : operated int64s Minus (num 2) (num 5) ≡ neg 3
  pub minus_below : operated int8s Minus (neg 128) (num 1) ≡ num 127
  pub minus_below_unsigned : operated uint64s Minus (num 0) (num 1) ≡ num 18446744073709551615
  pub times : operated int64s Multiply (neg 4) (num 5) ≡ neg 20
  pub times_past : operated int8s Multiply (num 100) (num 3) ≡ num 44
  pub times_greatest : operated uint64s Multiply (num 18446744073709551615) (num 18446744073709551615) ≡ num 1
  pub quotient : operated int64s Divide (num 7) (num 3) ≡ num 2
  pub quotient_of_negative : operated int64s Divide (neg 7) (num 3) ≡ neg 2
  pub quotient_by_negative : operated int64s Divide (num 7) (neg 3) ≡ neg 2
  pub quotient_of_negatives : operated int64s Divide (neg 7) (neg 3) ≡ num 2
  pub quotient_by_zero : operated int64s Divide (num 7) (num 0) ≡ gone
  pub quotient_null : operated int64s Divide gone (num 0) ≡ gone
  pub quotient_wraps : operated int64s Divide (neg 9223372036854775808) (neg 1) ≡ neg 9223372036854775808
  pub floor : operated int64s FloorDivide (num 7) (num 3) ≡ num 2
  pub floor_of_negative : operated int64s FloorDivide (neg 7) (num 3) ≡ neg 3
  pub floor_by_negative : operated int64s FloorDivide (num 7) (neg 3) ≡ neg 3
  pub floor_of_negatives : operated int64s FloorDivide (neg 7) (neg 3) ≡ num 2
  pub floor_exact : operated int64s FloorDivide (neg 6) (num 3) ≡ neg 2
  pub floor_by_zero : operated int64s FloorDivide (neg 7) (num 0) ≡ gone
  pub floor_wraps : operated int8s FloorDivide (neg 128) (neg 1) ≡ neg 128
  pub rest : operated int64s Modulus (num 7) (num 3) ≡ num 1
  pub rest_of_negative : operated int64s Modulus (neg 7) (num 3) ≡ num 2
  pub rest_by_negative : operated int64s Modulus (num 7) (neg 3) ≡ neg 2
  pub rest_of_negatives : operated int64s Modulus (neg 7) (neg 3) ≡ neg 1
  pub rest_exact : operated int64s Modulus (neg 6) (num 3) ≡ num 0
  pub rest_by_zero : operated int64s Modulus (num 7) (num 0) ≡ gone
  pub rest_of_least : operated int8s Modulus (neg 128) (neg 1) ≡ num 0

-- And, Or and Xor: of truths and nulls, and of numbers bit by bit
pub record LogicRows : Type 0 where
  pub and : operated booleans And yes yes ≡ yes
  pub and_no : operated booleans And yes no ≡ no
  pub and_no_null : operated booleans And no gone ≡ no
  pub and_null_no : operated booleans And gone no ≡ no
  pub and_null_yes : operated booleans And gone yes ≡ gone
  pub and_nulls : operated booleans And gone gone ≡ gone
  pub or : operated booleans Or no no ≡ no
  pub or_yes : operated booleans Or no yes ≡ yes
  pub or_yes_null : operated booleans Or yes gone ≡ yes
  pub or_null_yes : operated booleans Or gone yes ≡ yes
  pub or_null_no : operated booleans Or gone no ≡ gone
  pub or_nulls : operated booleans Or gone gone ≡ gone
  pub xor : operated booleans Xor yes no ≡ yes
  pub xor_same : operated booleans Xor yes yes ≡ no
  pub xor_null : operated booleans Xor no gone ≡ gone
  pub and_bits : operated int64s And (num 12) (num 10) ≡ num 8
  pub and_bits_negative : operated int64s And (neg 1) (num 10) ≡ num 10
  pub and_bits_null : operated int64s And (num 0) gone ≡ gone
  pub or_bits : operated int64s Or (num 12) (num 10) ≡ num 14
  pub or_bits_negative : operated int8s Or (neg 128) (num 1) ≡ neg 127
  pub or_bits_unsigned : operated uint64s Or (num 9223372036854775808) (num 1) ≡ num 9223372036854775809
  pub xor_bits : operated int64s Xor (num 12) (num 10) ≡ num 6
  pub xor_bits_negative : operated int64s Xor (neg 1) (num 10) ≡ neg 11
  pub xor_bits_null : operated int64s Xor gone (num 10) ≡ gone
  pub logical_and : operated int64s LogicalAnd (num 2) (neg 4) ≡ yes
  pub logical_and_zero : operated int64s LogicalAnd (num 0) gone ≡ no
  pub logical_and_null : operated int64s LogicalAnd (num 2) gone ≡ gone
  pub logical_and_truths : operated booleans LogicalAnd yes no ≡ no
  pub logical_or : operated int64s LogicalOr (num 0) (num 4) ≡ yes
  pub logical_or_zeros : operated int64s LogicalOr (num 0) (num 0) ≡ no
  pub logical_or_null : operated int64s LogicalOr (num 0) gone ≡ gone
  pub logical_or_truths : operated booleans LogicalOr gone yes ≡ yes

-- all the small cases of operators
pub record OperatorRows : Type 0 where
  pub comparisons : ComparisonRows
  pub arithmetic : ArithmeticRows
  pub logic : LogicRows
