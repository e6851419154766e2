-- Groups of operators, and numbers of few enough bits.
use Rattle.std.specs.Prelude.{ℤ, pos, neg_ℤ, ◌≤ℤ◌, ◌<ℤ◌, ◌^◌, Bool, true, false, Some}
use Rattle.px_value.specs.Datum.{integer, Slot}
use Rattle.px_value.specs.Kind.{Kind}
use Rattle.px_operation.specs.Operator.{operated}
use Rattle.px_value.specs.declared.operator.Operator.{Operator}
use Rattle.px_value.specs.declared.operator.Operator.TheVariants.{Plus, Minus, Multiply, Divide, FloorDivide, Modulus, And, Or, Xor}

-- an operator that has a divisor
abbrev pub is_division : Operator → Bool
is_division Divide = true
is_division FloorDivide = true
is_division Modulus = true
is_division _ = false

-- an operator of arithmetic
abbrev pub is_arithmetic : Operator → Bool
is_arithmetic Plus = true
is_arithmetic Minus = true
is_arithmetic Multiply = true
is_arithmetic op = is_division op

-- an operator on truths, or on numbers bit by bit
abbrev pub is_bitwise : Operator → Bool
is_bitwise And = true
is_bitwise Or = true
is_bitwise Xor = true
is_bitwise _ = false

-- what an operator makes of two numbers of a type
abbrev pub operated_numbers : Kind → Operator → ℤ → ℤ → Slot
operated_numbers k op x y = operated k op (Some (integer x)) (Some (integer y))

-- a number of 64 bits, with a sign or without one
pub record IsWord (z : ℤ) : Type 0 where
  pub low : neg_ℤ (pos (2 ^ 63)) ≤ℤ z
  pub high : z <ℤ pos (2 ^ 64)
