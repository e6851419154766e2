-- Sums: of the present values, modulo the result's type.
use Rattle.std.specs.Prelude.{ℕ, ◌^◌, ◌*◌, ℤ, pos, ◌+ℤ◌, ◌≤ℤ◌, neg_ℤ, Bool, true, false, List, Option, Some, None, fold, map}
use Rattle.px_value.specs.Datum.{boolean, integer, Slot}
use Rattle.px_value.specs.Kind.{Kind, booleans, int8s, int16s, int32s, int64s, uint8s, uint16s, uint32s, uint64s}
pub use Rattle.px_operation.specs.Wrap.{wrapped_in as wrapped}

-- what a place adds to a sum: its number, 1 for true, else 0
abbrev pub addend : Slot → ℤ
addend (Some (integer z)) = z
addend (Some (boolean true)) = pos 1
addend _ = pos 0

-- the whole sum of the present values
abbrev pub total : List Slot → ℤ
total xs = fold ◌+ℤ◌ (pos 0) (map addend xs)

-- the type of a sum, where values of the type can be summed: small integers are summed as Int64, truths as UInt32
abbrev pub sum_kind : Kind → Option Kind
sum_kind booleans = Some uint32s
sum_kind int8s = Some int64s
sum_kind int16s = Some int64s
sum_kind int32s = Some int32s
sum_kind int64s = Some int64s
sum_kind uint8s = Some int64s
sum_kind uint16s = Some int64s
sum_kind uint32s = Some uint32s
sum_kind uint64s = Some uint64s
sum_kind _ = None

-- a type that sums have
abbrev pub is_sum_kind : Kind → Bool
is_sum_kind int32s = true
is_sum_kind int64s = true
is_sum_kind uint32s = true
is_sum_kind uint64s = true
is_sum_kind _ = false

-- the absolute value is at most n times 2^64, as that of a sum of n values is
pub record IsWithin (n : ℕ) (z : ℤ) : Type 0 where
  pub low : neg_ℤ (pos (n * 2 ^ 64)) ≤ℤ z
  pub high : z ≤ℤ pos (n * 2 ^ 64)

-- the sum of some places, in the type k of sums
abbrev pub summed : Kind → List Slot → Slot
summed k xs = Some (integer (wrapped k (total xs)))
