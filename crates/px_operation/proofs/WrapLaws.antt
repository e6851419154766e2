-- What is left of a number in the bits of a type fits the type.
use Rattle.std.proofs.Common.{◌≡◌, ℕ, suc, ◌*◌, ◌-◌, ◌^◌, ◌<◌, ◌≤◌, ℤ, pos, negsuc, Bool, true, false, cond, nat_lt, refl, arith}
use Rattle.std.proofs.lemmas.Bool.Decides.{nat_tests}
use Rattle.px_value.specs.Datum.{integer}
use Rattle.px_value.specs.Kind.{Kind, booleans, int8s, int16s, int32s, int64s, uint8s, uint16s, uint32s, uint64s, strings, binaries, nulls, lists, fits, is_signed}
use Rattle.px_operation.specs.Operator.{is_integer_kind}
use Rattle.px_operation.specs.Wrap.{low_bits, wrapped_in}

rest_lt : (a d : ℕ) → 0 < d → d - 1 - a < d
rest_lt a d h = omega arith

pub low_bits_lt : (n : ℕ) (z : ℤ) → 0 < 2 ^ n → low_bits n z < 2 ^ n
low_bits_lt n (pos a) h = omega arith
low_bits_lt n (negsuc a) h = omega arith

signed_kept : (n m : ℕ) → m < 2 * n → is_signed n (cond (nat_lt m n) (pos m) (negsuc (2 * n - suc m))) ≡ true
signed_kept n m h = by (nat_lt m n) refl
  where
    by : (b : Bool) → nat_lt m n ≡ b → is_signed n (cond b (pos m) (negsuc (2 * n - suc m))) ≡ true
    by true e = e
    by false e = let le : n ≤ m = grind (arith, nat_tests) in grind (arith, nat_tests)

below : (n m : ℕ) → m < n → nat_lt m n ≡ true
below n m h = grind (arith, nat_tests)

pub fits_wrapped : (k : Kind) (z : ℤ) → is_integer_kind k ≡ true → fits k (integer (wrapped_in k z)) ≡ true
fits_wrapped int8s z h = signed_kept 128 (low_bits 8 z) (low_bits_lt 8 z (omega arith))
fits_wrapped int16s z h = signed_kept 32768 (low_bits 16 z) (low_bits_lt 16 z (omega arith))
fits_wrapped int32s z h = signed_kept 2147483648 (low_bits 32 z) (low_bits_lt 32 z (omega arith))
fits_wrapped int64s z h = signed_kept 9223372036854775808 (low_bits 64 z) (low_bits_lt 64 z (omega arith))
fits_wrapped uint8s z h = below 256 (low_bits 8 z) (low_bits_lt 8 z (omega arith))
fits_wrapped uint16s z h = below 65536 (low_bits 16 z) (low_bits_lt 16 z (omega arith))
fits_wrapped uint32s z h = below 4294967296 (low_bits 32 z) (low_bits_lt 32 z (omega arith))
fits_wrapped uint64s z h = below 18446744073709551616 (low_bits 64 z) (low_bits_lt 64 z (omega arith))
fits_wrapped booleans z h = cc
fits_wrapped strings z h = cc
fits_wrapped binaries z h = cc
fits_wrapped nulls z h = cc
fits_wrapped (lists k) z h = cc
