-- No cast tells the folded number from the number itself.
use Rattle.std.proofs.Common.{◌≡◌, ◌∙◌, ℕ, suc, ◌+◌, ◌-◌, ◌*◌, ◌%◌, ◌^◌, ◌<◌, ◌≤◌, ℤ, pos, negsuc, neg_ℤ, Bool, true, false, nat_lt, Option, Some, None, option_map, Ok, List, refl, sym, ap, lit<, lit≤, arith, if◌then◌else◌}
use Rattle.std.specs.Prelude.{unsigned_abs}
use Rattle.std.specs.Int.{w8, w16, w32, w64, int_rem_euclid, cast_signed}
use Rattle.std.proofs.lemmas.Bool.Decides.{nat_tests}
use Rattle.std.proofs.lemmas.Int.{ints}
use Rattle.px_value.specs.Datum.{integer}
use Rattle.px_value.specs.Kind.{Kind, booleans, int8s, int16s, int32s, int64s, uint8s, uint16s, uint32s, uint64s, strings, binaries, nulls, lists, is_signed, is_unsigned}
use Rattle.px_value.specs.declared.cast_options.CastOptions.{CastOptions}
use Rattle.px_operation.proofs.Numbers.{low_of_low}
use Rattle.px_operation.specs.Cast.{lost, number_cast, number_written, text_cast, written_cast}
use Rattle.px_operation.specs.Operator.{is_integer_kind}
use Rattle.px_operation.specs.Wrap.{low_bits, wrapped_in, is_in_range}
use Rattle.px_operation.specs.Written.{folded, folded_number}

-- the low bits of the negative of a number that is not zero
low_neg : (m k : ℕ) → m ≡ suc k → low_bits 64 (neg_ℤ (pos m)) ≡ 2 ^ 64 - 1 - k % 2 ^ 64
low_neg m k e = ap (λ j. low_bits 64 (neg_ℤ (pos j))) e

rest_neg : (n : ℕ) → (2 ^ 64 - 1 + suc n % 2 ^ 64) % 2 ^ 64 ≡ n % 2 ^ 64
rest_neg n = omega arith

low_64 : (z : ℤ) → low_bits 64 (folded_number z) ≡ low_bits 64 z
low_64 (pos n) = by (nat_lt n (2 ^ 64))
  where
    by : (b : Bool) → low_bits 64 (pos (if b then n else 2 ^ 64 + n % 2 ^ 64)) ≡ low_bits 64 (pos n)
    by true = refl
    by false = omega (arith, ints)
low_64 (negsuc n) = by (nat_lt (suc n) (2 ^ 64))
  where
    by : (b : Bool) → low_bits 64 (neg_ℤ (pos (if b then suc n else 2 ^ 64 + suc n % 2 ^ 64))) ≡ low_bits 64 (negsuc n)
    by true = refl
    by false = low_neg (2 ^ 64 + suc n % 2 ^ 64) (2 ^ 64 - 1 + suc n % 2 ^ 64) (omega arith) ∙ ap (λ j. 2 ^ 64 - 1 - j) (rest_neg n)

-- fewer low bits
low_same : (z : ℤ) (d c : ℕ) → 0 < d → c * d ≡ 2 ^ 64 → unsigned_abs (int_rem_euclid (folded_number z) (pos d)) ≡ unsigned_abs (int_rem_euclid z (pos d))
low_same z d c h e = sym (low_of_low (folded_number z) d c (2 ^ 64) h (lit< tt) e) ∙ ap (λ n. n % d) (low_64 z) ∙ low_of_low z d c (2 ^ 64) h (lit< tt) e

wrapped_same : (k : Kind) (z : ℤ) → is_integer_kind k ≡ true → wrapped_in k (folded_number z) ≡ wrapped_in k z
wrapped_same int8s z h = ap (cast_signed w8) (low_same z (2 ^ 8) (2 ^ 56) (lit< tt) refl)
wrapped_same int16s z h = ap (cast_signed w16) (low_same z (2 ^ 16) (2 ^ 48) (lit< tt) refl)
wrapped_same int32s z h = ap (cast_signed w32) (low_same z (2 ^ 32) (2 ^ 32) (lit< tt) refl)
wrapped_same int64s z h = ap (cast_signed w64) (low_64 z)
wrapped_same uint8s z h = ap pos (low_same z (2 ^ 8) (2 ^ 56) (lit< tt) refl)
wrapped_same uint16s z h = ap pos (low_same z (2 ^ 16) (2 ^ 48) (lit< tt) refl)
wrapped_same uint32s z h = ap pos (low_same z (2 ^ 32) (2 ^ 32) (lit< tt) refl)
wrapped_same uint64s z h = ap pos (low_64 z)
wrapped_same booleans z h = cc
wrapped_same strings z h = cc
wrapped_same binaries z h = cc
wrapped_same nulls z h = cc
wrapped_same (lists k) z h = cc

-- a number and the folded one are both in a range, and are then one number, or both are not
record Alike (inside : ℤ → Bool) (z : ℤ) : Type 0 where
  range : inside (folded_number z) ≡ inside z
  kept : inside z ≡ true → folded_number z ≡ z

alike_natural : (m n : ℕ) → m ≤ 2 ^ 64 → Alike (is_unsigned m) (pos n)
alike_natural m n h = by (nat_lt n (2 ^ 64)) refl
  where
    by : (b : Bool) → nat_lt n (2 ^ 64) ≡ b → Alike (is_unsigned m) (pos n)
    by true e = let same : folded n ≡ n = rw e refl in record { range = ap (λ j. nat_lt j m) same; kept = λ f. ap pos same }
    by false e =
        let past : folded n ≡ 2 ^ 64 + n % 2 ^ 64 = rw e refl in
        let out : nat_lt n m ≡ false = grind (arith, nat_tests) in
        let far : nat_lt (2 ^ 64 + n % 2 ^ 64) m ≡ false = grind (arith, nat_tests) in
        record { range = ap (λ j. nat_lt j m) past ∙ far ∙ sym out; kept = λ f. cc }

alike_unsigned : (m : ℕ) (z : ℤ) → m ≤ 2 ^ 64 → Alike (is_unsigned m) z
alike_unsigned m (pos n) h = alike_natural m n h
alike_unsigned m (negsuc n) h = by (nat_lt (suc n) (2 ^ 64))
  where
    past : (j k : ℕ) → j ≡ suc k → is_unsigned m (neg_ℤ (pos j)) ≡ false
    past j k e = ap (λ i. is_unsigned m (neg_ℤ (pos i))) e

    outside : (b : Bool) → is_unsigned m (neg_ℤ (pos (if b then suc n else 2 ^ 64 + suc n % 2 ^ 64))) ≡ false
    outside true = refl
    outside false = past (2 ^ 64 + suc n % 2 ^ 64) (2 ^ 64 - 1 + suc n % 2 ^ 64) (omega arith)

    by : (b : Bool) → Alike (is_unsigned m) (negsuc n)
    by b = record { range = outside (nat_lt (suc n) (2 ^ 64)); kept = λ f. cc }

alike_signed : (m : ℕ) (z : ℤ) → m ≤ 2 ^ 63 → Alike (is_signed m) z
alike_signed m (pos n) h = let u = alike_natural m n (omega arith) in record { range = u.range; kept = u.kept }
alike_signed m (negsuc n) h = by (nat_lt (suc n) (2 ^ 64)) refl
  where
    past : (k : ℕ) → 2 ^ 64 + suc n % 2 ^ 64 ≡ suc k → nat_lt (suc n) (2 ^ 64) ≡ false → is_signed m (neg_ℤ (pos (2 ^ 64 + suc n % 2 ^ 64))) ≡ nat_lt n m
    past k e f = ap (λ j. is_signed m (neg_ℤ (pos j))) e ∙ grind (arith, nat_tests)

    by : (b : Bool) → nat_lt (suc n) (2 ^ 64) ≡ b → Alike (is_signed m) (negsuc n)
    by true e = let same : folded (suc n) ≡ suc n = rw e refl in record { range = ap (λ j. is_signed m (neg_ℤ (pos j))) same; kept = λ f. ap (λ j. neg_ℤ (pos j)) same }
    by false e =
        let far : folded (suc n) ≡ 2 ^ 64 + suc n % 2 ^ 64 = rw e refl in
        let out : nat_lt n m ≡ false = grind (arith, nat_tests) in
        record { range = ap (λ j. is_signed m (neg_ℤ (pos j))) far ∙ past (2 ^ 64 - 1 + suc n % 2 ^ 64) (omega arith) e; kept = λ f. cc }

alike : (k : Kind) (z : ℤ) → Alike (is_in_range k) z
alike int8s z = let a = alike_signed 128 z (lit≤ tt) in record { range = a.range; kept = a.kept }
alike int16s z = let a = alike_signed 32768 z (lit≤ tt) in record { range = a.range; kept = a.kept }
alike int32s z = let a = alike_signed 2147483648 z (lit≤ tt) in record { range = a.range; kept = a.kept }
alike int64s z = let a = alike_signed 9223372036854775808 z (lit≤ tt) in record { range = a.range; kept = a.kept }
alike uint8s z = let a = alike_unsigned 256 z (lit≤ tt) in record { range = a.range; kept = a.kept }
alike uint16s z = let a = alike_unsigned 65536 z (lit≤ tt) in record { range = a.range; kept = a.kept }
alike uint32s z = let a = alike_unsigned 4294967296 z (lit≤ tt) in record { range = a.range; kept = a.kept }
alike uint64s z = let a = alike_unsigned 18446744073709551616 z (lit≤ tt) in record { range = a.range; kept = a.kept }
alike booleans z = record { range = refl; kept = λ f. cc }
alike strings z = record { range = refl; kept = λ f. cc }
alike binaries z = record { range = refl; kept = λ f. cc }
alike nulls z = record { range = refl; kept = λ f. cc }
alike (lists k) z = record { range = refl; kept = λ f. cc }

number_cast_same : (k : Kind) (o : CastOptions) (z : ℤ) → is_integer_kind k ≡ true → number_cast k o (folded_number z) ≡ number_cast k o z
number_cast_same k o z h =
    ap (λ (b : Bool). if b then Ok (Some (integer (folded_number z))) else lost o (Some (integer (wrapped_in k (folded_number z))))) (alike k z).range ∙ by (is_in_range k z) refl
  where
    by : (b : Bool) → is_in_range k z ≡ b → (if b then Ok (Some (integer (folded_number z))) else lost o (Some (integer (wrapped_in k (folded_number z))))) ≡ (if b then Ok (Some (integer z)) else lost o (Some (integer (wrapped_in k z))))
    by true e = ap (λ (y : ℤ). Ok (Some (integer y))) ((alike k z).kept e)
    by false e = ap (λ (y : ℤ). lost o (Some (integer y))) (wrapped_same k z h)

written_cast_same : (k : Kind) (o : CastOptions) (w : Option ℤ) → is_integer_kind k ≡ true → written_cast k o (option_map folded_number w) ≡ written_cast k o w
written_cast_same k o None h = refl
written_cast_same k o (Some z) h = number_cast_same k o z h

-- a text that is cast to integers
pub text_cast_is : (k : Kind) (o : CastOptions) (s : List ℕ) → is_integer_kind k ≡ true → written_cast k o (option_map folded_number (number_written s)) ≡ text_cast k o s
text_cast_is int8s o s h = written_cast_same int8s o (number_written s) h
text_cast_is int16s o s h = written_cast_same int16s o (number_written s) h
text_cast_is int32s o s h = written_cast_same int32s o (number_written s) h
text_cast_is int64s o s h = written_cast_same int64s o (number_written s) h
text_cast_is uint8s o s h = written_cast_same uint8s o (number_written s) h
text_cast_is uint16s o s h = written_cast_same uint16s o (number_written s) h
text_cast_is uint32s o s h = written_cast_same uint32s o (number_written s) h
text_cast_is uint64s o s h = written_cast_same uint64s o (number_written s) h
text_cast_is booleans o s h = cc
text_cast_is strings o s h = cc
text_cast_is binaries o s h = cc
text_cast_is nulls o s h = cc
text_cast_is (lists k) o s h = cc
