-- The integer that a number's text writes.
use Rattle.std.proofs.Common.{◌≡◌, ℕ, zero, suc, int_lt, ◌^◌, ◌<◌, ◌≤◌, ◌==◌, ℤ, pos, List, drop, get_or, true, false, Some, option_and_then, FitsSigned, w64, refl, sym, ap, ◌∙◌, arith, lt-ltb, le-leb}
use Rattle.fast_float.specs.Text.{Parts, IsInteger, digits_of, scan, with_sign}
use Rattle.serde_json.specs.Data.{negative, unsigned}
use Rattle.serde_json.specs.Find.{as_integer}
use Rattle.serde_json.specs.Read.{is_integer, number_from, number_of}

is_integer_of : (p : Parts) → IsInteger p → is_integer p ≡ true
is_integer_of p h = rw (lt-ltb _ _ h.0, h.1, h.2) refl

-- digits alone write an integer
pub unsigned_of : (s : List ℕ) (n : ℕ) → (get_or s 0 0 == 45) ≡ false → IsInteger (scan s) → digits_of (scan s) < 2 ^ 64 → n ≡ digits_of (scan s) → option_and_then as_integer (number_of s) ≡ Some (pos n)
unfolding number_of
unsigned_of s n sign is less e =
    let read : number_of s ≡ number_from false (scan s) = rw sign refl in
    let whole : number_from false (scan s) ≡ Some (unsigned (digits_of (scan s))) = rw (is_integer_of (scan s) is, lt-ltb _ _ less) refl in
    ap (option_and_then as_integer) (read ∙ whole) ∙ ap (λ m. Some (pos m)) (sym e)

-- digits behind a minus write an integer below zero, unless they are zero
pub negative_of : (s : List ℕ) (z : ℤ) → (get_or s 0 0 == 45) ≡ true → IsInteger (scan (drop 1 s)) → 0 < digits_of (scan (drop 1 s)) → digits_of (scan (drop 1 s)) ≤ 2 ^ 63
    → z ≡ with_sign true (digits_of (scan (drop 1 s))) → option_and_then as_integer (number_of s) ≡ Some z
unfolding number_of
negative_of s z sign is some less e =
    let p = scan (drop 1 s) in
    let read : number_of s ≡ number_from true p = rw sign refl in
    let whole : number_from true p ≡ Some (negative (with_sign true (digits_of p))) = rw (is_integer_of p is, lt-ltb _ _ some, le-leb _ _ less) refl in
    ap (option_and_then as_integer) (read ∙ whole) ∙ ap Some (sym e)

-- what is below zero behind a minus is no zero
pub below_zero : (n : ℕ) → int_lt (with_sign true n) (pos 0) ≡ true → 0 < n
below_zero zero h = absurd (cc)
below_zero (suc n) h = omega arith

-- what fits 64 bits behind a minus is at most 2^63
pub fits_size : (n : ℕ) → FitsSigned w64 (with_sign true n) → n ≤ 2 ^ 63
fits_size zero h = omega arith
fits_size (suc n) h = grind arith
