-- What `parse` reads is the number that decimal digits write.
use Rattle.std.proofs.Common.{◌≡◌, ℕ, ◌<◌, ◌^◌, Bool, true, false, List, [], ◌∷◌, refl, arith, nat_lt}
use Rattle.std.specs.Prelude.{Some, Result, Ok, Err, if◌then◌else◌}
use Rattle.std.specs.Result.{OkIff, result_unwrap_or}
use borrow.Author.Tests.{lt-ltb, ltb-true}
use Rattle.std.proofs.lemmas.Str.Parse.{IsNumeralModel, numerals_by_value, tells_all_ascii_digits}
use Rattle.std.specs.Str.{all_ascii_digits}
use Rattle.std.specs.Str.Parse.{IsNumeral, digits_value}
use Rattle.px_column.specs.Cast.{natural_of}
use Rattle.px_value.specs.declared.error.PxError.TheVariants.{ComputeError}
use Rattle.px_value.specs.declared.error.ComputeWhy.TheVariants.{DepthText}
use Rattle.px_conversion.specs.Depth.{numbered_depth_limit}

own : IsNumeralModel (λ ds. all_ascii_digits ds ≡ true) (digits_value 10)
own = numerals_by_value (λ ds. all_ascii_digits ds ≡ true) tells_all_ascii_digits

natural_of_numeral : (ds : List ℕ) → IsNumeral 10 ds → natural_of ds ≡ Some (digits_value 10 ds)
natural_of_numeral [] h = absurd (omega arith)
natural_of_numeral (c ∷ cs) h = let e : all_ascii_digits (c ∷ cs) ≡ true = own.from (c ∷ cs) h.1 in rw e refl

-- a numeral below 2^64 sets a limit
pub numeral_limits : (ds : List ℕ) → IsNumeral 10 ds → digits_value 10 ds < 2 ^ 64 → numbered_depth_limit (natural_of ds) ≡ Ok (if nat_lt (digits_value 10 ds) (2 ^ 16) then digits_value 10 ds else 0)
numeral_limits ds h small = rw (natural_of_numeral ds h, lt-ltb (digits_value 10 ds) (2 ^ 64) small) refl

-- and nothing else does
pub no_numeral_limits : (ds : List ℕ) → (IsNumeral 10 ds × (digits_value 10 ds < 2 ^ 64) → ⊥) → numbered_depth_limit (natural_of ds) ≡ Err (ComputeError DepthText)
no_numeral_limits [] h = refl
no_numeral_limits (c ∷ cs) h = go (all_ascii_digits (c ∷ cs)) (nat_lt (digits_value 10 (c ∷ cs)) (2 ^ 64)) refl refl
  where
    go : (a b : Bool) → all_ascii_digits (c ∷ cs) ≡ a → nat_lt (digits_value 10 (c ∷ cs)) (2 ^ 64) ≡ b → numbered_depth_limit (natural_of (c ∷ cs)) ≡ Err (ComputeError DepthText)
    go false b e f = rw e refl
    go true false e f = rw (e, f) refl
    go true true e f = absurd (h ((omega arith, own.to (c ∷ cs) e), ltb-true _ _ f))

-- a number that 16 bits hold is kept
pub kept_number : {E : Type 0} (n : ℕ) (r : Result ℕ E) → OkIff r (n < 65536) n → result_unwrap_or r 0 ≡ (if nat_lt n (2 ^ 16) then n else 0)
kept_number n (Ok x) h = rw (lt-ltb n (2 ^ 16) h.0) h.1
kept_number n (Err e) h = go (nat_lt n (2 ^ 16)) refl
  where
    go : (b : Bool) → nat_lt n (2 ^ 16) ≡ b → 0 ≡ (if nat_lt n (2 ^ 16) then n else 0)
    go false f = rw f refl
    go true f = absurd (h (ltb-true _ _ f))
