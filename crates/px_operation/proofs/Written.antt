-- Numbers that texts write, kept in few bits.
use Rattle.std.proofs.Common.{◌≡◌, ◌∙◌, ℕ, zero, suc, length, drop, get_or, add-one, ◌+◌, ◌*◌, ◌-◌, ◌%◌, ◌^◌, ◌<◌, ◌≤◌, Bool, true, false, nat_lt, List, [], ◌∷◌, Option, Some, None, option_map, refl, sym, ap, arith, if◌then◌else◌, ◌&&◌}
use Rattle.std.specs.Char.{digit_value}
use Rattle.std.specs.Char.{is_ascii_digit}
use Rattle.std.specs.Str.{all_ascii_digits}
use Rattle.std.specs.Str.Parse.{digits_value_after}
use Rattle.std.proofs.lemmas.Bool.Decides.{nat_tests}
use Rattle.px_operation.specs.Cast.{natural_of}
use Rattle.px_operation.specs.Written.{folded}

low_again : (n d : ℕ) → 2 ^ 64 ≤ n → ((2 ^ 64 + n % 2 ^ 64) * 10 + d) % 2 ^ 64 ≡ (n * 10 + d) % 2 ^ 64
low_again n d h = omega arith

below_is : (n : ℕ) → n < 2 ^ 64 → folded n ≡ n
below_is n h = grind (arith, nat_tests)

past_is : (n : ℕ) → 2 ^ 64 ≤ n → folded n ≡ 2 ^ 64 + n % 2 ^ 64
past_is n h = grind (arith, nat_tests)

pub fold_step : (n d : ℕ) → folded (folded n * 10 + d) ≡ folded (n * 10 + d)
fold_step n d = by (nat_lt n (2 ^ 64)) refl
  where
    by : (b : Bool) → nat_lt n (2 ^ 64) ≡ b → folded ((if b then n else 2 ^ 64 + n % 2 ^ 64) * 10 + d) ≡ folded (n * 10 + d)
    by true e = refl
    by false e =
        let past : 2 ^ 64 ≤ n = grind (arith, nat_tests) in
        past_is ((2 ^ 64 + n % 2 ^ 64) * 10 + d) (omega arith) ∙ ap (λ m. 2 ^ 64 + m) (low_again n d past) ∙ sym (past_is (n * 10 + d) (omega arith))

folded_again : (n : ℕ) → folded (folded n) ≡ folded n
folded_again n = by (nat_lt n (2 ^ 64)) refl
  where
    by : (b : Bool) → nat_lt n (2 ^ 64) ≡ b → folded (if b then n else 2 ^ 64 + n % 2 ^ 64) ≡ (if b then n else 2 ^ 64 + n % 2 ^ 64)
    by true e = below_is n (grind (arith, nat_tests))
    by false e = past_is (2 ^ 64 + n % 2 ^ 64) (omega arith) ∙ omega arith

pub folded_lt : (n : ℕ) → folded n < 2 ^ 65
folded_lt n = by (nat_lt n (2 ^ 64)) refl
  where
    by : (b : Bool) → nat_lt n (2 ^ 64) ≡ b → (if b then n else 2 ^ 64 + n % 2 ^ 64) < 2 ^ 65
    by true e = grind (arith, nat_tests)
    by false e = omega arith

after_fold : (n : ℕ) (cs : List ℕ) → folded (digits_value_after 10 (folded n) cs) ≡ folded (digits_value_after 10 n cs)
after_fold n [] = folded_again n
after_fold n (c ∷ cs) =
    sym (after_fold (folded n * 10 + digit_value c) cs)
    ∙ ap (λ m. folded (digits_value_after 10 m cs)) (fold_step n (digit_value c))
    ∙ after_fold (n * 10 + digit_value c) cs

-- the number that is read on from these digits, where all are digits
abbrev pub reads : ℕ → List ℕ → Option ℕ
reads n cs = if all_ascii_digits cs then Some (folded (digits_value_after 10 n cs)) else None

-- reading on is not changed by folding
pub reads_fold : (n : ℕ) (cs : List ℕ) → reads (folded n) cs ≡ reads n cs
reads_fold n cs = by (all_ascii_digits cs)
  where
    by : (b : Bool) → (if b then Some (folded (digits_value_after 10 (folded n) cs)) else None) ≡ (if b then Some (folded (digits_value_after 10 n cs)) else None)
    by true = ap Some (after_fold n cs)
    by false = refl

-- the folded number of digits that are there
pub natural_reads : (c : ℕ) (cs : List ℕ) → option_map folded (natural_of (c ∷ cs)) ≡ reads 0 (c ∷ cs)
natural_reads c cs = by (all_ascii_digits (c ∷ cs))
  where
    by : (b : Bool) → option_map folded (if b then Some (digits_value_after 10 0 (c ∷ cs)) else None) ≡ (if b then Some (folded (digits_value_after 10 0 (c ∷ cs))) else None)
    by true = refl
    by false = refl

digit_is : (c : ℕ) → is_ascii_digit c ≡ true → digit_value c ≡ c - 48
digit_is c h = grind (arith, nat_tests)

reads_digit : (n c : ℕ) (cs : List ℕ) → is_ascii_digit c ≡ true → reads n (c ∷ cs) ≡ reads (folded (n * 10 + (c - 48))) cs
reads_digit n c cs h =
    ap (λ (b : Bool). if b && all_ascii_digits cs then Some (folded (digits_value_after 10 (n * 10 + digit_value c) cs)) else None) h
    ∙ ap (λ (d : ℕ). reads (n * 10 + d) cs) (digit_is c h)
    ∙ sym (reads_fold (n * 10 + (c - 48)) cs)

-- one more digit is read
pub reads_at : (n i : ℕ) (xs : List ℕ) → i < length xs → is_ascii_digit (get_or xs i 0) ≡ true → reads n (drop i xs) ≡ reads (folded (n * 10 + (get_or xs i 0 - 48))) (drop (i + 1) xs)
reads_at n i [] h d = absurd (omega arith)
reads_at n zero (x ∷ xs) h d = reads_digit n x xs d
reads_at n (suc i) (x ∷ xs) h d = rw add-one (reads_at n i xs (omega arith) d ∙ rw add-one refl)
