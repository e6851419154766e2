-- Numbers of few bits that no cast tells from the numbers that a text writes.
use Rattle.std.specs.Prelude.{ℕ, suc, ◌+◌, ◌%◌, ◌^◌, ℤ, pos, negsuc, neg_ℤ, nat_lt, if◌then◌else◌}

-- the number itself below 2^64, else 2^64 and its 64 low bits
abbrev pub folded : ℕ → ℕ
folded n = if nat_lt n (2 ^ 64) then n else 2 ^ 64 + n % 2 ^ 64

-- the same of a number with a sign
abbrev pub folded_number : ℤ → ℤ
folded_number (pos n) = pos (folded n)
folded_number (negsuc n) = neg_ℤ (pos (folded (suc n)))
