-- Which offsets and lengths a slice takes.
use Rattle.std.specs.Prelude.{◌^◌, ℤ, pos, neg_ℤ, ◌≤ℤ◌, Option, Some, None}

-- a number from -2^64 to 2^64
pub record IsOffset (z : ℤ) : Type 0 where
  pub low : neg_ℤ (pos (2 ^ 64)) ≤ℤ z
  pub high : z ≤ℤ pos (2 ^ 64)

-- no limit, or a number from 0 to 2^64
abbrev pub IsLimit : Option ℤ → Type 0
IsLimit None = Unit {0}
IsLimit (Some z) = (pos 0 ≤ℤ z) × (z ≤ℤ pos (2 ^ 64))
