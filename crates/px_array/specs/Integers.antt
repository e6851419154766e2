-- What integers that are lent stand for.
use Rattle.std.specs.Prelude.{ℕ, ◌*◌, ◌^◌, ◌≤◌, ◌<◌, ℤ, pos, neg_ℤ, ◌≤ℤ◌, ◌<ℤ◌, List, length}
use Rattle.px_value.specs.Datum.{Slot}
use Rattle.px_array.specs.Lanes.{int_slot, uint_slot}
use Rattle.px_array.specs.declared.integers.Numbers.{Numbers}
use Rattle.px_array.specs.declared.integers.Numbers.TheVariants.{Signed, Unsigned}

-- what stands at a place: its number where its bit is set, else a null
abbrev pub number_slot : Numbers → List ℕ → ℕ → Slot
number_slot (Signed vs) ws i = int_slot vs.now ws i
number_slot (Unsigned vs) ws i = uint_slot vs.now ws i

-- there are at least n numbers
abbrev pub HasNumbers : Numbers → ℕ → Type 0
HasNumbers (Signed vs) n = n ≤ length vs.now
HasNumbers (Unsigned vs) n = n ≤ length vs.now

-- there are at least n numbers with the bits of their validity
pub record IsLent (numbers : Numbers) (ws : List ℕ) (n : ℕ) : Type 0 where
  pub numbers_there : HasNumbers numbers n
  pub bits : n ≤ 64 * length ws
  pub bound : n < 2 ^ 32

-- a number of 64 bits, with or without a sign
pub record IsNumber (z : ℤ) : Type 0 where
  pub low : neg_ℤ (pos (2 ^ 63)) ≤ℤ z
  pub high : z <ℤ pos (2 ^ 64)
