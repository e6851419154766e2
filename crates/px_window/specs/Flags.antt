-- The flags of an evaluation as bits.
use Rattle.std.specs.Prelude.{ℕ, ◌==◌, Bool}
use Rattle.std.specs.Int.RustNames.{bit_and, bit_or}
use Rattle.bitflags.specs.Sets.{without}

-- the bit of each flag
abbrev pub verbose_bit : ℕ
verbose_bit = 1

abbrev pub cache_window_bit : ℕ
cache_window_bit = 2

abbrev pub has_window_bit : ℕ
has_window_bit = 4

abbrev pub in_streaming_bit : ℕ
in_streaming_bit = 8

-- the bits that have a name
abbrev pub known : ℕ → ℕ
known bits = bit_and bits 15

-- whether a flag is among some
abbrev pub is_set : ℕ → ℕ → Bool
is_set flags flag = bit_and flags flag == flag

-- some flags and this one
abbrev pub with_flag : ℕ → ℕ → ℕ
with_flag flags flag = bit_or flags flag

-- some flags but this one
abbrev pub without_flag : ℕ → ℕ → ℕ
without_flag flags flag = without 8 flags flag
