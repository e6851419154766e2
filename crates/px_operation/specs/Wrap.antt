-- What is left of a number in the bits of an integer type.
use Rattle.std.specs.Prelude.{ℕ, ◌^◌, ℤ, pos, Bool, unsigned_abs}
use Rattle.std.specs.Int.{w8, w16, w32, w64, int_rem_euclid, cast_signed}
use Rattle.px_value.specs.Datum.{integer}
use Rattle.px_value.specs.Kind.{Kind, int8s, int16s, int32s, int64s, uint8s, uint16s, uint32s, uint64s, fits}

-- the number below 2 to the given power that differs from z by a multiple of it
abbrev pub low_bits : ℕ → ℤ → ℕ
low_bits n z = unsigned_abs (int_rem_euclid z (pos (2 ^ n)))

-- a number modulo two to the bits of an integer type, read in that type; of no other type is anything left out
abbrev pub wrapped_in : Kind → ℤ → ℤ
wrapped_in int8s z = cast_signed w8 (low_bits 8 z)
wrapped_in int16s z = cast_signed w16 (low_bits 16 z)
wrapped_in int32s z = cast_signed w32 (low_bits 32 z)
wrapped_in int64s z = cast_signed w64 (low_bits 64 z)
wrapped_in uint8s z = pos (low_bits 8 z)
wrapped_in uint16s z = pos (low_bits 16 z)
wrapped_in uint32s z = pos (low_bits 32 z)
wrapped_in uint64s z = pos (low_bits 64 z)
wrapped_in _ z = z

-- whether a number is one of the type's
abbrev pub is_in_range : Kind → ℤ → Bool
is_in_range k z = fits k (integer z)
