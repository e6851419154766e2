-- Values of integer types are numbers.
use Rattle.std.proofs.Common.{◌≡◌, Bool, true, false, refl}
use Rattle.px_column.specs.Prelude.{Datum, boolean, integer, text, bytes, list, Kind, booleans, int8s, int16s, int32s, int64s, uint8s, uint16s, uint32s, uint64s, strings, binaries, nulls, lists, fits}
use Rattle.px_tree.specs.Typing.{is_integer_or_null}

-- a number
abbrev pub is_number : Datum → Bool
is_number (integer z) = true
is_number _ = false

-- a type of integers has numbers alone, and the type of nulls no value
pub only_numbers : (k : Kind) (d : Datum) → is_integer_or_null k ≡ true → fits k d ≡ true → is_number d ≡ true
only_numbers k (integer z) h e = refl
only_numbers booleans d h e = absurd (cc)
only_numbers strings d h e = absurd (cc)
only_numbers binaries d h e = absurd (cc)
only_numbers (lists k) d h e = absurd (cc)
only_numbers int8s (boolean b) h e = cc
only_numbers int8s (text s) h e = cc
only_numbers int8s (bytes s) h e = cc
only_numbers int8s (list ds) h e = cc
only_numbers int16s (boolean b) h e = cc
only_numbers int16s (text s) h e = cc
only_numbers int16s (bytes s) h e = cc
only_numbers int16s (list ds) h e = cc
only_numbers int32s (boolean b) h e = cc
only_numbers int32s (text s) h e = cc
only_numbers int32s (bytes s) h e = cc
only_numbers int32s (list ds) h e = cc
only_numbers int64s (boolean b) h e = cc
only_numbers int64s (text s) h e = cc
only_numbers int64s (bytes s) h e = cc
only_numbers int64s (list ds) h e = cc
only_numbers uint8s (boolean b) h e = cc
only_numbers uint8s (text s) h e = cc
only_numbers uint8s (bytes s) h e = cc
only_numbers uint8s (list ds) h e = cc
only_numbers uint16s (boolean b) h e = cc
only_numbers uint16s (text s) h e = cc
only_numbers uint16s (bytes s) h e = cc
only_numbers uint16s (list ds) h e = cc
only_numbers uint32s (boolean b) h e = cc
only_numbers uint32s (text s) h e = cc
only_numbers uint32s (bytes s) h e = cc
only_numbers uint32s (list ds) h e = cc
only_numbers uint64s (boolean b) h e = cc
only_numbers uint64s (text s) h e = cc
only_numbers uint64s (bytes s) h e = cc
only_numbers uint64s (list ds) h e = cc
only_numbers nulls (boolean b) h e = cc
only_numbers nulls (text s) h e = cc
only_numbers nulls (bytes s) h e = cc
only_numbers nulls (list ds) h e = cc
