-- What values of one type stand for, place by place.
use Rattle.std.specs.Prelude.{◌≡◌, ℕ, ◌*◌, ◌≤◌, ℤ, pos, Bool, true, false, if◌then◌else◌, List, Some, None, length, slice_get, slice_index, slice_index_or}
use Rattle.std.specs.Option.{option_map}
use Rattle.px_value.specs.Datum.{Datum, Slot, boolean, integer, text, bytes, list, slots}
use Rattle.px_value.specs.Kind.{Kind, booleans, int8s, int16s, int32s, int64s, uint8s, uint16s, uint32s, uint64s, strings, binaries, nulls, lists}
use Rattle.px_array.specs.Words.{word_bit}
use Rattle.px_array.specs.declared.lanes.Lanes.{Lanes}
use Rattle.px_array.specs.declared.lanes.Lanes.TheVariants.{Ints, UInts, Bools, Texts, Bytes, Lists, Nulls}

-- a signed number where the bit of the place is set
abbrev pub int_slot : List ℤ → List ℕ → ℕ → Slot
int_slot vs ws i = if word_bit ws i then Some (integer (slice_index_or vs i (pos 0))) else None

-- an unsigned number where the bit of the place is set
abbrev pub uint_slot : List ℕ → List ℕ → ℕ → Slot
uint_slot vs ws i = if word_bit ws i then Some (integer (pos (slice_index vs i))) else None

-- a truth where the bit of the place is set
abbrev pub bool_slot : List ℕ → List ℕ → ℕ → Slot
bool_slot vs ws i = if word_bit ws i then Some (boolean (word_bit vs i)) else None

-- a text where the bit of the place is set
abbrev pub text_slot : List (List ℕ) → List ℕ → ℕ → Slot
text_slot vs ws i = if word_bit ws i then option_map text (slice_get vs i) else None

-- bytes where the bit of the place is set
abbrev pub bytes_slot : List (List ℕ) → List ℕ → ℕ → Slot
bytes_slot vs ws i = if word_bit ws i then option_map bytes (slice_get vs i) else None

-- a list where the bit of the place is set
abbrev pub list_slot : List (List Slot) → List ℕ → ℕ → Slot
list_slot vs ws i = if word_bit ws i then option_map (λ xs. list (slots xs)) (slice_get vs i) else None

-- what stands at a place: its value where its bit is set, else a null
abbrev pub lane_slot : Lanes → List ℕ → ℕ → Slot
lane_slot (Ints v) ws i = int_slot v.items ws i
lane_slot (UInts v) ws i = uint_slot v.items ws i
lane_slot (Bools v) ws i = bool_slot v.items ws i
lane_slot (Texts v) ws i = text_slot v.items ws i
lane_slot (Bytes v) ws i = bytes_slot v.items ws i
lane_slot (Lists v) ws i = list_slot v.items ws i
lane_slot Nulls ws i = None

-- there is room for n bits, and no bit is set past them
pub record IsWords (ws : List ℕ) (n : ℕ) : Type 0 where
  pub room : n ≤ 64 * length ws
  pub clear : (k : ℕ) → n ≤ k → word_bit ws k ≡ false

-- there are n values
abbrev pub Holds : Lanes → ℕ → Type 0
Holds (Ints v) n = length v.items ≡ n
Holds (UInts v) n = length v.items ≡ n
Holds (Bools v) n = IsWords v.items n
Holds (Texts v) n = length v.items ≡ n
Holds (Bytes v) n = length v.items ≡ n
Holds (Lists v) n = length v.items ≡ n
Holds Nulls n = Unit {0}

-- there are at least n values
abbrev pub Reaches : Lanes → ℕ → Type 0
Reaches (Ints v) n = n ≤ length v.items
Reaches (UInts v) n = n ≤ length v.items
Reaches (Bools v) n = n ≤ 64 * length v.items
Reaches (Texts v) n = n ≤ length v.items
Reaches (Bytes v) n = n ≤ length v.items
Reaches (Lists v) n = n ≤ length v.items
Reaches Nulls n = Unit {0}

-- the types of signed numbers
abbrev pub IsSigned : Kind → Type 0
IsSigned int8s = Unit {0}
IsSigned int16s = Unit {0}
IsSigned int32s = Unit {0}
IsSigned int64s = Unit {0}
IsSigned _ = ⊥

-- the types of unsigned numbers
abbrev pub IsUnsigned : Kind → Type 0
IsUnsigned uint8s = Unit {0}
IsUnsigned uint16s = Unit {0}
IsUnsigned uint32s = Unit {0}
IsUnsigned uint64s = Unit {0}
IsUnsigned _ = ⊥

-- the values of a type
abbrev pub IsFor : Kind → Lanes → Type 0
IsFor k (Ints v) = IsSigned k
IsFor k (UInts v) = IsUnsigned k
IsFor booleans (Bools v) = Unit {0}
IsFor strings (Texts v) = Unit {0}
IsFor binaries (Bytes v) = Unit {0}
IsFor (lists k) (Lists v) = Unit {0}
IsFor nulls Nulls = Unit {0}
IsFor _ _ = ⊥

-- a null, or this value
abbrev pub IsNullOr : Slot → Datum → Type 0
IsNullOr None d = Unit {0}
IsNullOr (Some e) d = e ≡ d

-- the values are not nulls alone
abbrev pub has_values : Lanes → Bool
has_values Nulls = false
has_values _ = true
