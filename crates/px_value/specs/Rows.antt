-- Slots of which the tables of small cases speak.
use Rattle.std.specs.Prelude.{ℕ, pos, neg_ℤ, true, false, List, Some, None}
use Rattle.px_value.specs.Datum.{boolean, integer, text, bytes, list, Slot, slots}

-- a number
abbrev pub num : ℕ → Slot
num n = Some (integer (pos n))

-- the negative of a number
abbrev pub neg : ℕ → Slot
neg n = Some (integer (neg_ℤ (pos n)))

-- true
abbrev pub yes : Slot
yes = Some (boolean true)

-- false
abbrev pub no : Slot
no = Some (boolean false)

-- no value
abbrev pub gone : Slot
gone = None

-- a list of these places
abbrev pub list_slot : List Slot → Slot
list_slot xs = Some (list (slots xs))

-- a text
abbrev pub text_of : List ℕ → Slot
text_of s = Some (text s)

-- bytes
abbrev pub bytes_of : List ℕ → Slot
bytes_of s = Some (bytes s)
