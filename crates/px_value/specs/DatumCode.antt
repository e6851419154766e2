-- The code by which the logic keeps values, and tells one from another.
use Rattle.std.specs.Prelude.{◌≡◌, ℕ, ℤ, pos, negsuc, Bool, true, false, List, [], ◌∷◌, refl}
use Rattle.std.proofs.Common.{sym, ◌∙◌, ap}
use Rattle.std.specs.Coded.{Coded, coded_list, coded_option}
use base.Stored.{Gv, gnil, gnum, gcons}
use Rattle.px_value.specs.Datum.{Datum, boolean, integer, text, bytes, list, Slots, no_slots, absent, present, Slot}

-- the code of a number: its sign, and then its size
abbrev pub int_code : ℤ → Gv
int_code (pos n) = gcons gnil (gnum n)
int_code (negsuc n) = gcons (gnum 0) (gnum n)

-- the number that a code holds, 0 where it holds none
abbrev pub number_back : Gv → ℕ
number_back gnil = 0
number_back (gnum n) = n
number_back (gcons a b) = 0

-- the number, with its sign, that a code stands for
abbrev pub int_back : Gv → ℤ
int_back gnil = pos 0
int_back (gnum n) = pos 0
int_back (gcons gnil b) = pos (number_back b)
int_back (gcons (gnum n) b) = negsuc (number_back b)
int_back (gcons (gcons c d) b) = pos 0

-- a number, coded and read back, is the same number
pub int_round : (z : ℤ) → int_back (int_code z) ≡ z
int_round (pos n) = refl
int_round (negsuc n) = refl

-- the code of a truth
abbrev pub bool_code : Bool → Gv
bool_code true = gnil
bool_code false = gnum 0

-- the truth that a code stands for
abbrev pub bool_back : Gv → Bool
bool_back gnil = true
bool_back (gnum n) = false
bool_back (gcons a b) = false

-- a truth, coded and read back, is the same truth
pub bool_round : (b : Bool) → bool_back (bool_code b) ≡ b
bool_round true = refl
bool_round false = refl

-- the code of bytes, one after another
abbrev pub bytes_code : List ℕ → Gv
bytes_code [] = gnil
bytes_code (x ∷ xs) = gcons (gnum x) (bytes_code xs)

-- the bytes that a code stands for
abbrev pub bytes_back : Gv → List ℕ
bytes_back gnil = []
bytes_back (gnum n) = []
bytes_back (gcons a b) = number_back a ∷ bytes_back b

-- bytes, coded and read back, are the same bytes
pub bytes_round : (xs : List ℕ) → bytes_back (bytes_code xs) ≡ xs
bytes_round [] = refl
bytes_round (x ∷ xs) = ap (λ ys. x ∷ ys) (bytes_round xs)

abbrev mutual
  -- the code of a value: a mark of its kind, and then its content
  pub datum_code : Datum → Gv
  datum_code (boolean b) = gcons gnil (bool_code b)
  datum_code (integer z) = gcons (gnum 0) (int_code z)
  datum_code (text s) = gcons (gcons gnil gnil) (bytes_code s)
  datum_code (bytes s) = gcons (gcons (gnum 0) gnil) (bytes_code s)
  datum_code (list ds) = gcons (gcons (gcons gnil gnil) gnil) (slots_code ds)

  -- the code of a list's items, each a null or a value
  pub slots_code : Slots → Gv
  slots_code no_slots = gnil
  slots_code (absent ds) = gcons gnil (slots_code ds)
  slots_code (present d ds) = gcons (gcons gnil (datum_code d)) (slots_code ds)

abbrev mutual
  -- the value that a code stands for
  pub datum_back : Gv → Datum
  datum_back gnil = boolean false
  datum_back (gnum n) = boolean false
  datum_back (gcons gnil b) = boolean (bool_back b)
  datum_back (gcons (gnum n) b) = integer (int_back b)
  datum_back (gcons (gcons gnil c) b) = text (bytes_back b)
  datum_back (gcons (gcons (gnum n) c) b) = bytes (bytes_back b)
  datum_back (gcons (gcons (gcons d e) c) b) = list (slots_back b)

  -- the items of a list that a code stands for
  pub slots_back : Gv → Slots
  slots_back gnil = no_slots
  slots_back (gnum n) = no_slots
  slots_back (gcons gnil b) = absent (slots_back b)
  slots_back (gcons (gnum n) b) = no_slots
  slots_back (gcons (gcons a c) b) = present (datum_back c) (slots_back b)

mutual
  -- a value, coded and read back, is the same value
  pub datum_round : (d : Datum) → datum_back (datum_code d) ≡ d
  datum_round (boolean b) = ap boolean (bool_round b)
  datum_round (integer z) = ap integer (int_round z)
  datum_round (text s) = ap text (bytes_round s)
  datum_round (bytes s) = ap bytes (bytes_round s)
  datum_round (list ds) = ap list (slots_round ds)

  -- the items of a list, coded and read back, are the same items
  pub slots_round : (ds : Slots) → slots_back (slots_code ds) ≡ ds
  slots_round no_slots = refl
  slots_round (absent ds) = ap absent (slots_round ds)
  slots_round (present d ds) = λ i. present (datum_round d i) (slots_round ds i)

-- values are told apart by their codes
abbrev pub coded_datum : Coded Datum
coded_datum = record { code = datum_code; inj = λ x y p. sym (datum_round x) ∙ ap datum_back p ∙ datum_round y }

-- lists of places are told apart by their codes
abbrev pub coded_slots : Coded (List Slot)
coded_slots = coded_list (coded_option coded_datum)
