-- What contracts see of a value: plain data, with no memory in it.
use Rattle.std.specs.Prelude.{◌≡◌, ℕ, ◌+◌, ℤ, Bool, List, [], ◌∷◌, Option, Some, None, refl}
use Rattle.std.proofs.Common.{ap}

mutual
  -- a value: a truth, a number, a text, bytes, or a list
  pub data Datum : Type 0 where
    boolean : Bool → Datum
    integer : ℤ → Datum
    text : List ℕ → Datum
    bytes : List ℕ → Datum
    list : Slots → Datum

  -- the items of a list: a null is absent, a value is present
  pub data Slots : Type 0 where
    no_slots : Slots
    absent : Slots → Slots
    present : Datum → Slots → Slots

-- one place of a column or a list: a value, or a null
abbrev pub Slot : Type 0
Slot = Option Datum

-- a list of places, as the items of a list value
abbrev pub slots : List Slot → Slots
slots [] = no_slots
slots (None ∷ xs) = absent (slots xs)
slots (Some d ∷ xs) = present d (slots xs)

-- the items of a list value, as a list of places
abbrev pub items : Slots → List Slot
items no_slots = []
items (absent ds) = None ∷ items ds
items (present d ds) = Some d ∷ items ds

-- places made items of a list and read back are the same places
pub items-slots : (xs : List Slot) → items (slots xs) ≡ xs
items-slots [] = refl
items-slots (None ∷ xs) = ap (λ ys. None ∷ ys) (items-slots xs)
items-slots (Some d ∷ xs) = ap (λ ys. Some d ∷ ys) (items-slots xs)

abbrev mutual
  -- how large a value is: each list in it counts
  pub weight : Datum → ℕ
  weight (boolean b) = 0
  weight (integer z) = 0
  weight (text s) = 0
  weight (bytes s) = 0
  weight (list ds) = weights ds + 1

  -- how large the items of a list are together
  pub weights : Slots → ℕ
  weights no_slots = 0
  weights (absent ds) = weights ds
  weights (present d ds) = weight d + weights ds

-- how large what stands at a place is; a null weighs nothing
abbrev pub slot_weight : Slot → ℕ
slot_weight None = 0
slot_weight (Some d) = weight d

-- how large some places are together
abbrev pub list_weight : List Slot → ℕ
list_weight xs = weights (slots xs)
