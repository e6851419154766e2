-- Whether two values are the same.
use Rattle.std.specs.Prelude.{◌==◌, ◌&&◌, Bool, true, false, List, Some, None}
use lib.Pointwise.{pointwise}
use Rattle.std.specs.Ordering.{int_eq}
use Rattle.px_value.specs.Datum.{Datum, boolean, integer, text, bytes, list, Slots, no_slots, absent, present, Slot, slots}

-- the same truth
abbrev pub bool_eq : Bool → Bool → Bool
bool_eq true b = b
bool_eq false true = false
bool_eq false false = true

abbrev mutual
  -- values of one kind with the same content
  pub datum_eq : Datum → Datum → Bool
  datum_eq (boolean a) (boolean b) = bool_eq a b
  datum_eq (integer a) (integer b) = int_eq a b
  datum_eq (text a) (text b) = pointwise ◌==◌ a b
  datum_eq (bytes a) (bytes b) = pointwise ◌==◌ a b
  datum_eq (list a) (list b) = slots_eq a b
  datum_eq _ _ = false

  -- as many places, each the same
  pub slots_eq : Slots → Slots → Bool
  slots_eq no_slots no_slots = true
  slots_eq (absent a) (absent b) = slots_eq a b
  slots_eq (present c a) (present d b) = datum_eq c d && slots_eq a b
  slots_eq _ _ = false

-- a null is the same as a null and nothing else
abbrev pub slot_eq : Slot → Slot → Bool
slot_eq None None = true
slot_eq (Some c) (Some d) = datum_eq c d
slot_eq _ _ = false

-- two rows of columns are the same place by place
abbrev pub row_eq : List Slot → List Slot → Bool
row_eq a b = slots_eq (slots a) (slots b)
