-- What the inside of an array stands for.
use Rattle.std.specs.Prelude.{ℕ, ◌+◌, ◌^◌, ◌≤◌, ◌<◌, List, Some, map}
use Rattle.std.specs.List.{range_with_len}
use Rattle.px_value.specs.Datum.{Slot, list, slots}
use Rattle.px_value.specs.Kind.{Kind}
use Rattle.px_value.specs.Series.{IsColumn}
use Rattle.px_value.specs.View.{slot_of}
use Rattle.px_array.specs.Lanes.{Holds, IsFor, IsWords, lane_slot}
use Rattle.px_array.specs.declared.array.Inner.{Inner}
use Rattle.px_array.specs.declared.array.Inner.TheVariants.{Shared, Constant, SameList}
use Rattle.px_array.specs.declared.lanes.Lanes.{Lanes}

-- n values, with the bits of their validity
pub record IsStored (f : Lanes) (ws : List ℕ) (n : ℕ) : Type 0 where
  pub holds : Holds f n
  pub words : IsWords ws n

-- the places of some values
abbrev pub stored : Lanes → List ℕ → ℕ → List Slot
stored f ws n = map (lane_slot f ws) (range_with_len 0 n)

-- n values of the type, whose places fit it
pub record IsBuilt (kind : Kind) (f : Lanes) (ws : List ℕ) (n : ℕ) : Type 0 where
  pub for_kind : IsFor kind f
  pub store : IsStored f ws n
  pub column : IsColumn kind (stored f ws n)

-- what stands at a place
abbrev pub inner_slot : Inner → ℕ → Slot
inner_slot (Shared s) i = lane_slot s.value.lanes s.value.valid.items i
inner_slot (Constant x) i = slot_of x
inner_slot (SameList xs) i = Some (list (slots xs.value))

-- each place below n is there
abbrev pub Covers : Inner → ℕ → Type 0
Covers (Shared s) n = (n ≤ s.value.len) × IsStored s.value.lanes s.value.valid.items s.value.len
Covers (Constant x) n = Unit {0}
Covers (SameList xs) n = Unit {0}

-- the places of a window
abbrev pub window : Inner → ℕ → ℕ → List Slot
window x first len = map (inner_slot x) (range_with_len first len)

-- the window is there, and its places fit the type
pub record IsInside (kind : Kind) (x : Inner) (first len : ℕ) : Type 0 where
  pub bound : first + len < 2 ^ 32
  pub covers : Covers x (first + len)
  pub column : IsColumn kind (window x first len)
