-- Functions of a slot, and of a column's slots.
use Rattle.std.specs.Prelude.{ℕ, ◌-◌, min, ℤ, pos, negsuc, ◌+ℤ◌, ◌-ℤ◌, not, List, [], ◌∷◌, Option, Some, None, length, map, filter, flat_map, take, drop, is_some, is_none}
use Rattle.std.specs.List.{list_any, range_with_len}
use Rattle.px_value.specs.Datum.{boolean, list, Slots, no_slots, Slot, items}
use Rattle.px_value.specs.Equality.{slot_eq}
use Rattle.px_value.specs.Kind.{Kind, booleans}
use Rattle.px_operation.specs.Operator.{truth, operated}
use Rattle.px_value.specs.Series.{slot_at}
use Rattle.px_value.specs.declared.closed_interval.ClosedInterval.{ClosedInterval}
use Rattle.px_value.specs.declared.closed_interval.ClosedInterval.TheVariants as ends
use Rattle.px_value.specs.declared.operator.Operator.{Operator}
use Rattle.px_value.specs.declared.operator.Operator.TheVariants.{Lt, LtEq, Gt, GtEq, And}

-- whether there is no value; never a null
abbrev pub is_null_slot : Slot → Slot
is_null_slot s = truth (is_none s)

-- whether there is a value; never a null
abbrev pub is_not_null_slot : Slot → Slot
is_not_null_slot s = truth (is_some s)

-- the other truth; a null stays
abbrev pub not_slot : Slot → Slot
not_slot (Some (boolean b)) = truth (not b)
not_slot _ = None

-- how a value stands to the low end of an interval
abbrev pub above : ClosedInterval → Operator
above ends.Both = GtEq
above ends.Left = GtEq
above ends.Right = Gt
above ends.None = Gt

-- how a value stands to the high end of an interval
abbrev pub below : ClosedInterval → Operator
below ends.Both = LtEq
below ends.Left = Lt
below ends.Right = LtEq
below ends.None = Lt

-- whether a value lies between a low and a high end
abbrev pub between_slot : Kind → ClosedInterval → Slot → Slot → Slot → Slot
between_slot k closed s low high = operated booleans And (operated k (above closed) s low) (operated k (below closed) s high)

-- whether a value is one of some slots; null for a null
abbrev pub in_slot : List Slot → Slot → Slot
in_slot xs None = None
in_slot xs (Some d) = truth (list_any (slot_eq (Some d)) xs)

-- what stands at a row, with nothing before the first and after the last
abbrev pub slot_from : List Slot → ℤ → Slot
slot_from xs (pos i) = slot_at xs i
slot_from xs (negsuc i) = None

-- each row is the one n before it, where that is there
abbrev pub shifted : ℤ → List Slot → List Slot
shifted n xs = map (λ i. slot_from xs (pos i -ℤ n)) (range_with_len 0 (length xs))

-- the slots that hold a value
abbrev pub present_slots : List Slot → List Slot
present_slots xs = filter is_some xs

-- what a list holds, which is one null for an empty list, and for a null
abbrev pub exploded_items : Slots → List Slot
exploded_items no_slots = None ∷ []
exploded_items ds = items ds

-- what the list at a place holds, which is one null where there is no list
abbrev pub exploded_slot : Slot → List Slot
exploded_slot (Some (list ds)) = exploded_items ds
exploded_slot _ = None ∷ []

-- what the lists hold, one list after another
abbrev pub exploded : List Slot → List Slot
exploded xs = flat_map exploded_slot xs

-- the number from 0 to n that is nearest
abbrev pub clamped : ℕ → ℤ → ℕ
clamped n (pos i) = min i n
clamped n (negsuc i) = 0

-- where a slice of n rows starts: a negative offset counts from the end
abbrev pub slice_start : ℤ → ℕ → ℤ
slice_start (pos i) n = pos i
slice_start (negsuc i) n = negsuc i +ℤ pos n

-- and the row before which it stops, which is n where there is no length
abbrev pub slice_stop : ℤ → Option ℤ → ℕ → ℤ
slice_stop offset None n = pos n
slice_stop offset (Some len) n = slice_start offset n +ℤ len

-- the first row of the slice, and how many rows it has
abbrev pub slice_window : ℤ → Option ℤ → ℕ → ℕ × ℕ
slice_window offset len n = (clamped n (slice_start offset n), clamped n (slice_stop offset len n) - clamped n (slice_start offset n))

-- the rows of the slice
abbrev pub window_of : ℤ → Option ℤ → List Slot → List Slot
window_of offset len xs = let window = slice_window offset len (length xs) in take window.1 (drop window.0 xs)
