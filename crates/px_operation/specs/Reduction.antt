-- Reductions: all rows become one value.
use Rattle.std.specs.Prelude.{ℕ, ◌-◌, pos, Bool, List, [], ◌∷◌, ◌++◌, length, fold, filter_map, count_by, is_some, Result, Ok, Err, Option, Some, None, if◌then◌else◌}
use Rattle.std.specs.List.{list_any, reduce}
use Rattle.std.specs.Ordering.{ord_min, ord_max}
use Rattle.px_value.specs.Datum.{Datum, integer, list, Slot, slots}
use Rattle.px_value.specs.Equality.{slot_eq}
use Rattle.px_value.specs.Kind.{Kind, uint32s, lists, is_list_kind}
use Rattle.px_value.specs.Order.{datum_cmp}
use Rattle.px_value.specs.Series.{Series, slot_at}
use Rattle.px_operation.specs.Sum.{sum_kind, summed}
use Rattle.px_value.specs.declared.error.PxError.{PxError}
use Rattle.px_value.specs.declared.error.PxError.TheVariants.{InvalidOperation}
use Rattle.px_value.specs.declared.error.InvalidWhy.TheVariants.{ListKey, Types}
use Rattle.px_value.specs.declared.method.GroupByMethod.{GroupByMethod}
use Rattle.px_value.specs.declared.method.GroupByMethod.TheVariants.{Min, Max, Sum, First, Last, NUnique, Count, Implode}

-- lists are not compared
abbrev pub unless_list : Kind → Kind → Result Kind PxError
unless_list k made = if is_list_kind k then Err (InvalidOperation ListKey) else Ok made

-- the type, where there is one, else the refusal of types
abbrev pub kind_there : Option Kind → Result Kind PxError
kind_there (Some k) = Ok k
kind_there None = Err (InvalidOperation Types)

-- the type of a reduction of values of a type, or why there is none
abbrev pub reduced_kind : GroupByMethod → Kind → Result Kind PxError
reduced_kind Min k = unless_list k k
reduced_kind Max k = unless_list k k
reduced_kind Sum k = kind_there (sum_kind k)
reduced_kind First k = Ok k
reduced_kind Last k = Ok k
reduced_kind NUnique k = unless_list k uint32s
reduced_kind (Count nulls) k = Ok uint32s
reduced_kind Implode k = Ok (lists k)

-- the values that are there
abbrev pub values_of : List Slot → List Datum
values_of xs = filter_map (λ s. s) xs

-- what f makes of two values, a null being passed over
abbrev pub better : (Datum → Datum → Datum) → Slot → Slot → Slot
better f None s = s
better f s None = s
better f (Some a) (Some b) = Some (f a b)

-- a slot put last, unless it is there already
abbrev pub with_slot : List Slot → Slot → List Slot
with_slot seen s = if list_any (slot_eq s) seen then seen else seen ++ s ∷ []

-- each slot once, a null being the same as a null
abbrev pub distinct_slots : List Slot → List Slot
distinct_slots xs = fold with_slot [] xs

-- the number of rows, or of those that hold a value
abbrev pub row_count : Bool → List Slot → ℕ
row_count nulls xs = if nulls then length xs else count_by is_some xs

-- a number of rows at a place
abbrev pub count_slot : ℕ → Slot
count_slot n = Some (integer (pos n))

-- the sum in the type of sums, a null where there is no such type
abbrev pub sum_slot : Option Kind → List Slot → Slot
sum_slot None xs = None
sum_slot (Some k) xs = summed k xs

-- the reduction of rows of a type
abbrev pub reduced_slot : GroupByMethod → Kind → List Slot → Slot
reduced_slot Min k xs = reduce (ord_min datum_cmp) (values_of xs)
reduced_slot Max k xs = reduce (ord_max datum_cmp) (values_of xs)
reduced_slot Sum k xs = sum_slot (sum_kind k) xs
reduced_slot First k xs = slot_at xs 0
reduced_slot Last k xs = slot_at xs (length xs - 1)
reduced_slot NUnique k xs = count_slot (length (distinct_slots xs))
reduced_slot (Count nulls) k xs = count_slot (row_count nulls xs)
reduced_slot Implode k xs = Some (list (slots xs))

-- one row, the reduction of all rows, where there is a type for it
abbrev pub reduced_as : GroupByMethod → Series → Result Kind PxError → Result Series PxError
reduced_as method s (Ok k) = Ok (record { name = s.name; kind = k; slots = reduced_slot method s.kind s.slots ∷ [] })
reduced_as method s (Err e) = Err e

-- a column reduced to one row, or the refusal of its type
abbrev pub reduced : GroupByMethod → Series → Result Series PxError
reduced method s = reduced_as method s (reduced_kind method s.kind)
