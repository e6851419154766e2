-- Places that are named by integers, which count from the end where they are negative.
use Rattle.std.specs.Prelude.{ℕ, suc, ◌-◌, ℤ, pos, negsuc, Bool, true, List, Option, Some, None, Result, Ok, Err, is_some, map, nat_lt, if◌then◌else◌}
use Rattle.std.specs.List.{list_all}
use Rattle.px_column.specs.Prelude.{integer, Slot, Series}
use Rattle.px_column.specs.Operator.{is_integer_kind}
use Rattle.px_value.specs.declared.error.PxError.{PxError}
use Rattle.px_value.specs.declared.error.PxError.TheVariants.{InvalidOperation, OutOfBounds}
use Rattle.px_value.specs.declared.error.InvalidWhy.TheVariants.{Types}

-- the place among n that a number names, if there is one: -1 names the last
abbrev pub place_of : ℕ → ℤ → Option ℕ
place_of n (pos i) = if nat_lt i n then Some i else None
place_of n (negsuc i) = if nat_lt i n then Some (n - suc i) else None

-- the place that a slot names; a null names none
abbrev pub place_at : ℕ → Slot → Option ℕ
place_at n (Some (integer z)) = place_of n z
place_at n _ = None

-- a slot is a null, or names a place
abbrev pub names_place : ℕ → Slot → Bool
names_place n (Some (integer z)) = is_some (place_of n z)
names_place n _ = true

-- the places that a column of integers names, or the refusal
abbrev pub places_of : ℕ → Series → Result (List (Option ℕ)) PxError
places_of n s = if is_integer_kind s.kind then (if list_all (names_place n) s.slots then Ok (map (place_at n) s.slots) else Err OutOfBounds) else Err (InvalidOperation Types)
