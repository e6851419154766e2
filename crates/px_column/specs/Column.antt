-- What the calls of a column answer.
use Rattle.std.specs.Prelude.{ℕ, Bool, true, List, Option, Some, None, Result, Ok, Err, length, map, nat_lt, if◌then◌else◌, is_none, count_by}
use Rattle.std.specs.List.{list_all}
use Rattle.px_value.specs.Datum.{Slot}
use Rattle.px_value.specs.Kind.{Kind, slots_fit}
use Rattle.px_value.specs.Series.{Series, slot_at}
use Rattle.px_value.specs.declared.error.PxError.{PxError}
use Rattle.px_value.specs.declared.error.PxError.TheVariants.{InvalidOperation, OutOfBounds}
use Rattle.px_value.specs.declared.error.InvalidWhy.TheVariants.{Types}

-- a column of these places, where each fits the type
abbrev pub made : List ℕ → Kind → List Slot → Result Series PxError
made name kind xs = if slots_fit kind xs then Ok (record { name = name; kind = kind; slots = xs }) else Err (InvalidOperation Types)

-- what stands at an asked row, with nothing where none is asked for
abbrev pub taken_at : List Slot → Option ℕ → Slot
taken_at xs None = None
taken_at xs (Some i) = slot_at xs i

-- no row is asked for, or one that is there
abbrev pub is_within : ℕ → Option ℕ → Bool
is_within n None = true
is_within n (Some i) = nat_lt i n

-- each row that is asked for is there
abbrev pub all_within : ℕ → List (Option ℕ) → Bool
all_within n rows = list_all (is_within n) rows

-- these rows in this order, where all of them are there
abbrev pub taken : Series → List (Option ℕ) → Result Series PxError
taken s rows = if all_within (length s.slots) rows then Ok (record { name = s.name; kind = s.kind; slots = map (taken_at s.slots) rows }) else Err OutOfBounds

-- the number of nulls
abbrev pub null_count : List Slot → ℕ
null_count xs = count_by is_none xs
