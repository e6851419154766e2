-- What the calls make of the rows of a column, which keep its name.
use Rattle.std.specs.Prelude.{◌+◌, ◌^◌, ◌==◌, ℤ, Bool, false, List, map, filter, reverse, nat_lt, ◌++◌, ◌||◌, Option, Some, Result, Ok, Err, length, if◌then◌else◌}
use Rattle.std.specs.List.{zip}
use Rattle.px_value.specs.Datum.{boolean, Slot}
use Rattle.px_value.specs.Kind.{booleans, kind_eq}
use Rattle.px_value.specs.Series.{Series}
use Rattle.px_value.specs.declared.error.PxError.{PxError}
use Rattle.px_value.specs.declared.error.PxError.TheVariants.{InvalidOperation, ComputeError, ShapeMismatch, SchemaMismatch}
use Rattle.px_value.specs.declared.error.InvalidWhy.TheVariants.{Types}
use Rattle.px_value.specs.declared.error.ComputeWhy.TheVariants.{TooLong}
use Rattle.px_operation.specs.Function.{is_null_slot, is_not_null_slot, not_slot, shifted, present_slots, window_of}
use Rattle.px_operation.specs.Operator.{is_boolean_kind}
use Rattle.px_column.specs.Beside.{rows_to}

-- other rows under the column's name and of its type
abbrev pub with_rows : Series → List Slot → Series
with_rows s xs = record { name = s.name; kind = s.kind; slots = xs }

-- a truth of each row
abbrev pub truths_of : (Slot → Slot) → Series → Series
truths_of f s = record { name = s.name; kind = booleans; slots = map f s.slots }

-- which rows are nulls
abbrev pub nulls_of : Series → Series
nulls_of s = truths_of is_null_slot s

-- which rows hold a value
abbrev pub present_of : Series → Series
present_of s = truths_of is_not_null_slot s

-- the other truths
abbrev pub not_column : Series → Result Series PxError
not_column s = if is_boolean_kind s.kind then Ok (truths_of not_slot s) else Err (InvalidOperation Types)

-- a place holds true; a null does not
abbrev pub is_true : Slot → Bool
is_true (Some (boolean b)) = b
is_true _ = false

-- the rows whose mask is true
abbrev pub kept_rows : List Slot → List Slot → List Slot
kept_rows mask xs = map (λ p. p.1) (filter (λ p. is_true p.0) (zip mask xs))

-- the column of the rows whose mask is true; a mask of one row stands for every row
abbrev pub kept_column : Series → Series → Result Series PxError
kept_column s mask =
    if is_boolean_kind mask.kind then
    (if length mask.slots == 1 || length mask.slots == length s.slots then Ok (with_rows s (kept_rows (rows_to (length s.slots) mask.slots) s.slots)) else Err ShapeMismatch)
    else Err SchemaMismatch

-- the rows of a slice
abbrev pub slice_column : ℤ → Option ℤ → Series → Series
slice_column offset len s = with_rows s (window_of offset len s.slots)

-- the rows from the last to the first
abbrev pub reverse_column : Series → Series
reverse_column s = with_rows s (reverse s.slots)

-- each row is the one so many before it, where that is there
abbrev pub shift_column : ℤ → Series → Series
shift_column periods s = with_rows s (shifted periods s.slots)

-- the rows that hold a value
abbrev pub without_nulls : Series → Series
without_nulls s = with_rows s (present_slots s.slots)

-- the rows of one column and then those of another of its type
abbrev pub joined_column : Series → Series → Result Series PxError
joined_column s t =
    if kind_eq s.kind t.kind then
    (if nat_lt (length s.slots + length t.slots) (2 ^ 32) then Ok (with_rows s (s.slots ++ t.slots)) else Err (ComputeError TooLong))
    else Err (InvalidOperation Types)
