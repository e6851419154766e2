-- One value for each group.
use Rattle.std.specs.Prelude.{pos, Bool, nat_lt, List, [], Option, Some, None, Result, Ok, Err, length, map}
use Rattle.px_column.specs.Prelude.{integer, Slot, Kind, uint32s, Series, slot_at}
use Rattle.px_column.specs.Sum.{sum_kind, summed}
use Rattle.px_value.specs.declared.error.PxError.{PxError}
use Rattle.px_value.specs.declared.error.PxError.TheVariants.{InvalidOperation}
use Rattle.px_value.specs.declared.error.InvalidWhy.TheVariants.{Types}
use Rattle.px_frame.specs.Frame.{slots_at}
use Rattle.px_frame.specs.Groups.{Group, Groups, first_row}

-- a group has a row
abbrev pub has_row : Group → Bool
has_row g = nat_lt 0 (length g.rows)

-- a column's value at each group's first row
abbrev pub key_column : List Group → Series → Series
key_column groups s = record s { slots = map (λ g. slot_at s.slots (first_row g.rows)) groups }

-- the sum of the places at each group's rows, in the type k of sums
abbrev pub sums_of : Kind → List Slot → Groups → List Slot
sums_of k xs g = map (λ p. summed k (slots_at xs p.rows)) g.groups

-- a column's sum for each group in this type of sums, or the refusal where there is none
abbrev pub summed_by_kind : Option Kind → Series → Groups → Result Series PxError
summed_by_kind None s g = Err (InvalidOperation Types)
summed_by_kind (Some k) s g = Ok (record { name = s.name; kind = k; slots = sums_of k s.slots g })

-- a column's sum for each group
abbrev pub summed_by : Series → Groups → Result Series PxError
summed_by s g = summed_by_kind (sum_kind s.kind) s g

-- the number of rows of each group
abbrev pub counts_of : Groups → List Slot
counts_of g = map (λ p. Some (integer (pos (length p.rows)))) g.groups

-- the number of rows of each group, as a column without a name
abbrev pub count_column : Groups → Series
count_column g = record { name = []; kind = uint32s; slots = counts_of g }
