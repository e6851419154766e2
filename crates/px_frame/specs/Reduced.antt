-- One value for each group: the reduction of a column at the group's rows.
use Rattle.std.specs.Prelude.{◌^◌, Result, Ok, Err, map, nat_lt, sum, if◌then◌else◌}
use Rattle.px_column.specs.Prelude.{Slot, Kind, Series}
use Rattle.px_column.specs.Reduction.{reduced_kind, reduced_slot}
use Rattle.px_value.specs.declared.error.PxError.{PxError}
use Rattle.px_value.specs.declared.error.PxError.TheVariants.{ComputeError}
use Rattle.px_value.specs.declared.error.ComputeWhy.TheVariants.{TooLong}
use Rattle.px_value.specs.declared.method.GroupByMethod.{GroupByMethod}
use Rattle.px_value.specs.declared.method.GroupByMethod.TheVariants.{Implode}
use Rattle.px_frame.specs.Frame.{slots_at}
use Rattle.px_frame.specs.Groups.{Group, Groups, lengths_of}

-- the reduction of what a column holds at a group's rows
abbrev pub reduced_at : GroupByMethod → Series → Group → Slot
reduced_at method s p = reduced_slot method s.kind (slots_at s.slots p.rows)

-- one row for each group, where there is a type for it
abbrev pub reduced_by_as : GroupByMethod → Series → Groups → Result Kind PxError → Result Series PxError
reduced_by_as method s g (Ok k) = Ok (record { name = s.name; kind = k; slots = map (reduced_at method s) g.groups })
reduced_by_as method s g (Err e) = Err e

-- a column reduced at each group's rows, or the refusal of its type
abbrev pub reduced_by : GroupByMethod → Series → Groups → Result Series PxError
reduced_by method s g = reduced_by_as method s g (reduced_kind method s.kind)

-- a column's list for each group, where the lists are not too long together
abbrev pub listed_by : Series → Groups → Result Series PxError
listed_by s g = if nat_lt (sum (lengths_of g)) (2 ^ 32) then reduced_by Implode s g else Err (ComputeError TooLong)
