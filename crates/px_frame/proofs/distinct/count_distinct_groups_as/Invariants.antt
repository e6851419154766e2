use Rattle.std.proofs.Common.{◌≡◌, map, take}
use Rattle.px_column.specs.Prelude.{kind_of}
use Rattle.px_value.specs.declared.method.GroupByMethod.TheVariants.{NUnique}
use Rattle.px_frame.specs.Reduced.{reduced_at}
use Rattle.px_frame.proofs.distinct.count_distinct_groups_as.Given as goal

abbrev pub invariant-loop-index : goal.invariant-loop-index
invariant-loop-index l = l.rows ≡ record { name = l.values.name; kind = kind_of l.fn.dtype; slots = map (reduced_at NUnique l.values) (take l.index l.groups.groups) }
