use Rattle.std.proofs.Common.{◌≡◌, ◌+ℤ◌, pos, Some, map}
use Rattle.std.specs.List.{range_with_len}
use Rattle.px_column.specs.Prelude.{integer, slots_of}
use Rattle.px_physical.proofs.range.integers.Given as goal

abbrev pub invariant-loop-place : goal.invariant-loop-place
invariant-loop-place l = slots_of l.rows.items ≡ map (λ i. Some (integer (l.low +ℤ pos i))) (range_with_len 0 l.place)
