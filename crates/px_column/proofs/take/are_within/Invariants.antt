use Rattle.std.proofs.Common.{◌≡◌, drop}
use Rattle.px_column.specs.Column.{all_within}
use Rattle.px_column.proofs.take.are_within.Given as goal

abbrev pub invariant-loop-index : goal.invariant-loop-index
invariant-loop-index l = all_within l.len l.indices ≡ all_within l.len (drop l.index-index l.indices)
