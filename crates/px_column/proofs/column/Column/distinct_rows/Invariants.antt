use Rattle.std.proofs.Common.{◌≡◌, ◌≤◌, length, map, take}
use Rattle.px_operation.specs.Reduction.{distinct_slots}
use Rattle.px_column.specs.Key.{row_of}
use Rattle.px_column.proofs.column.Column.distinct_rows.Given as goal

abbrev pub invariant-loop-row : goal.invariant-loop-row
invariant-loop-row l = record {
  few : length l.seen.keys ≤ l.row;
  keys : l.seen.keys ≡ map row_of (distinct_slots (take l.row l.self.slots));
}
