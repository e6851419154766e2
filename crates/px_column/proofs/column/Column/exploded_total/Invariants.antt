use Rattle.std.proofs.Common.{◌≡◌, ◌<◌, ◌^◌, ◌*◌, ◌+◌, length}
use Rattle.px_operation.specs.Function.{exploded}
use Rattle.px_column.proofs.column.Column.exploded_total.Given as goal

abbrev pub invariant-loop-row : goal.invariant-loop-row
invariant-loop-row l = record {
  can : goal.iterator-loop-row.can_next l.row-iterator;
  ends : goal.iterator-loop-row.is_finite l.row-iterator;
  few : l.total + 4294967296 * length l.row-iterator < 2 ^ 64;
  total : l.total + length (exploded l.row-iterator) ≡ length (exploded l.self.slots);
}
