use Rattle.std.proofs.Common.{◌≡◌, ◌<◌, ◌^◌, ◌+◌, ◌++◌, length, true}
use Rattle.px_column.specs.Prelude.{slots_fit}
use Rattle.px_lanes.proofs.laying.push_rows.Given as goal

abbrev pub invariant-loop-row : goal.invariant-loop-row
invariant-loop-row l = record {
  can : goal.iterator-loop-row.can_next l.row-iterator;
  ends : goal.iterator-loop-row.is_finite l.row-iterator;
  short : length l.rows.slots + length l.row-iterator < 2 ^ 32;
  name : l.rows.name ≡ l.fn.rows.name;
  kind : l.rows.kind ≡ l.column.kind;
  fit : slots_fit l.column.kind l.row-iterator ≡ true;
  built : l.rows.slots ++ l.row-iterator ≡ l.fn.rows.slots ++ l.column.slots;
}
