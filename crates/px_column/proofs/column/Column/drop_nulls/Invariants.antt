use Rattle.std.proofs.Common.{◌≡◌, ◌<◌, ◌^◌, ◌+◌, ◌++◌, length, true}
use Rattle.px_value.specs.Kind.{slots_fit}
use Rattle.px_operation.specs.Function.{present_slots}
use Rattle.px_column.proofs.column.Column.drop_nulls.Given as goal

abbrev pub invariant-loop-row : goal.invariant-loop-row
invariant-loop-row l = record {
  can : goal.iterator-loop-row.can_next l.row-iterator;
  ends : goal.iterator-loop-row.is_finite l.row-iterator;
  short : length l.rows.slots + length l.row-iterator < 2 ^ 32;
  name : l.rows.name ≡ l.self.name;
  kind : l.rows.kind ≡ l.self.kind;
  fit : slots_fit l.self.kind l.row-iterator ≡ true;
  built : l.rows.slots ++ present_slots l.row-iterator ≡ present_slots l.self.slots;
}
