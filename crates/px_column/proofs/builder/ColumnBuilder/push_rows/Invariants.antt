use Rattle.std.proofs.Common.{◌≡◌, ◌<◌, ◌^◌, ◌+◌, ◌++◌, length, true}
use Rattle.px_value.specs.Kind.{slots_fit}
use Rattle.px_column.proofs.builder.ColumnBuilder.push_rows.Given as goal

abbrev pub invariant-loop-row : goal.invariant-loop-row
invariant-loop-row l = record {
  can : goal.iterator-loop-row.can_next l.row-iterator;
  ends : goal.iterator-loop-row.is_finite l.row-iterator;
  short : length l.self.slots + length l.row-iterator < 2 ^ 32;
  name : l.self.name ≡ l.fn.self.name;
  kind : l.self.kind ≡ l.column.kind;
  fit : slots_fit l.column.kind l.row-iterator ≡ true;
  built : l.self.slots ++ l.row-iterator ≡ l.fn.self.slots ++ l.column.slots;
}
