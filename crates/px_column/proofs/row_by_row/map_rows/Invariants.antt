use Rattle.std.proofs.Common.{◌≡◌, ◌<◌, ◌^◌, ◌+◌, ◌++◌, length, map, true}
use Rattle.px_value.specs.Kind.{slots_fit}
use Rattle.px_value.specs.KindView.{kind_of}
use Rattle.px_column.proofs.row_by_row.map_rows.Given as goal

abbrev pub invariant-loop-row : goal.invariant-loop-row
invariant-loop-row g l = record {
  can : (goal.iterator-loop-row g).can_next l.row-iterator;
  ends : (goal.iterator-loop-row g).is_finite l.row-iterator;
  short : length l.rows.slots + length l.row-iterator < 2 ^ 32;
  name : l.rows.name ≡ l.fn.name;
  kind : l.rows.kind ≡ kind_of l.fn.dtype;
  fit : slots_fit l.column.kind l.row-iterator ≡ true;
  built : l.rows.slots ++ map g.made l.row-iterator ≡ map g.made l.column.slots;
}
