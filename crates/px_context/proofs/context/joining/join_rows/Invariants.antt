use Rattle.std.proofs.Common.{◌≡◌, ◌<◌, ◌^◌, ◌+◌, ◌++◌, length, true}
use Rattle.std.specs.List.{flat_map}
use Rattle.px_column.specs.Prelude.{slots_fit}
use Rattle.px_context.specs.Context.{items_at}
use Rattle.px_context.proofs.context.joining.join_rows.Given as goal

abbrev pub invariant-loop-row : goal.invariant-loop-row
invariant-loop-row l = record {
  can : goal.iterator-loop-row.can_next l.row-iterator;
  ends : goal.iterator-loop-row.is_finite l.row-iterator;
  short : length l.rows.slots + length (flat_map items_at l.row-iterator) < 2 ^ 32;
  name : l.rows.name ≡ l.fn.rows.name;
  kind : l.rows.kind ≡ l.fn.rows.kind;
  fit : slots_fit l.column.kind l.row-iterator ≡ true;
  built : l.rows.slots ++ flat_map items_at l.row-iterator ≡ flat_map items_at l.column.slots;
}
