use Rattle.std.proofs.Common.{◌≡◌, ◌<◌, ◌^◌, ◌*◌, ◌+◌, length}
use Rattle.std.specs.List.{flat_map}
use Rattle.px_context.specs.Context.{items_at}
use Rattle.px_context.proofs.context.joining.total_items.Given as goal

abbrev pub invariant-loop-row : goal.invariant-loop-row
invariant-loop-row l = record {
  can : goal.iterator-loop-row.can_next l.row-iterator;
  ends : goal.iterator-loop-row.is_finite l.row-iterator;
  few : l.total + 4294967296 * length l.row-iterator < 2 ^ 64;
  total : l.total + length (flat_map items_at l.row-iterator) ≡ length (flat_map items_at l.column.slots);
}
