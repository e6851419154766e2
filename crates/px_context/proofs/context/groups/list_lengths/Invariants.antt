use Rattle.std.proofs.Common.{◌≡◌, ◌++◌, length, map}
use Rattle.px_context.specs.Context.{items_at}
use Rattle.px_context.proofs.context.groups.list_lengths.Given as goal

abbrev pub invariant-loop-row : goal.invariant-loop-row
invariant-loop-row l = record {
  can : goal.iterator-loop-row.can_next l.row-iterator;
  ends : goal.iterator-loop-row.is_finite l.row-iterator;
  lengths : l.lengths.items ++ map (λ x. length (items_at x)) l.row-iterator ≡ map (λ x. length (items_at x)) l.column.slots;
}
