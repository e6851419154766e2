use Rattle.std.proofs.Common.{◌≡◌}
use Rattle.std.specs.List.{list_all}
use Rattle.px_column.specs.Rows.{is_true}
use Rattle.px_group_nodes.proofs.kept.is_all_true.Given as goal

abbrev pub invariant-loop-row : goal.invariant-loop-row
invariant-loop-row l = record {
  can : goal.iterator-loop-row.can_next l.row-iterator;
  ends : goal.iterator-loop-row.is_finite l.row-iterator;
  left : list_all is_true l.row-iterator ≡ list_all is_true l.column.slots;
}
