use Rattle.std.proofs.Common.{◌≡◌, ◌≤◌, ◌+◌, map, take}
use Rattle.px_frame.specs.GroupsView.{idx_group}
use Rattle.px_window.specs.Key.{rows_ordered}
use Rattle.px_window.proofs.ordering.order_each.Given as goal

abbrev pub invariant-loop-index : goal.invariant-loop-index
invariant-loop-index g l = record {
  ordered : map idx_group l.ordered.items ≡ map (rows_ordered l.column l.options) (take l.index l.groups.groups);
  most : l.kernels ≤ l.fn.kernels + l.index;
  rises : l.fn.kernels ≤ l.kernels;
}
