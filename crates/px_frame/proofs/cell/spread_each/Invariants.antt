use Rattle.std.proofs.Common.{◌≡◌, map}
use Rattle.std.specs.Vec.Iter.{into_iter_items}
use Rattle.px_frame.specs.CellView.{named_cell}
use Rattle.px_frame.specs.Spread.{spread_all}
use Rattle.px_frame.proofs.Beside.{after}
use Rattle.px_frame.proofs.cell.spread_each.Given as goal

abbrev pub invariant-loop-cell : goal.invariant-loop-cell
invariant-loop-cell l = record {
  can : goal.iterator-loop-cell.can_next l.cell-iterator;
  ends : goal.iterator-loop-cell.is_finite l.cell-iterator;
  built : spread_all l.height (map named_cell l.fn.cells.items) ≡ after l.columns.items (spread_all l.height (map named_cell (into_iter_items l.cell-iterator)));
}
