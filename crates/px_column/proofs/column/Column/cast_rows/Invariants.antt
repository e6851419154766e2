use Rattle.std.proofs.Common.{◌≡◌, ◌<◌, ◌^◌, ◌+◌, length}
use Rattle.px_value.specs.Datum.{slots}
use Rattle.px_value.specs.KindView.{kind_of}
use Rattle.px_operation.specs.Cast.{items_cast}
use Rattle.px_operation.proofs.CastLaws.{after}
use Rattle.px_column.proofs.column.Column.cast_rows.Given as goal

abbrev pub invariant-loop-row : goal.invariant-loop-row
invariant-loop-row l = record {
  can : goal.iterator-loop-row.can_next l.row-iterator;
  ends : goal.iterator-loop-row.is_finite l.row-iterator;
  short : length l.rows.slots + length l.row-iterator < 2 ^ 32;
  name : l.rows.name ≡ l.self.name;
  kind : l.rows.kind ≡ kind_of l.dtype;
  same : items_cast (kind_of l.dtype) l.options (slots l.self.slots) ≡ after l.rows.slots (items_cast (kind_of l.dtype) l.options (slots l.row-iterator));
}
