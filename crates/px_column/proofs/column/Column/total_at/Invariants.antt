use Rattle.std.proofs.Common.{◌≡◌, map, take}
use Rattle.px_value.specs.Series.{slot_at}
use Rattle.px_operation.specs.Sum.{total, IsWithin}
use Rattle.px_column.proofs.column.Column.total_at.Given as goal

abbrev pub invariant-loop-row : goal.invariant-loop-row
invariant-loop-row l = record {
  counted : l.count ≡ l.row-index;
  within : IsWithin l.row-index l.sum;
  sum : l.sum ≡ total (map (slot_at l.self.slots) (take l.row-index l.rows));
}
