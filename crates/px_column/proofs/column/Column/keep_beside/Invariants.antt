use Rattle.std.proofs.Common.{◌≡◌, ◌<◌, ◌^◌, ◌+◌, ◌++◌, length, true}
use Rattle.std.specs.Iterator.Adapters.{zip_first, zip_second}
use Rattle.px_value.specs.Kind.{slots_fit}
use Rattle.px_column.specs.Rows.{kept_rows}
use Rattle.px_column.proofs.column.Column.keep_beside.Given as goal

abbrev pub invariant-loop-keep : goal.invariant-loop-keep
invariant-loop-keep l = record {
  can : goal.iterator-loop-keep.can_next l.keep-iterator;
  ends : goal.iterator-loop-keep.is_finite l.keep-iterator;
  short : length l.rows.slots + length (zip_second l.keep-iterator) < 2 ^ 32;
  name : l.rows.name ≡ l.self.name;
  kind : l.rows.kind ≡ l.self.kind;
  fit : slots_fit l.self.kind (zip_second l.keep-iterator) ≡ true;
  built : l.rows.slots ++ kept_rows (zip_first l.keep-iterator) (zip_second l.keep-iterator) ≡ kept_rows l.mask.slots l.self.slots;
}
