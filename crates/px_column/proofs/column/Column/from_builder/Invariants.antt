use Rattle.std.proofs.Common.{◌≡◌, ◌+◌, ◌<◌, ◌^◌, ◌++◌, length, true}
use Rattle.std.specs.Vec.Iter.{into_iter_items}
use Rattle.px_value.specs.Kind.{slots_fit}
use Rattle.px_value.specs.View.{slots_of}
use Rattle.px_column.proofs.column.Column.from_builder.Given as goal

abbrev pub invariant-loop-row : goal.invariant-loop-row
invariant-loop-row l = record {
  can : goal.iterator-loop-row.can_next l.row-iterator;
  ends : goal.iterator-loop-row.is_finite l.row-iterator;
  short : length l.built.slots + length (into_iter_items l.row-iterator) < 2 ^ 32;
  name : l.built.name ≡ l.fn.built.name;
  kind : l.built.kind ≡ l.fn.built.kind;
  fit : slots_fit l.fn.built.kind (slots_of (into_iter_items l.row-iterator)) ≡ true;
  built : l.built.slots ++ slots_of (into_iter_items l.row-iterator) ≡ slots_of l.fn.rows.items;
}
