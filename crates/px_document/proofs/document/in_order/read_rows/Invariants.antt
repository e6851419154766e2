use Rattle.std.proofs.Common.{◌≡◌, length}
use Rattle.px_column.specs.Prelude.{kind_of}
use Rattle.px_document.specs.Document.{fitting_place}
use Rattle.px_document.proofs.Tokens.{Follows}
use Rattle.px_document.proofs.document.in_order.read_rows.Given as goal

-- the rows so far, and those that are left, are all
abbrev pub invariant-loop-row : goal.invariant-loop-row
invariant-loop-row l = record {
  name : l.rows.name ≡ l.fn.name;
  kind : l.rows.kind ≡ kind_of l.dtype;
  count : length l.rows.slots ≡ l._row;
  built : Follows (fitting_place (kind_of l.dtype)) 123 l.rows.slots l.initial.reader l.reader;
}
