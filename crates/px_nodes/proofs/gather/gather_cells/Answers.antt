use Rattle.std.proofs.Common.{◌≡◌, ◌∙◌, ◌&&◌, not, Bool, true, false, ap, sym, refl}
use Rattle.px_column.specs.Operator.{is_integer_kind}
use Rattle.px_column.specs.Prelude.{Series, kind_of}
use Rattle.px_frame.specs.Cell.{is_unit_cell}
use Rattle.px_frame.specs.CellView.{named_cell}
use Rattle.px_frame.specs.Spread.{column_of_cell}
use Rattle.px_tree.specs.Node.{is_null_unit}
use Rattle.px_nodes.specs.Named.{gather_named, gathered_column}
use Rattle.px_nodes.proofs.Answering.{made_cell}
use Rattle.px_nodes.proofs.Gathered.{and_false, gather_made}
use Rattle.px_nodes.proofs.gather.gather_cells.Goals.{else-returns_scalar-via-then-returns_scalar+else-not-is_unit, else-returns_scalar-via-else-returns_scalar, else-idx_is_lit-via-then-idx_is_lit+else-is_null_unit, else-idx_is_lit-via-else-idx_is_lit}
use Rattle.px_nodes.proofs.gather.gather_cells.Goals as goal

pub returns-clause-answer : goal.returns-clause-answer
returns-clause-answer g c =
    let a = named_cell c.args.input in
    let idx = named_cell c.args.idx in
    let kind : kind_of c.dtype.result.now ≡ idx.kind = c.dtype.ensures ∙ ap (λ (s : Series). s.kind) c.as_column-index.ensures in
    let integers : is_integer_kind idx.kind ≡ true = cc (kind, c.is_integer.ensures, c.if-not-is_integer.false) in
    let single : (c.args.returns_scalar && not (is_unit_cell idx.cell)) ≡ false = elim c.else-returns_scalar.branch [
      | else-returns_scalar-via-then-returns_scalar+else-not-is_unit w ↦ and_false c.args.returns_scalar (not (is_unit_cell idx.cell)) (ap not (sym w.is_unit.ensures ∙ w.if-not-is_unit.false))
      | else-returns_scalar-via-else-returns_scalar w ↦ ap (λ (b : Bool). b && not (is_unit_cell idx.cell)) w.if-returns_scalar.false
    ] in
    let null : (c.args.idx_is_lit && is_null_unit idx.cell) ≡ false = elim c.else-idx_is_lit.branch [
      | else-idx_is_lit-via-then-idx_is_lit+else-is_null_unit w ↦ and_false c.args.idx_is_lit (is_null_unit idx.cell) (sym w.is_null_unit.ensures ∙ w.if-is_null_unit.false)
      | else-idx_is_lit-via-else-idx_is_lit w ↦ ap (λ (b : Bool). b && is_null_unit idx.cell) w.if-idx_is_lit.false
    ] in
    made_cell c.into_cell.result c.rows_named.result c.args.returns_scalar c.args.returns_scalar
    (gathered_column c.as_column.result.now c.as_column-index.result.now) (gathered_column (column_of_cell a) (column_of_cell idx)) (gather_named c.args.returns_scalar c.args.idx_is_lit a idx)
    refl (λ i. gathered_column (c.as_column.ensures i) (c.as_column-index.ensures i)) (gather_made c.args.returns_scalar c.args.idx_is_lit a idx integers single null) c.rows_named.ensures c.into_cell.ensures.answer
