use Rattle.std.proofs.Common.{◌≡◌, ◌∙◌, true, false, ap, sym, refl, length}
use Rattle.px_column.specs.Operator.{is_boolean_kind}
use Rattle.px_column.specs.Prelude.{Series, kind_of}
use Rattle.px_column.specs.Rows.{kept_column}
use Rattle.px_frame.specs.Cell.{count_of}
use Rattle.px_frame.specs.CellView.{named_cell}
use Rattle.px_frame.specs.Spread.{column_of_cell}
use Rattle.px_nodes.specs.Named.{filter_named}
use Rattle.px_nodes.specs.Together.{stands_at}
use Rattle.px_nodes.proofs.Answering.{made_cell}
use Rattle.px_nodes.proofs.Kept.{filter_made}
use Rattle.px_nodes.proofs.filter.filter_cells.Goals as goal

pub returns-clause-answer : goal.returns-clause-answer
returns-clause-answer g c =
    let a = named_cell c.args.input in
    let m = named_cell c.args.by in
    let mask : kind_of c.dtype.result.now ≡ m.kind = c.dtype.ensures ∙ ap (λ (s : Series). s.kind) c.as_column-mask.ensures in
    let truths : is_boolean_kind m.kind ≡ true = cc (mask, c.is_boolean.ensures, c.if-not-is_boolean.false) in
    let height : c.len.result ≡ count_of a.cell = c.len.ensures ∙ ap (λ (s : Series). length s.slots) c.as_column-column.ensures in
    let there : stands_at (count_of a.cell) m.cell ≡ true = ap (λ n. stands_at n m.cell) (sym height) ∙ sym c.stands_at.ensures ∙ c.if-not-stands_at.false in
    made_cell c.into_cell.result c.filter.result false false
    (kept_column c.as_column-column.result.now c.as_column-mask.result.now) (kept_column (column_of_cell a) (column_of_cell m)) (filter_named a m)
    refl (λ i. kept_column (c.as_column-column.ensures i) (c.as_column-mask.ensures i)) (filter_made a m truths there) c.filter.ensures c.into_cell.ensures.answer
