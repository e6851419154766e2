use Rattle.std.proofs.Common.{not, ap}
use Rattle.px_column.specs.Prelude.{Series}
use Rattle.px_column.specs.Reduction.{reduced}
use Rattle.px_frame.specs.CellView.{named_cell}
use Rattle.px_frame.specs.Spread.{column_of_cell}
use Rattle.px_tree.specs.Shape.{is_implode}
use Rattle.px_nodes.specs.Named.{aggregation_named}
use Rattle.px_nodes.proofs.Answering.{made_cell, made_row}
use Rattle.px_nodes.proofs.Casted.{reduction_made, reduction_one}
use Rattle.px_nodes.proofs.aggregation.aggregation_cells.Goals as goal

pub into_cell-requires : goal.into_cell-requires
into_cell-requires g c =
    let a = named_cell c.args.input in
    let m = c.args.method in
    made_row c.reduce.result c.is_unit.result (not (is_implode m)) (reduced m c.as_column.result.now) (reduced m (column_of_cell a))
    c.is_unit.ensures (ap (λ (s : Series). reduced m s) c.as_column.ensures) c.reduce.ensures.answer (λ s h u. reduction_one m a s h)

pub returns-clause-answer : goal.returns-clause-answer
returns-clause-answer g c =
    let a = named_cell c.args.input in
    let m = c.args.method in
    made_cell c.into_cell.result c.reduce.result c.is_unit.result (not (is_implode m)) (reduced m c.as_column.result.now) (reduced m (column_of_cell a)) (aggregation_named m a)
    c.is_unit.ensures (ap (λ (s : Series). reduced m s) c.as_column.ensures) (reduction_made m a) c.reduce.ensures.answer c.into_cell.ensures.answer
