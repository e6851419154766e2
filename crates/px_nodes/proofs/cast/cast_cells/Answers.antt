use Rattle.std.proofs.Common.{ap}
use Rattle.px_column.specs.Prelude.{Series, kind_of}
use Rattle.px_column.specs.Retyped.{cast_column}
use Rattle.px_frame.specs.Cell.{is_unit_cell}
use Rattle.px_frame.specs.CellView.{named_cell}
use Rattle.px_frame.specs.Spread.{column_of_cell}
use Rattle.px_nodes.specs.Named.{cast_named}
use Rattle.px_nodes.proofs.Answering.{made_cell}
use Rattle.px_nodes.proofs.Casted.{cast_made}
use Rattle.px_nodes.proofs.cast.cast_cells.Goals as goal

pub returns-clause-answer : goal.returns-clause-answer
returns-clause-answer g c =
    let a = named_cell c.args.input in
    let to = kind_of c.args.dtype.now in
    let o = c.args.options in
    made_cell c.into_cell.result c.cast_with_options.result c.is_unit.result (is_unit_cell a.cell) (cast_column to o c.as_column-column.result.now) (cast_column to o (column_of_cell a)) (cast_named to o a)
    c.is_unit.ensures (ap (λ (s : Series). cast_column to o s) c.as_column-column.ensures) (cast_made to o a) c.cast_with_options.ensures.answer c.into_cell.ensures.answer
