use Rattle.std.proofs.Common.{◌≡◌, false, ap, refl}
use Rattle.px_frame.specs.CellView.{named_cell}
use Rattle.px_frame.specs.Spread.{column_of_cell}
use Rattle.px_nodes.specs.Named.{sort_named, sorted_column}
use Rattle.px_nodes.proofs.Answering.{made_cell}
use Rattle.px_nodes.proofs.Ordering.{sort_made}
use Rattle.px_nodes.proofs.sort.sort_cells.Goals as goal

pub returns-clause-answer : goal.returns-clause-answer
returns-clause-answer g c =
    let a = named_cell c.args.input in
    made_cell c.into_cell.result c.sort_column.result false false
    (sorted_column c.args.options c.as_column.result.now) (sorted_column c.args.options (column_of_cell a)) (sort_named c.args.options a)
    refl (ap (sorted_column c.args.options) c.as_column.ensures) (sort_made c.args.options a) c.sort_column.ensures.answer c.into_cell.ensures.answer
