use Rattle.std.proofs.Common.{◌∙◌, ap}
use Rattle.px_column.specs.Prelude.{Series}
use Rattle.px_group_nodes.proofs.Across.{cell_read}
use Rattle.px_group_nodes.proofs.each_many.cell_at.Goals as goal

pub returns-clause-cell : goal.returns-clause-cell
returns-clause-cell c =
    cell_read c.args.input.now c.args.group c.piece.result c.name-name.result.now c.piece.ensures (c.name-name.ensures ∙ ap (λ (s : Series). s.name) c.get_values.ensures) c.copy_cell.result c.copy_cell.ensures
