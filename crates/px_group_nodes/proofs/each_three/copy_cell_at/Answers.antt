use Rattle.std.proofs.Common.{◌∙◌, ap}
use Rattle.px_column.specs.Prelude.{Series}
use Rattle.px_group_nodes.proofs.Threes.{cell_at_place}
use Rattle.px_group_nodes.proofs.each_three.copy_cell_at.Goals as goal

pub returns-clause-cell : goal.returns-clause-cell
returns-clause-cell c =
    cell_at_place c.copy_cell.result c.name.result.now c.args.context.now c.piece.result c.args.group (c.name.ensures ∙ ap (λ (s : Series). s.name) c.get_values.ensures) c.copy_cell.ensures c.piece.ensures
