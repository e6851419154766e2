use Rattle.std.proofs.Common.{[], ◌∷◌, ap}
use Rattle.px_column.specs.Prelude.{Series}
use Rattle.px_column.specs.Rows.{not_column}
use Rattle.px_frame.specs.Cell.{is_unit_cell}
use Rattle.px_frame.specs.CellView.{named_cell}
use Rattle.px_frame.specs.Spread.{column_of_cell}
use Rattle.px_tree.specs.declared.function.FunctionExpr.TheVariants.{Not}
use Rattle.px_nodes.specs.Named.{function_named}
use Rattle.px_nodes.proofs.Answering.{made_short_cell}
use Rattle.px_nodes.proofs.Functions.{not_made}
use Rattle.px_nodes.proofs.apply.apply_to_one.Goals as goal

pub returns-in-Not-clause-answer : goal.returns-in-Not-clause-answer
returns-in-Not-clause-answer g c =
    let a = named_cell c.args.input.now in
    rw c.in-Not.is
    (made_short_cell c.into_cell-in-Not.result c.not.result c.is_unit-is_unit.result (is_unit_cell a.cell)
    (not_column c.as_column-column.result.now) (not_column (column_of_cell a)) (function_named Not (a ∷ []))
    c.is_unit-is_unit.ensures (ap (λ (s : Series). not_column s) c.as_column-column.ensures) (not_made a) c.not.ensures.answer c.into_cell-in-Not.ensures.short)
