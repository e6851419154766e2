use Rattle.std.proofs.Common.{[], ◌∷◌}
use Rattle.px_column.specs.Member.{member_column}
use Rattle.px_frame.specs.Cell.{is_unit_cell}
use Rattle.px_frame.specs.CellView.{named_cell}
use Rattle.px_frame.specs.Spread.{column_of_cell}
use Rattle.px_tree.specs.declared.function.FunctionExpr.TheVariants.{IsIn}
use Rattle.px_nodes.specs.Named.{function_named}
use Rattle.px_nodes.proofs.Answering.{made_short_cell}
use Rattle.px_nodes.proofs.Functions.{member_made}
use Rattle.px_nodes.proofs.apply.apply_to_two.Goals as goal

pub returns-in-IsIn-clause-answer : goal.returns-in-IsIn-clause-answer
returns-in-IsIn-clause-answer g c =
    let a = named_cell c.args.input.now in
    let b = named_cell c.args.among.now in
    rw c.in-IsIn.is
    (made_short_cell c.into_cell.result c.is_in.result c.is_unit.result (is_unit_cell a.cell)
    (member_column c.as_column-column.result.now c.as_column-others.result.now) (member_column (column_of_cell a) (column_of_cell b)) (function_named IsIn (a ∷ b ∷ []))
    c.is_unit.ensures (λ i. member_column (c.as_column-column.ensures i) (c.as_column-others.ensures i)) (member_made a b) c.is_in.ensures.answer c.into_cell.ensures.short)
