use Rattle.std.proofs.Common.{◌≡◌, ◌∙◌, true, false, ap, subst, [], ◌∷◌}
use Rattle.px_column.specs.Interval.{between_column, compared_kind}
use Rattle.px_column.specs.Prelude.{Refuses, Series, kind_of}
use Rattle.px_frame.specs.CellView.{named_cell}
use Rattle.px_frame.specs.Spread.{column_of_cell}
use Rattle.px_tree.specs.declared.function.FunctionExpr.TheVariants.{IsBetween}
use Rattle.px_nodes.specs.Named.{function_named, unequal}
use Rattle.px_nodes.specs.Together.{are_three_beside, are_three_units}
use Rattle.px_nodes.proofs.Answering.{made_short_cell, made_row}
use Rattle.px_nodes.proofs.Functions.{between_made, between_one, between_unequal}
use Rattle.px_nodes.proofs.apply.between_cells.Goals as goal

pub into_cell-requires : goal.into_cell-requires
into_cell-requires g c =
    let s = named_cell c.args.input.now in
    let x = named_cell c.args.low.now in
    let y = named_cell c.args.high.now in
    let closed = c.args.closed in
    made_row c.is_between.result c.are_three_units-is_unit.result (are_three_units s.cell x.cell y.cell)
    (between_column closed c.as_column-column.result.now c.as_column-x.result.now c.as_column-y.result.now) (between_column closed (column_of_cell s) (column_of_cell x) (column_of_cell y))
    c.are_three_units-is_unit.ensures (λ i. between_column closed (c.as_column-column.ensures i) (c.as_column-x.ensures i) (c.as_column-y.ensures i)) c.is_between.ensures.answer (between_one closed s x y)

pub returns-then-are_three_beside-clause-answer : goal.returns-then-are_three_beside-clause-answer
returns-then-are_three_beside-clause-answer g c =
    let s = named_cell c.args.input.now in
    let x = named_cell c.args.low.now in
    let y = named_cell c.args.high.now in
    let closed = c.args.closed in
    let beside : are_three_beside s.cell x.cell y.cell ≡ true = cc (c.are_three_beside.ensures, c.if-are_three_beside.true) in
    made_short_cell c.into_cell.result c.is_between.result c.are_three_units-is_unit.result (are_three_units s.cell x.cell y.cell)
    (between_column closed c.as_column-column.result.now c.as_column-x.result.now c.as_column-y.result.now) (between_column closed (column_of_cell s) (column_of_cell x) (column_of_cell y)) (function_named (IsBetween closed) (s ∷ x ∷ y ∷ []))
    c.are_three_units-is_unit.ensures (λ i. between_column closed (c.as_column-column.ensures i) (c.as_column-x.ensures i) (c.as_column-y.ensures i)) (between_made closed s x y beside)
    c.is_between.ensures.answer c.into_cell.ensures.short

pub returns-else-are_three_beside-clause-answer : goal.returns-else-are_three_beside-clause-answer
returns-else-are_three_beside-clause-answer g c =
    let s = named_cell c.args.input.now in
    let x = named_cell c.args.low.now in
    let y = named_cell c.args.high.now in
    let apart : are_three_beside s.cell x.cell y.cell ≡ false = cc (c.are_three_beside.ensures, c.if-are_three_beside.false) in
    let of : kind_of c.dtype.result.now ≡ s.kind = c.dtype.ensures ∙ ap (λ (t : Series). t.kind) c.as_column-column.ensures in
    let low : kind_of c.dtype-else-are_three_beside.result.now ≡ x.kind = c.dtype-else-are_three_beside.ensures ∙ ap (λ (t : Series). t.kind) c.as_column-x.ensures in
    let high : kind_of c.dtype-else-are_three_beside-2.result.now ≡ y.kind = c.dtype-else-are_three_beside-2.ensures ∙ ap (λ (t : Series). t.kind) c.as_column-y.ensures in
    subst (Refuses c.length_refusal.result) ((λ i. unequal (compared_kind (of i) (low i ∷ high i ∷ []))) ∙ between_unequal c.args.closed s x y apart) (c.length_refusal.ensures (compared_kind (kind_of c.dtype.result.now) (kind_of c.dtype-else-are_three_beside.result.now ∷ kind_of c.dtype-else-are_three_beside-2.result.now ∷ [])) c.compared_type-dtype.ensures)
