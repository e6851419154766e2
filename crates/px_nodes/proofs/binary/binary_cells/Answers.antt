use Rattle.std.proofs.Common.{◌≡◌, ◌∙◌, true, false, ap, subst}
use Rattle.px_column.specs.Operated.{operated_column}
use Rattle.px_column.specs.Operator.{operator_kind}
use Rattle.px_column.specs.Prelude.{Refuses, Series, kind_of}
use Rattle.px_frame.specs.CellView.{named_cell}
use Rattle.px_frame.specs.Spread.{column_of_cell}
use Rattle.px_nodes.specs.Named.{binary_named, unequal}
use Rattle.px_nodes.specs.Together.{are_two_beside, are_two_units}
use Rattle.px_nodes.proofs.Answering.{made_cell, made_row}
use Rattle.px_nodes.proofs.Operated.{binary_made, binary_one, binary_unequal}
use Rattle.px_nodes.proofs.binary.binary_cells.Goals as goal

pub into_cell-requires : goal.into_cell-requires
into_cell-requires g c =
    let a = named_cell c.args.left in
    let b = named_cell c.args.right in
    made_row c.apply_operator.result c.are_two_units-is_unit.result (are_two_units a.cell b.cell)
    (operated_column c.args.op c.as_column-x.result.now c.as_column-y.result.now) (operated_column c.args.op (column_of_cell a) (column_of_cell b))
    c.are_two_units-is_unit.ensures (λ i. operated_column c.args.op (c.as_column-x.ensures i) (c.as_column-y.ensures i)) c.apply_operator.ensures.answer (binary_one c.args.op a b)

pub returns-then-are_two_beside-clause-answer : goal.returns-then-are_two_beside-clause-answer
returns-then-are_two_beside-clause-answer g c =
    let a = named_cell c.args.left in
    let b = named_cell c.args.right in
    let beside : are_two_beside a.cell b.cell ≡ true = cc (c.are_two_beside.ensures, c.if-are_two_beside.true) in
    made_cell c.into_cell.result c.apply_operator.result c.are_two_units-is_unit.result (are_two_units a.cell b.cell)
    (operated_column c.args.op c.as_column-x.result.now c.as_column-y.result.now) (operated_column c.args.op (column_of_cell a) (column_of_cell b)) (binary_named c.args.op a b)
    c.are_two_units-is_unit.ensures (λ i. operated_column c.args.op (c.as_column-x.ensures i) (c.as_column-y.ensures i)) (binary_made c.args.op a b beside)
    c.apply_operator.ensures.answer c.into_cell.ensures.answer

pub returns-clause-answer : goal.returns-clause-answer
returns-clause-answer g c =
    let a = named_cell c.args.left in
    let b = named_cell c.args.right in
    let apart : are_two_beside a.cell b.cell ≡ false = cc (c.are_two_beside.ensures, c.if-are_two_beside.false) in
    let left : kind_of c.in_ok-dtype.dtype ≡ a.kind = cc (c.in_ok-dtype.ensures, c.dtype.ensures, ap (λ (s : Series). s.kind) c.as_column-x.ensures) in
    let right : kind_of c.dtype-else-are_two_beside.result.now ≡ b.kind = c.dtype-else-are_two_beside.ensures ∙ ap (λ (s : Series). s.kind) c.as_column-y.ensures in
    subst (Refuses c.length_refusal.result) ((λ i. unequal (operator_kind c.args.op (left i) (right i))) ∙ binary_unequal c.args.op a b apart) (c.length_refusal.ensures _ c.operator_type.ensures)
