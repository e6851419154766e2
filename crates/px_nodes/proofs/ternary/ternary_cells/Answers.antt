use Rattle.std.proofs.Common.{◌≡◌, ◌∙◌, true, ap, sym}
use Rattle.px_column.specs.Chosen.{chosen_column}
use Rattle.px_column.specs.Operator.{is_boolean_kind}
use Rattle.px_column.specs.Prelude.{Series, kind_eq, kind_of}
use Rattle.px_frame.specs.CellView.{named_cell}
use Rattle.px_frame.specs.Spread.{column_of_cell}
use Rattle.px_nodes.specs.Named.{ternary_named}
use Rattle.px_nodes.specs.Together.{are_three_beside, are_three_units}
use Rattle.px_nodes.proofs.Answering.{made_cell, made_row}
use Rattle.px_nodes.proofs.Operated.{ternary_made, ternary_one}
use Rattle.px_nodes.proofs.ternary.ternary_cells.Goals as goal

pub into_cell-requires : goal.into_cell-requires
into_cell-requires g c =
    let p = named_cell c.args.predicate in
    let a = named_cell c.args.truthy in
    let b = named_cell c.args.falsy in
    made_row c.zip_with.result c.are_three_units-is_unit.result (are_three_units p.cell a.cell b.cell)
    (chosen_column c.as_column-mask.result.now c.as_column-x.result.now c.as_column-y.result.now) (chosen_column (column_of_cell p) (column_of_cell a) (column_of_cell b))
    c.are_three_units-is_unit.ensures (λ i. chosen_column (c.as_column-mask.ensures i) (c.as_column-x.ensures i) (c.as_column-y.ensures i)) c.zip_with.ensures.answer (ternary_one p a b)

pub returns-clause-answer : goal.returns-clause-answer
returns-clause-answer g c =
    let p = named_cell c.args.predicate in
    let a = named_cell c.args.truthy in
    let b = named_cell c.args.falsy in
    let mask : kind_of c.dtype.result.now ≡ p.kind = c.dtype.ensures ∙ ap (λ (s : Series). s.kind) c.as_column-mask.ensures in
    let left : kind_of c.dtype-2.result.now ≡ a.kind = c.dtype-2.ensures ∙ ap (λ (s : Series). s.kind) c.as_column-x.ensures in
    let right : kind_of c.dtype-3.result.now ≡ b.kind = c.dtype-3.ensures ∙ ap (λ (s : Series). s.kind) c.as_column-y.ensures in
    let truths : is_boolean_kind p.kind ≡ true = cc (mask, c.is_boolean.ensures, c.if-not-is_boolean.false) in
    let same : kind_eq a.kind b.kind ≡ true = (λ i. kind_eq (sym left i) (sym right i)) ∙ sym c.same_type.ensures ∙ c.if-not-same_type.false in
    let beside : are_three_beside p.cell a.cell b.cell ≡ true = cc (c.are_three_beside.ensures, c.if-not-are_three_beside.false) in
    made_cell c.into_cell.result c.zip_with.result c.are_three_units-is_unit.result (are_three_units p.cell a.cell b.cell)
    (chosen_column c.as_column-mask.result.now c.as_column-x.result.now c.as_column-y.result.now) (chosen_column (column_of_cell p) (column_of_cell a) (column_of_cell b)) (ternary_named p a b)
    c.are_three_units-is_unit.ensures (λ i. chosen_column (c.as_column-mask.ensures i) (c.as_column-x.ensures i) (c.as_column-y.ensures i)) (ternary_made p a b truths same beside)
    c.zip_with.ensures.answer c.into_cell.ensures.answer
