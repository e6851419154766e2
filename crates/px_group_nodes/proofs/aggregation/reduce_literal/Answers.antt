use Rattle.std.proofs.Common.{◌≡◌, ◌∙◌, Ok, ap, subst, sym}
use Rattle.std.proofs.lemmas.Result.{err_from_is_err_and}
use Rattle.px_column.specs.Prelude.{Refuses}
use Rattle.px_frame.specs.CellView.{named_cell}
use Rattle.px_frame.specs.Spread.{NamedCell}
use Rattle.px_nodes.specs.Named.{aggregation_named}
use Rattle.px_lanes.specs.Lane.{lane_of}
use Rattle.px_group_nodes.proofs.SameReductions.{literal_reduced, literal_refused}
use Rattle.px_group_nodes.proofs.aggregation.reduce_literal.Goals as goal

pub returns-in_err-made-clause-refused : goal.returns-in_err-made-clause-refused
returns-in_err-made-clause-refused g c =
    let a = c.args.input in
    let p = err_from_is_err_and c.from_residual-in_err-made.result c.from_residual-in_err-made.ensures.1 in
    let cell : named_cell c.in_ok-cell.cell ≡ lane_of a = cc (c.in_ok-cell.ensures) in
    rw (p.1, p.2) (literal_refused a c.requires c.args.method c.in_err-made.field-0.0 (subst (λ (x : NamedCell). Refuses c.in_err-made.field-0.0 (aggregation_named c.args.method x)) cell c.in_err-made.ensures.answer))

pub returns-clause-made : goal.returns-clause-made
returns-clause-made g c =
    let a = c.args.input in
    let cell : named_cell c.in_ok-cell.cell ≡ lane_of a = cc (c.in_ok-cell.ensures) in
    let made : aggregation_named c.args.method (lane_of a) ≡ Ok (named_cell c.in_ok-made.made) = ap (aggregation_named c.args.method) (sym cell) ∙ c.in_ok-made.ensures.answer in
    rw c.with_same.ensures (literal_reduced a c.requires c.args.method (named_cell c.in_ok-made.made) made)
