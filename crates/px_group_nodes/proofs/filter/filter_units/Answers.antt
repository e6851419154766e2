use Rattle.std.proofs.Common.{◌≡◌, ◌∙◌, Ok, ap, false, subst, sym}
use Rattle.std.proofs.lemmas.Result.{err_from_is_err_and}
use Rattle.px_column.specs.Prelude.{Refuses}
use Rattle.px_frame.specs.CellView.{named_cell}
use Rattle.px_nodes.specs.Named.{filter_named}
use Rattle.px_context.specs.Built.{with_lit}
use Rattle.px_lanes.specs.Lane.{lane_of}
use Rattle.px_group_nodes.specs.Filter.{IsFiltered}
use Rattle.px_group_nodes.proofs.Singling.{units_filtered, units_refused}
use Rattle.px_group_nodes.proofs.filter.filter_units.Goals as goal

pub returns-in_err-kept-clause-refused : goal.returns-in_err-kept-clause-refused
returns-in_err-kept-clause-refused g c =
    let a = c.args.input in
    let by = c.args.by.now in
    let x : named_cell c.in_ok-x.x ≡ lane_of a = cc c.in_ok-x.ensures in
    let y : named_cell c.in_ok-y.y ≡ lane_of by = cc c.in_ok-y.ensures in
    let e = c.in_err-kept.field-0.0 in
    let p = err_from_is_err_and c.from_residual-in_err-kept.result c.from_residual-in_err-kept.ensures.1 in
    let refused : Refuses e (filter_named (lane_of a) (lane_of by)) = subst (Refuses e) (λ i. filter_named (x i) (y i)) c.in_err-kept.ensures.answer in
    rw (p.1, p.2) (units_refused a by c.has_lane.ensures.context c.has_lane-2.ensures.context c.requires.count c.requires.input c.requires.truths c.requires.mask e refused)

pub returns-clause-made : goal.returns-clause-made
returns-clause-made g c =
    let a = c.args.input in
    let by = c.args.by.now in
    let x : named_cell c.in_ok-x.x ≡ lane_of a = cc c.in_ok-x.ensures in
    let y : named_cell c.in_ok-y.y ≡ lane_of by = cc c.in_ok-y.ensures in
    let made : filter_named (lane_of a) (lane_of by) ≡ Ok (named_cell c.in_ok-kept.kept) = (λ i. filter_named (sym x i) (sym y i)) ∙ c.in_ok-kept.ensures.answer in
    subst (IsFiltered a by) (sym (c.with_literal.ensures ∙ ap (with_lit false a) c.into_column.ensures))
    (units_filtered a by c.has_lane.ensures.context c.has_lane-2.ensures.context c.requires.count c.requires.input c.requires.truths c.requires.mask (named_cell c.in_ok-kept.kept) made)
