use Rattle.std.proofs.Common.{false, length}
use Rattle.std.proofs.lemmas.Result.{err_from_is_err_and}
use Rattle.px_column.specs.Prelude.{kind_of}
use Rattle.px_group_nodes.specs.Filter.{filter_answers, filtered_kind}
use Rattle.px_group_nodes.proofs.Pairing.{kind_refused, made_with, refused_with}
use Rattle.px_group_nodes.proofs.Selections.{filter_alike}
use Rattle.px_group_nodes.proofs.filter.filter_each.Goals as goal

pub make_each-requires-clause-like : goal.make_each-requires-clause-like
make_each-requires-clause-like g c = filter_alike c.args.input c.args.by.now (kind_of c.in_ok-dtype.dtype) c.in_ok-dtype.ensures

pub returns-clause-made : goal.returns-clause-made
returns-clause-made g c =
    let a = c.args.input in
    let by = c.args.by.now in
    made_with c.make_each.result (filter_answers a by) a.values.name (filtered_kind a by) (kind_of c.in_ok-dtype.dtype) false (length a.groups.groups) c.in_ok-dtype.ensures c.make_each.ensures.made

pub returns-clause-refused : goal.returns-clause-refused
returns-clause-refused g c = refused_with c.make_each.result (filter_answers c.args.input c.args.by.now) (filtered_kind c.args.input c.args.by.now) c.make_each.ensures.refused

pub returns-in_err-dtype-clause-refused : goal.returns-in_err-dtype-clause-refused
returns-in_err-dtype-clause-refused g c =
    let p = err_from_is_err_and c.from_residual.result c.from_residual.ensures.1 in
    let e = c.in_err-dtype.field-0.0 in
    rw (p.1, p.2) (kind_refused e (filtered_kind c.args.input c.args.by.now) (filter_answers c.args.input c.args.by.now) c.in_err-dtype.ensures)
