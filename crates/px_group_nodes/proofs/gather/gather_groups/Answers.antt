use Rattle.std.proofs.Common.{length}
use Rattle.std.proofs.lemmas.Result.{err_from_is_err_and}
use Rattle.px_column.specs.Prelude.{kind_of}
use Rattle.px_group_nodes.specs.Gather.{gather_answers, gathered_kind}
use Rattle.px_group_nodes.proofs.Indexing.{gather_alike}
use Rattle.px_group_nodes.proofs.Pairing.{kind_refused, made_with, refused_with}
use Rattle.px_group_nodes.proofs.gather.gather_groups.Goals as goal

pub make_each-requires-clause-like : goal.make_each-requires-clause-like
make_each-requires-clause-like g c =
    gather_alike c.args.returns_scalar c.args.idx_is_lit c.args.input c.args.idx (kind_of c.in_ok-dtype.dtype) c.in_ok-dtype.ensures

pub returns-clause-made : goal.returns-clause-made
returns-clause-made g c =
    let one = c.args.returns_scalar in
    let a = c.args.input in
    let idx = c.args.idx in
    made_with c.make_each.result (gather_answers one c.args.idx_is_lit a idx) a.values.name (gathered_kind one a idx) (kind_of c.in_ok-dtype.dtype) one (length a.groups.groups)
    c.in_ok-dtype.ensures c.make_each.ensures.made

pub returns-clause-refused : goal.returns-clause-refused
returns-clause-refused g c =
    let one = c.args.returns_scalar in
    refused_with c.make_each.result (gather_answers one c.args.idx_is_lit c.args.input c.args.idx) (gathered_kind one c.args.input c.args.idx) c.make_each.ensures.refused

pub returns-in_err-dtype-clause-refused : goal.returns-in_err-dtype-clause-refused
returns-in_err-dtype-clause-refused g c =
    let one = c.args.returns_scalar in
    let p = err_from_is_err_and c.from_residual.result c.from_residual.ensures.1 in
    let e = c.in_err-dtype.field-0.0 in
    rw (p.1, p.2) (kind_refused e (gathered_kind one c.args.input c.args.idx) (gather_answers one c.args.idx_is_lit c.args.input c.args.idx) c.in_err-dtype.ensures)
