use Rattle.std.proofs.Common.{◌≡◌, Err, None, rules, sym}
use Rattle.std.proofs.lemmas.Result.{err_from_is_err_and}
use Rattle.px_frame.specs.External.{alone}
use Rattle.px_answers.specs.Planned.{found_by}
use Rattle.px_group_answers.proofs.Columns.{beside_group_cause, beside_on_groups, own_on_groups}
use Rattle.px_window.specs.State.{external_columns}
use Rattle.px_physical.proofs.column.ColumnExprPhysicalExpr.evaluate_on_groups.Goals as goal

pub returns-in-Some-clause-context : goal.returns-in-Some-clause-context
returns-in-Some-clause-context g c =
    own_on_groups c.args.self.now _ c.args.df.now (external_columns c.args.state.now) c.args.groups.now (rw c.deref.ensures (sym c.self.view_is)) c.found_column.result c.in-Some.column c.new.result c.found_column.ensures.found c.found_column.ensures.column c.in-Some.is c.requires c.len.ensures.groups c.new.ensures

pub returns-in_ok-column-in-None-clause-context : goal.returns-in_ok-column-in-None-clause-context
returns-in_ok-column-in-None-clause-context g c =
    let none : found_by (record { name = c.self.inside.name; schema = c.deref-in-None.result.now }) (alone c.args.df.now) ≡ None = search rules in
    beside_on_groups c.args.self.now (record { name = c.self.inside.name; schema = c.deref-in-None.result.now }) c.args.df.now (external_columns c.args.state.now) c.args.groups.now (rw c.deref-in-None.ensures (sym c.self.view_is)) c.in_ok-column-in-None.column c.new-in-None.result none c.in_ok-column-in-None.ensures.column c.requires c.len.ensures.groups c.new-in-None.ensures

pub returns-in_err-column-in-None-clause-causes : goal.returns-in_err-column-in-None-clause-causes
returns-in_err-column-in-None-clause-causes g c =
    let p = err_from_is_err_and c.from_residual.result c.from_residual.ensures.1 in
    rw (p.1, p.2) (beside_group_cause c.args.self.now (record { name = c.self.inside.name; schema = c.deref-in-None.result.now }) c.args.df.now (external_columns c.args.state.now) c.args.groups.now (rw c.deref-in-None.ensures (sym c.self.view_is)) (Err c.in_err-column-in-None.field-0.0) c.in_err-column-in-None.ensures.column)
