use Rattle.std.proofs.Common.{◌≡◌, None, rules}
use Rattle.px_frame.specs.External.{alone}
use Rattle.px_answers.specs.Planned.{found_by}
use Rattle.px_answers.proofs.Beside.{beside_named, own_copied, own_named}
use Rattle.px_window.specs.State.{external_columns}
use Rattle.px_scope.proofs.columns.copy_column.Goals as goal

pub returns-in-Some-clause-column : goal.returns-in-Some-clause-column
returns-in-Some-clause-column c =
    own_copied (record { name = c.args.name.now; schema = c.args.schema.now }) c.args.df.now (external_columns c.args.state.now) c.found_column.result c.in-Some.column c.try_clone.result c.found_column.ensures.found c.in-Some.is c.try_clone.ensures

pub returns-in-Some-clause-named : goal.returns-in-Some-clause-named
returns-in-Some-clause-named c =
    own_named (record { name = c.args.name.now; schema = c.args.schema.now }) c.args.df.now (external_columns c.args.state.now) c.found_column.result c.in-Some.column c.try_clone.result c.found_column.ensures.column c.in-Some.is c.try_clone.ensures

pub returns-in-None-clause-named : goal.returns-in-None-clause-named
returns-in-None-clause-named c =
    let none : found_by (record { name = c.args.name.now; schema = c.args.schema.now }) (alone c.args.df.now) ≡ None = search rules in
    beside_named (record { name = c.args.name.now; schema = c.args.schema.now }) c.args.df.now (external_columns c.args.state.now) c.external_column.result none c.external_column.ensures.column
