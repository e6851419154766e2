use Rattle.std.proofs.Common.{sym}
use Rattle.px_answers.proofs.Beside.{column_cause, copied_value}
use Rattle.px_window.specs.State.{external_columns}
use Rattle.px_physical.proofs.column.ColumnExprPhysicalExpr.evaluate.Goals as goal

pub returns-clause-value : goal.returns-clause-value
returns-clause-value g c =
    copied_value (record { name = c.self.inside.name; schema = c.deref.result.now }) c.args.df.now (external_columns c.args.state.now) c.args.self.now c.copy_column.result (rw c.deref.ensures (sym c.self.view_is)) c.copy_column.ensures.column c.copy_column.ensures.named

pub returns-clause-causes : goal.returns-clause-causes
returns-clause-causes g c =
    column_cause (record { name = c.self.inside.name; schema = c.deref.result.now }) c.args.df.now (external_columns c.args.state.now) c.args.self.now c.copy_column.result (rw c.deref.ensures (sym c.self.view_is)) c.copy_column.ensures.column
