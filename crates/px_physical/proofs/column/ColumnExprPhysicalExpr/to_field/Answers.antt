use Rattle.std.proofs.Common.{sym}
use Rattle.px_answers.proofs.Columns.{found_option}
use Rattle.px_physical.proofs.column.ColumnExprPhysicalExpr.to_field.Goals as goal

pub returns-in-Some : goal.returns-in-Some
returns-in-Some c = record { field = found_option c.args.self.now _ c.args.input_schema.now c.get_field.result c.in_ok-field.field-0 c.in-Some.field (sym c.self.view_is) c.get_field.ensures (c.in_ok-field.was) c.in-Some.is }
