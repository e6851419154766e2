use Rattle.std.proofs.Common.{rules}
use Rattle.px_answers.proofs.Reductions.{reduced_field}
use Rattle.px_frame.specs.SchemaView.{field_kind}
use Rattle.px_physical.proofs.+field.Goals as goal

pub aggregation::AggregationExprPhysicalExpr::to_field-returns-in_err-dtype : goal.aggregation::AggregationExprPhysicalExpr::to_field-returns-in_err-dtype
aggregation::AggregationExprPhysicalExpr::to_field-returns-in_err-dtype t c =
    record { field = rw (reduced_field c.args.self.now c.args.input_schema.now (field_kind c.in_ok-field.field) (search rules)) (search rules) }

pub aggregation::AggregationExprPhysicalExpr::to_field-returns : goal.aggregation::AggregationExprPhysicalExpr::to_field-returns
aggregation::AggregationExprPhysicalExpr::to_field-returns t c =
    record { field = rw (reduced_field c.args.self.now c.args.input_schema.now (field_kind c.in_ok-field.field) (search rules)) (search rules) }
