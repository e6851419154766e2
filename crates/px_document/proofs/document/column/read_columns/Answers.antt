use Rattle.std.proofs.Common.{◌<◌, ◌∙◌, length, arith}
use Rattle.serde_json.specs.View.{view}
use Rattle.px_document.specs.Document.{column_of}
use Rattle.px_document.proofs.Readings.{each_step}
use Rattle.px_document.proofs.document.column.read_columns.Goals as goal

pub loop-value-preserved : goal.loop-value-preserved
loop-value-preserved c =
    let within : c.loop-value.value-index < length c.args.values.now = omega arith in
    rw c.in_ok-push.ensures.items (each_step view column_of c.args.values.now c.loop-value.value-index c.value-item.result c.loop-value.columns.items c.in_ok-read_column.field-0 within c.value-item.is c.in_ok-read_column.ensures ∙ c.loop-value.invariant)
