use Rattle.px_operation.specs.Function.{is_not_null_slot}
use Rattle.px_column.proofs.kernels.truths.present_rows.Given as goal

abbrev pub ghost-map_rows : goal.ghost-map_rows
ghost-map_rows a = is_not_null_slot
