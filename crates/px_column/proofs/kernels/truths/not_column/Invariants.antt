use Rattle.px_operation.specs.Function.{not_slot}
use Rattle.px_column.proofs.kernels.truths.not_column.Given as goal

abbrev pub ghost-map_rows : goal.ghost-map_rows
ghost-map_rows a = not_slot
