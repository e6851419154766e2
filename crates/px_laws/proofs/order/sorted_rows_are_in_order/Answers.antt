use Rattle.px_frame.proofs.OrderedRows.{sorted_once}
use Rattle.px_laws.proofs.order.sorted_rows_are_in_order.Goals as goal

pub returns-clause-once : goal.returns-clause-once
returns-clause-once c = sorted_once
