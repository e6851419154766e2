use Rattle.px_cuts.proofs.RowsCounted.{safe_size, size_within, windows_none}
use Rattle.px_cuts.proofs.sizes.values_are_no_more_than_rows.Goals as goal

pub returns-clause-elementwise : goal.returns-clause-elementwise
returns-clause-elementwise c = size_within

pub returns-clause-safe : goal.returns-clause-safe
returns-clause-safe c = safe_size

pub returns-clause-windows : goal.returns-clause-windows
returns-clause-windows c = windows_none
