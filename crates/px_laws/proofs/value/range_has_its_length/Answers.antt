use Rattle.px_laws.proofs.RangeCount.{size_of_range}
use Rattle.px_laws.proofs.value.range_has_its_length.Goals as goal

pub returns : goal.returns
returns c = size_of_range
