use Rattle.std.proofs.Common.{refl}
use Rattle.px_column.proofs.KeyLaws.{range_push}
use Rattle.px_window.proofs.places.numbers_below.Goals as goal

pub loop-number-preserved : goal.loop-number-preserved
loop-number-preserved c = rw (c.in_ok-push.ensures.items, c.loop-number.invariant, range_push) refl
