use Rattle.std.proofs.Common.{arith, ap}
use Rattle.std.proofs.lemmas.Grind.{common_steps}
use Rattle.px_text.specs.Text.{slot_text}
use Rattle.px_text.proofs.Separated.{separated_items_at}
use Rattle.px_text.proofs.value.+push.Goals as goal

pub push_values-loop-i-preserved : goal.push_values-loop-i-preserved
push_values-loop-i-preserved t c =
    let rest = separated_items_at c.args.values.now c.loop-i.i (omega arith) in
    let item = ap slot_text c.get.ensures in
    grind (arith, common_steps)
