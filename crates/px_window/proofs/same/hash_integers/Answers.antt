use Rattle.std.proofs.Common.{◌<◌, ◌∙◌, ap, arith, fold, length}
use Rattle.px_window.specs.Key.{place_hash}
use Rattle.px_window.proofs.SlotBySlot.{fed_next}
use Rattle.px_window.proofs.same.hash_integers.Goals as goal

pub loop-i-preserved : goal.loop-i-preserved
loop-i-preserved g c =
    let xs = c.args.integers.now in
    let below : c.loop-i.i < length xs = omega (arith, c.loop-i-test.true, c.len.ensures) in (
      omega (arith, below),
      fed_next g.H.Hasher.write xs c.loop-i.i c.args.state.now c.loop-i.state c.hash_integer.new.state below c.loop-i.invariant.1 (c.hash_integer.ensures ∙ ap (λ x. fold g.H.Hasher.write c.loop-i.state (place_hash x)) c.get.ensures.value),
    )
