use Rattle.std.proofs.Common.{◌^◌, ◌<◌, ◌≤◌, slice_index, count_ones, arith, rules}
use Rattle.std.proofs.lemmas.Nat.{ones-le}
use Rattle.px_array.proofs.Counting.{words_next}
use Rattle.px_array.proofs.words.count_words.Goals as goal

pub loop-place-preserved : goal.loop-place-preserved
loop-place-preserved c =
    let low : c.args.from ≤ c.loop-place.place = omega (arith, c.loop-place.auto.place) in
    let fits : slice_index c.args.words.now c.loop-place.place < 2 ^ 64 = search rules in
    let next = words_next c.args.words.now c.args.from c.loop-place.place low fits in
    let few : count_ones (slice_index c.args.words.now c.loop-place.place) ≤ 64 = ones-le 64 _ fits in
    record { sum = omega (arith, c.loop-place.invariant.sum, next); few = omega (arith, c.loop-place.invariant.few, few, low) }
