use Rattle.std.proofs.Common.{◌≡◌, ℕ, ◌≤◌, cond, ap, sym, ◌∙◌, arith}
use Rattle.px_array.specs.Words.{word_bit}
use Rattle.px_array.proofs.Counting.{places_next}
use Rattle.px_array.proofs.words.count_places.Goals as goal
use Rattle.px_array.proofs.words.count_places.Goals.{then-bit, else-bit}

pub loop-place-preserved : goal.loop-place-preserved
loop-place-preserved c =
    let ws = c.args.words.now in
    let low : c.args.from ≤ c.loop-place.place = omega (arith, c.loop-place.auto.place) in
    let next = places_next ws c.args.from c.loop-place.place low in
    elim c.if-bit.branch [
      | then-bit w ↦
          let one : ◌≡◌ {A = ℕ} (cond (word_bit ws c.loop-place.place) 1 0) 1 = ap (λ b. cond b 1 0) (sym c.bit.ensures ∙ w.if-bit.true) in
          record { sum = omega (arith, w.count-is, c.loop-place.invariant.sum, next, one); few = omega (arith, w.count-is, c.loop-place.invariant.few, low) }
      | else-bit w ↦
          let none : ◌≡◌ {A = ℕ} (cond (word_bit ws c.loop-place.place) 1 0) 0 = ap (λ b. cond b 1 0) (sym c.bit.ensures ∙ w.if-bit.false) in
          record { sum = omega (arith, w.count-is, c.loop-place.invariant.sum, next, none); few = omega (arith, w.count-is, c.loop-place.invariant.few, low) }
    ]
