use Rattle.std.proofs.Common.{◌-◌, ◌*◌, ◌/◌, ◌≤◌, arith}
use Rattle.px_array.proofs.Counting.{set_bits-le, three_parts}
use Rattle.px_array.proofs.words.count_set.Goals as goal

pub overflow_add-result : goal.overflow_add-result
overflow_add-result c =
    let ws = c.args.words.now in
    let a = c.div_ceil-first.result in
    let b = c.args.to / 64 in
    omega (arith, c.requires.few, c.div_ceil-first.ensures, c.if-first-last.true, c.count_places.ensures, c.count_words.ensures, set_bits-le ws c.args.from (64 * a - c.args.from), set_bits-le ws (64 * a) (64 * (b - a)))

pub overflow_add-result-then-first-last : goal.overflow_add-result-then-first-last
overflow_add-result-then-first-last c =
    let ws = c.args.words.now in
    let a = c.div_ceil-first.result in
    let b = c.args.to / 64 in
    omega (arith, c.requires.few, c.div_ceil-first.ensures, c.if-first-last.true, c.count_places.ensures, c.count_words.ensures, c.count_places-then-first-last.ensures, set_bits-le ws c.args.from (64 * a - c.args.from), set_bits-le ws (64 * a) (64 * (b - a)), set_bits-le ws (64 * b) (c.args.to - 64 * b))

pub returns-then-first-last : goal.returns-then-first-last
returns-then-first-last c =
    let a = c.div_ceil-first.result in
    let b = c.args.to / 64 in
    let low : c.args.from ≤ 64 * a = omega (arith, c.div_ceil-first.ensures) in
    let mid : a ≤ b = omega (arith, c.if-first-last.true) in
    let high : 64 * b ≤ c.args.to = omega arith in
    three_parts c.args.words.now c.args.from a b c.args.to _ _ _ low mid high c.count_places.ensures c.count_words.ensures c.count_places-then-first-last.ensures
