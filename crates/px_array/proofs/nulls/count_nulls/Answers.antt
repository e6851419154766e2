use Rattle.std.proofs.Common.{◌≡◌, ◌+◌, ◌-◌, true, false, sym, ◌∙◌, arith}
use Rattle.px_array.proofs.Counting.{set_bits-le}
use Rattle.px_array.proofs.NullLaws.{all_null, nulls_and_bits, null_lane}
use Rattle.px_array.specs.Lanes.{has_values, lane_slot}
use Rattle.px_array.specs.Words.{set_bits}
use Rattle.px_array.proofs.nulls.count_nulls.Goals as goal

pub overflow_sub-result : goal.overflow_sub-result
overflow_sub-result c =
    let ws = c.args.store.now.valid.items in
    let n : c.args.first + c.args.len - c.args.first ≡ c.args.len = omega arith in
    let bits : c.count_set.result ≡ set_bits ws c.args.first c.args.len = cc (c.count_set.ensures, c.deref.ensures, n) in
    omega (arith, bits, set_bits-le ws c.args.first c.args.len)

pub returns-then-has_values : goal.returns-then-has_values
returns-then-has_values c =
    let ws = c.args.store.now.valid.items in
    let n : c.args.first + c.args.len - c.args.first ≡ c.args.len = omega arith in
    let bits : c.count_set.result ≡ set_bits ws c.args.first c.args.len = cc (c.count_set.ensures, c.deref.ensures, n) in
    let values : has_values c.args.store.now.lanes ≡ true = sym c.has_values.ensures ∙ c.if-has_values.true in
    omega (arith, bits, nulls_and_bits c.args.store.now.lanes ws c.args.store.now.len c.args.first c.args.len values c.requires.stored.holds c.requires.within)

pub returns-else-has_values : goal.returns-else-has_values
returns-else-has_values c =
    let ws = c.args.store.now.valid.items in
    let values : has_values c.args.store.now.lanes ≡ false = sym c.has_values.ensures ∙ c.if-has_values.false in
    sym (all_null (lane_slot c.args.store.now.lanes ws) c.args.first c.args.len (λ i. null_lane c.args.store.now.lanes ws i values))
