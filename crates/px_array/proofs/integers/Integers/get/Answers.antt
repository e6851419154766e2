use Rattle.std.proofs.Common.{◌+◌, ◌<◌, length, ap, sym, ◌∙◌, arith}
use Rattle.std.proofs.lemmas.List.FromFn.{length-map-range_with_len}
use Rattle.px_value.specs.Series.{slot_at}
use Rattle.px_array.specs.Integers.{number_slot}
use Rattle.px_array.proofs.Windows.{numbers_less, window_row}
use Rattle.px_array.proofs.integers.Integers.get.Goals as goal

pub number_at-requires-clause-numbers : goal.number_at-requires-clause-numbers
number_at-requires-clause-numbers c =
    let x = c.self.inside in
    let count = length-map-range_with_len (number_slot x.numbers x.valid.now) x.first x.len in
    let lt : c.args.index < x.len = omega (arith, count, ap length c.self.view_is, c.requires) in
    numbers_less x.numbers (x.first + c.args.index + 1) (x.first + x.len) (omega (arith, lt)) c.self.invariant.numbers_there

pub number_at-requires-clause-valid : goal.number_at-requires-clause-valid
number_at-requires-clause-valid c =
    let x = c.self.inside in
    let count = length-map-range_with_len (number_slot x.numbers x.valid.now) x.first x.len in
    let lt : c.args.index < x.len = omega (arith, count, ap length c.self.view_is, c.requires) in
    omega (arith, lt, c.self.invariant.bits)

pub returns-clause-value : goal.returns-clause-value
returns-clause-value c =
    let x = c.self.inside in
    let count = length-map-range_with_len (number_slot x.numbers x.valid.now) x.first x.len in
    let lt : c.args.index < x.len = omega (arith, count, ap length c.self.view_is, c.requires) in
    c.number_at.ensures.value ∙ sym (window_row (number_slot x.numbers x.valid.now) x.first x.len c.args.index lt) ∙ ap (λ xs. slot_at xs c.args.index) c.self.view_is
