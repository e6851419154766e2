use Rattle.std.proofs.Common.{length, ap, sym, ◌∙◌}
use Rattle.std.proofs.lemmas.List.FromFn.{length-map-range_with_len}
use Rattle.px_array.specs.Integers.{number_slot}
use Rattle.px_array.proofs.integers.Integers.len.Goals as goal

pub returns : goal.returns
returns c =
    let x = c.self.inside in
    sym (length-map-range_with_len (number_slot x.numbers x.valid.now) x.first x.len) ∙ ap length c.self.view_is
