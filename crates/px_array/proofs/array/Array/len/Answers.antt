use Rattle.std.proofs.Common.{length, ap, sym, ◌∙◌}
use Rattle.std.proofs.lemmas.List.FromFn.{length-map-range_with_len}
use Rattle.px_array.specs.Inside.{inner_slot}
use Rattle.px_array.specs.Places.{Places}
use Rattle.px_array.proofs.array.Array.len.Goals as goal

pub returns : goal.returns
returns c = sym (length-map-range_with_len (inner_slot c.self.inside.inner) c.self.inside.first c.self.inside.len) ∙ ap (λ (s : Places). length s.slots) c.self.view_is
