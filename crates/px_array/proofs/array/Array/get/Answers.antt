use Rattle.std.proofs.Common.{◌≡◌, ◌+◌, ◌<◌, length, true, ap, sym, ◌∙◌, arith}
use Rattle.std.proofs.lemmas.List.FromFn.{length-map-range_with_len}
use Rattle.px_value.proofs.FitLaws.{fits_at}
use Rattle.px_value.specs.Kind.{slot_fits, slots_fit}
use Rattle.px_value.specs.Series.{slot_at}
use Rattle.px_array.specs.Inside.{inner_slot, window}
use Rattle.px_array.specs.Places.{Places}
use Rattle.px_array.proofs.Windows.{window_row, covers_less}
use Rattle.px_array.proofs.array.Array.get.Goals as goal

pub place_at-requires : goal.place_at-requires
place_at-requires c =
    let x = c.self.inside in
    let count : length (window x.inner x.first x.len) ≡ length c.args.self.now.slots = ap (λ (s : Places). length s.slots) c.self.view_is in
    covers_less x.inner (x.first + c.args.index + 1) (x.first + x.len)
    (omega (arith, count, length-map-range_with_len (inner_slot x.inner) x.first x.len, c.requires)) c.self.invariant.covers

pub returns-clause-value : goal.returns-clause-value
returns-clause-value c =
    let x = c.self.inside in
    let count : length (window x.inner x.first x.len) ≡ length c.args.self.now.slots = ap (λ (s : Places). length s.slots) c.self.view_is in
    let lt : c.args.index < x.len = omega (arith, count, length-map-range_with_len (inner_slot x.inner) x.first x.len, c.requires) in
    c.place_at.ensures ∙ sym (window_row (inner_slot x.inner) x.first x.len c.args.index lt)
    ∙ ap (λ (s : Places). slot_at s.slots c.args.index) c.self.view_is

pub returns-clause-fits : goal.returns-clause-fits
returns-clause-fits c =
    let fit : slots_fit c.args.self.now.kind c.args.self.now.slots ≡ true = ap (λ (s : Places). slots_fit s.kind s.slots) (sym c.self.view_is) ∙ c.self.invariant.column.fit in
    ap (slot_fits c.args.self.now.kind) (returns-clause-value c) ∙ fits_at c.args.self.now.kind c.args.self.now.slots c.args.index fit
