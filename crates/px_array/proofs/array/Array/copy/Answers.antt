use Rattle.std.proofs.Common.{◌≡◌, ◌+◌, ◌<◌, Ok, length, true, ap, sym, ◌∙◌, arith, subst}
use Rattle.std.proofs.lemmas.List.FromFn.{length-map-range_with_len}
use Rattle.px_value.proofs.FitLaws.{fits_at}
use Rattle.px_value.specs.Answer.{AnswersBy}
use Rattle.px_value.specs.Kind.{slots_fit}
use Rattle.px_value.specs.Series.{slot_at}
use Rattle.px_value.specs.View.{slot_of}
use Rattle.px_array.specs.Inside.{inner_slot, window}
use Rattle.px_array.specs.Places.{Places}
use Rattle.px_array.proofs.Windows.{window_row, covers_less}
use Rattle.px_array.proofs.CopyLaws.{fits_answered}
use Rattle.px_array.proofs.array.Array.copy.Goals as goal

pub copy_place-requires : goal.copy_place-requires
copy_place-requires c =
    let x = c.self.inside in
    let count : length (window x.inner x.first x.len) ≡ length c.args.self.now.slots = ap (λ (s : Places). length s.slots) c.self.view_is in
    covers_less x.inner (x.first + c.args.index + 1) (x.first + x.len)
    (omega (arith, count, length-map-range_with_len (inner_slot x.inner) x.first x.len, c.requires)) c.self.invariant.covers

pub returns-clause-value : goal.returns-clause-value
returns-clause-value c =
    let x = c.self.inside in
    let count : length (window x.inner x.first x.len) ≡ length c.args.self.now.slots = ap (λ (s : Places). length s.slots) c.self.view_is in
    let lt : c.args.index < x.len = omega (arith, count, length-map-range_with_len (inner_slot x.inner) x.first x.len, c.requires) in
    subst (λ s. AnswersBy slot_of c.copy_place.result (Ok s)) (sym (window_row (inner_slot x.inner) x.first x.len c.args.index lt)
    ∙ ap (λ (s : Places). slot_at s.slots c.args.index) c.self.view_is) c.copy_place.ensures

pub returns-clause-fits : goal.returns-clause-fits
returns-clause-fits c =
    let fit : slots_fit c.args.self.now.kind c.args.self.now.slots ≡ true = ap (λ (s : Places). slots_fit s.kind s.slots) (sym c.self.view_is) ∙ c.self.invariant.column.fit in
    fits_answered c.args.self.now.kind _ c.copy_place.result (returns-clause-value c) (fits_at c.args.self.now.kind c.args.self.now.slots c.args.index fit)
