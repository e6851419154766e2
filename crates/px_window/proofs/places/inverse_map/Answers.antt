use Rattle.std.proofs.Common.{◌≡◌, ◌∙◌, List, ℕ, Ok, ap, length, subst, sym}
use Rattle.std.specs.List.{concat, range_with_len}
use Rattle.std.proofs.lemmas.List.FromFn.{length-range_with_len}
use Rattle.px_column.specs.Prelude.{AnswersBy}
use Rattle.px_frame.specs.Groups.{rows_of}
use Rattle.px_window.specs.Places.{put_at}
use Rattle.px_window.proofs.Joining.{places_put}
use Rattle.px_window.proofs.Once.{as_many}
use Rattle.px_window.proofs.places.inverse_map.Goals as goal

pub put_at-requires-clause-beside : goal.put_at-requires-clause-beside
put_at-requires-clause-beside c =
    let g = c.args.parts.now in
    let rows : c.deref.result.now ≡ concat (rows_of g) = cc (c.deref.ensures.value, c.in_ok-rows.ensures) in
    let places : c.deref-2.result.now ≡ range_with_len 0 g.height = cc (c.deref-2.ensures.value, c.in_ok-places.ensures, ap (range_with_len 0) c.height-height.ensures) in
    ap length places ∙ length-range_with_len 0 g.height ∙ sym (as_many g.height (concat (rows_of g)) c.requires) ∙ ap length (sym rows)

pub returns : goal.returns
returns c =
    let g = c.args.parts.now in
    let rows : c.deref.result.now ≡ concat (rows_of g) = cc (c.deref.ensures.value, c.in_ok-rows.ensures) in
    let places : c.deref-2.result.now ≡ range_with_len 0 g.height = cc (c.deref-2.ensures.value, c.in_ok-places.ensures, ap (range_with_len 0) c.height-height.ensures) in
    let made = (λ i. put_at (c.height-height.ensures i) (rows i) (places i)) ∙ places_put g.height (concat (rows_of g)) c.requires in
    subst (λ (ns : List ℕ). AnswersBy (λ v. v.items) c.put_at.result (Ok ns)) made c.put_at.ensures
