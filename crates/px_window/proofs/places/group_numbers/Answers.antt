use Rattle.std.proofs.Common.{◌≡◌, ◌∙◌, ap, length, sym}
use Rattle.std.specs.List.{concat}
use Rattle.px_frame.specs.Groups.{rows_of}
use Rattle.px_window.specs.Places.{numbers_from}
use Rattle.px_window.proofs.Joining.{numbers_many}
use Rattle.px_window.proofs.places.group_numbers.Goals as goal

pub put_at-requires-clause-beside : goal.put_at-requires-clause-beside
put_at-requires-clause-beside c =
    let g = c.args.parts.now in
    let rows : c.deref.result.now ≡ concat (rows_of g) = cc (c.deref.ensures.value, c.in_ok-rows.ensures) in
    let numbers : c.deref-2.result.now ≡ numbers_from 0 (rows_of g) = cc (c.deref-2.ensures.value, c.in_ok-numbers.ensures) in
    ap length numbers ∙ numbers_many 0 (rows_of g) ∙ ap length (sym rows)
