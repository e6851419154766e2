use Rattle.std.proofs.Common.{◌≡◌, ◌∙◌, List, ℕ, Ok, ap, arith, length, slice_index, subst}
use Rattle.std.specs.List.{concat}
use Rattle.std.proofs.lemmas.List.{length-map}
use Rattle.std.proofs.lemmas.List.FromFn.{length-map-range_with_len}
use Rattle.std.proofs.lemmas.Result.{err_from_is_err_and}
use Rattle.px_column.specs.Prelude.{Answers}
use Rattle.px_frame.specs.Cell.{value_of_cell}
use Rattle.px_frame.specs.Frame.{are_below, series_at}
use Rattle.px_frame.specs.Groups.{rows_of}
use Rattle.px_context.specs.Context.{cells_of}
use Rattle.px_context.specs.IterView.{left_of}
use Rattle.px_window.specs.Places.{numbers_from, part_numbers, place_of}
use Rattle.px_window.proofs.Joining.{part_numbers_below}
use Rattle.px_window.proofs.Laying.{cells_many}
use Rattle.px_window.proofs.Whole.{finalized_long, joined_taken}
use Rattle.px_window.proofs.placing.place_join.Goals as goal

pub returns-in_err-whole-clause-long : goal.returns-in_err-whole-clause-long
returns-in_err-whole-clause-long c =
    let p = err_from_is_err_and c.from_residual.result c.from_residual.ensures.1 in
    rw (p.1, p.2) (finalized_long c.args.ac.now c.in_err-whole.field-0.0 c.in_err-whole.ensures.answer)

pub take_rows-requires-clause-few : goal.take_rows-requires-clause-few
take_rows-requires-clause-few c =
    let g = c.args.parts.now in
    let numbers : c.deref.result.now ≡ part_numbers g = cc (c.deref.ensures.value, c.in_ok-numbers.ensures.numbers) in
    omega (arith, ap length numbers, length-map-range_with_len (λ row. slice_index (numbers_from 0 (rows_of g)) (place_of (concat (rows_of g)) row)) 0 g.height, c.in_ok-numbers.ensures.few)

pub take_rows-requires-clause-below : goal.take_rows-requires-clause-below
take_rows-requires-clause-below c =
    let ac = c.args.ac.now in
    let g = c.args.parts.now in
    let numbers : c.deref.result.now ≡ part_numbers g = cc (c.deref.ensures.value, c.in_ok-numbers.ensures.numbers) in
    let many : length (cells_of ac) ≡ length g.groups = cells_many ac (left_of c.pieces.result) (length ac.groups.groups) c.pieces.ensures.cells c.pieces.ensures.each ∙ c.requires.cells in
    let long : length c.in_ok-whole.whole.slots ≡ length g.groups = ap length c.in_ok-whole.ensures.rows ∙ length-map (cells_of ac) value_of_cell ∙ many in
    (λ i. are_below (long i) (numbers i)) ∙ part_numbers_below g c.requires.once

pub returns-clause-answer : goal.returns-clause-answer
returns-clause-answer c =
    let ac = c.args.ac.now in
    let g = c.args.parts.now in
    let numbers : c.deref.result.now ≡ part_numbers g = cc (c.deref.ensures.value, c.in_ok-numbers.ensures.numbers) in
    let many : length (cells_of ac) ≡ length g.groups = cells_many ac (left_of c.pieces.result) (length ac.groups.groups) c.pieces.ensures.cells c.pieces.ensures.each ∙ c.requires.cells in
    joined_taken ac g c.requires.once c.in_ok-whole.whole c.in_ok-whole.ensures.answer c.in_ok-whole.ensures.rows many c.take_rows.result
    (subst (λ (ns : List ℕ). Answers c.take_rows.result (Ok (series_at ns c.in_ok-whole.whole))) numbers c.take_rows.ensures)
