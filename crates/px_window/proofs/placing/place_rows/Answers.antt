use Rattle.std.proofs.Common.{◌≡◌, ◌∙◌, List, ℕ, Ok, ap, arith, length, subst, sym}
use Rattle.std.specs.List.{concat}
use Rattle.std.proofs.lemmas.List.{length-map}
use Rattle.std.proofs.lemmas.List.FromFn.{length-map-range_with_len}
use Rattle.std.proofs.lemmas.Result.{err_from_is_err_and}
use Rattle.px_column.specs.Prelude.{Answers}
use Rattle.px_frame.specs.Frame.{are_below, series_at}
use Rattle.px_frame.specs.Groups.{Group, rows_of}
use Rattle.px_context.specs.Context.{cells_of}
use Rattle.px_context.specs.IterView.{left_of}
use Rattle.px_window.specs.Places.{place_of}
use Rattle.px_window.proofs.Joining.{places_below}
use Rattle.px_window.proofs.Laying.{cells_many, placed_long, placed_refused, placed_taken}
use Rattle.px_window.proofs.Once.{as_many}
use Rattle.px_window.proofs.placing.place_rows.Goals as goal

pub join_parts-requires-clause-few : goal.join_parts-requires-clause-few
join_parts-requires-clause-few c =
    let g = c.args.parts.now in
    omega (arith, as_many g.height (concat (rows_of g)) c.requires.once, c.height.ensures)

pub returns-in_err-joined-clause-answer : goal.returns-in_err-joined-clause-answer
returns-in_err-joined-clause-answer c =
    let ac = c.args.ac.now in
    let g = c.args.parts.now in
    let many : length (cells_of ac) ≡ length (rows_of g) = cells_many ac (left_of c.pieces.result) (length ac.groups.groups) c.pieces.ensures.cells c.pieces.ensures.each ∙ c.requires.cells ∙ sym (length-map g.groups (λ (p : Group). p.rows)) in
    let p = err_from_is_err_and c.from_residual.result c.from_residual.ensures.1 in
    rw (p.1, p.2) (placed_refused ac g many c.in_err-joined.field-0.0 c.in_err-joined.ensures)

pub take_rows-requires-clause-few : goal.take_rows-requires-clause-few
take_rows-requires-clause-few c =
    let g = c.args.parts.now in
    omega (arith, ap length c.requires.map, length-map-range_with_len (place_of (concat (rows_of g))) 0 g.height, c.height.ensures)

pub take_rows-requires-clause-below : goal.take_rows-requires-clause-below
take_rows-requires-clause-below c =
    let ac = c.args.ac.now in
    let g = c.args.parts.now in
    let many : length (cells_of ac) ≡ length (rows_of g) = cells_many ac (left_of c.pieces.result) (length ac.groups.groups) c.pieces.ensures.cells c.pieces.ensures.each ∙ c.requires.cells ∙ sym (length-map g.groups (λ (p : Group). p.rows)) in
    let long = placed_long ac g many c.in_ok-joined.joined c.in_ok-joined.ensures in
    ap (are_below (length c.in_ok-joined.joined.slots)) c.requires.map ∙ places_below g.height (concat (rows_of g)) c.requires.once (length c.in_ok-joined.joined.slots) (sym long)

pub returns-clause-answer : goal.returns-clause-answer
returns-clause-answer c =
    let ac = c.args.ac.now in
    let g = c.args.parts.now in
    let many : length (cells_of ac) ≡ length (rows_of g) = cells_many ac (left_of c.pieces.result) (length ac.groups.groups) c.pieces.ensures.cells c.pieces.ensures.each ∙ c.requires.cells ∙ sym (length-map g.groups (λ (p : Group). p.rows)) in
    placed_taken ac g many c.in_ok-joined.joined c.take_rows.result c.requires.once c.in_ok-joined.ensures
    (subst (λ (ns : List ℕ). Answers c.take_rows.result (Ok (series_at ns c.in_ok-joined.joined))) c.requires.map c.take_rows.ensures)
