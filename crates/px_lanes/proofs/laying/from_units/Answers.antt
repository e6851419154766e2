use Rattle.std.proofs.Common.{◌≡◌, ◌∙◌, [], true, ap, arith, length, map, subst}
use Rattle.px_column.specs.Prelude.{Series, kind_of}
use Rattle.px_frame.specs.CellView.{named_cell}
use Rattle.std.proofs.lemmas.List.{length-map}
use Rattle.px_lanes.specs.Alike.{AreOf, values_in}
use Rattle.px_lanes.proofs.Joining.{length_units, of_like}
use Rattle.px_lanes.proofs.laying.from_units.Goals as goal

pub join_cells-requires-clause-kinds : goal.join_cells-requires-clause-kinds
join_cells-requires-clause-kinds c =
    let cs = map named_cell c.args.cells.now in
    let made : record { name = c.args.name; kind = kind_of c.args.dtype; slots = [] } ≡ c.in_ok-rows.rows = cc c.in_ok-rows.ensures in
    subst (λ (s : Series). AreOf s.kind cs) made (of_like c.args.name (kind_of c.args.dtype) true cs c.requires.like)

pub join_cells-requires-clause-short : goal.join_cells-requires-clause-short
join_cells-requires-clause-short c =
    let cs = map named_cell c.args.cells.now in
    omega (arith, length_units c.args.name (kind_of c.args.dtype) cs c.requires.like, length-map c.args.cells.now named_cell, c.requires.few)

pub with_values-requires : goal.with_values-requires
with_values-requires c =
    let cs = map named_cell c.args.cells.now in
    let rows : c.in_ok-join_cells.field-0 ≡ record c.in_ok-rows.rows { slots = values_in cs } = cc c.in_ok-join_cells.ensures in
    ap (λ (s : Series). length s.slots) rows ∙ length_units c.args.name (kind_of c.args.dtype) cs c.requires.like ∙ length-map c.args.cells.now named_cell ∙ c.requires.count
