use Rattle.std.proofs.Common.{◌≡◌, List, Ok, length, map, refl, subst, sym}
use Rattle.px_column.specs.Prelude.{kind_of}
use Rattle.px_frame.specs.CellView.{named_cell}
use Rattle.px_frame.specs.declared.cell.Cell.{Cell}
use Rattle.px_lanes.specs.Alike.{AreLike}
use Rattle.px_lanes.specs.Made.{answers_of_two, named_cells}
use Rattle.px_lanes.proofs.Grouping.{made_of}
use Rattle.px_group_nodes.proofs.Pairing.{refusal_of}
use Rattle.px_group_nodes.proofs.pairs.make_each.Goals as goal

pub from_cells-requires-clause-like : goal.from_cells-requires-clause-like
from_cells-requires-clause-like g c =
    let name : c.in_ok-name.name ≡ c.args.left.values.name = cc (c.name.ensures, c.get_values.ensures, c.in_ok-name.ensures) in
    let like = c.requires.like (map named_cell c.in_ok-cells.cells.items) c.in_ok-cells.ensures.cells in
    subst (λ (items : List Cell). AreLike c.in_ok-name.name (kind_of c.args.dtype) c.args.is_unit (map named_cell items)) (sym c.deref.ensures.value) (rw name like)

pub returns-clause-made : goal.returns-clause-made
returns-clause-made g c =
    let l = c.args.left in
    let r = c.args.right.now in
    let answers = answers_of_two (g.N.Two.node c.args.node.now) (named_cells l) (named_cells r) in
    let name : c.in_ok-name.name ≡ l.values.name = cc (c.name.ensures, c.get_values.ensures, c.in_ok-name.ensures) in
    let cs = map named_cell c.in_ok-cells.cells.items in
    made_of c.from_cells.result answers l.values.name (Ok (kind_of c.args.dtype)) c.args.is_unit (length l.groups.groups) cs (kind_of c.args.dtype)
    c.in_ok-cells.ensures.cells refl (rw c.deref.ensures.value at c.from_cells.ensures.cells) (rw name at c.from_cells.ensures.name) c.from_cells.ensures.kind
    c.from_cells.ensures.shape (rw (c.deref.ensures.value, c.in_ok-cells.ensures.count) at c.from_cells.ensures.count)

pub returns-clause-refused : goal.returns-clause-refused
returns-clause-refused g c =
    let l = c.args.left in
    let r = c.args.right.now in
    let answers = answers_of_two (g.N.Two.node c.args.node.now) (named_cells l) (named_cells r) in
    refusal_of c.from_cells.result answers (map named_cell c.in_ok-cells.cells.items) c.in_ok-cells.ensures.cells (rw c.deref.ensures.value at c.from_cells.ensures.refused)
