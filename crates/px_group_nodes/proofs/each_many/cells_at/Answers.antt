use Rattle.std.proofs.Common.{◌≡◌, ◌∙◌, ◌++◌, ◌∷◌, [], List, ap, map, subst, sym, take}
use Rattle.std.proofs.lemmas.List.{map_push}
use Rattle.px_frame.specs.CellView.{named_cell}
use Rattle.px_frame.specs.Spread.{NamedCell}
use Rattle.px_frame.specs.declared.cell.Cell.{Cell}
use Rattle.px_lanes.specs.Made.{named_cells}
use Rattle.px_group_nodes.specs.Many.{AreAt}
use Rattle.px_group_nodes.proofs.Across.{at_more, taken}
use Rattle.px_group_nodes.proofs.each_many.cells_at.Goals as goal

pub loop-input-preserved : goal.loop-input-preserved
loop-input-preserved c =
    let xs = c.args.inputs.now in
    let i = c.loop-input.input-index in
    let items = c.loop-input.cells.items in
    let m = c.in_ok-cell_at.field-0 in
    let more : map named_cell c.push.new.self.items ≡ map named_cell items ++ named_cell m ∷ [] = ap (λ (cs : List Cell). map named_cell cs) c.in_ok-push.ensures.items ∙ map_push named_cell items m in
    subst (λ (xss : List (List NamedCell)). AreAt c.args.group xss (map named_cell c.push.new.self.items)) (sym (taken named_cells xs i c.input-item.result c.loop-input-test.true c.input-item.is))
    (subst (λ (cs : List NamedCell). AreAt c.args.group (map named_cells (take i xs) ++ named_cells c.input-item.result ∷ []) cs) (sym more)
    (at_more c.args.group (map named_cells (take i xs)) (named_cells c.input-item.result) (map named_cell items) (named_cell m) c.loop-input.invariant c.in_ok-cell_at.ensures.cell))
