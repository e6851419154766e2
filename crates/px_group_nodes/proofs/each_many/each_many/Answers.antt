use Rattle.std.proofs.Common.{◌≡◌, ◌∙◌, ◌+◌, ◌≤◌, ◌++◌, ◌∷◌, [], List, Ok, Some, ap, arith, drop, length, length-append, map, slice_get}
use Rattle.std.proofs.lemmas.List.{map_push}
use Rattle.std.proofs.lemmas.Result.{err_from_is_err_and}
use Rattle.px_frame.specs.CellView.{named_cell}
use Rattle.px_frame.specs.declared.cell.Cell.{Cell}
use Rattle.px_lanes.specs.Made.{named_cells}
use Rattle.px_group_nodes.specs.Many.{across}
use Rattle.px_group_nodes.proofs.Across.{across_at, length_across, many_made, many_more, many_refused}
use Rattle.px_group_nodes.proofs.each_many.each_many.Goals as goal

pub returns-in_err-made-clause-faults : goal.returns-in_err-made-clause-faults
returns-in_err-made-clause-faults g c =
    let node = g.N.Many.node c.args.node.now in
    let xss = map named_cells c.args.inputs.now in
    let rows = across c.args.count xss in
    let i = c.loop-group.group in
    let row = map named_cell c.in_ok-row.row.items in
    let there : slice_get rows i ≡ Some row = across_at c.args.count i xss row c.loop-group-test.true c.in_ok-row.ensures.cells in
    let p = err_from_is_err_and c.from_residual-in_err-made.result c.from_residual-in_err-made.ensures.1 in
    rw (p.1, p.2) (many_refused node (map named_cell c.loop-group.cells.items) rows i (map node rows) c.loop-group.invariant.done row there c.in_err-made.field-0.0 c.in_err-made.ensures.answer)

pub loop-group-preserved : goal.loop-group-preserved
loop-group-preserved g c =
    let node = g.N.Many.node c.args.node.now in
    let xss = map named_cells c.args.inputs.now in
    let rows = across c.args.count xss in
    let i = c.loop-group.group in
    let items = c.loop-group.cells.items in
    let m = c.in_ok-made.made in
    let row = map named_cell c.in_ok-row.row.items in
    let there : slice_get rows i ≡ Some row = across_at c.args.count i xss row c.loop-group-test.true c.in_ok-row.ensures.cells in
    let made : node row ≡ Ok (named_cell m) = c.in_ok-made.ensures.answer in
    let more : map named_cell c.push.new.self.items ≡ map named_cell items ++ named_cell m ∷ [] = ap (λ (cs : List Cell). map named_cell cs) c.in_ok-push.ensures.items ∙ map_push named_cell items m in
    let longer : length c.push.new.self.items ≡ length (items ++ m ∷ []) = ap length c.in_ok-push.ensures.items in
    record {
      done = ap (λ ds. map Ok ds ++ map node (drop (i + 1) rows)) more ∙ many_more node (map named_cell items) rows i (map node rows) c.loop-group.invariant.done row there (named_cell m) made;
      count = omega (arith, longer, length-append items (m ∷ []), c.loop-group.invariant.count);
      most = omega (arith, c.loop-group.invariant.most, c.in_ok-made.ensures.most);
      rises = omega (arith, c.loop-group.invariant.rises, c.in_ok-made.ensures.rises);
    }

pub returns-clause-cells : goal.returns-clause-cells
returns-clause-cells g c =
    let node = g.N.Many.node c.args.node.now in
    let xss = map named_cells c.args.inputs.now in
    let rows = across c.args.count xss in
    let past : length rows ≤ c.loop-group.group = omega (arith, length_across c.args.count xss, c.loop-group-test.false) in
    many_made node (map named_cell c.loop-group.cells.items) rows c.loop-group.group (map node rows) c.loop-group.invariant.done past
