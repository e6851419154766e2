use Rattle.std.proofs.Common.{◌≡◌, ◌∙◌, ◌+◌, ◌++◌, ◌∷◌, [], Ok, List, ap, arith, drop, length, length-append, map}
use Rattle.std.proofs.lemmas.List.{map_push}
use Rattle.std.proofs.lemmas.Result.{err_from_is_err_and}
use Rattle.px_frame.specs.CellView.{named_cell}
use Rattle.px_frame.specs.Groups.{Groups}
use Rattle.px_frame.specs.declared.cell.Cell.{Cell}
use Rattle.px_lanes.specs.Made.{named_cells}
use Rattle.px_group_nodes.specs.Three.{answers_of_three}
use Rattle.px_group_nodes.proofs.Threes.{named_count, three_made, three_more, three_refused}
use Rattle.px_group_nodes.proofs.each_three.each_three.Goals as goal

pub loop-group-init : goal.loop-group-init
loop-group-init g c =
    let xs = named_cells c.args.first.now in
    let ys = named_cells c.args.second.now in
    let zs = named_cells c.args.third.now in
    record {
      done = ap (λ (cs : List Cell). map Ok (map named_cell cs) ++ answers_of_three (g.N.Three.node c.args.node.now) xs ys zs) c.in_ok-cells.ensures.items;
      count = ap length c.in_ok-cells.ensures.items;
      most = omega arith;
      rises = omega arith;
    }

pub loop-group-preserved : goal.loop-group-preserved
loop-group-preserved g c =
    let node = g.N.Three.node c.args.node.now in
    let xs = named_cells c.args.first.now in
    let ys = named_cells c.args.second.now in
    let zs = named_cells c.args.third.now in
    let i = c.loop-group.group in
    let items = c.loop-group.cells.items in
    let m = c.in_ok-made.made in
    let more : map named_cell c.push.new.self.items ≡ map named_cell items ++ named_cell m ∷ [] = ap (λ (cs : List Cell). map named_cell cs) c.in_ok-push.ensures.items ∙ map_push named_cell items m in
    let longer : length c.push.new.self.items ≡ length (items ++ m ∷ []) = ap length c.in_ok-push.ensures.items in
    record {
      done = ap (λ ds. map Ok ds ++ answers_of_three node (drop (i + 1) xs) (drop (i + 1) ys) (drop (i + 1) zs)) more
          ∙ three_more node (map named_cell items) i xs ys zs (answers_of_three node xs ys zs) c.loop-group.invariant.done
          (named_cell c.in_ok-a.a) (named_cell c.in_ok-b.b) (named_cell c.in_ok-c.c) c.in_ok-a.ensures.cell c.in_ok-b.ensures.cell c.in_ok-c.ensures.cell (named_cell m) c.in_ok-made.ensures.answer;
      count = omega (arith, longer, length-append items (m ∷ []), c.loop-group.invariant.count);
      most = omega (arith, c.loop-group.invariant.most, c.in_ok-made.ensures.most);
      rises = omega (arith, c.loop-group.invariant.rises, c.in_ok-made.ensures.rises);
    }

pub returns-in_err-made-clause-faults : goal.returns-in_err-made-clause-faults
returns-in_err-made-clause-faults g c =
    let node = g.N.Three.node c.args.node.now in
    let xs = named_cells c.args.first.now in
    let ys = named_cells c.args.second.now in
    let zs = named_cells c.args.third.now in
    let e = c.in_err-made.field-0.0 in
    let p = err_from_is_err_and c.from_residual-in_err-made.result c.from_residual-in_err-made.ensures.1 in
    rw (p.1, p.2)
    (three_refused node (map named_cell c.loop-group.cells.items) c.loop-group.group xs ys zs (answers_of_three node xs ys zs) c.loop-group.invariant.done
    (named_cell c.in_ok-a.a) (named_cell c.in_ok-b.b) (named_cell c.in_ok-c.c) c.in_ok-a.ensures.cell c.in_ok-b.ensures.cell c.in_ok-c.ensures.cell e c.in_err-made.ensures.answer)

pub returns-clause-cells : goal.returns-clause-cells
returns-clause-cells g c =
    let node = g.N.Three.node c.args.node.now in
    let xs = named_cells c.args.first.now in
    let ys = named_cells c.args.second.now in
    let zs = named_cells c.args.third.now in
    let many : c.len-count.result ≡ length c.args.first.now.groups.groups = c.len-count.ensures.len ∙ ap (λ (q : Groups). length q.groups) c.kept_groups.ensures in
    three_made node (map named_cell c.loop-group.cells.items) c.loop-group.group xs ys zs (answers_of_three node xs ys zs) c.loop-group.invariant.done (omega (arith, named_count c.args.first.now c.is_untouched.ensures.context, many))
