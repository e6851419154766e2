use Rattle.std.proofs.Common.{rules, ◌≡◌, ◌∙◌, ◌++◌, ◌∷◌, [], suc, Ok, List, ap, arith, length, length-append, map, subst, sym}
use Rattle.std.proofs.lemmas.List.{map_push}
use Rattle.std.proofs.lemmas.Result.{err_from_is_err_and}
use Rattle.px_column.specs.Prelude.{Refuses, Series}
use Rattle.px_frame.specs.CellView.{named_cell}
use Rattle.px_frame.specs.declared.cell.Cell.{Cell}
use Rattle.px_context.specs.IterView.{left_of}
use Rattle.px_context.specs.Part.{parts_in}
use Rattle.px_context.specs.declared.group_iter.GroupIter.{GroupIter}
use Rattle.px_lanes.specs.Made.{named_cells, named_part}
use Rattle.px_lanes.specs.One.{answers_of_one}
use Rattle.px_lanes.proofs.OneInput.{one_made, one_more, one_refused}
use Rattle.px_lanes.proofs.Stepping.{named_parts}
use Rattle.px_lanes.proofs.each_one.each_one.Goals as goal

pub loop-piece-init : goal.loop-piece-init
loop-piece-init g c =
    let a = c.args.input.now in
    let node = g.N.One.node c.args.node.now in
    let it : c.into_iter-piece-iterator.result ≡ c.pieces-piece-items.result = cc c.into_iter-piece-iterator.ensures.into_iter_gives in
    let left : left_of c.into_iter-piece-iterator.result ≡ parts_in a.layout a.values a.groups = cc c.pieces-piece-items.ensures.cells in
    let many = ap (λ (x : GroupIter). length (left_of x)) it ∙ c.pieces-piece-items.ensures.each in
    let none : length c.in_ok-cells.cells.items ≡ 0 = ap length c.in_ok-cells.ensures.items in
    record {
      can = search rules;
      ends = search rules;
      done = (λ i. map Ok (map named_cell (c.in_ok-cells.ensures.items i)) ++ answers_of_one node (map (named_part a.values.name) (left i))) ∙ ap (answers_of_one node) (named_parts a);
      count = omega (arith, none, many);
      most = omega (arith, many);
      rises = omega arith;
    }

pub loop-piece-preserved : goal.loop-piece-preserved
loop-piece-preserved g c =
    let a = c.args.input.now in
    let node = g.N.One.node c.args.node.now in
    let old = left_of c.loop-piece.piece-iterator in
    let new = left_of c.next.new.self in
    let s = c.in-Some.ensures.steps in
    let items = c.loop-piece.cells.items in
    let m = c.in_ok-made.made in
    let n : c.name-name.result.now ≡ a.values.name = c.name-name.ensures ∙ ap (λ (q : Series). q.name) c.get_values.ensures in
    let x : named_cell c.in_ok-cell.cell ≡ named_part c.name-name.result.now c.in-Some.piece = cc c.in_ok-cell.ensures in
    let made : node (named_part a.values.name c.in-Some.piece) ≡ Ok (named_cell m) =
    ap node (sym (x ∙ ap (λ q. named_part q c.in-Some.piece) n)) ∙ c.in_ok-made.ensures.answer in
    let more : map named_cell c.push.new.self.items ≡ map named_cell items ++ named_cell m ∷ [] = ap (λ (cs : List Cell). map named_cell cs) c.in_ok-push.ensures.items ∙ map_push named_cell items m in
    let longer : length c.push.new.self.items ≡ length (items ++ m ∷ []) = ap length c.in_ok-push.ensures.items in
    let left : length old ≡ suc (length new) = ap length s in
    record {
      can = search rules;
      ends = search rules;
      done = ap (λ ds. map Ok ds ++ answers_of_one node (map (named_part a.values.name) new)) more
          ∙ one_more node a.values.name (map named_cell items) old (answers_of_one node (named_cells a)) c.loop-piece.invariant.done new c.in-Some.piece s (named_cell m) made;
      count = omega (arith, longer, length-append items (m ∷ []), left, c.loop-piece.invariant.count);
      most = omega (arith, left, c.loop-piece.invariant.most, c.in_ok-made.ensures.most);
      rises = omega (arith, c.loop-piece.invariant.rises, c.in_ok-made.ensures.rises);
    }

pub returns-in_err-cell-clause-most : goal.returns-in_err-cell-clause-most
returns-in_err-cell-clause-most g c = omega (arith, c.loop-piece.invariant.most)

pub returns-in_err-cell-clause-rises : goal.returns-in_err-cell-clause-rises
returns-in_err-cell-clause-rises g c = c.loop-piece.invariant.rises

pub returns-in_err-made-clause-most : goal.returns-in_err-made-clause-most
returns-in_err-made-clause-most g c =
    let left : length (left_of c.loop-piece.piece-iterator) ≡ suc (length (left_of c.next.new.self)) = ap length c.in-Some.ensures.steps in
    omega (arith, left, c.loop-piece.invariant.most, c.in_err-made.ensures.most)

pub returns-in_err-made-clause-rises : goal.returns-in_err-made-clause-rises
returns-in_err-made-clause-rises g c = omega (arith, c.loop-piece.invariant.rises, c.in_err-made.ensures.rises)

pub returns-in_err-made-clause-faults : goal.returns-in_err-made-clause-faults
returns-in_err-made-clause-faults g c =
    let a = c.args.input.now in
    let node = g.N.One.node c.args.node.now in
    let n : c.name-name.result.now ≡ a.values.name = c.name-name.ensures ∙ ap (λ (q : Series). q.name) c.get_values.ensures in
    let x : named_cell c.in_ok-cell.cell ≡ named_part c.name-name.result.now c.in-Some.piece = cc c.in_ok-cell.ensures in
    let e = c.in_err-made.field-0.0 in
    let p = err_from_is_err_and c.from_residual-in_err-made.result c.from_residual-in_err-made.ensures.1 in
    let refused : Refuses e (node (named_part a.values.name c.in-Some.piece)) = subst (λ q. Refuses e (node q)) (x ∙ ap (λ q. named_part q c.in-Some.piece) n) c.in_err-made.ensures.answer in
    rw (p.1, p.2)
    (one_refused node a.values.name (map named_cell c.loop-piece.cells.items) (left_of c.loop-piece.piece-iterator) (answers_of_one node (named_cells a)) c.loop-piece.invariant.done
    (left_of c.next.new.self) c.in-Some.piece c.in-Some.ensures.steps e refused)

pub returns-in_err-push-clause-most : goal.returns-in_err-push-clause-most
returns-in_err-push-clause-most g c =
    let left : length (left_of c.loop-piece.piece-iterator) ≡ suc (length (left_of c.next.new.self)) = ap length c.in-Some.ensures.steps in
    omega (arith, left, c.loop-piece.invariant.most, c.in_ok-made.ensures.most)

pub returns-in_err-push-clause-rises : goal.returns-in_err-push-clause-rises
returns-in_err-push-clause-rises g c = omega (arith, c.loop-piece.invariant.rises, c.in_ok-made.ensures.rises)

pub returns-clause-cells : goal.returns-clause-cells
returns-clause-cells g c =
    let a = c.args.input.now in
    let node = g.N.One.node c.args.node.now in
    one_made node a.values.name (map named_cell c.loop-piece.cells.items) (left_of c.loop-piece.piece-iterator) (answers_of_one node (named_cells a)) c.loop-piece.invariant.done c.in-None.ensures.steps.0

pub returns-clause-count : goal.returns-clause-count
returns-clause-count g c =
    let none : length (left_of c.loop-piece.piece-iterator) ≡ 0 = ap length c.in-None.ensures.steps.0 in
    omega (arith, none, c.loop-piece.invariant.count)

pub returns-clause-most : goal.returns-clause-most
returns-clause-most g c = omega (arith, c.loop-piece.invariant.most)

pub returns-clause-rises : goal.returns-clause-rises
returns-clause-rises g c = c.loop-piece.invariant.rises
