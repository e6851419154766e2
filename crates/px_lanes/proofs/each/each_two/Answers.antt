use Rattle.std.proofs.Common.{rules, ◌≡◌, ◌∙◌, ◌++◌, ◌∷◌, [], suc, Ok, List, ap, arith, length, length-append, map, subst, sym}
use Rattle.std.specs.Iterator.Adapters.{zip_first, zip_second}
use Rattle.std.proofs.lemmas.List.{map_push}
use Rattle.std.proofs.lemmas.Result.{err_from_is_err_and}
use Rattle.px_column.specs.Prelude.{Refuses, Series}
use Rattle.px_frame.specs.CellView.{named_cell}
use Rattle.px_frame.specs.declared.cell.Cell.{Cell}
use Rattle.px_context.specs.IterView.{left_of}
use Rattle.px_context.specs.declared.group_iter.GroupIter.{GroupIter}
use Rattle.px_lanes.specs.Made.{answers_of_two, named_cells, named_part}
use Rattle.px_lanes.proofs.Stepping.{named_parts, nothing_left, stopped, two_made, two_more, two_refused}
use Rattle.px_lanes.proofs.each.each_two.Goals as goal

pub loop-x-init : goal.loop-x-init
loop-x-init g c =
    let l = c.args.left.now in
    let r = c.args.right.now in
    let node = g.N.Two.node c.args.node.now in
    let it = c.into_iter-x-iterator.result in
    let a : zip_first it ≡ c.pieces.result = cc (c.into_iter-x-iterator.ensures.into_iter_gives, c.zip-x-items.ensures.first) in
    let b : zip_second it ≡ c.pieces-2.result = cc (c.into_iter-x-iterator.ensures.into_iter_gives, c.zip-x-items.ensures.second) in
    let first = ap left_of a ∙ c.pieces.ensures.cells in
    let second = ap left_of b ∙ c.pieces-2.ensures.cells in
    let many : length (left_of (zip_first it)) ≡ length l.groups.groups = ap (λ (x : GroupIter). length (left_of x)) a ∙ c.pieces.ensures.each in
    let others : length (left_of (zip_second it)) ≡ length r.groups.groups = ap (λ (x : GroupIter). length (left_of x)) b ∙ c.pieces-2.ensures.each in
    let none : length c.in_ok-cells.cells.items ≡ 0 = ap length c.in_ok-cells.ensures.items in
    record {
      can = search rules;
      ends = search rules;
      done = (λ i. map Ok (map named_cell (c.in_ok-cells.ensures.items i)) ++ answers_of_two node (map (named_part l.values.name) (first i)) (map (named_part r.values.name) (second i)))
          ∙ (λ i. answers_of_two node (named_parts l i) (named_parts r i));
      count = omega (arith, none, many);
      even = many ∙ c.requires ∙ sym others;
      most = omega (arith, many);
      rises = omega arith;
    }

pub loop-x-preserved : goal.loop-x-preserved
loop-x-preserved g c =
    let l = c.args.left.now in
    let r = c.args.right.now in
    let node = g.N.Two.node c.args.node.now in
    let old = c.loop-x.x-iterator in
    let new = c.next.new.self in
    let s = c.in-Some.ensures.steps in
    let items = c.loop-x.cells.items in
    let m = c.in_ok-made.made in
    let n : c.name-first.result.now ≡ l.values.name = c.name-first.ensures ∙ ap (λ (q : Series). q.name) c.get_values.ensures in
    let o : c.name-second.result.now ≡ r.values.name = c.name-second.ensures ∙ ap (λ (q : Series). q.name) c.get_values-2.ensures in
    let a : named_cell c.in_ok-a.a ≡ named_part c.name-first.result.now c.in-Some.x = cc c.in_ok-a.ensures in
    let b : named_cell c.in_ok-b.b ≡ named_part c.name-second.result.now c.in-Some.y = cc c.in_ok-b.ensures in
    let made : node (named_part l.values.name c.in-Some.x) (named_part r.values.name c.in-Some.y) ≡ Ok (named_cell m) =
    (λ i. node (sym (a ∙ ap (λ q. named_part q c.in-Some.x) n) i) (sym (b ∙ ap (λ q. named_part q c.in-Some.y) o) i)) ∙ c.in_ok-made.ensures.answer in
    let more : map named_cell c.push.new.self.items ≡ map named_cell items ++ named_cell m ∷ [] = ap (λ (cs : List Cell). map named_cell cs) c.in_ok-push.ensures.items ∙ map_push named_cell items m in
    let longer : length c.push.new.self.items ≡ length (items ++ m ∷ []) = ap length c.in_ok-push.ensures.items in
    let left : length (left_of (zip_first old)) ≡ suc (length (left_of (zip_first new))) = ap length s.0 in
    let right : length (left_of (zip_second old)) ≡ suc (length (left_of (zip_second new))) = ap length s.1 in
    record {
      can = search rules;
      ends = search rules;
      done = ap (λ ds. map Ok ds ++ answers_of_two node (map (named_part l.values.name) (left_of (zip_first new))) (map (named_part r.values.name) (left_of (zip_second new)))) more
          ∙ two_more node l.values.name r.values.name (map named_cell items) (left_of (zip_first old)) (left_of (zip_second old)) (answers_of_two node (named_cells l) (named_cells r)) c.loop-x.invariant.done
          (left_of (zip_first new)) (left_of (zip_second new)) c.in-Some.x c.in-Some.y s.0 s.1 (named_cell m) made;
      count = omega (arith, longer, length-append items (m ∷ []), left, c.loop-x.invariant.count);
      even = omega (arith, left, right, c.loop-x.invariant.even);
      most = omega (arith, left, c.loop-x.invariant.most, c.in_ok-made.ensures.most);
      rises = omega (arith, c.loop-x.invariant.rises, c.in_ok-made.ensures.rises);
    }

pub returns-in_err-a-clause-most : goal.returns-in_err-a-clause-most
returns-in_err-a-clause-most g c = omega (arith, c.loop-x.invariant.most)

pub returns-in_err-a-clause-rises : goal.returns-in_err-a-clause-rises
returns-in_err-a-clause-rises g c = c.loop-x.invariant.rises

pub returns-in_err-b-clause-most : goal.returns-in_err-b-clause-most
returns-in_err-b-clause-most g c = omega (arith, c.loop-x.invariant.most)

pub returns-in_err-b-clause-rises : goal.returns-in_err-b-clause-rises
returns-in_err-b-clause-rises g c = c.loop-x.invariant.rises

pub returns-in_err-made-clause-most : goal.returns-in_err-made-clause-most
returns-in_err-made-clause-most g c =
    let left : length (left_of (zip_first c.loop-x.x-iterator)) ≡ suc (length (left_of (zip_first c.next.new.self))) = ap length c.in-Some.ensures.steps.0 in
    omega (arith, left, c.loop-x.invariant.most, c.in_err-made.ensures.most)

pub returns-in_err-made-clause-rises : goal.returns-in_err-made-clause-rises
returns-in_err-made-clause-rises g c = omega (arith, c.loop-x.invariant.rises, c.in_err-made.ensures.rises)

pub returns-in_err-made-clause-faults : goal.returns-in_err-made-clause-faults
returns-in_err-made-clause-faults g c =
    let l = c.args.left.now in
    let r = c.args.right.now in
    let node = g.N.Two.node c.args.node.now in
    let old = c.loop-x.x-iterator in
    let new = c.next.new.self in
    let s = c.in-Some.ensures.steps in
    let n : c.name-first.result.now ≡ l.values.name = c.name-first.ensures ∙ ap (λ (q : Series). q.name) c.get_values.ensures in
    let o : c.name-second.result.now ≡ r.values.name = c.name-second.ensures ∙ ap (λ (q : Series). q.name) c.get_values-2.ensures in
    let a : named_cell c.in_ok-a.a ≡ named_part c.name-first.result.now c.in-Some.x = cc c.in_ok-a.ensures in
    let b : named_cell c.in_ok-b.b ≡ named_part c.name-second.result.now c.in-Some.y = cc c.in_ok-b.ensures in
    let e = c.in_err-made.field-0.0 in
    let p = err_from_is_err_and c.from_residual-in_err-made.result c.from_residual-in_err-made.ensures.1 in
    let refused : Refuses e (node (named_part l.values.name c.in-Some.x) (named_part r.values.name c.in-Some.y)) =
    subst (Refuses e) (λ i. node ((a ∙ ap (λ q. named_part q c.in-Some.x) n) i) ((b ∙ ap (λ q. named_part q c.in-Some.y) o) i)) c.in_err-made.ensures.answer in
    rw (p.1, p.2)
    (two_refused node l.values.name r.values.name (map named_cell c.loop-x.cells.items) (left_of (zip_first old)) (left_of (zip_second old)) (answers_of_two node (named_cells l) (named_cells r)) c.loop-x.invariant.done
    (left_of (zip_first new)) (left_of (zip_second new)) c.in-Some.x c.in-Some.y s.0 s.1 e refused)

pub returns-in_err-push-clause-most : goal.returns-in_err-push-clause-most
returns-in_err-push-clause-most g c =
    let left : length (left_of (zip_first c.loop-x.x-iterator)) ≡ suc (length (left_of (zip_first c.next.new.self))) = ap length c.in-Some.ensures.steps.0 in
    omega (arith, left, c.loop-x.invariant.most, c.in_ok-made.ensures.most)

pub returns-in_err-push-clause-rises : goal.returns-in_err-push-clause-rises
returns-in_err-push-clause-rises g c = omega (arith, c.loop-x.invariant.rises, c.in_ok-made.ensures.rises)

pub returns-clause-cells : goal.returns-clause-cells
returns-clause-cells g c =
    let l = c.args.left.now in
    let r = c.args.right.now in
    let node = g.N.Two.node c.args.node.now in
    let it = c.loop-x.x-iterator in
    two_made node l.values.name r.values.name (map named_cell c.loop-x.cells.items) (left_of (zip_first it)) (left_of (zip_second it)) (answers_of_two node (named_cells l) (named_cells r)) c.loop-x.invariant.done
    (stopped (zip_first it) (zip_second it) c.in-None.ensures.steps)

pub returns-clause-count : goal.returns-clause-count
returns-clause-count g c =
    let it = c.loop-x.x-iterator in
    let none = nothing_left (left_of (zip_first it)) (left_of (zip_second it)) c.loop-x.invariant.even (stopped (zip_first it) (zip_second it) c.in-None.ensures.steps) in
    omega (arith, none, c.loop-x.invariant.count)

pub returns-clause-most : goal.returns-clause-most
returns-clause-most g c = omega (arith, c.loop-x.invariant.most)

pub returns-clause-rises : goal.returns-clause-rises
returns-clause-rises g c = c.loop-x.invariant.rises
