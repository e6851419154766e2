use Rattle.std.proofs.Common.{◌≡◌, ◌∙◌, [], ap, arith, drop, length, sym}
use Rattle.std.proofs.lemmas.Result.{err_from_is_err_and}
use Rattle.px_column.specs.Prelude.{Series}
use Rattle.px_column.proofs.Building.{made_is}
use Rattle.px_frame.specs.Groups.{rows_of}
use Rattle.px_frame.specs.GroupsView.{lent_group}
use Rattle.px_context.specs.Context.{cell_kind, cells_of}
use Rattle.px_context.specs.IterView.{left_of}
use Rattle.px_context.specs.Part.{parts_in}
use Rattle.px_window.proofs.Joining.{count_drop, rows_drop}
use Rattle.px_window.proofs.Laying.{kind_first, laid_more, laid_refused, none_laid, part_pushed, pieces_back, pieces_kind}
use Rattle.px_window.proofs.placing.join_parts.Goals as goal

pub loop-piece-init : goal.loop-piece-init
loop-piece-init c =
    let ac = c.args.ac.now in
    let pieces = left_of c.into_iter-piece-iterator.result in
    let left : pieces ≡ parts_in ac.layout ac.values ac.groups = cc (c.into_iter-piece-iterator.ensures.into_iter_gives, c.pieces-piece-items.ensures.cells) in
    let many : length pieces ≡ length ac.groups.groups = ap length (left ∙ sym c.pieces-piece-items.ensures.cells) ∙ c.pieces-piece-items.ensures.each in
    let made = made_is _ c.in_ok-rows.rows c.in_ok-rows.ensures in
    let none : c.in_ok-rows.rows.slots ≡ [] = ap (λ (s : Series). s.slots) made in
    record {
      can = tt;
      ends = tt;
      many = omega (arith, many, c.requires.cells);
      kinds = pieces_kind ac pieces left;
      name = ap (λ (s : Series). s.name) made;
      kind = ap (λ (s : Series). s.kind) made;
      room = omega (arith, ap length none, c.requires.few);
      laid = none_laid (rows_of c.args.parts.now) (cells_of ac) pieces c.in_ok-rows.rows (pieces_back ac pieces left) none;
    }

pub push_part-requires-clause-room : goal.push_part-requires-clause-room
push_part-requires-clause-room c =
    let count = count_drop c.args.parts.now.groups c.loop-piece.index (lent_group c.group.result) c.group.ensures.group in
    omega (arith, count, c.loop-piece.invariant.room)

pub returns-in_err-push_part : goal.returns-in_err-push_part
returns-in_err-push_part c =
    let gs = c.args.parts.now.groups in
    let p = err_from_is_err_and c.from_residual-in_err-push_part.result c.from_residual-in_err-push_part.ensures.1 in
    let group = lent_group c.group.result in
    rw (p.1, p.2) (laid_refused (drop c.loop-piece.index (rows_of c.args.parts.now)) _ (left_of c.loop-piece.piece-iterator) _ c.loop-piece.rows group.rows c.in-Some.piece _ (rows_drop gs c.loop-piece.index group c.group.ensures.group) c.in-Some.ensures.steps c.loop-piece.invariant.laid c.in_err-push_part.field-0.0 c.args.ac.now.values.name (cell_kind c.args.ac.now) c.in_err-push_part.ensures)

pub overflow_add-index : goal.overflow_add-index
overflow_add-index c =
    let left = ap length c.in-Some.ensures.steps in
    omega (arith, left, c.loop-piece.invariant.many, c.len.ensures.groups.few)

pub loop-piece-preserved : goal.loop-piece-preserved
loop-piece-preserved c =
    let ac = c.args.ac.now in
    let gs = c.args.parts.now.groups in
    let inv = c.loop-piece.invariant in
    let group = lent_group c.group.result in
    let pushed = part_pushed group.rows c.in-Some.piece.cell c.loop-piece.rows c.push_part.new.rows c.in_ok-push_part.ensures in
    let count = count_drop gs c.loop-piece.index group c.group.ensures.group in
    record {
      can = tt;
      ends = tt;
      many = omega (arith, ap length c.in-Some.ensures.steps, inv.many);
      kinds = (kind_first (cell_kind ac) (left_of c.loop-piece.piece-iterator) (left_of c.next.new.self) c.in-Some.piece c.in-Some.ensures.steps inv.kinds).1;
      name = pushed.0 ∙ inv.name;
      kind = pushed.1 ∙ inv.kind;
      room = omega (arith, count, pushed.2, inv.room);
      laid = laid_more (drop c.loop-piece.index (rows_of c.args.parts.now)) _ (left_of c.loop-piece.piece-iterator) (left_of c.next.new.self) c.loop-piece.rows group.rows c.in-Some.piece _ (rows_drop gs c.loop-piece.index group c.group.ensures.group) c.in-Some.ensures.steps inv.laid c.push_part.new.rows c.in_ok-push_part.ensures;
    }
