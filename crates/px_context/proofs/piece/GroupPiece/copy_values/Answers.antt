use Rattle.std.proofs.Common.{◌∙◌, ◌≤◌, ap, arith, length}
use Rattle.px_column.specs.Prelude.{Series, slot_fits, slot_of_ref}
use Rattle.px_frame.specs.Cell.{list_of}
use Rattle.px_column.proofs.Building.{built_all, built_more}
use Rattle.px_context.proofs.piece.GroupPiece.copy_values.Goals as goal

pub push_ref-requires-clause-fits : goal.push_ref-requires-clause-fits
push_ref-requires-clause-fits c =
    let kind = ap (λ (s : Series). s.kind) c.loop-index.invariant in
    ap (λ k. slot_fits k (slot_of_ref c.get.result)) kind ∙ c.get.ensures.fits

pub loop-index-preserved : goal.loop-index-preserved
loop-index-preserved c =
    let p = c.args.self.now in
    built_more _ p.kind (list_of p.cell) c.loop-index.index c.loop-index.rows c.push_ref.new.self (slot_of_ref c.get.result) (omega arith) c.loop-index.invariant c.in_ok-push_ref.ensures.ok c.get.ensures.value

pub returns : goal.returns
returns c =
    let p = c.args.self.now in
    let all : length (list_of p.cell) ≤ c.loop-index.index = omega arith in
    built_all _ p.kind (list_of p.cell) c.loop-index.index c.loop-index.rows c.finish.result all c.loop-index.invariant c.finish.ensures
