use Rattle.std.proofs.Common.{◌≡◌, ◌∙◌, ◌<◌, ◌^◌, List, ap, arith, length, subst, sym, zero-add}
use Rattle.std.specs.List.{flat_map}
use Rattle.px_frame.specs.Cell.{Cell, list_of}
use Rattle.px_frame.specs.Groups.{Groups}
use Rattle.px_context.specs.IterView.{left_of}
use Rattle.px_context.specs.Part.{parts_in}
use Rattle.px_window.proofs.Laying.{cells_in, cells_many, pieces_back}
use Rattle.px_window.proofs.placing.total_count.Goals as goal

pub loop-piece-init : goal.loop-piece-init
loop-piece-init c =
    let ac = c.args.ac.now in
    let pieces = left_of c.into_iter-piece-iterator.result in
    let left : pieces ≡ parts_in ac.layout ac.values ac.groups = cc (c.into_iter-piece-iterator.ensures.into_iter_gives, c.pieces-piece-items.ensures.cells) in
    let many : length pieces ≡ length ac.groups.groups = ap length (left ∙ sym c.pieces-piece-items.ensures.cells) ∙ c.pieces-piece-items.ensures.each in
    let few : length ac.groups.groups < 2 ^ 32 = subst (λ (g : Groups). length g.groups < 2 ^ 32) c.kept_groups.ensures c.len.ensures.groups.few in
    record {
      can = tt;
      ends = tt;
      few = omega (arith, many, few);
      total = zero-add (length (flat_map list_of (cells_in pieces))) ∙ ap (λ (cs : List Cell). length (flat_map list_of cs)) (pieces_back ac pieces left);
    }

pub returns-clause-many : goal.returns-clause-many
returns-clause-many c = cells_many c.args.ac.now (left_of c.pieces-piece-items.result) _ c.pieces-piece-items.ensures.cells c.pieces-piece-items.ensures.each
