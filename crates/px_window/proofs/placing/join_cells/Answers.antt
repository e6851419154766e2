use Rattle.std.proofs.Common.{◌≡◌, ◌++◌, List, ap, arith, length, refl}
use Rattle.std.specs.List.{flat_map}
use Rattle.px_frame.specs.Cell.{Cell, list_of}
use Rattle.px_context.specs.IterView.{left_of}
use Rattle.px_context.specs.Part.{parts_in}
use Rattle.px_window.proofs.Laying.{pieces_back, pieces_kind}
use Rattle.px_window.proofs.placing.join_cells.Goals as goal

pub loop-piece-init : goal.loop-piece-init
loop-piece-init c =
    let ac = c.args.ac.now in
    let pieces = left_of c.into_iter-piece-iterator.result in
    let left : pieces ≡ parts_in ac.layout ac.values ac.groups = cc (c.into_iter-piece-iterator.ensures.into_iter_gives, c.pieces-piece-items.ensures.cells) in
    let cells = pieces_back ac pieces left in
    record {
      can = tt;
      ends = tt;
      kinds = pieces_kind ac pieces left;
      name = refl;
      kind = refl;
      room = omega (arith, ap length c.requires.empty, ap (λ (cs : List Cell). length (flat_map list_of cs)) cells, c.requires.few);
      built = λ i. c.requires.empty i ++ flat_map list_of (cells i);
    }
