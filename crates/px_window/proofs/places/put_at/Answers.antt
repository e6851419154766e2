use Rattle.std.proofs.Common.{◌∙◌, Ok, ap, arith, get_or, sym}
use Rattle.std.proofs.lemmas.List.{length-set}
use Rattle.px_window.proofs.Once.{put_all, put_more, row_below}
use Rattle.px_window.proofs.places.put_at.Goals as goal

pub index_mut-requires : goal.index_mut-requires
index_mut-requires c =
    let below = row_below c.args.height c.args.rows.now c.requires.once c.loop-index.index (omega arith) in
    omega (arith, below, c.loop-index.invariant.long)

pub loop-index-preserved : goal.loop-index-preserved
loop-index-preserved c =
    let rows = c.args.rows.now in
    let numbers = c.args.numbers.now in
    let inv = c.loop-index.invariant in
    record {
      long = length-set c.loop-index.placed.items (get_or rows c.loop-index.index 0) (get_or numbers c.loop-index.index 0) ∙ inv.long;
      put = put_more c.args.height rows c.requires.once c.loop-index.placed.items numbers c.loop-index.index inv.long (omega arith) inv.put;
    }

pub returns : goal.returns
returns c =
    let rows = c.args.rows.now in
    let inv = c.loop-index.invariant in
    ap Ok (sym (put_all c.args.height rows c.requires.once c.loop-index.placed.items c.args.numbers.now inv.long (λ k h. inv.put k (omega (arith, h)))))
