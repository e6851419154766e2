use Rattle.std.proofs.Common.{◌≡◌, ◌∙◌, ◌+◌, ◌∷◌, [], ap, arith, length, map, sum, sym, take}
use Rattle.std.proofs.lemmas.Grind.{fold-append}
use Rattle.px_frame.specs.Groups.{Group}
use Rattle.px_frame.specs.GroupsView.{lent_group}
use Rattle.px_frame.proofs.Each.{map_next}
use Rattle.px_frame.proofs.reduce.total_len.Goals as goal

pub loop-index-preserved : goal.loop-index-preserved
loop-index-preserved c =
    let len = λ (p : Group). length p.rows in
    let so_far = map len (take c.loop-index.index c.args.groups.now.groups) in
    let next = map_next len c.args.groups.now.groups c.loop-index.index (lent_group c.group.result) c.group.ensures.group in
    let more = ap sum next ∙ fold-append (λ a x. a + x) 0 so_far (len (lent_group c.group.result) ∷ []) in
    let whole : c.loop-index.total + c.from-total.result ≡ sum so_far + len (lent_group c.group.result) = omega (arith, c.loop-index.invariant.sum) in
    record {
      sum = whole ∙ sym more;
      bound = omega (arith, c.loop-index.invariant.bound);
    }
