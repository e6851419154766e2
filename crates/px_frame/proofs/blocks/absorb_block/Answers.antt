use Rattle.std.proofs.Common.{sym, arith, subst}
use Rattle.px_frame.specs.Partial.{IsPartial}
use Rattle.px_frame.specs.GroupsView.{lent_group}
use Rattle.px_frame.proofs.Partial.{ArePartial-length, ArePartial-at, ArePartial-set}
use Rattle.px_frame.proofs.blocks.absorb_block.Goals as goal

pub index_mut-requires : goal.index_mut-requires
index_mut-requires g c =
    let same = ArePartial-length g.R.Reduce.stands_for c.args.values.now c.args.groups.now.groups c.loop-index.all.items c.loop-index.invariant in
    omega (arith, same, c.loop-index-test.true, c.len-index-end.ensures.len)

pub absorb_before-requires-clause-partial : goal.absorb_before-requires-clause-partial
absorb_before-requires-clause-partial g c =
    let values = c.args.values.now in
    let group = lent_group c.group.result in
    subst (λ b. IsPartial g.R.Reduce.stands_for values group b) (sym c.index_mut.ensures.value)
    (ArePartial-at g.R.Reduce.stands_for values c.args.groups.now.groups c.loop-index.all.items c.loop-index.index group c.index_mut.result.now c.loop-index.invariant c.group.ensures.group)

pub loop-index-preserved : goal.loop-index-preserved
loop-index-preserved g c =
    ArePartial-set g.R.Reduce.stands_for c.args.values.now c.args.groups.now.groups c.loop-index.all.items c.loop-index.index (lent_group c.group.result) _ c.loop-index.invariant c.group.ensures.group c.in_ok-absorb_before.ensures.partial
