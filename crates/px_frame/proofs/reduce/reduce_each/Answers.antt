use Rattle.std.proofs.Common.{◌≡◌, ◌∙◌, map, take}
use Rattle.px_column.specs.Prelude.{slot_fits, kind_of, slot_of}
use Rattle.px_frame.specs.GroupsView.{lent_group}
use Rattle.px_frame.specs.Reduced.{reduced_at}
use Rattle.px_frame.proofs.Reducing.{kind_is, reduced_at_fits, reduced_next}
use Rattle.px_frame.proofs.reduce.reduce_each.Goals as goal

pub push-requires-clause-fits : goal.push-requires-clause-fits
push-requires-clause-fits g c =
    let values = c.args.values.now in
    let group = lent_group c.group.result in
    let value : slot_of c.in_ok-reduce_group.field-0 ≡ reduced_at g.R.Reduce.method values group = cc (c.in_ok-reduce_group.ensures) in
    let type : c.loop-index.rows.kind ≡ c.args.rows.kind = kind_is values.name c.args.rows.kind (map (reduced_at g.R.Reduce.method values) (take c.loop-index.index c.args.groups.now.groups)) c.loop-index.rows c.loop-index.invariant in
    (λ i. slot_fits (type i) (value i)) ∙ reduced_at_fits g.R.Reduce.method values c.args.rows.kind group c.rows.ensures.fit c.group.ensures.short c.requires.kind

pub loop-index-preserved : goal.loop-index-preserved
loop-index-preserved g c =
    let values = c.args.values.now in
    let group = lent_group c.group.result in
    let value : slot_of c.in_ok-reduce_group.field-0 ≡ reduced_at g.R.Reduce.method values group = cc (c.in_ok-reduce_group.ensures) in
    reduced_next (reduced_at g.R.Reduce.method values) c.args.groups.now.groups c.loop-index.index group _ _ _ _ _ c.in_ok-push.ensures.ok c.loop-index.invariant c.group.ensures.group value
