use Rattle.std.proofs.Common.{◌≡◌, ◌∙◌, ◌≤◌, ◌<◌, ◌+◌, ℕ, Ok, ap, arith, drop, length, map, rules, subst, sym, take}
use Rattle.std.proofs.lemmas.List.{length-map, length-take, take_all}
use Rattle.std.specs.Vec.Iter.{into_iter_items}
use Rattle.px_column.specs.Prelude.{Answers, slot_fits, slot_of, Series}
use Rattle.px_frame.specs.Partial.{ArePartial}
use Rattle.px_frame.specs.GroupsView.{lent_group}
use Rattle.px_frame.specs.Reduced.{reduced_at}
use Rattle.px_frame.proofs.Partial.{ArePartial-next, ArePartial-none, ArePartial-some}
use Rattle.px_frame.proofs.Reducing.{kind_is, reduced_at_fits, reduced_next}
use Rattle.px_frame.proofs.reduce.reduce_in_blocks.Goals as goal

pub finish-requires-clause-partial : goal.finish-requires-clause-partial
finish-requires-clause-partial g c =
    let left = subst (λ bs. ArePartial g.R.Reduce.stands_for c.args.values.now (drop c.loop-partial.index c.args.groups.now.groups) bs) c.in-Some.ensures.steps.0 c.loop-partial.invariant.left in
    (ArePartial-next g.R.Reduce.stands_for c.args.values.now c.args.groups.now.groups c.loop-partial.index c.in-Some.partial (into_iter_items c.next.new.self) (lent_group c.group.result) left c.group.ensures.group).0

pub push-requires-clause-fits : goal.push-requires-clause-fits
push-requires-clause-fits g c =
    let values = c.args.values.now in
    let group = lent_group c.group.result in
    let value : slot_of c.in_ok-finish.field-0 ≡ reduced_at g.R.Reduce.method values group = cc (c.in_ok-finish.ensures) in
    let type : c.loop-partial.rows.kind ≡ c.args.rows.kind = kind_is values.name c.args.rows.kind (map (reduced_at g.R.Reduce.method values) (take c.loop-partial.index c.args.groups.now.groups)) c.loop-partial.rows c.loop-partial.invariant.built in
    (λ i. slot_fits (type i) (value i)) ∙ reduced_at_fits g.R.Reduce.method values c.args.rows.kind group c.rows.ensures.fit c.group.ensures.short c.requires.kind

pub push-requires-clause-room : goal.push-requires-clause-room
push-requires-clause-room g c =
    let left = subst (λ bs. ArePartial g.R.Reduce.stands_for c.args.values.now (drop c.loop-partial.index c.args.groups.now.groups) bs) c.in-Some.ensures.steps.0 c.loop-partial.invariant.left in
    let len : length c.loop-partial.rows.slots ≡ length (map (reduced_at g.R.Reduce.method c.args.values.now) (take c.loop-partial.index c.args.groups.now.groups)) = ap (λ (r : Series). length r.slots) c.loop-partial.invariant.built in
    let mapped = length-map (take c.loop-partial.index c.args.groups.now.groups) (reduced_at g.R.Reduce.method c.args.values.now) in
    let some = ArePartial-some g.R.Reduce.stands_for c.args.values.now c.args.groups.now.groups c.loop-partial.index c.in-Some.partial (into_iter_items c.next.new.self) left in
    omega (arith, len, mapped, length-take c.loop-partial.index c.args.groups.now.groups, some, c.absorb_blocks.ensures.groups.few)

pub overflow_add-index : goal.overflow_add-index
overflow_add-index g c =
    let left = subst (λ bs. ArePartial g.R.Reduce.stands_for c.args.values.now (drop c.loop-partial.index c.args.groups.now.groups) bs) c.in-Some.ensures.steps.0 c.loop-partial.invariant.left in
    let some = ArePartial-some g.R.Reduce.stands_for c.args.values.now c.args.groups.now.groups c.loop-partial.index c.in-Some.partial (into_iter_items c.next.new.self) left in
    omega (arith, some, c.absorb_blocks.ensures.groups.few)

pub loop-partial-preserved : goal.loop-partial-preserved
loop-partial-preserved g c =
    let values = c.args.values.now in
    let group = lent_group c.group.result in
    let value : slot_of c.in_ok-finish.field-0 ≡ reduced_at g.R.Reduce.method values group = cc (c.in_ok-finish.ensures) in
    let left = subst (λ bs. ArePartial g.R.Reduce.stands_for values (drop c.loop-partial.index c.args.groups.now.groups) bs) c.in-Some.ensures.steps.0 c.loop-partial.invariant.left in
    let some : c.loop-partial.index + 1 ≤ length c.args.groups.now.groups = omega (arith, ArePartial-some g.R.Reduce.stands_for c.args.values.now c.args.groups.now.groups c.loop-partial.index c.in-Some.partial (into_iter_items c.next.new.self) left) in
    record {
      can = tt;
      ends = tt;
      within = some;
      left = (ArePartial-next g.R.Reduce.stands_for values c.args.groups.now.groups c.loop-partial.index c.in-Some.partial (into_iter_items c.next.new.self) group left c.group.ensures.group).1;
      built = reduced_next (reduced_at g.R.Reduce.method values) c.args.groups.now.groups c.loop-partial.index group _ _ _ _ _ c.in_ok-push.ensures.ok c.loop-partial.invariant.built c.group.ensures.group value;
    }

pub returns : goal.returns
returns g c =
    let values = c.args.values.now in
    let groups = c.args.groups.now.groups in
    let none : length (into_iter_items c.loop-partial.partial-iterator) ≡ 0 = search rules in
    let end : take c.loop-partial.index groups ≡ groups = take_all c.loop-partial.index groups (ArePartial-none g.R.Reduce.stands_for values groups c.loop-partial.index _ c.loop-partial.invariant.left none) in
    rw c.requires.kind
    (subst (λ (r : Series). Answers c.finish-2.result (Ok r))
    (c.loop-partial.invariant.built ∙ (λ i. record { name = values.name; kind = c.args.rows.kind; slots = map (reduced_at g.R.Reduce.method values) (end i) }))
    c.finish-2.ensures)
