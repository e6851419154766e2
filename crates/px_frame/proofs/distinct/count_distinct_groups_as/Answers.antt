use Rattle.std.proofs.Common.{◌≡◌, ◌<◌, ◌^◌, pos, Some, ℤ, length, ap, arith}
use Rattle.std.specs.Int.{w128, cast_signed}
use Rattle.std.proofs.lemmas.Int.{ints}
use Rattle.px_column.specs.Prelude.{integer}
use Rattle.px_value.specs.declared.method.GroupByMethod.TheVariants.{NUnique}
use Rattle.px_column.specs.Reduction.{distinct_slots}
use Rattle.px_frame.specs.Frame.{slots_at}
use Rattle.px_frame.specs.GroupsView.{lent_group}
use Rattle.px_frame.specs.Reduced.{reduced_at}
use Rattle.px_frame.proofs.Reducing.{reduced_next}
use Rattle.px_frame.proofs.distinct.count_distinct_groups_as.Goals as goal

pub loop-index-preserved : goal.loop-index-preserved
loop-index-preserved c =
    let values = c.args.values.now in
    let group = lent_group c.group.result in
    let count : c.in_ok-count.count ≡ length (distinct_slots (slots_at values.slots group.rows)) = cc (c.in_ok-count.ensures) in
    let small : c.in_ok-count.count < 2 ^ 32 = omega arith in
    let number : cast_signed w128 c.in_ok-count.count ≡ pos (length (distinct_slots (slots_at values.slots group.rows))) = omega (arith, ints, count, small) in
    reduced_next (reduced_at NUnique values) c.args.groups.now.groups c.loop-index.index group _ _ _ _ _ c.in_ok-push.ensures.ok c.loop-index.invariant c.group.ensures.group
    (ap (λ (z : ℤ). Some (integer z)) number)
