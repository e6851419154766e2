use Rattle.std.proofs.Common.{◌≡◌, ◌∙◌, ◌<◌, ◌^◌, pos, Some, true, nat_lt, length, ap, arith}
use Rattle.std.specs.Int.{w128, cast_signed}
use Rattle.std.proofs.lemmas.Bool.Decides.{nat_tests}
use Rattle.std.proofs.lemmas.Int.{ints}
use Rattle.px_column.specs.Prelude.{integer, uint32s}
use Rattle.px_column.specs.Kind.{is_unsigned}
use Rattle.px_frame.specs.Groups.{Group}
use Rattle.px_frame.specs.GroupsView.{lent_group}
use Rattle.px_frame.proofs.Made.{made_next}
use Rattle.px_value.proofs.FitLaws.{fit_next}
use Rattle.px_frame.proofs.aggregate.counts.Goals as goal

pub loop-index-preserved : goal.loop-index-preserved
loop-index-preserved c =
    let g = lent_group c.group.result in
    let count : cast_signed w128 c.len-in-loop-index.result ≡ pos (length g.rows) = omega (arith, ints, c.len-in-loop-index.ensures, c.group.ensures.short) in
    let small : nat_lt (length g.rows) 4294967296 ≡ true = let short : length g.rows < 2 ^ 32 = c.group.ensures.short in grind (arith, nat_tests) in
    let inv = c.loop-index.invariant in
    record {
      made = made_next (λ (p : Group). Some (integer (pos (length p.rows)))) c.args.groups.now.groups c.loop-index.index g _ _ _ c.in_ok-push.ensures.items inv.made c.group.ensures.group (ap (λ z. Some (integer z)) count);
      fit = fit_next uint32s _ _ _ c.in_ok-push.ensures.items inv.fit (ap (λ z. is_unsigned 4294967296 z) count ∙ small);
      counted = omega (arith, c.in_ok-push.ensures.len, inv.counted);
    }
