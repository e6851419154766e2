use Rattle.std.proofs.Common.{◌≡◌, ◌∙◌, pos, ◌-ℤ◌, ◌≤ℤ◌, neg_ℤ, arith, rules, to_z, of_z, FitsSigned}
use Rattle.std.specs.Int.{w128}
use Rattle.std.proofs.lemmas.Int.{ints}
use Rattle.px_operation.proofs.Numbers.{floor_rest_is, turned_is}
use Rattle.px_operation.proofs.operators.number.floor_rest.Goals as goal

pub returns-else-y-gt0 : goal.returns-else-y-gt0
returns-else-y-gt0 c =
    let left : to_z w128 (of_z w128 (pos 0 -ℤ to_z w128 (of_z w128 c.args.x))) ≡ neg_ℤ c.args.x = omega (arith, ints) in
    let right : to_z w128 (of_z w128 (pos 0 -ℤ to_z w128 (of_z w128 c.args.y))) ≡ neg_ℤ c.args.y = omega (arith, ints) in
    let negative : c.args.y ≤ℤ pos 0 = grind (arith, ints) in
    let kept : FitsSigned w128 c.rem_euclid-else-y-gt0.result = search rules in
    turned_is c.rem_euclid-else-y-gt0.result c.rem_euclid-else-y-gt0.ensures.lower_bound kept
    ∙ floor_rest_is c.args.x c.args.y _ _ c.rem_euclid-else-y-gt0.result negative c.requires.nonzero left right c.rem_euclid-else-y-gt0.ensures.value
