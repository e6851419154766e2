use Rattle.std.proofs.Common.{◌≡◌, ◌∙◌, ◌==◌, false, arith, rules}
use Rattle.std.proofs.lemmas.Bool.Decides.{nat_tests}
use Rattle.std.proofs.lemmas.Grind.{common_steps}
use Rattle.std.proofs.lemmas.List.{length-map}
use Rattle.px_physical.specs.NodeView.{plan_of}
use Rattle.px_answers.proofs.Partitioned.{partitioned_none_view, partitioned_view}
use Rattle.px_physical.proofs.apply.ApplyExprPhysicalExpr.is_partitioned_aggregator.Goals as goal

pub returns-then-len-eq1 : goal.returns-then-len-eq1
returns-then-len-eq1 c =
    let n = length-map c.self.inside.inputs.items plan_of in
    partitioned_view c.args.self.now _ c.self.inside.function _ c.self.view_is (grind (arith, common_steps)) (search rules) c.is_truth_of_row.ensures

pub returns-else-len-eq1 : goal.returns-else-len-eq1
returns-else-len-eq1 c =
    let n = length-map c.self.inside.inputs.items plan_of in
    let other : (c.len.result == 1) ≡ false = grind (arith, nat_tests) in
    other ∙ partitioned_none_view c.args.self.now _ c.self.view_is (λ h. grind (arith, common_steps))
