use Rattle.std.proofs.Common.{◌≡◌, ◌∙◌, arith, map}
use Rattle.std.proofs.lemmas.Grind.{common_steps}
use Rattle.std.proofs.lemmas.List.{length-map}
use Rattle.px_physical.specs.NodeView.{plan_of}
use Rattle.px_group_answers.proofs.Refusing.{one_given, others_given}
use Rattle.px_physical.proofs.on_groups.is_one_input_missing.Goals as goal

pub returns-then-inputs-eq1 : goal.returns-then-inputs-eq1
returns-then-inputs-eq1 c =
    let n = length-map c.args.inputs.now plan_of in
    one_given c.args.function.now (map plan_of c.args.inputs.now) (grind (arith, common_steps))

pub returns-else-inputs-eq1 : goal.returns-else-inputs-eq1
returns-else-inputs-eq1 c =
    let n = length-map c.args.inputs.now plan_of in
    c.takes_one.ensures ∙ others_given c.args.function.now (map plan_of c.args.inputs.now) (λ h. grind (arith, common_steps))
