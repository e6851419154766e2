use Rattle.std.proofs.Common.{rules, ◌≡◌, ◌<◌, false, length, map}
use Rattle.px_tree.specs.Typing.{is_one_input_missing}
use Rattle.px_answers.specs.Parts.{plan_trees}
use Rattle.px_physical.specs.NodeView.{plan_of}
use Rattle.px_physical.proofs.OnGroups.{inputs_tested}
use Rattle.px_physical.proofs.on_groups.accept_inputs.Goals as goal

pub returns-clause-accepted : goal.returns-clause-accepted
returns-clause-accepted c =
    let some : 0 < length c.args.inputs.now = search rules in
    let one : is_one_input_missing c.args.function.now (plan_trees (map plan_of c.args.inputs.now)) ≡ false = search rules in
    inputs_tested plan_of c.args.function.now c.args.inputs.now c.accept_function.result some one c.accept_function.ensures
