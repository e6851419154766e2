use Rattle.std.proofs.Common.{◌≤◌, length, map, arith}
use Rattle.std.proofs.lemmas.List.{length-map}
use Rattle.serde_json.specs.View.{view}
use Rattle.px_document.proofs.StepForms.{few_steps}
use Rattle.px_document.proofs.document.step.read_steps.Goals as goal

pub returns : goal.returns
returns c =
    let few : length (map view c.args.values.now) ≤ 64 = omega (arith, length-map c.args.values.now view) in
    rw (few_steps (map view c.args.values.now) few) c.read_each.ensures
