use Rattle.std.proofs.Common.{◌≡◌, map, drop}
use Rattle.serde_json.specs.View.{view}
use Rattle.px_column.specs.Option.{each}
use Rattle.px_tree.specs.Step.{step_view}
use Rattle.px_document.specs.Form.{with_front}
use Rattle.px_document.specs.StepForm.{any_step_of}
use Rattle.px_document.proofs.document.step.read_each.Given as goal

-- what was read and what is left are all
abbrev pub invariant-loop-value : goal.invariant-loop-value
invariant-loop-value l = with_front (map step_view l.steps.items) (each any_step_of (map view (drop l.value-index l.values))) ≡ each any_step_of (map view l.values)
