use Rattle.std.proofs.Common.{◌≡◌, ℕ, ◌+◌, ◌≤◌, List, Result, drop, map, true}
use Rattle.std.specs.List.{list_all}
use Rattle.px_column.specs.Prelude.{Series}
use Rattle.px_value.specs.declared.error.PxError.{PxError}
use Rattle.px_tree.specs.Chunks.{is_unchunked}
use Rattle.px_steps.specs.Causes.{StepsAnswer}
use Rattle.px_answers.specs.Counted.{RisesAtMost}
use Rattle.px_steps.specs.Plain.{groupings_of, kernels_of, most_kernels_of}
use Rattle.px_tree.specs.Step.{step_view}
use Rattle.px_window.specs.State.{beside}
use Rattle.px_steps.proofs.runner.run_each.Given as goal

abbrev pub invariant-loop-step : goal.invariant-loop-step
invariant-loop-step g l = record {
  unchunked : list_all is_unchunked (map step_view (drop l.step-index l.steps)) ≡ true;
  answer : (r : Result (List Series) PxError) → StepsAnswer r (map step_view (drop l.step-index l.steps)) (beside l.frame l.initial.state) → StepsAnswer r (map step_view l.steps) (beside l.initial.frame l.initial.state);
  state : l.state ≡ l.initial.state;
  grouped : l.groupings + groupings_of (map step_view (drop l.step-index l.steps)) ≡ l.initial.groupings + groupings_of (map step_view l.steps);
  risen : l.initial.groupings ≤ l.groupings;
  most : (new : ℕ) → RisesAtMost (most_kernels_of (map step_view (drop l.step-index l.steps)) (beside l.frame l.initial.state)) l.kernels new → RisesAtMost (most_kernels_of (map step_view l.steps) (beside l.initial.frame l.initial.state)) l.initial.kernels new;
  ticks : l.initial.kernels + kernels_of (map step_view l.steps) ≤ l.kernels + kernels_of (map step_view (drop l.step-index l.steps));
}
