use Rattle.std.proofs.Common.{◌≡◌, ℕ, ◌+◌, ◌≤◌, map, drop}
use Rattle.std.specs.List.{flat_map, sum_by}
use Rattle.px_column.specs.Option.{each}
use Rattle.px_answers.specs.Counted.{RisesAtMost, costs_on, flat_kernels}
use Rattle.px_tree.specs.Cost.{windows_in}
use Rattle.px_window.specs.State.{beside}
use Rattle.px_steps.specs.Finds.{key_faults, node_tree}
use Rattle.px_document.specs.Form.{with_front}
use Rattle.px_tree.specs.Grouped.{key_on}
use Rattle.px_steps.proofs.group_step.key_columns.Given as goal

abbrev pub invariant-loop-key : goal.invariant-loop-key
invariant-loop-key g l = record {
  values : with_front l.columns.items (each (key_on (beside l.frame l.initial.state)) (map node_tree (drop l.key-index l.keys))) ≡ each (key_on (beside l.frame l.initial.state)) (map node_tree l.keys);
  sound : flat_map (key_faults (beside l.frame l.initial.state)) (map node_tree (drop l.key-index l.keys)) ≡ flat_map (key_faults (beside l.frame l.initial.state)) (map node_tree l.keys);
  state : l.state ≡ l.initial.state;
  grouped : l.groupings + sum_by windows_in (map node_tree (drop l.key-index l.keys)) ≡ l.initial.groupings + sum_by windows_in (map node_tree l.keys);
  risen : l.initial.groupings ≤ l.groupings;
  most : (new : ℕ) → RisesAtMost (costs_on (map node_tree (drop l.key-index l.keys)) (beside l.frame l.initial.state)) l.kernels new → RisesAtMost (costs_on (map node_tree l.keys) (beside l.frame l.initial.state)) l.initial.kernels new;
  ticks : l.initial.kernels + sum_by flat_kernels (map node_tree l.keys) ≤ l.kernels + sum_by flat_kernels (map node_tree (drop l.key-index l.keys));
}
