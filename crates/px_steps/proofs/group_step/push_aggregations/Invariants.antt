use Rattle.std.proofs.Common.{◌≡◌, ◌+◌, ◌≤◌, length, map, drop}
use Rattle.std.specs.List.{flat_map, sum_by}
use Rattle.px_answers.specs.Counted.{flat_kernels}
use Rattle.px_column.specs.Option.{each}
use Rattle.px_window.specs.State.{beside}
use Rattle.px_frame.specs.Groups.{rows_of}
use Rattle.px_steps.specs.Finds.{agg_faults, node_tree}
use Rattle.px_document.specs.Form.{with_front}
use Rattle.px_steps.specs.Plain.{group_costs}
use Rattle.px_tree.specs.Grouped.{aggregated_on}
use Rattle.px_steps.proofs.group_step.push_aggregations.Given as goal

abbrev pub invariant-loop-node : goal.invariant-loop-node
invariant-loop-node g l = record {
  values : with_front l.columns.items (each (aggregated_on (beside l.frame l.initial.state) (rows_of l.groups)) (map node_tree (drop l.node-index l.aggs)))
      ≡ with_front l.initial.columns.items (each (aggregated_on (beside l.frame l.initial.state) (rows_of l.groups)) (map node_tree l.aggs));
  sound : flat_map (agg_faults (beside l.frame l.initial.state) (rows_of l.groups)) (map node_tree (drop l.node-index l.aggs)) ≡ flat_map (agg_faults (beside l.frame l.initial.state) (rows_of l.groups)) (map node_tree l.aggs);
  state : l.state ≡ l.initial.state;
  grouped : l.groupings ≡ l.initial.groupings;
  ticks : l.initial.kernels + sum_by flat_kernels (map node_tree l.aggs) ≤ l.kernels + sum_by flat_kernels (map node_tree (drop l.node-index l.aggs));
  most : l.kernels + group_costs (map node_tree (drop l.node-index l.aggs)) (length l.groups.groups) ≤ l.initial.kernels + group_costs (map node_tree l.aggs) (length l.groups.groups);
}
