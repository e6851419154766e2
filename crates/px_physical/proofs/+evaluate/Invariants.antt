use Rattle.std.proofs.Common.{◌≡◌, ◌+◌, ◌≤◌, ℕ, drop, map}
use Rattle.px_answers.specs.Counted.{RisesAtMost, costs_on}
use Rattle.px_window.specs.State.{beside}
use Rattle.px_physical.proofs.CellsInOrder.{EvaluatesTo, windows_from}
use Rattle.px_tree.specs.Cost.{all_windows_in}
use Rattle.px_answers.specs.Parts.{plan_trees}
use Rattle.px_physical.specs.NodeView.{plan_of}
use Rattle.px_physical.specs.declared.phys_expr.PhysExpr.{PhysExpr}
use Rattle.px_physical.proofs.+evaluate.Given as goal

abbrev pub invariant-phys_expr::evaluate_cells-loop-node : goal.invariant-phys_expr::evaluate_cells-loop-node
invariant-phys_expr::evaluate_cells-loop-node g l = record {
  front : EvaluatesTo l.nodes l.node-index (beside l.df l.initial.state) l.cells.items l.initial.kernels l.kernels;
  most : (new : ℕ) → RisesAtMost (costs_on (map (λ (n : PhysExpr). (plan_of n).tree) (drop l.node-index l.nodes)) (beside l.df l.initial.state)) l.kernels new → RisesAtMost (costs_on (map (λ (n : PhysExpr). (plan_of n).tree) l.nodes) (beside l.df l.initial.state)) l.initial.kernels new;
  state : l.state ≡ l.initial.state;
  grouped : l.groupings + windows_from l.nodes l.node-index ≡ l.initial.groupings + all_windows_in (plan_trees (map plan_of l.nodes));
  rises : l.initial.groupings ≤ l.groupings;
}
