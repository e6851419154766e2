use Rattle.std.proofs.Common.{◌≡◌, ◌+◌, ◌*◌, drop}
use Rattle.px_arena.specs.Arena.{trees_at}
use Rattle.px_tree.specs.Shape.{are_units}
use Rattle.px_lowering.proofs.scalar.+is_scalar.Given as goal

abbrev pub decreases-is_scalar_ae : goal.decreases-is_scalar_ae
decreases-is_scalar_ae l = 3 * l.node.0 + 2

abbrev pub decreases-is_scalar_function : goal.decreases-is_scalar_function
decreases-is_scalar_function l = 3 * l.before + 1

abbrev pub decreases-is_first_scalar : goal.decreases-is_first_scalar
decreases-is_first_scalar l = 3 * l.before

abbrev pub decreases-are_scalars : goal.decreases-are_scalars
decreases-are_scalars l = 3 * l.before

abbrev pub invariant-are_scalars-loop-node : goal.invariant-are_scalars-loop-node
invariant-are_scalars-loop-node l = are_units (trees_at l.arena l.nodes) ≡ are_units (trees_at l.arena (drop l.node-index l.nodes))
