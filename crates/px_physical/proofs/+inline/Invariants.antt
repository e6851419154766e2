use Rattle.px_physical.proofs.Inlined.{InlineTo}
use Rattle.px_physical.proofs.+inline.Given as goal

abbrev pub invariant-inline::inline_cells-loop-node : goal.invariant-inline::inline_cells-loop-node
invariant-inline::inline_cells-loop-node l = InlineTo l.depth_limit l.nodes l.node-index l.cells.items
