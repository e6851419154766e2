use Rattle.std.proofs.Common.{◌≡◌, ◌<◌, ℕ, get_or, map, take}
use Rattle.px_frame.specs.CellView.{named_cell}
use Rattle.px_context.specs.Context.{Context}
use Rattle.px_lanes.specs.Lane.{lane_of}
use Rattle.px_group_nodes.specs.Lanes.{IsSound}
use Rattle.px_group_nodes.proofs.many_lanes.lanes.Given as goal

abbrev pub invariant-loop-input : goal.invariant-loop-input
invariant-loop-input l = record {
  cells : map named_cell l.cells.items ≡ map lane_of (take l.input-index l.inputs);
  sound : (k : ℕ) → k < l.input-index → (d : Context) → IsSound (get_or l.inputs k d);
}
