use Rattle.std.proofs.Common.{◌≡◌, ◌≤◌, length, map, take}
use Rattle.px_column.specs.Reduction.{distinct_slots}
use Rattle.px_column.specs.Key.{row_of}
use Rattle.px_frame.specs.Frame.{slots_at}
use Rattle.px_frame.specs.GroupsView.{lent_group}
use Rattle.px_frame.proofs.distinct.count_distinct.Given as goal

abbrev pub invariant-loop-index : goal.invariant-loop-index
invariant-loop-index l = record {
  few : length l.seen.keys ≤ l.index;
  keys : l.seen.keys ≡ map row_of (distinct_slots (take l.index (slots_at l.values.slots (lent_group l.group).rows)));
}
