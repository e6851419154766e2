use Rattle.std.proofs.Common.{◌≡◌, ◌≤◌, length, drop, map, take}
use Rattle.std.specs.Vec.Iter.{into_iter_items}
use Rattle.px_frame.specs.Partial.{ArePartial}
use Rattle.px_frame.specs.Reduced.{reduced_at}
use Rattle.px_frame.proofs.reduce.reduce_in_blocks.Given as goal

abbrev pub invariant-loop-partial : goal.invariant-loop-partial
invariant-loop-partial g l = record {
  can : (goal.iterator-loop-partial g).can_next l.partial-iterator;
  ends : (goal.iterator-loop-partial g).is_finite l.partial-iterator;
  within : l.index ≤ length l.groups.groups;
  left : ArePartial g.R.Reduce.stands_for l.values (drop l.index l.groups.groups) (into_iter_items l.partial-iterator);
  built : l.rows ≡ record { name = l.values.name; kind = l.fn.rows.kind; slots = map (reduced_at g.R.Reduce.method l.values) (take l.index l.groups.groups) };
}
