use Rattle.std.proofs.Common.{◌≡◌, ◌+◌, ◌^◌, ◌<◌, ◌++◌, drop, fold, map, sum, vec_len}
use Rattle.px_frame.specs.Consecutive.{slices_from}
use Rattle.px_frame.specs.GroupsView.{slice_group}
use Rattle.px_frame.proofs.groups.GroupPositions.slices_of_lengths.Given as goal

abbrev pub invariant-loop-len : goal.invariant-loop-len
invariant-loop-len l = record {
  small : l.height < 2 ^ 32;
  counted : vec_len l.groups ≡ l.len-index;
  sum : sum l.lengths ≡ fold (λ a x. a + x) l.height (drop l.len-index l.lengths);
  slices : slices_from 0 l.lengths ≡ map slice_group l.groups.items ++ slices_from l.height (drop l.len-index l.lengths);
}
