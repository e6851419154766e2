use Rattle.std.proofs.Common.{◌≤◌, ◌+◌, ◌^◌, arith, get_or, map}
use Rattle.std.proofs.lemmas.Grind.{common_steps}
use Rattle.px_frame.specs.GroupsView.{slice_group}
use Rattle.px_frame.proofs.Consecutive.{too_long, slices_made, consecutive_made}
use Rattle.px_frame.proofs.groups.GroupPositions.slices_of_lengths.Goals as goal

pub returns-in_default : goal.returns-in_default
returns-in_default c =
    let inv = c.loop-len.invariant in
    let over : 2 ^ 32 ≤ c.loop-len.height + get_or c.args.lengths.now c.loop-len.len-index 0 = grind (arith, common_steps) in
    too_long c.args.lengths.now c.loop-len.height c.loop-len.len-index (omega arith) inv.sum over

pub from_slices-requires : goal.from_slices-requires
from_slices-requires c =
    let inv = c.loop-len.invariant in
    slices_made c.args.lengths.now c.loop-len.height c.loop-len.len-index (map slice_group c.loop-len.groups.items) inv.small (omega arith) inv.sum inv.slices (omega arith)

pub returns : goal.returns
returns c =
    let inv = c.loop-len.invariant in
    rw c.from_slices.ensures (consecutive_made c.args.lengths.now c.loop-len.height c.loop-len.len-index (map slice_group c.loop-len.groups.items) inv.small (omega arith) inv.sum inv.slices)
