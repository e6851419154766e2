use Rattle.std.proofs.Common.{arith, sym}
use Rattle.px_frame.proofs.Slices.{range_at, slice_row}
use Rattle.px_frame.proofs.groups.GroupsIndicator.row.Goals as goal

pub overflow_add-result : goal.overflow_add-result
overflow_add-result c =
    let group = rw c.in-Slice.is at c.requires.group in
    let within = rw c.in-Slice.is at c.requires.within in
    omega (arith, slice_row c.in-Slice.range c.args.index group within)

pub returns-in-Slice : goal.returns-in-Slice
returns-in-Slice c =
    let within = rw c.in-Slice.is at c.requires.within in
    rw c.in-Slice.is (sym (range_at _ _ c.args.index within))
