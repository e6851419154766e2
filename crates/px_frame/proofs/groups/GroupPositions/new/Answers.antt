use Rattle.std.proofs.Common.{◌<◌, ◌^◌, arith, rules}
use Rattle.px_frame.proofs.Slices.{IsGroups-within}
use Rattle.px_frame.proofs.groups.GroupPositions.new.Goals as goal

pub invariant_of-result : goal.invariant_of-result
invariant_of-result c =
    let few : c.args.height < 2 ^ 32 = omega arith in
    IsGroups-within c.args.height c.args.groups few (search rules) c.requires.short c.requires.few
