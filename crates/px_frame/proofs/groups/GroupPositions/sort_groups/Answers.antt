use Rattle.px_frame.proofs.InOrder.{IsGroups-moved}
use Rattle.px_frame.proofs.groups.GroupPositions.sort_groups.Goals as goal

pub invariant_of-result : goal.invariant_of-result
invariant_of-result c = IsGroups-moved c.self.inside.height _ _ c.in_ok-groups.ensures.sorted.moved c.self.invariant
