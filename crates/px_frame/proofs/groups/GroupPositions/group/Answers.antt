use Rattle.std.proofs.Common.{◌≡◌, ◌≤◌, ◌^◌, arith, length, nat_lt, true}
use Rattle.px_frame.specs.Frame.{are_below}
use Rattle.px_frame.specs.GroupsView.{lent_group}
use Rattle.px_value.proofs.FitLaws.{both}
use Rattle.px_frame.proofs.Each.{group_short}
use Rattle.px_frame.proofs.Slices.{group_at, is_group_more}
use Rattle.px_frame.proofs.groups.GroupPositions.group.Goals as goal

pub returns-clause-short : goal.returns-clause-short
returns-clause-short c = group_short c.self.inside.height _ c.args.index (lent_group c.group.result) c.self.invariant c.group.ensures

pub returns-clause-bounded : goal.returns-clause-bounded
returns-clause-bounded c =
    let few : c.self.inside.height ≤ 2 ^ 32 = omega arith in
    is_group_more c.self.inside.height (2 ^ 32) (lent_group c.group.result) few (group_at c.self.inside.height _ c.args.index (lent_group c.group.result) c.self.invariant c.group.ensures)

pub returns-clause-below : goal.returns-clause-below
returns-clause-below c =
    let g = lent_group c.group.result in
    let below : are_below c.self.inside.height g.rows ≡ true = (both (are_below c.self.inside.height g.rows) (nat_lt (length g.rows) (2 ^ 32)) (group_at c.self.inside.height _ c.args.index g c.self.invariant c.group.ensures)).0 in
    rw (← c.self.view_is) below
