use Rattle.std.proofs.Common.{◌∙◌, ◌++◌, ◌∷◌, [], length, sym}
use Rattle.px_frame.specs.Groups.{Group}
use Rattle.px_frame.specs.GroupsView.{lent_group}
use Rattle.px_frame.proofs.Each.{map_next}
use Rattle.px_frame.proofs.groups.GroupPositions.lengths.Goals as goal

pub loop-index-preserved : goal.loop-index-preserved
loop-index-preserved c =
    c.in_ok-push.ensures.items ∙ (λ i. c.loop-index.invariant i ++ c.len-in-loop-index.ensures i ∷ [])
    ∙ sym (map_next (λ (p : Group). length p.rows) c.args.self.now.groups c.loop-index.index (lent_group c.group.result) c.group.ensures.group)
