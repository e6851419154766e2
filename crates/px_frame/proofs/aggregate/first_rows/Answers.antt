use Rattle.std.proofs.Common.{◌≡◌, ◌∙◌, Some, ◌++◌, ◌∷◌, [], sym}
use Rattle.px_frame.specs.Groups.{Group, first_row}
use Rattle.px_frame.specs.GroupsView.{lent_group}
use Rattle.px_frame.proofs.Each.{some_row, first_is, map_next}
use Rattle.px_frame.proofs.aggregate.first_rows.Goals as goal

pub row-requires-clause-within : goal.row-requires-clause-within
row-requires-clause-within c = some_row c.args.groups.now.groups c.loop-index.index (lent_group c.group.result) c.requires c.group.ensures.group

pub loop-index-preserved : goal.loop-index-preserved
loop-index-preserved c =
    let g = lent_group c.group.result in
    let first : c.row.result ≡ first_row g.rows = c.row.ensures ∙ first_is g.rows (some_row c.args.groups.now.groups c.loop-index.index g c.requires c.group.ensures.group) in
    c.in_ok-push.ensures.items ∙ (λ i. c.loop-index.invariant i ++ Some (first i) ∷ []) ∙ sym (map_next (λ (p : Group). Some (first_row p.rows)) c.args.groups.now.groups c.loop-index.index g c.group.ensures.group)
