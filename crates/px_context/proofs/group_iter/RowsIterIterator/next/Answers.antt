use Rattle.std.proofs.Common.{List, ap, map}
use Rattle.px_frame.specs.Cell.{rows}
use Rattle.px_frame.specs.Frame.{slots_at}
use Rattle.px_frame.specs.Groups.{Group}
use Rattle.px_frame.specs.GroupsView.{lent_group}
use Rattle.px_context.specs.Part.{part}
use Rattle.px_context.proofs.Reading.{drop_get}
use Rattle.px_context.proofs.group_iter.RowsIterIterator.next.Goals as goal

pub returns-clause-steps : goal.returns-clause-steps
returns-clause-steps c =
    let i = c.args.self.now in
    let s = i.column.now in
    rw c.of_rows-piece.ensures
    (ap (λ (gs : List Group). map (part s.kind) (map (λ p. rows (slots_at s.slots p.rows)) gs)) (drop_get i.groups.now.groups i.at (lent_group c.group.result) c.group.ensures.group))
