use Rattle.std.proofs.Common.{List, ap, arith, map}
use Rattle.px_column.specs.Prelude.{Slot, slot_at}
use Rattle.px_frame.specs.Cell.{unit}
use Rattle.px_context.specs.Part.{part}
use Rattle.px_context.proofs.Reading.{drop_get, slot_get}
use Rattle.px_context.proofs.group_iter.FlatIterIterator.next.Goals as goal

pub returns-clause-steps : goal.returns-clause-steps
returns-clause-steps c =
    let i = c.args.self.now in
    let s = i.column.now in
    rw c.of_row-piece.ensures
    (ap (λ (xs : List Slot). map (part s.kind) (map unit xs)) (drop_get s.slots i.at (slot_at s.slots i.at) (slot_get s.slots i.at (omega arith))))
