use Rattle.std.proofs.Common.{◌≡◌, ◌∙◌, ◌∷◌, ◌+◌, List, ap, arith, drop, map, sym}
use Rattle.px_column.specs.Prelude.{Slot, kind_of, slot_at}
use Rattle.px_frame.specs.Cell.{rows}
use Rattle.px_context.specs.Context.{is_list_slot, item_kind, items_at}
use Rattle.px_context.specs.Part.{part}
use Rattle.px_context.proofs.Reading.{all_read, drop_get, slot_get}
use Rattle.px_context.proofs.group_iter.ListIterIterator.next.Goals as goal

pub values_at-items-requires-clause-list : goal.values_at-items-requires-clause-list
values_at-items-requires-clause-list c =
    let i = c.args.self.now in
    all_read is_list_slot i.column.now.slots i.at i.present (omega arith)

pub returns-clause-steps : goal.returns-clause-steps
returns-clause-steps c =
    let i = c.args.self.now in
    let s = i.column.now in
    let kind : kind_of c.items_type.result.now ≡ item_kind s.kind = c.items_type.ensures ∙ ap item_kind c.dtype.ensures in
    let cells = λ (xs : List Slot). map (part (item_kind s.kind)) (map (λ x. rows (items_at x)) xs) in
    let next = ap cells (drop_get s.slots i.at (slot_at s.slots i.at) (slot_get s.slots i.at (omega arith))) in
    rw c.of_items-piece.ensures (next ∙ (λ j. part (sym kind j) (rows (sym c.values_at-items.ensures.values j)) ∷ cells (drop (i.at + 1) s.slots)))
