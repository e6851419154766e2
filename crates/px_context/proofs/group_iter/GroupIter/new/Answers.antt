use Rattle.std.proofs.Common.{◌∙◌, ℕ, List, ap, map, replicate}
use Rattle.px_column.specs.Prelude.{slot_at}
use Rattle.px_frame.specs.Cell.{Cell, rows, unit}
use Rattle.px_context.specs.Part.{part}
use Rattle.px_context.proofs.Reading.{same_each}
use Rattle.px_context.proofs.group_iter.GroupIter.new.Goals as goal

pub returns-in-Rows : goal.returns-in-Rows
returns-in-Rows c =
    let s = c.args.column.now in
    rw c.in-Rows.is
    (c.of_literal.ensures ∙ ap (λ (n : ℕ). map (part s.kind) (replicate n (rows s.slots))) c.len.ensures.len
    ∙ ap (λ (cs : List Cell). map (part s.kind) cs) (same_each (rows s.slots) c.args.groups.now.groups))

pub returns-in-Unit : goal.returns-in-Unit
returns-in-Unit c =
    let s = c.args.column.now in
    rw c.in-Unit.is
    (c.of_literal-in-Unit.ensures ∙ ap (λ (n : ℕ). map (part s.kind) (replicate n (unit (slot_at s.slots 0)))) c.len-in-Unit.ensures.len
    ∙ ap (λ (cs : List Cell). map (part s.kind) cs) (same_each (unit (slot_at s.slots 0)) c.args.groups.now.groups))
