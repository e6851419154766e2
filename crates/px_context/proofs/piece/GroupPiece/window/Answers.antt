use Rattle.std.proofs.Common.{◌∙◌, ap, arith, drop, length, take, ℕ}
use Rattle.std.proofs.lemmas.List.{length-map}
use Rattle.px_column.specs.Prelude.{slot_at}
use Rattle.px_frame.specs.GroupsView.{lent_group}
use Rattle.px_context.proofs.Windows.{row_stands, rows_end, rows_stand}
use Rattle.px_context.proofs.piece.GroupPiece.window.Goals as goal

pub returns-in_ok-first_of-in-Rows-clause-within : goal.returns-in_ok-first_of-in-Rows-clause-within
returns-in_ok-first_of-in-Rows-clause-within c =
    let s = c.in-Rows.column.now in
    let rows = (lent_group c.in-Rows.group).rows in
    let found = c.in_ok-first_of-in-Rows.ensures in
    let there = rw c.in-Rows.is at c.self.invariant in
    let count = length-map rows (slot_at s.slots) in
    rw (← c.self.view_is, c.in-Rows.is) (omega (arith, count, rows_end (length s.slots) rows c.in_ok-first_of-in-Rows.field-0 found.some found.rows there.1))

pub returns-in_ok-first_of-in-Rows-clause-same : goal.returns-in_ok-first_of-in-Rows-clause-same
returns-in_ok-first_of-in-Rows-clause-same c =
    let s = c.in-Rows.column.now in
    let rows = (lent_group c.in-Rows.group).rows in
    let first = c.in_ok-first_of-in-Rows.field-0 in
    let found = c.in_ok-first_of-in-Rows.ensures in
    let there = rw c.in-Rows.is at c.self.invariant in
    let ends = rows_end (length s.slots) rows first found.some found.rows there.1 in
    rw (← c.self.view_is, c.in-Rows.is) (ap (λ (n : ℕ). take n (drop first s.slots)) (length-map rows (slot_at s.slots)) ∙ rows_stand s rows first ends found.rows)

pub returns-in-Single-clause-same : goal.returns-in-Single-clause-same
returns-in-Single-clause-same c =
    let there = rw c.in-Single.is at c.self.invariant in
    rw (← c.self.view_is, c.in-Single.is) (row_stands c.in-Single.column.now c.in-Single.row there)
