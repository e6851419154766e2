use Rattle.std.proofs.Common.{◌+◌, ◌<◌, ◌∷◌, length, drop, ap, sym, ◌∙◌, arith}
use Rattle.px_array.proofs.Windows.{drop_row}
use Rattle.px_array.proofs.rows.RowsIterator.next.Goals as goal

pub returns-then-self-len-clause-steps : goal.returns-then-self-len-clause-steps
returns-then-self-len-clause-steps c =
    let xs = c.self.inside.array.now.slots in
    let lt : c.self.inside.next < length xs = omega (arith, c.if-self-len.true, c.len.ensures) in
    sym c.self.view_is ∙ drop_row xs c.self.inside.next lt
    ∙ ap (λ s. s ∷ drop (c.self.inside.next + 1) xs) (sym c.get-row.ensures.value)
