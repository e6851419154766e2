use Rattle.std.proofs.Common.{◌<◌, ◌≤◌, List, length, subst}
use Rattle.px_frame.specs.declared.cell.Cell.{Cell}
use Rattle.px_nodes.proofs.Functions.{many_named, none_named}
use Rattle.px_nodes.proofs.apply.apply_cells.Goals as goal

pub returns-in-empty-clause-answer : goal.returns-in-empty-clause-answer
returns-in-empty-clause-answer g c =
    none_named c.args.function.now c.args.inputs.items (subst (λ (cs : List Cell). length cs < 1) c.as_slice.ensures.value c.in-empty.len_below)

pub returns-clause-answer : goal.returns-clause-answer
returns-clause-answer g c =
    many_named c.args.function.now c.args.inputs.items (subst (λ (cs : List Cell). 4 ≤ length cs) c.as_slice.ensures.value c.in-len4-up.len_at_least)
