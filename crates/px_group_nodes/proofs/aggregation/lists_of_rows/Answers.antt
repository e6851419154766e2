use Rattle.std.proofs.Common.{◌≡◌, ◌∙◌, Ok, ap, length, replicate, sym}
use Rattle.px_frame.specs.Consecutive.{consecutive}
use Rattle.px_context.specs.Context.{Context}
use Rattle.px_lanes.specs.Alike.{flat_over}
use Rattle.px_lanes.specs.Made.{named_cells}
use Rattle.px_lanes.proofs.Joining.{apart_count, apart_made}
use Rattle.px_lanes.proofs.Stepping.{if_answered}
use Rattle.px_group_nodes.specs.Reduction.{rows_apart}
use Rattle.px_group_nodes.proofs.aggregation.lists_of_rows.Goals as goal

pub returns-clause-cells : goal.returns-clause-cells
returns-clause-cells c =
    let s = c.args.column in
    let g = c.in_ok-groups.groups in
    let same : c.deref.result.now ≡ replicate (length s.slots) 1 = cc (c.deref.ensures.value, c.in_ok-lengths.ensures, c.len.ensures) in
    let made : consecutive (replicate (length s.slots) 1) ≡ Ok g = ap consecutive (sym same) ∙ c.in_ok-groups.ensures in
    if_answered c.flat_over.result (flat_over s g) (λ (d : Context). named_cells d ≡ rows_apart s) c.flat_over.ensures (apart_made s g made)

pub returns-clause-count : goal.returns-clause-count
returns-clause-count c =
    let s = c.args.column in
    let g = c.in_ok-groups.groups in
    let same : c.deref.result.now ≡ replicate (length s.slots) 1 = cc (c.deref.ensures.value, c.in_ok-lengths.ensures, c.len.ensures) in
    let made : consecutive (replicate (length s.slots) 1) ≡ Ok g = ap consecutive (sym same) ∙ c.in_ok-groups.ensures in
    if_answered c.flat_over.result (flat_over s g) (λ (d : Context). length d.groups.groups ≡ length s.slots) c.flat_over.ensures (apart_count s g made)
