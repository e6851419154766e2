use Rattle.std.proofs.Common.{◌∙◌, [], ◌∷◌, length, ap, arith}
use Rattle.px_frame.specs.Frame.{are_below}
use Rattle.px_nodes.proofs.Ordering.{below_sorted, length_sorted, sorted_is}
use Rattle.px_nodes.proofs.sort.sort_column.Goals as goal

pub take_rows-requires-clause-few : goal.take_rows-requires-clause-few
take_rows-requires-clause-few g c =
    let s = c.args.column.now in
    let found = c.deref.ensures.value ∙ sorted_is c.args.options s c.in_ok-rows.rows.items c.in_ok-rows.ensures.answer in
    let all = ap length found ∙ length_sorted ((c.args.options, s.slots) ∷ []) (length s.slots) in
    omega (arith, all, c.rows.ensures.short)

pub take_rows-requires-clause-below : goal.take_rows-requires-clause-below
take_rows-requires-clause-below g c =
    let s = c.args.column.now in
    let found = c.deref.ensures.value ∙ sorted_is c.args.options s c.in_ok-rows.rows.items c.in_ok-rows.ensures.answer in
    ap (are_below (length s.slots)) found ∙ below_sorted ((c.args.options, s.slots) ∷ []) (length s.slots)
