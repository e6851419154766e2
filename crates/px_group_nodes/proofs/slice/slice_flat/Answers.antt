use Rattle.std.proofs.Common.{◌≡◌, ◌∙◌, ◌&&◌, true, arith, subst, sym, to_z, of_z}
use Rattle.std.specs.Int.{w128}
use Rattle.std.proofs.lemmas.Int.{ints}
use Rattle.std.proofs.lemmas.Result.{err_from_is_err_and}
use Rattle.px_context.specs.Context.{cell_kind}
use Rattle.px_tree.specs.Typing.{is_integer_or_null}
use Rattle.px_lanes.specs.Made.{counts_in}
use Rattle.px_group_nodes.specs.Slice.{IsSliced, slice_answers}
use Rattle.px_group_nodes.specs.Windows.{windows_of}
use Rattle.px_group_nodes.proofs.SlicesFlat.{flat_denied, flat_sliced}
use Rattle.px_group_nodes.proofs.slice.slice_flat.Goals as goal

pub returns-in_err-start-clause-refused : goal.returns-in_err-start-clause-refused
returns-in_err-start-clause-refused g c =
    let x = c.args.input in
    let o = c.args.offset.now in
    let l = c.args.limit.now in
    let typed : (is_integer_or_null (cell_kind o) && is_integer_or_null (cell_kind l)) ≡ true = cc (c.are_arguments.ensures, c.if-not-are_arguments.false) in
    let q = err_from_is_err_and c.from_residual.result c.from_residual.ensures.1 in
    rw (q.1, q.2)
    (flat_denied x o l c.requires.flat c.requires.offset c.requires.limit c.requires.many c.requires.others typed c.in_err-start.field-0.0 (counts_in (slice_answers x o l)) c.in_err-start.ensures.answer c.requires.some)

pub returns-clause-made : goal.returns-clause-made
returns-clause-made g c =
    let x = c.args.input in
    let o = c.args.offset.now in
    let l = c.args.limit.now in
    let start = c.in_ok-start.start in
    let typed : (is_integer_or_null (cell_kind o) && is_integer_or_null (cell_kind l)) ≡ true = cc (c.are_arguments.ensures, c.if-not-are_arguments.false) in
    let z : to_z w128 (of_z w128 start) ≡ start = omega (arith, ints, c.in_ok-start.ensures.within.0.low, c.in_ok-start.ensures.within.0.high) in
    let windows = c.in_ok-groups.ensures.rows ∙ (λ i. windows_of (z i) c.in_ok-start.count (c.kept_groups.ensures i)) in
    subst (IsSliced x o l) (sym c.with_groups.ensures)
    (flat_sliced x o l c.requires.flat c.requires.offset c.requires.limit c.requires.many c.requires.others typed (start, c.in_ok-start.count) c.in_ok-start.ensures.answer c.in_ok-groups.groups windows)
