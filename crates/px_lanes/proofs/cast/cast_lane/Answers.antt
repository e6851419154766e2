use Rattle.std.proofs.Common.{◌≡◌, Ok, subst, true}
use Rattle.std.proofs.lemmas.Result.{err_from_is_err_and}
use Rattle.px_column.specs.Cast.{cast_kind}
use Rattle.px_column.specs.Prelude.{Refuses, Series, kind_of, slots_fit}
use Rattle.px_frame.specs.CellView.{named_cell}
use Rattle.px_nodes.specs.Named.{cast_named}
use Rattle.px_lanes.specs.Casting.{cast_answers}
use Rattle.px_lanes.specs.Lane.{lane_of}
use Rattle.px_lanes.specs.Made.{counts_in}
use Rattle.px_lanes.proofs.Casts.{cast_rows, lane_refused}
use Rattle.px_lanes.proofs.OneInput.{kept_one, lane_one, made_one, stands_one}
use Rattle.px_lanes.proofs.cast.cast_lane.Goals as goal

pub with_lane-requires : goal.with_lane-requires
with_lane-requires g c =
    let a = c.args.input in
    let to = kind_of c.args.dtype.now in
    let o = c.args.options in
    let m = named_cell c.in_ok-made.made in
    let made : cast_named to o (lane_of a) ≡ Ok m = cc (c.in_ok-cell.ensures, c.in_ok-made.ensures.answer) in
    stands_one a c.has_lane.ensures.context c.requires.lane (cast_named to o) (λ k. cast_kind k to) (cast_rows to o) m made

pub returns-clause-made : goal.returns-clause-made
returns-clause-made g c =
    let a = c.args.input in
    let to = kind_of c.args.dtype.now in
    let o = c.args.options in
    let m = named_cell c.in_ok-made.made in
    let made : cast_named to o (lane_of a) ≡ Ok m = cc (c.in_ok-cell.ensures, c.in_ok-made.ensures.answer) in
    rw c.with_lane.ensures (made_one a c.has_lane.ensures.context c.requires.lane (cast_named to o) (λ k. cast_kind k to) (cast_rows to o) m made c.has_lane.ensures.groups)

pub returns-clause-groups : goal.returns-clause-groups
returns-clause-groups g c =
    let a = c.args.input in
    rw c.with_lane.ensures (kept_one a c.has_lane.ensures.context c.requires.lane (named_cell c.in_ok-made.made))

pub returns-clause-lane : goal.returns-clause-lane
returns-clause-lane g c =
    let a = c.args.input in
    let to = kind_of c.args.dtype.now in
    let o = c.args.options in
    let m = named_cell c.in_ok-made.made in
    let made : cast_named to o (lane_of a) ≡ Ok m = cc (c.in_ok-cell.ensures, c.in_ok-made.ensures.answer) in
    rw c.with_lane.ensures (lane_one a c.has_lane.ensures.context c.requires.lane (cast_named to o) (λ k. cast_kind k to) (cast_rows to o) m made)

pub returns-in_err-made-clause-refused : goal.returns-in_err-made-clause-refused
returns-in_err-made-clause-refused g c =
    let a = c.args.input in
    let to = kind_of c.args.dtype.now in
    let o = c.args.options in
    let x : named_cell c.in_ok-cell.cell ≡ lane_of a = cc c.in_ok-cell.ensures in
    let e = c.in_err-made.field-0.0 in
    let p = err_from_is_err_and c.from_residual-in_err-made.result c.from_residual-in_err-made.ensures.1 in
    let refused : Refuses e (cast_named to o (lane_of a)) = subst (λ q. Refuses e (cast_named to o q)) x c.in_err-made.ensures.answer in
    let fit = subst (λ (s : Series). slots_fit s.kind s.slots ≡ true) c.get_values.ensures c.rows.ensures.fit in
    rw (p.1, p.2) (lane_refused o c.requires.loose to a c.has_lane.ensures.context c.requires.lane fit e (counts_in (cast_answers to o a)) refused)
