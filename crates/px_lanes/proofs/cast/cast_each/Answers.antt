use Rattle.std.proofs.Common.{◌≡◌, ◌∙◌, Bool, Ok, ap, subst, sym}
use Rattle.px_column.specs.Cast.{cast_kind}
use Rattle.px_column.specs.Prelude.{Kind, kind_of}
use Rattle.px_context.specs.Context.{cell_kind}
use Rattle.px_lanes.specs.Alike.{AreLike}
use Rattle.px_lanes.proofs.Casts.{cast_alike}
use Rattle.px_lanes.proofs.cast.cast_each.Goals as goal

pub make_each-requires : goal.make_each-requires
make_each-requires g c = λ cs h.
    let a = c.args.input in
    let to = kind_of c.args.dtype.now in
    let k = kind_of c.in_ok-made.made in
    let typed : cast_kind (cell_kind a) to ≡ Ok k = ap (λ (j : Kind). cast_kind j to) (sym c.cell_type.ensures) ∙ c.in_ok-made.ensures in
    subst (λ (b : Bool). AreLike a.values.name k b cs) (sym c.has_units-is_unit.ensures) (cast_alike to c.args.options a k cs typed h)
