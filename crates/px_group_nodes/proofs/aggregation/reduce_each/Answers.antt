use Rattle.std.proofs.Common.{◌≡◌, ◌∙◌, Bool, Ok, ap, not, subst, sym}
use Rattle.px_column.specs.Prelude.{kind_of}
use Rattle.px_column.specs.Reduction.{reduced_kind}
use Rattle.px_context.specs.Context.{cell_kind}
use Rattle.px_lanes.specs.Alike.{AreLike}
use Rattle.px_group_nodes.proofs.Reductions.{each_refused, reduction_alike}
use Rattle.px_group_nodes.proofs.aggregation.reduce_each.Goals as goal

pub make_each-requires : goal.make_each-requires
make_each-requires g c = λ cs h.
    let a = c.args.input in
    let m = c.args.method in
    let k = kind_of c.in_ok-reduced.reduced in
    let cloned : kind_of c.in_ok-dtype.dtype ≡ cell_kind a = cc (c.in_ok-dtype.ensures, c.cell_type.ensures) in
    let typed : reduced_kind m (cell_kind a) ≡ Ok k = ap (reduced_kind m) (sym cloned) ∙ c.in_ok-reduced.ensures in
    subst (λ (b : Bool). AreLike a.values.name k (not b) cs) (sym c.is_implode-is_unit.ensures) (reduction_alike m a k cs typed h)

pub returns-clause-refused : goal.returns-clause-refused
returns-clause-refused g c =
    let a = c.args.input in
    each_refused c.args.method a c.make_each.result c.reads_groups-is_unit.ensures.context c.reads_groups-is_unit.ensures.groups.few c.make_each.ensures.refused
