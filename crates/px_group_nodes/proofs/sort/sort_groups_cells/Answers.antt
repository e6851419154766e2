use Rattle.std.proofs.Common.{◌≡◌, ◌∙◌, Ok, ap, sym}
use Rattle.px_column.specs.Prelude.{kind_of}
use Rattle.px_context.specs.Context.{cell_kind}
use Rattle.px_group_nodes.specs.Sorting.{sorted_kind}
use Rattle.px_group_nodes.proofs.Sorts.{sort_alike}
use Rattle.px_group_nodes.proofs.sort.sort_groups_cells.Goals as goal

pub make_each-requires : goal.make_each-requires
make_each-requires g c = λ cs h.
    let a = c.args.input in
    let k = kind_of c.in_ok-dtype.dtype in
    let typed : sorted_kind (cell_kind a) ≡ Ok k = ap sorted_kind (sym c.cell_type.ensures) ∙ c.in_ok-dtype.ensures in
    sort_alike c.args.options a k cs typed h
