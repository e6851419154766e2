use Rattle.std.proofs.Common.{◌≡◌, List, ap, false, map, subst, sym}
use Rattle.px_column.specs.Prelude.{Series, kind_of}
use Rattle.px_frame.specs.CellView.{named_cell}
use Rattle.px_frame.specs.declared.cell.Cell.{Cell}
use Rattle.px_context.specs.Context.{cell_kind}
use Rattle.px_lanes.specs.Alike.{AreLike}
use Rattle.px_group_nodes.proofs.SortedBy.{sorted_alike}
use Rattle.px_group_nodes.proofs.sort_by.sort_by_groups.Goals as goal

pub from_lists-requires-clause-like : goal.from_lists-requires-clause-like
from_lists-requires-clause-like g c =
    let input = c.args.input in
    let name : c.in_ok-name.name ≡ input.values.name = cc (c.in_ok-name.ensures, c.name.ensures, ap (λ (s : Series). s.name) c.get_values.ensures) in
    let kind : kind_of c.in_ok-dtype.dtype ≡ cell_kind input = cc (c.in_ok-dtype.ensures, c.cell_type.ensures) in
    let like = sorted_alike c.args.sort_options.now input c.args.by.items (map named_cell c.in_ok-cells.cells.items) c.in_ok-cells.ensures.cells in
    subst (λ (items : List Cell). AreLike c.in_ok-name.name (kind_of c.in_ok-dtype.dtype) false (map named_cell items)) (sym c.deref-2.ensures.value) (rw (name, kind) like)
