use Rattle.std.proofs.Common.{◌≡◌, ◌∙◌, ap, false, inl, inr, length, map, refl}
use Rattle.std.proofs.lemmas.Result.{err_from_is_err_and}
use Rattle.px_column.specs.Prelude.{Series, kind_of}
use Rattle.px_frame.specs.CellView.{named_cell}
use Rattle.px_context.specs.Context.{cell_kind}
use Rattle.px_group_nodes.specs.Slice.{slice_answers, slice_kind}
use Rattle.px_group_nodes.proofs.Made.{alike_as, made_as, refused_as, refused_typed}
use Rattle.px_group_nodes.proofs.Slices.{slice_alike}
use Rattle.px_group_nodes.proofs.slice.slice_each.Goals as goal

pub from_cells-requires-clause-like : goal.from_cells-requires-clause-like
from_cells-requires-clause-like g c =
    let p = c.args.input in
    let a = c.args.offset.now in
    let b = c.args.limit.now in
    let k = kind_of c.in_ok-dtype.dtype in
    let n : c.in_ok-name.name ≡ c.name.result.now = cc c.in_ok-name.ensures in
    alike_as c.in_ok-cells.cells.items c.deref.result.now c.deref.ensures.value p.values.name c.in_ok-name.name k false false
    (n ∙ c.name.ensures ∙ ap (λ (s : Series). s.name) c.get_values.ensures) refl (slice_alike p a b k (map named_cell c.in_ok-cells.cells.items) c.in_ok-dtype.ensures c.in_ok-cells.ensures.cells)

pub returns-clause-made : goal.returns-clause-made
returns-clause-made g c =
    let p = c.args.input in
    let a = c.args.offset.now in
    let b = c.args.limit.now in
    let n : c.in_ok-name.name ≡ c.name.result.now = cc c.in_ok-name.ensures in
    made_as c.in_ok-cells.cells.items c.deref.result.now c.deref.ensures.value c.from_cells.result (slice_answers p a b) p.values.name c.in_ok-name.name (slice_kind (cell_kind p) (cell_kind a) (cell_kind b)) (kind_of c.in_ok-dtype.dtype)
    false false (length p.groups.groups) (n ∙ c.name.ensures ∙ ap (λ (s : Series). s.name) c.get_values.ensures) refl c.in_ok-cells.ensures.count c.in_ok-cells.ensures.cells c.in_ok-dtype.ensures
    c.from_cells.ensures.cells c.from_cells.ensures.name c.from_cells.ensures.kind c.from_cells.ensures.shape c.from_cells.ensures.count

pub returns-clause-refused : goal.returns-clause-refused
returns-clause-refused g c =
    let p = c.args.input in
    let a = c.args.offset.now in
    let b = c.args.limit.now in
    refused_as c.in_ok-cells.cells.items c.deref.result.now c.deref.ensures.value c.from_cells.result (slice_answers p a b) (slice_kind (cell_kind p) (cell_kind a) (cell_kind b)) c.in_ok-cells.ensures.cells c.from_cells.ensures.refused

pub returns-in_err-cells-clause-refused : goal.returns-in_err-cells-clause-refused
returns-in_err-cells-clause-refused g c =
    let q = err_from_is_err_and c.from_residual-in_err-cells.result c.from_residual-in_err-cells.ensures.1 in
    rw (q.1, q.2) (inr (inl c.in_err-cells.ensures.faults))

pub returns-in_err-dtype-clause-refused : goal.returns-in_err-dtype-clause-refused
returns-in_err-dtype-clause-refused g c =
    let p = c.args.input in
    let a = c.args.offset.now in
    let b = c.args.limit.now in
    let q = err_from_is_err_and c.from_residual.result c.from_residual.ensures.1 in
    rw (q.1, q.2) (refused_typed c.in_err-dtype.field-0.0 (slice_kind (cell_kind p) (cell_kind a) (cell_kind b)) (slice_answers p a b) c.in_err-dtype.ensures)
