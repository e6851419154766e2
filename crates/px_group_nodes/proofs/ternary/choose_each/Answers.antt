use Rattle.std.proofs.Common.{◌≡◌, ◌∙◌, ap, ◌&&◌, inl, inr, length, map}
use Rattle.std.proofs.lemmas.Result.{err_from_is_err_and}
use Rattle.px_column.specs.Prelude.{Series, kind_of}
use Rattle.px_frame.specs.CellView.{named_cell}
use Rattle.px_context.specs.Context.{cell_kind, has_units}
use Rattle.px_group_nodes.specs.Ternary.{ternary_answers, ternary_kind}
use Rattle.px_group_nodes.proofs.Made.{alike_as, made_as, refused_as, refused_typed}
use Rattle.px_group_nodes.proofs.Ternaries.{ternary_alike}
use Rattle.px_group_nodes.proofs.ternary.choose_each.Goals as goal

pub from_cells-requires-clause-like : goal.from_cells-requires-clause-like
from_cells-requires-clause-like g c =
    let p = c.args.predicate in
    let a = c.args.truthy.now in
    let b = c.args.falsy.now in
    let k = kind_of c.in_ok-dtype.dtype in
    let n : c.in_ok-name.name ≡ c.name.result.now = cc c.in_ok-name.ensures in
    alike_as c.in_ok-cells.cells.items c.deref.result.now c.deref.ensures.value a.values.name c.in_ok-name.name k (has_units p.layout && (has_units a.layout && has_units b.layout)) c.have_units-is_unit.result
    (n ∙ c.name.ensures ∙ ap (λ (s : Series). s.name) c.get_values.ensures) c.have_units-is_unit.ensures (ternary_alike p a b k (map named_cell c.in_ok-cells.cells.items) c.in_ok-dtype.ensures c.in_ok-cells.ensures.cells)

pub returns-clause-made : goal.returns-clause-made
returns-clause-made g c =
    let p = c.args.predicate in
    let a = c.args.truthy.now in
    let b = c.args.falsy.now in
    let n : c.in_ok-name.name ≡ c.name.result.now = cc c.in_ok-name.ensures in
    made_as c.in_ok-cells.cells.items c.deref.result.now c.deref.ensures.value c.from_cells.result (ternary_answers p a b) a.values.name c.in_ok-name.name (ternary_kind (cell_kind p) (cell_kind a) (cell_kind b)) (kind_of c.in_ok-dtype.dtype)
    (has_units p.layout && (has_units a.layout && has_units b.layout)) c.have_units-is_unit.result (length p.groups.groups) (n ∙ c.name.ensures ∙ ap (λ (s : Series). s.name) c.get_values.ensures) c.have_units-is_unit.ensures c.in_ok-cells.ensures.count c.in_ok-cells.ensures.cells c.in_ok-dtype.ensures
    c.from_cells.ensures.cells c.from_cells.ensures.name c.from_cells.ensures.kind c.from_cells.ensures.shape c.from_cells.ensures.count

pub returns-clause-refused : goal.returns-clause-refused
returns-clause-refused g c =
    let p = c.args.predicate in
    let a = c.args.truthy.now in
    let b = c.args.falsy.now in
    refused_as c.in_ok-cells.cells.items c.deref.result.now c.deref.ensures.value c.from_cells.result (ternary_answers p a b) (ternary_kind (cell_kind p) (cell_kind a) (cell_kind b)) c.in_ok-cells.ensures.cells c.from_cells.ensures.refused

pub returns-in_err-cells-clause-refused : goal.returns-in_err-cells-clause-refused
returns-in_err-cells-clause-refused g c =
    let q = err_from_is_err_and c.from_residual-in_err-cells.result c.from_residual-in_err-cells.ensures.1 in
    rw (q.1, q.2) (inr (inl c.in_err-cells.ensures.faults))

pub returns-in_err-dtype-clause-refused : goal.returns-in_err-dtype-clause-refused
returns-in_err-dtype-clause-refused g c =
    let p = c.args.predicate in
    let a = c.args.truthy.now in
    let b = c.args.falsy.now in
    let q = err_from_is_err_and c.from_residual.result c.from_residual.ensures.1 in
    rw (q.1, q.2) (refused_typed c.in_err-dtype.field-0.0 (ternary_kind (cell_kind p) (cell_kind a) (cell_kind b)) (ternary_answers p a b) c.in_err-dtype.ensures)
