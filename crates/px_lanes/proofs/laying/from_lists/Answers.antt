use Rattle.std.proofs.Common.{◌≡◌, ◌∙◌, ◌⊎◌, ◌≤◌, ◌^◌, inl, ℕ, List, [], false, Ok, ap, arith, length, map, refl, subst, sum, sym}
use Rattle.std.proofs.lemmas.List.{length-map}
use Rattle.std.proofs.lemmas.Result.{err_from_is_err_and}
use Rattle.px_column.specs.Prelude.{Refuses, Series, kind_of}
use Rattle.px_value.specs.declared.error.ComputeWhy.TheVariants.{TooLong}
use Rattle.px_value.specs.declared.error.PxError.TheVariants.{ComputeError, OutOfMemory}
use Rattle.px_frame.specs.Cell.{count_of}
use Rattle.px_frame.specs.CellView.{named_cell}
use Rattle.px_frame.specs.Consecutive.{consecutive}
use Rattle.px_frame.specs.Spread.{NamedCell}
use Rattle.px_context.specs.Context.{Context, cell_kind, has_units}
use Rattle.px_lanes.specs.Alike.{AreOf, flat_over, lengths_in, values_in}
use Rattle.px_lanes.specs.Made.{named_cells}
use Rattle.px_lanes.proofs.Joining.{consecutive_height, consecutive_long, consecutive_short, length_values, lists_count, lists_made, of_like}
use Rattle.px_lanes.proofs.Stepping.{if_answered, if_refused}
use Rattle.px_lanes.proofs.laying.from_lists.Goals as goal

pub slices_of_lengths-requires : goal.slices_of_lengths-requires
slices_of_lengths-requires c =
    let cs = map named_cell c.args.cells.now in
    let same : c.deref.result.now ≡ lengths_in cs = cc (c.deref.ensures.value, c.in_ok-lengths.ensures) in
    let many = ap length same ∙ length-map cs (λ (n : NamedCell). count_of n.cell) ∙ length-map c.args.cells.now named_cell in
    omega (arith, many, c.requires.few)

pub returns-in_err-groups-clause-refused : goal.returns-in_err-groups-clause-refused
returns-in_err-groups-clause-refused c =
    let cs = map named_cell c.args.cells.now in
    let same : c.deref.result.now ≡ lengths_in cs = cc (c.deref.ensures.value, c.in_ok-lengths.ensures) in
    let p = err_from_is_err_and c.from_residual-in_err-groups.result c.from_residual-in_err-groups.ensures.1 in
    let e = c.in_err-groups.field-0.0 in
    rw (p.1, p.2) (consecutive_long (lengths_in cs) e (subst (λ (ls : List ℕ). Refuses e (consecutive ls)) same c.in_err-groups.ensures))

pub join_cells-requires-clause-kinds : goal.join_cells-requires-clause-kinds
join_cells-requires-clause-kinds c =
    let cs = map named_cell c.args.cells.now in
    let made : record { name = c.args.name; kind = kind_of c.args.dtype; slots = [] } ≡ c.in_ok-rows.rows = cc c.in_ok-rows.ensures in
    subst (λ (s : Series). AreOf s.kind cs) made (of_like c.args.name (kind_of c.args.dtype) false cs c.requires.like)

pub join_cells-requires-clause-short : goal.join_cells-requires-clause-short
join_cells-requires-clause-short c =
    let cs = map named_cell c.args.cells.now in
    let same : c.deref.result.now ≡ lengths_in cs = cc (c.deref.ensures.value, c.in_ok-lengths.ensures) in
    let made : consecutive (lengths_in cs) ≡ Ok c.in_ok-groups.groups = ap consecutive (sym same) ∙ c.in_ok-groups.ensures in
    omega (arith, length_values cs, consecutive_short (lengths_in cs) c.in_ok-groups.groups made)

pub flat_over-requires : goal.flat_over-requires
flat_over-requires c =
    let cs = map named_cell c.args.cells.now in
    let same : c.deref.result.now ≡ lengths_in cs = cc (c.deref.ensures.value, c.in_ok-lengths.ensures) in
    let made : consecutive (lengths_in cs) ≡ Ok c.in_ok-groups.groups = ap consecutive (sym same) ∙ c.in_ok-groups.ensures in
    let rows : c.in_ok-join_cells.field-0 ≡ record c.in_ok-rows.rows { slots = values_in cs } = cc c.in_ok-join_cells.ensures in
    ap (λ (s : Series). length s.slots) rows ∙ length_values cs ∙ consecutive_height (lengths_in cs) c.in_ok-groups.groups made

pub returns-clause-cells : goal.returns-clause-cells
returns-clause-cells c =
    let cs = map named_cell c.args.cells.now in
    let same : c.deref.result.now ≡ lengths_in cs = cc (c.deref.ensures.value, c.in_ok-lengths.ensures) in
    let made : consecutive (lengths_in cs) ≡ Ok c.in_ok-groups.groups = ap consecutive (sym same) ∙ c.in_ok-groups.ensures in
    let start : record { name = c.args.name; kind = kind_of c.args.dtype; slots = [] } ≡ c.in_ok-rows.rows = cc c.in_ok-rows.ensures in
    let rows : c.in_ok-join_cells.field-0 ≡ record { name = c.args.name; kind = kind_of c.args.dtype; slots = values_in cs } =
    cc c.in_ok-join_cells.ensures ∙ ap (λ (s : Series). record { name = s.name; kind = s.kind; slots = values_in cs }) (sym start) in
    if_answered c.flat_over.result (flat_over c.in_ok-join_cells.field-0 c.in_ok-groups.groups) (λ (d : Context). named_cells d ≡ cs) c.flat_over.ensures
    (lists_made c.args.name (kind_of c.args.dtype) cs c.in_ok-join_cells.field-0 c.in_ok-groups.groups c.requires.like rows made)

pub returns-clause-name : goal.returns-clause-name
returns-clause-name c =
    let cs = map named_cell c.args.cells.now in
    let start : record { name = c.args.name; kind = kind_of c.args.dtype; slots = [] } ≡ c.in_ok-rows.rows = cc c.in_ok-rows.ensures in
    let rows : c.in_ok-join_cells.field-0 ≡ record c.in_ok-rows.rows { slots = values_in cs } = cc c.in_ok-join_cells.ensures in
    if_answered c.flat_over.result (flat_over c.in_ok-join_cells.field-0 c.in_ok-groups.groups) (λ (d : Context). d.values.name ≡ c.args.name) c.flat_over.ensures
    (ap (λ (s : Series). s.name) rows ∙ ap (λ (s : Series). s.name) (sym start))

pub returns-clause-kind : goal.returns-clause-kind
returns-clause-kind c =
    let cs = map named_cell c.args.cells.now in
    let start : record { name = c.args.name; kind = kind_of c.args.dtype; slots = [] } ≡ c.in_ok-rows.rows = cc c.in_ok-rows.ensures in
    let rows : c.in_ok-join_cells.field-0 ≡ record c.in_ok-rows.rows { slots = values_in cs } = cc c.in_ok-join_cells.ensures in
    if_answered c.flat_over.result (flat_over c.in_ok-join_cells.field-0 c.in_ok-groups.groups) (λ (d : Context). cell_kind d ≡ kind_of c.args.dtype) c.flat_over.ensures
    (ap (λ (s : Series). s.kind) rows ∙ ap (λ (s : Series). s.kind) (sym start))

pub returns-clause-shape : goal.returns-clause-shape
returns-clause-shape c =
    if_answered c.flat_over.result (flat_over c.in_ok-join_cells.field-0 c.in_ok-groups.groups) (λ (d : Context). has_units d.layout ≡ false) c.flat_over.ensures refl

pub returns-clause-count : goal.returns-clause-count
returns-clause-count c =
    let cs = map named_cell c.args.cells.now in
    let same : c.deref.result.now ≡ lengths_in cs = cc (c.deref.ensures.value, c.in_ok-lengths.ensures) in
    let made : consecutive (lengths_in cs) ≡ Ok c.in_ok-groups.groups = ap consecutive (sym same) ∙ c.in_ok-groups.ensures in
    if_answered c.flat_over.result (flat_over c.in_ok-join_cells.field-0 c.in_ok-groups.groups) (λ (d : Context). length d.groups.groups ≡ length c.args.cells.now) c.flat_over.ensures
    (lists_count c.args.name (kind_of c.args.dtype) cs c.in_ok-groups.groups made ∙ length-map c.args.cells.now named_cell)

pub returns-clause-touched : goal.returns-clause-touched
returns-clause-touched c =
    if_answered c.flat_over.result (flat_over c.in_ok-join_cells.field-0 c.in_ok-groups.groups) (λ (d : Context). d.untouched ≡ false) c.flat_over.ensures refl

pub returns-clause-refused : goal.returns-clause-refused
returns-clause-refused c =
    if_refused c.flat_over.result (flat_over c.in_ok-join_cells.field-0 c.in_ok-groups.groups) (λ e. (e ≡ OutOfMemory) ⊎ ((e ≡ ComputeError TooLong) × (2 ^ 32 ≤ sum (lengths_in (map named_cell c.args.cells.now))))) c.flat_over.ensures (inl refl)
