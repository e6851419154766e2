use Rattle.std.proofs.Common.{◌≡◌, ◌⊎◌, ◌≤◌, ◌^◌, inl, Bool, true, false, length, map, refl, subst, sum, sym}
use Rattle.px_column.specs.Prelude.{kind_of}
use Rattle.px_value.specs.declared.error.ComputeWhy.TheVariants.{TooLong}
use Rattle.px_value.specs.declared.error.PxError.TheVariants.{ComputeError, OutOfMemory}
use Rattle.px_frame.specs.CellView.{named_cell}
use Rattle.px_context.specs.Built.{with_column}
use Rattle.px_context.specs.Context.{Context, cell_kind, has_units}
use Rattle.px_lanes.specs.Alike.{AreLike, lengths_in, values_in}
use Rattle.px_lanes.specs.Made.{named_cells}
use Rattle.px_lanes.proofs.Joining.{units_made}
use Rattle.px_lanes.proofs.Stepping.{if_answered, if_refused}
use Rattle.px_lanes.proofs.laying.from_cells.Goals as goal

pub from_units-requires-clause-like : goal.from_units-requires-clause-like
from_units-requires-clause-like c = subst (λ (b : Bool). AreLike c.args.name (kind_of c.args.dtype) b (map named_cell c.args.cells.now)) c.if-is_unit.true c.requires.like

pub from_lists-requires-clause-like : goal.from_lists-requires-clause-like
from_lists-requires-clause-like c = subst (λ (b : Bool). AreLike c.args.name (kind_of c.args.dtype) b (map named_cell c.args.cells.now)) c.if-is_unit.false c.requires.like

pub returns-then-is_unit-clause-cells : goal.returns-then-is_unit-clause-cells
returns-then-is_unit-clause-cells c =
    let cs = map named_cell c.args.cells.now in
    let made = with_column true c.args.context (record { name = c.args.name; kind = kind_of c.args.dtype; slots = values_in cs }) in
    let like = subst (λ (b : Bool). AreLike c.args.name (kind_of c.args.dtype) b cs) c.if-is_unit.true c.requires.like in
    if_answered c.from_units.result made (λ (d : Context). named_cells d ≡ cs) c.from_units.ensures (units_made c.args.name (kind_of c.args.dtype) cs c.args.context like)

pub returns-then-is_unit-clause-name : goal.returns-then-is_unit-clause-name
returns-then-is_unit-clause-name c =
    let made = with_column true c.args.context (record { name = c.args.name; kind = kind_of c.args.dtype; slots = values_in (map named_cell c.args.cells.now) }) in
    if_answered c.from_units.result made (λ (d : Context). d.values.name ≡ c.args.name) c.from_units.ensures refl

pub returns-then-is_unit-clause-kind : goal.returns-then-is_unit-clause-kind
returns-then-is_unit-clause-kind c =
    let made = with_column true c.args.context (record { name = c.args.name; kind = kind_of c.args.dtype; slots = values_in (map named_cell c.args.cells.now) }) in
    if_answered c.from_units.result made (λ (d : Context). cell_kind d ≡ kind_of c.args.dtype) c.from_units.ensures refl

pub returns-then-is_unit-clause-shape : goal.returns-then-is_unit-clause-shape
returns-then-is_unit-clause-shape c =
    let made = with_column true c.args.context (record { name = c.args.name; kind = kind_of c.args.dtype; slots = values_in (map named_cell c.args.cells.now) }) in
    if_answered c.from_units.result made (λ (d : Context). has_units d.layout ≡ c.args.is_unit) c.from_units.ensures (sym c.if-is_unit.true)

pub returns-then-is_unit-clause-count : goal.returns-then-is_unit-clause-count
returns-then-is_unit-clause-count c =
    let made = with_column true c.args.context (record { name = c.args.name; kind = kind_of c.args.dtype; slots = values_in (map named_cell c.args.cells.now) }) in
    if_answered c.from_units.result made (λ (d : Context). length d.groups.groups ≡ length c.args.cells.now) c.from_units.ensures (sym c.requires.count)

pub returns-then-is_unit-clause-touched : goal.returns-then-is_unit-clause-touched
returns-then-is_unit-clause-touched c =
    let made = with_column true c.args.context (record { name = c.args.name; kind = kind_of c.args.dtype; slots = values_in (map named_cell c.args.cells.now) }) in
    if_answered c.from_units.result made (λ (d : Context). d.untouched ≡ false) c.from_units.ensures refl

pub returns-then-is_unit-clause-refused : goal.returns-then-is_unit-clause-refused
returns-then-is_unit-clause-refused c =
    let made = with_column true c.args.context (record { name = c.args.name; kind = kind_of c.args.dtype; slots = values_in (map named_cell c.args.cells.now) }) in
    if_refused c.from_units.result made (λ e. (e ≡ OutOfMemory) ⊎ ((e ≡ ComputeError TooLong) × (2 ^ 32 ≤ sum (lengths_in (map named_cell c.args.cells.now))))) c.from_units.ensures (inl refl)
