use Rattle.std.proofs.Common.{◌≡◌, ◌∙◌, ◌<◌, ℕ, List, Err, Ok, ap, length, map, slice_index_or, subst, sym}
use Rattle.px_column.specs.Prelude.{kind_of}
use Rattle.px_frame.specs.CellView.{named_cell}
use Rattle.px_frame.specs.declared.cell.Cell.{Cell}
use Rattle.px_nodes.specs.Named.{function_named}
use Rattle.px_context.specs.Context.{Context}
use Rattle.px_lanes.specs.Alike.{AreLike}
use Rattle.px_lanes.proofs.Grouping.{refused_of}
use Rattle.px_group_nodes.specs.Function.{first_context_name, first_count, function_answers, function_type, function_units}
use Rattle.px_group_nodes.specs.Many.{answers_of_many}
use Rattle.px_group_nodes.proofs.Across.{all_counts}
use Rattle.px_group_nodes.proofs.Functions.{function_alike}
use Rattle.px_group_nodes.proofs.apply.apply_each.Goals as goal

pub each_many-requires : goal.each_many-requires
each_many-requires g c =
    let cs = c.args.inputs.items in
    let count : first_count cs ≡ c.first_count-count.result = sym (c.first_count-count.ensures ∙ ap first_count c.deref-4.ensures.value) in
    subst (λ (xs : List Context). (k : ℕ) (d : Context) → k < length xs → length (slice_index_or xs k d).groups.groups ≡ c.first_count-count.result) (sym c.deref-5.ensures.value)
    (all_counts cs c.first_count-count.result c.requires.paired count)

pub from_cells-requires-clause-like : goal.from_cells-requires-clause-like
from_cells-requires-clause-like g c =
    let cs = c.args.inputs.items in
    let f = c.args.function.now in
    let k = kind_of c.in_ok-dtype.dtype in
    let ms = map named_cell c.in_ok-cells.cells.items in
    let count : c.first_count-count.result ≡ first_count cs = c.first_count-count.ensures ∙ ap first_count c.deref-4.ensures.value in
    let kind : function_type f cs ≡ Ok k = ap (function_type f) (sym c.deref.ensures.value) ∙ c.in_ok-dtype.ensures in
    let name : c.in_ok-name.name ≡ first_context_name cs = cc (c.in_ok-name.ensures, ap first_context_name c.deref-2.ensures.value) in
    let unit : c.function_units-is_unit.result ≡ function_units f cs = c.function_units-is_unit.ensures ∙ ap (function_units f) c.deref-3.ensures.value in
    let answers : function_answers f cs ≡ map Ok ms = (λ i. answers_of_many (function_named f) (sym count i) (sym c.deref-5.ensures.value i)) ∙ c.in_ok-cells.ensures.cells in
    let like = function_alike f cs k ms kind answers in
    subst (λ (items : List Cell). AreLike c.in_ok-name.name k c.function_units-is_unit.result (map named_cell items)) (sym c.deref-6.ensures.value) (rw (name, unit) like)

pub returns-clause-refused : goal.returns-clause-refused
returns-clause-refused g c =
    let cs = c.args.inputs.items in
    let f = c.args.function.now in
    let ms = map named_cell c.in_ok-cells.cells.items in
    let count : c.first_count-count.result ≡ first_count cs = c.first_count-count.ensures ∙ ap first_count c.deref-4.ensures.value in
    let answers : function_answers f cs ≡ map Ok ms = (λ i. answers_of_many (function_named f) (sym count i) (sym c.deref-5.ensures.value i)) ∙ c.in_ok-cells.ensures.cells in
    refused_of c.from_cells.result (function_answers f cs) (λ e. function_type f cs ≡ Err e) ms answers (rw c.deref-6.ensures.value at c.from_cells.ensures.refused)
