use Rattle.std.proofs.Common.{◌≡◌, ◌∙◌, Err, Ok, sym}
use Rattle.std.proofs.lemmas.Result.{err_from_is_err_and}
use Rattle.px_column.specs.Prelude.{Refuses}
use Rattle.px_column.specs.Reduction.{reduced_kind}
use Rattle.px_context.specs.Context.{cell_kind}
use Rattle.px_group_nodes.specs.Reduction.{laid_count, reduced_column, reduction_answers}
use Rattle.px_group_nodes.proofs.Reductions.{column_length, flat_height, flat_refused, lists_reduced, units_reduced, wanting}
use Rattle.px_group_nodes.proofs.aggregation.reduce_values.Goals as goal

pub reduce_column-requires : goal.reduce_column-requires
reduce_column-requires g c = rw (c.get_values-values.ensures, c.kept_groups.ensures) (flat_height c.args.input c.reads_groups.ensures.context c.requires)

pub returns-in_err-column-clause-refused : goal.returns-in_err-column-clause-refused
returns-in_err-column-clause-refused g c =
    let a = c.args.input in
    let m = c.args.method in
    let e = c.in_err-column.field-0.0 in
    let p = err_from_is_err_and c.from_residual.result c.from_residual.ensures.1 in
    let refused : Refuses e (reduced_column m a.values a.groups) = rw (c.get_values-values.ensures, c.kept_groups.ensures) at c.in_err-column.ensures.answer in
    rw (p.1, p.2) (flat_refused a c.reads_groups.ensures.context c.requires m e refused)

pub returns-then-is_implode-clause-made : goal.returns-then-is_implode-clause-made
returns-then-is_implode-clause-made g c =
    let a = c.args.input in
    let m = c.args.method in
    let s = c.in_ok-column.column in
    let made : reduced_column m a.values a.groups ≡ Ok s = (λ i. reduced_column m (sym c.get_values-values.ensures i) (sym c.kept_groups.ensures i)) ∙ c.in_ok-column.ensures.answer in
    let t = c.lists_of_rows.ensures in
    lists_reduced a c.reads_groups.ensures.context c.requires m s made c.lists_of_rows.result (sym c.is_implode.ensures ∙ c.if-is_implode.true) t.cells t.name t.kind t.shape t.count

pub returns-then-is_implode-clause-refused : goal.returns-then-is_implode-clause-refused
returns-then-is_implode-clause-refused g c =
    let a = c.args.input in
    let m = c.args.method in
    wanting c.lists_of_rows.result (reduction_answers m a) (λ e. reduced_kind m (cell_kind a) ≡ Err e) (laid_count m a) c.lists_of_rows.ensures.refused

pub with_units-requires : goal.with_units-requires
with_units-requires g c =
    let a = c.args.input in
    let m = c.args.method in
    let s = c.in_ok-column.column in
    let made : reduced_column m a.values a.groups ≡ Ok s = (λ i. reduced_column m (sym c.get_values-values.ensures i) (sym c.kept_groups.ensures i)) ∙ c.in_ok-column.ensures.answer in
    column_length m a.values a.groups s made

pub returns-clause-made : goal.returns-clause-made
returns-clause-made g c =
    let a = c.args.input in
    let m = c.args.method in
    let s = c.in_ok-column.column in
    let made : reduced_column m a.values a.groups ≡ Ok s = (λ i. reduced_column m (sym c.get_values-values.ensures i) (sym c.kept_groups.ensures i)) ∙ c.in_ok-column.ensures.answer in
    rw c.with_units.ensures (units_reduced a c.reads_groups.ensures.context c.requires m s made (sym c.is_implode.ensures ∙ c.if-is_implode.false))
