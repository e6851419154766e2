use Rattle.std.proofs.Common.{◌≡◌, ◌≤◌, ◌+◌, ◌∙◌, List, ap, map, sym, subst}
use Rattle.std.proofs.lemmas.Result.{err_from_is_err_and}
use Rattle.px_value.specs.declared.error.PxError.{PxError}
use Rattle.px_answers.specs.Counted.{RisesAtMost, RunAllAtLeast, costs_on}
use Rattle.px_expr.specs.Plan.{planned_over}
use Rattle.px_answers.specs.Parts.{plan_trees}
use Rattle.px_answers.specs.Planned.{Planned}
use Rattle.px_tree.specs.Cost.{all_windows_in}
use Rattle.px_answers.specs.Value.{AreCellsOf, IsCauseOfAny}
use Rattle.px_frame.specs.CellView.{named_cell}
use Rattle.px_frame.specs.External.{scope_of}
use Rattle.px_window.specs.State.{beside}
use Rattle.px_tree.specs.View.{tree}
use Rattle.px_tree.specs.Tree.{Tree}
use Rattle.px_steps.specs.Finds.{node_tree}
use Rattle.px_steps.specs.Meets.{IsFirst}
use Rattle.px_steps.proofs.Held.{ok_same}
use Rattle.px_steps.proofs.Nodes.{same_trees}
use Rattle.px_steps.proofs.Selected.{all_windows, cells_fit, cells_named, cells_sound, least_ticks, naming_cause, nodes_over, selected, typed_over, typing_cause, value_cause}
use Rattle.px_steps.proofs.Members.{on_ok}
use Rattle.px_steps.proofs.select_step.select_step.Goals as goal

pub returns-in_err-nodes-clause-answer : goal.returns-in_err-nodes-clause-answer
returns-in_err-nodes-clause-answer g c =
    let p = err_from_is_err_and c.from_residual-in_err-nodes.result c.from_residual-in_err-nodes.ensures.1 in
    let F = beside c.args.frame.now c.args.state.now in
    let ts = map tree c.args.exprs.now in
    let e = c.in_err-nodes.field-0.0 in
    let scope : c.in_ok-schema.schema.value ≡ scope_of F = ok_same _ _ c.in_ok-schema.ensures in
    rw (p.1, p.2) (typing_cause e ts F (subst (λ (es : List PxError). IsFirst e es) (typed_over c.in_ok-schema.schema.value F ts scope) c.in_err-nodes.ensures))

pub returns-in_err-distinct_names-clause-answer : goal.returns-in_err-distinct_names-clause-answer
returns-in_err-distinct_names-clause-answer g c =
    let p = err_from_is_err_and c.from_residual-in_err-distinct_names.result c.from_residual-in_err-distinct_names.ensures.1 in
    let F = beside c.args.frame.now c.args.state.now in
    let ts = map tree c.args.exprs.now in
    let scope : c.in_ok-schema.schema.value ≡ scope_of F = ok_same _ _ c.in_ok-schema.ensures in
    rw (p.1, p.2) (naming_cause c.in_err-distinct_names.field-0.0 ts F (sym (typed_over c.in_ok-schema.schema.value F ts scope) ∙ c.in_ok-nodes.ensures.0) c.in_err-distinct_names.ensures)

pub returns-in_err-cells-clause-answer : goal.returns-in_err-cells-clause-answer
returns-in_err-cells-clause-answer g c =
    let p = err_from_is_err_and c.from_residual-in_err-cells.result c.from_residual-in_err-cells.ensures.1 in
    let F = beside c.args.frame.now c.args.state.now in
    let ts = map tree c.args.exprs.now in
    let scope : c.in_ok-schema.schema.value ≡ scope_of F = ok_same _ _ c.in_ok-schema.ensures in
    let nodes = nodes_over c.in_ok-schema.schema.value F ts c.in_ok-nodes.nodes.items scope c.in_ok-nodes.ensures.1 in
    rw (p.1, p.2)
    (value_cause c.in_err-cells.field-0.0 ts F (sym (typed_over c.in_ok-schema.schema.value F ts scope) ∙ c.in_ok-nodes.ensures.0) c.in_ok-distinct_names.ensures.0
    (subst (λ (ps : List Planned). IsCauseOfAny c.in_err-cells.field-0.0 ps F) nodes (rw c.deref.ensures.value at c.in_err-cells.ensures.causes)))

pub returns-clause-answer : goal.returns-clause-answer
returns-clause-answer g c =
    let F = beside c.args.frame.now c.args.state.now in
    let ts = map tree c.args.exprs.now in
    let scope : c.in_ok-schema.schema.value ≡ scope_of F = ok_same _ _ c.in_ok-schema.ensures in
    let nodes = nodes_over c.in_ok-schema.schema.value F ts c.in_ok-nodes.nodes.items scope c.in_ok-nodes.ensures.1 in
    let over = scope_of F in
    let found = map named_cell c.in_ok-cells.cells.items in
    let are : AreCellsOf (map (planned_over over) ts) F found = subst (λ (ps : List Planned). AreCellsOf ps F found) nodes (rw c.deref.ensures.value at c.in_ok-cells.ensures.value) in
    selected ts F found c.assemble.result (sym (typed_over c.in_ok-schema.schema.value F ts scope) ∙ c.in_ok-nodes.ensures.0) c.in_ok-distinct_names.ensures.0
    (cells_named over F ts found are) (cells_sound over F ts found are)
    (cells_fit F ts found (sym (typed_over c.in_ok-schema.schema.value F ts scope) ∙ c.in_ok-nodes.ensures.0) are) c.assemble.ensures.answer c.assemble.ensures.short

pub returns-in_err-cells-clause-risen : goal.returns-in_err-cells-clause-risen
returns-in_err-cells-clause-risen g c = c.in_err-cells.ensures.grouped_most.rises

pub returns-in_err-cells-clause-within : goal.returns-in_err-cells-clause-within
returns-in_err-cells-clause-within g c =
    let F = beside c.args.frame.now c.args.state.now in
    let ts = map tree c.args.exprs.now in
    let scope : c.in_ok-schema.schema.value ≡ scope_of F = ok_same _ _ c.in_ok-schema.ensures in
    let nodes = nodes_over c.in_ok-schema.schema.value F ts c.in_ok-nodes.nodes.items scope c.in_ok-nodes.ensures.1 in
    let windows = ap (λ (ps : List Planned). all_windows_in (plan_trees ps)) nodes ∙ all_windows (scope_of F) ts in
    subst (λ n. c.evaluate_cells.new.groupings ≤ c.args.groupings.now + n) windows (rw c.deref.ensures.value at c.in_err-cells.ensures.grouped_most.most)

pub returns-clause-risen : goal.returns-clause-risen
returns-clause-risen g c = c.in_ok-cells.ensures.grouped_most.rises

pub returns-clause-within : goal.returns-clause-within
returns-clause-within g c =
    let F = beside c.args.frame.now c.args.state.now in
    let ts = map tree c.args.exprs.now in
    let scope : c.in_ok-schema.schema.value ≡ scope_of F = ok_same _ _ c.in_ok-schema.ensures in
    let nodes = nodes_over c.in_ok-schema.schema.value F ts c.in_ok-nodes.nodes.items scope c.in_ok-nodes.ensures.1 in
    let windows = ap (λ (ps : List Planned). all_windows_in (plan_trees ps)) nodes ∙ all_windows (scope_of F) ts in
    subst (λ n. c.evaluate_cells.new.groupings ≤ c.args.groupings.now + n) windows (rw c.deref.ensures.value at c.in_ok-cells.ensures.grouped_most.most)

pub returns-clause-grouped : goal.returns-clause-grouped
returns-clause-grouped g c =
    let F = beside c.args.frame.now c.args.state.now in
    let ts = map tree c.args.exprs.now in
    let scope : c.in_ok-schema.schema.value ≡ scope_of F = ok_same _ _ c.in_ok-schema.ensures in
    let nodes = nodes_over c.in_ok-schema.schema.value F ts c.in_ok-nodes.nodes.items scope c.in_ok-nodes.ensures.1 in
    let windows = ap (λ (ps : List Planned). all_windows_in (plan_trees ps)) nodes ∙ all_windows (scope_of F) ts in
    on_ok c.assemble.result (subst (λ n. c.evaluate_cells.new.groupings ≡ c.args.groupings.now + n) windows (rw c.deref.ensures.value at c.in_ok-cells.ensures.grouped))

pub returns-clause-ticks : goal.returns-clause-ticks
returns-clause-ticks g c =
    let F = beside c.args.frame.now c.args.state.now in
    let ts = map tree c.args.exprs.now in
    let scope : c.in_ok-schema.schema.value ≡ scope_of F = ok_same _ _ c.in_ok-schema.ensures in
    let nodes = nodes_over c.in_ok-schema.schema.value F ts c.in_ok-nodes.nodes.items scope c.in_ok-nodes.ensures.1 in
    let least : RunAllAtLeast (map (planned_over (scope_of F)) ts) c.args.kernels.now c.evaluate_cells.new.kernels
    = subst (λ (ps : List Planned). RunAllAtLeast ps c.args.kernels.now c.evaluate_cells.new.kernels) nodes (rw c.deref.ensures.value at c.in_ok-cells.ensures.least) in
    on_ok c.assemble.result (subst (λ n. c.args.kernels.now + n ≤ c.evaluate_cells.new.kernels) (least_ticks (scope_of F) ts) least)

pub returns-clause-most : goal.returns-clause-most
returns-clause-most g c =
    let F = beside c.args.frame.now c.args.state.now in
    let ts = map tree c.args.exprs.now in
    let scope : c.in_ok-schema.schema.value ≡ scope_of F = ok_same _ _ c.in_ok-schema.ensures in
    let nodes = nodes_over c.in_ok-schema.schema.value F ts c.in_ok-nodes.nodes.items scope c.in_ok-nodes.ensures.1 in
    let same = same_trees (scope_of F) ts c.in_ok-nodes.nodes.items (sym nodes) in
    let most : RisesAtMost (costs_on (map node_tree c.in_ok-nodes.nodes.items) F) c.args.kernels.now c.evaluate_cells.new.kernels = rw c.deref.ensures.value at c.in_ok-cells.ensures.most in
    on_ok c.assemble.result (subst (λ (us : List Tree). RisesAtMost (costs_on us F) c.args.kernels.now c.evaluate_cells.new.kernels) same most)
