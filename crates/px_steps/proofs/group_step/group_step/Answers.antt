use Rattle.std.proofs.Common.{◌≡◌, ◌∙◌, ◌∷◌, [], List, ap, map, subst, sym}
use Rattle.std.specs.List.{flat_map}
use Rattle.std.proofs.lemmas.Result.{err_from_is_err_and}
use Rattle.px_column.specs.Option.{each}
use Rattle.px_frame.specs.External.{scope_of}
use Rattle.px_frame.specs.Frame.{height_of}
use Rattle.px_frame.specs.Parts.{parts_of}
use Rattle.px_tree.specs.Size.{size_on}
use Rattle.px_tree.specs.Tree.{Tree}
use Rattle.px_tree.specs.View.{tree}
use Rattle.px_tree.specs.declared.context.Context.TheVariants.{Aggregation, Default}
use Rattle.px_window.specs.State.{beside}
use Rattle.px_steps.specs.Finds.{Finds, Lacks, agg_faults, key_faults, part_frames}
use Rattle.px_steps.specs.Plain.{columns_on, greatest}
use Rattle.px_tree.specs.Grouped.{key_on}
use Rattle.px_steps.proofs.Held.{ok_same}
use Rattle.px_steps.proofs.GroupStep.{group_answer, key_cause, keys_fit, keys_typed, names_once, refusals_apart, some_column, step_accepted, step_first}
use Rattle.px_steps.proofs.Kernels.{grouped_both, least_both, most_both, on_ok_so, within_both, within_first}
use Rattle.px_steps.proofs.Members.{on_ok}
use Rattle.px_steps.proofs.Nodes.{are_accepted, planned_both, same_trees}
use Rattle.px_steps.proofs.group_step.group_step.Goals as goal

pub returns-in_err-nodes-clause-answer : goal.returns-in_err-nodes-clause-answer
returns-in_err-nodes-clause-answer g c =
    let p = err_from_is_err_and c.from_residual-in_err-nodes.result c.from_residual-in_err-nodes.ensures.1 in
    let F = beside c.args.frame.now c.args.state.now in
    let scope : c.in_ok-schema.schema.value ≡ scope_of F = ok_same _ _ c.in_ok-schema.ensures in
    rw (p.1, p.2) (step_first c.in_err-nodes.field-0.0 (map tree c.args.keys.now) (map tree c.args.aggs.now) F c.in_ok-schema.schema.value scope c.in_err-nodes.ensures)

pub key_columns-requires : goal.key_columns-requires
key_columns-requires g c =
    let F = beside c.args.frame.now c.args.state.now in
    let ks = map tree c.args.keys.now in
    let over = c.in_ok-schema.schema.value in
    let scope : over ≡ scope_of F = ok_same _ _ c.in_ok-schema.ensures in
    let made = planned_both over ks (map tree c.args.aggs.now) c.in_ok-nodes.nodes c.in_ok-nodes.ensures.1 in
    let apart = refusals_apart F ks (map tree c.args.aggs.now) (step_accepted ks (map tree c.args.aggs.now) F over scope c.in_ok-nodes.ensures.0) in
    rw c.deref.ensures.value (are_accepted F over Default ks c.in_ok-nodes.nodes.keys.items scope made.0 (keys_typed F ks apart.1))

pub returns-in_err-by-clause-answer : goal.returns-in_err-by-clause-answer
returns-in_err-by-clause-answer g c =
    let p = err_from_is_err_and c.from_residual-in_err-by.result c.from_residual-in_err-by.ensures.1 in
    let F = beside c.args.frame.now c.args.state.now in
    let e = c.in_err-by.field-0.0 in
    let keys = map tree c.args.keys.now in
    let aggs = map tree c.args.aggs.now in
    let over = c.in_ok-schema.schema.value in
    let scope : over ≡ scope_of F = ok_same _ _ c.in_ok-schema.ensures in
    let made = planned_both over keys aggs c.in_ok-nodes.nodes c.in_ok-nodes.ensures.1 in
    let ks = same_trees over keys c.in_ok-nodes.nodes.keys.items made.0 in
    rw (p.1, p.2)
    (key_cause F keys aggs (step_accepted keys aggs F over scope c.in_ok-nodes.ensures.0) e
    (subst (λ (ts : List Tree). Lacks e (flat_map (key_faults F) ts) (greatest (map (λ t. size_on t (F ∷ [])) ts))) ks (rw c.deref.ensures.value at c.in_err-by.ensures.answer)))

pub returns-in_err-by-clause-within : goal.returns-in_err-by-clause-within
returns-in_err-by-clause-within g c =
    let keys = map tree c.args.keys.now in
    let made = planned_both c.in_ok-schema.schema.value keys (map tree c.args.aggs.now) c.in_ok-nodes.nodes c.in_ok-nodes.ensures.1 in
    let ks = same_trees c.in_ok-schema.schema.value keys c.in_ok-nodes.nodes.keys.items made.0 in
    within_first keys (map tree c.args.aggs.now) _ ks c.args.groupings.now c.key_columns.new.groupings (rw c.deref.ensures.value at c.in_err-by.ensures.within)

pub grouped_frame-requires : goal.grouped_frame-requires
grouped_frame-requires g c =
    let F = beside c.args.frame.now c.args.state.now in
    let keys = map tree c.args.keys.now in
    let aggs = map tree c.args.aggs.now in
    let over = c.in_ok-schema.schema.value in
    let scope : over ≡ scope_of F = ok_same _ _ c.in_ok-schema.ensures in
    let apart = refusals_apart F keys aggs (step_accepted keys aggs F over scope c.in_ok-nodes.ensures.0) in
    let made = planned_both over keys aggs c.in_ok-nodes.nodes c.in_ok-nodes.ensures.1 in
    let ks = same_trees over keys c.in_ok-nodes.nodes.keys.items made.0 in
    let ns = same_trees over aggs c.in_ok-nodes.nodes.aggs.items made.1 in
    let columns = ap (each (key_on F)) (sym ks) ∙ (rw c.deref.ensures.value at c.in_ok-by.ensures.answer).1 in
    record {
      some = rw c.deref-2.ensures.value (some_column F keys c.in_ok-by.by.items apart.0 columns);
      keys = rw c.deref-2.ensures.value (keys_fit F keys c.in_ok-by.by.items apart.1 columns);
      names = rw (c.deref-2.ensures.value, c.deref-3.ensures.value, ns) (names_once F keys aggs c.in_ok-by.by.items apart.3 columns);
      accepted = rw (c.deref-3.ensures.value, c.in_ok-by.ensures.state) (are_accepted F over Aggregation aggs c.in_ok-nodes.nodes.aggs.items scope made.1 apart.2);
    }

pub returns-clause-answer : goal.returns-clause-answer
returns-clause-answer g c =
    let cs = c.args.frame.now in
    let F = beside cs c.args.state.now in
    let keys = map tree c.args.keys.now in
    let aggs = map tree c.args.aggs.now in
    let over = c.in_ok-schema.schema.value in
    let scope : over ≡ scope_of F = ok_same _ _ c.in_ok-schema.ensures in
    let made = planned_both over keys aggs c.in_ok-nodes.nodes c.in_ok-nodes.ensures.1 in
    let ks = same_trees over keys c.in_ok-nodes.nodes.keys.items made.0 in
    let ns = same_trees over aggs c.in_ok-nodes.nodes.aggs.items made.1 in
    let found = rw c.deref.ensures.value at c.in_ok-by.ensures.answer in
    let by = c.in_ok-by.by.items in
    group_answer F keys aggs (step_accepted keys aggs F over scope c.in_ok-nodes.ensures.0) by (ap (each (key_on F)) (sym ks) ∙ found.1) c.grouped_frame.result (ap (flat_map (key_faults F)) (sym ks) ∙ found.0)
    (subst (λ (ts : List Tree). Finds c.grouped_frame.result (columns_on F ts by) (flat_map (agg_faults F (parts_of by (height_of cs))) ts) (greatest (map (λ t. size_on t (part_frames F (parts_of by (height_of cs)))) ts))) ns
    (rw (c.deref-2.ensures.value, c.deref-3.ensures.value, c.in_ok-by.ensures.state) at c.grouped_frame.ensures.answer)) c.grouped_frame.ensures.short

pub returns-clause-grouped : goal.returns-clause-grouped
returns-clause-grouped g c =
    let keys = map tree c.args.keys.now in
    let made = planned_both c.in_ok-schema.schema.value keys (map tree c.args.aggs.now) c.in_ok-nodes.nodes c.in_ok-nodes.ensures.1 in
    let ks = same_trees c.in_ok-schema.schema.value keys c.in_ok-nodes.nodes.keys.items made.0 in
    on_ok c.grouped_frame.result (grouped_both keys (map tree c.args.aggs.now) _ ks c.args.groupings.now c.key_columns.new.groupings c.grouped_frame.new.groupings (rw c.deref.ensures.value at c.in_ok-by.ensures.grouped) c.grouped_frame.ensures.grouped)

pub returns-clause-within : goal.returns-clause-within
returns-clause-within g c =
    let keys = map tree c.args.keys.now in
    let made = planned_both c.in_ok-schema.schema.value keys (map tree c.args.aggs.now) c.in_ok-nodes.nodes c.in_ok-nodes.ensures.1 in
    let ks = same_trees c.in_ok-schema.schema.value keys c.in_ok-nodes.nodes.keys.items made.0 in
    within_both keys (map tree c.args.aggs.now) _ ks c.args.groupings.now c.key_columns.new.groupings c.grouped_frame.new.groupings (rw c.deref.ensures.value at c.in_ok-by.ensures.within) c.grouped_frame.ensures.grouped

pub returns-clause-ticks : goal.returns-clause-ticks
returns-clause-ticks g c =
    let keys = map tree c.args.keys.now in
    let aggs = map tree c.args.aggs.now in
    let made = planned_both c.in_ok-schema.schema.value keys aggs c.in_ok-nodes.nodes c.in_ok-nodes.ensures.1 in
    let ks = same_trees c.in_ok-schema.schema.value keys c.in_ok-nodes.nodes.keys.items made.0 in
    let ns = same_trees c.in_ok-schema.schema.value aggs c.in_ok-nodes.nodes.aggs.items made.1 in
    on_ok_so c.grouped_frame.result (rw c.deref-3.ensures.value at c.grouped_frame.ensures.ticks)
    (least_both keys aggs _ _ ks ns c.args.kernels.now c.key_columns.new.kernels c.grouped_frame.new.kernels (rw c.deref.ensures.value at c.in_ok-by.ensures.ticks))

pub returns-clause-most : goal.returns-clause-most
returns-clause-most g c =
    let F = beside c.args.frame.now c.args.state.now in
    let keys = map tree c.args.keys.now in
    let aggs = map tree c.args.aggs.now in
    let made = planned_both c.in_ok-schema.schema.value keys aggs c.in_ok-nodes.nodes c.in_ok-nodes.ensures.1 in
    let ks = same_trees c.in_ok-schema.schema.value keys c.in_ok-nodes.nodes.keys.items made.0 in
    let ns = same_trees c.in_ok-schema.schema.value aggs c.in_ok-nodes.nodes.aggs.items made.1 in
    let found = rw c.deref.ensures.value at c.in_ok-by.ensures.answer in
    on_ok_so c.grouped_frame.result (rw (c.deref-2.ensures.value, c.deref-3.ensures.value) at c.grouped_frame.ensures.most)
    (most_both F keys aggs _ _ ks ns c.in_ok-by.by.items (ap (each (key_on F)) (sym ks) ∙ found.1) c.args.kernels.now c.key_columns.new.kernels c.grouped_frame.new.kernels (rw c.deref.ensures.value at c.in_ok-by.ensures.most))
