use Rattle.std.proofs.Common.{◌≡◌, ◌≤◌, ◌+◌, ◌∙◌, List, ℕ, Result, Some, ap, length, map, subst, sym}
use Rattle.std.proofs.lemmas.List.{length-map}
use Rattle.std.specs.List.{flat_map}
use Rattle.std.proofs.lemmas.Result.{err_from_is_err_and}
use Rattle.px_column.specs.Prelude.{Answers, Series}
use Rattle.px_value.specs.declared.error.PxError.{PxError}
use Rattle.px_frame.specs.Aggregate.{key_column}
use Rattle.px_window.specs.State.{beside}
use Rattle.px_frame.specs.Frame.{height_of}
use Rattle.px_frame.specs.Groups.{Groups, group_of, groups_by}
use Rattle.px_frame.specs.Parts.{parts_of}
use Rattle.px_tree.specs.Size.{size_on}
use Rattle.px_steps.specs.Finds.{Lacks, agg_faults, node_tree, part_frames}
use Rattle.px_steps.specs.Plain.{columns_on, greatest, group_costs}
use Rattle.px_steps.proofs.Held.{ok_same}
use Rattle.px_steps.proofs.Columns.{keys_high}
use Rattle.px_steps.proofs.GroupStep.{columns_found, frame_made, parts_found}
use Rattle.px_steps.proofs.Grouping.{finds_same}
use Rattle.px_steps.proofs.Members.{on_ok}
use Rattle.px_steps.proofs.group_step.grouped_frame.Goals as goal

pub key_rows-requires-clause-height : goal.key_rows-requires-clause-height
key_rows-requires-clause-height g c =
    let groups : c.in_ok-groups.groups ≡ groups_by c.args.by.now (height_of c.args.frame.now) = ok_same _ _ c.in_ok-groups.ensures.groups in
    rw groups (keys_high c.args.frame.now c.args.by.now c.requires.keys)

pub returns-in_err-push_aggregations-clause-answer : goal.returns-in_err-push_aggregations-clause-answer
returns-in_err-push_aggregations-clause-answer g c =
    let p = err_from_is_err_and c.from_residual-in_err-push_aggregations.result c.from_residual-in_err-push_aggregations.ensures.1 in
    let F = beside c.args.frame.now c.args.state.now in
    let ts = map node_tree c.args.aggs.now in
    let e = c.in_err-push_aggregations.field-0.0 in
    let groups : c.in_ok-groups.groups ≡ groups_by c.args.by.now (height_of c.args.frame.now) = ok_same _ _ c.in_ok-groups.ensures.groups in
    rw (p.1, p.2)
    (subst (λ (ps : List (List ℕ)). Lacks e (flat_map (agg_faults F ps) ts) (greatest (map (λ t. size_on t (part_frames F ps)) ts))) (parts_found c.args.frame.now c.args.by.now c.in_ok-groups.groups groups) c.in_err-push_aggregations.ensures.answer)

pub returns-clause-answer : goal.returns-clause-answer
returns-clause-answer g c =
    let cs = c.args.frame.now in
    let F = beside cs c.args.state.now in
    let by = c.args.by.now in
    let ts = map node_tree c.args.aggs.now in
    let new = c.push_aggregations.new.columns.items in
    let groups : c.in_ok-groups.groups ≡ groups_by by (height_of cs) = ok_same _ _ c.in_ok-groups.ensures.groups in
    let keys : c.in_ok-columns.columns.items ≡ map (key_column c.in_ok-groups.groups.groups) by = ok_same _ _ c.in_ok-columns.ensures in
    let made : columns_on F ts by ≡ Some new = columns_found F ts by c.in_ok-groups.groups _ new groups keys c.in_ok-push_aggregations.ensures.answer.1 in
    let sound = sym (ap (λ (ps : List (List ℕ)). flat_map (agg_faults F ps) ts) (parts_found cs by c.in_ok-groups.groups groups)) ∙ c.in_ok-push_aggregations.ensures.answer.0 in
    finds_same c.new.result new (columns_on F ts by) _ _ (subst (λ (r : Result (List Series) PxError). Answers c.new.result r) (frame_made F ts by new made c.requires.names) c.new.ensures.answer) made sound

pub returns-clause-most : goal.returns-clause-most
returns-clause-most g c =
    let groups : c.in_ok-groups.groups ≡ groups_by c.args.by.now (height_of c.args.frame.now) = ok_same _ _ c.in_ok-groups.ensures.groups in
    let many : length c.in_ok-groups.groups.groups ≡ length (parts_of c.args.by.now (height_of c.args.frame.now)) = ap (λ (x : Groups). length x.groups) groups ∙ length-map (parts_of c.args.by.now (height_of c.args.frame.now)) group_of in
    on_ok c.new.result (subst (λ n. c.push_aggregations.new.kernels ≤ c.args.kernels.now + group_costs (map node_tree c.args.aggs.now) n) many c.in_ok-push_aggregations.ensures.most)
