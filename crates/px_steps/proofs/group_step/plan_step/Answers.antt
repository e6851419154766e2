use Rattle.std.proofs.Common.{◌∙◌, map, sym}
use Rattle.std.proofs.lemmas.Result.{err_from_is_err_and}
use Rattle.px_value.specs.declared.error.PxError.TheVariants.{OutOfMemory}
use Rattle.px_tree.specs.View.{tree}
use Rattle.px_steps.proofs.GroupStep.{aggs_first, key_missing, key_there, keys_first, names_first, none_first}
use Rattle.px_steps.proofs.Nodes.{both_planned}
use Rattle.px_steps.proofs.group_step.plan_step.Goals as goal

pub returns-then-is_empty : goal.returns-then-is_empty
returns-then-is_empty c = key_missing c.args.keys.now (map tree c.args.aggs.now) c.args.schema.now.value (sym c.is_empty.ensures ∙ c.if-is_empty.true)

pub returns-in_err-key_nodes : goal.returns-in_err-key_nodes
returns-in_err-key_nodes c =
    let p = err_from_is_err_and c.from_residual.result c.from_residual.ensures.1 in
    let some = key_there c.args.keys.now (sym c.is_empty.ensures ∙ c.if-is_empty.false) in
    rw (p.1, p.2) (keys_first c.in_err-key_nodes.field-0.0 (map tree c.args.keys.now) (map tree c.args.aggs.now) c.args.schema.now.value some c.in_err-key_nodes.ensures)

pub returns-in_err-agg_nodes : goal.returns-in_err-agg_nodes
returns-in_err-agg_nodes c =
    let p = err_from_is_err_and c.from_residual-in_err-agg_nodes.result c.from_residual-in_err-agg_nodes.ensures.1 in
    let some = key_there c.args.keys.now (sym c.is_empty.ensures ∙ c.if-is_empty.false) in
    rw (p.1, p.2) (aggs_first c.in_err-agg_nodes.field-0.0 (map tree c.args.keys.now) (map tree c.args.aggs.now) c.args.schema.now.value some c.in_ok-key_nodes.ensures.0 c.in_err-agg_nodes.ensures)

pub returns-in_err-distinct_names : goal.returns-in_err-distinct_names
returns-in_err-distinct_names c =
    let p = err_from_is_err_and c.from_residual-in_err-distinct_names.result c.from_residual-in_err-distinct_names.ensures.1 in
    let some = key_there c.args.keys.now (sym c.is_empty.ensures ∙ c.if-is_empty.false) in
    rw (p.1, p.2)
    (names_first c.in_err-distinct_names.field-0.0 (map tree c.args.keys.now) (map tree c.args.aggs.now) c.args.schema.now.value some c.in_ok-key_nodes.ensures.0 c.in_ok-agg_nodes.ensures.0 c.in_err-distinct_names.ensures)

pub returns : goal.returns
returns c =
    let some = key_there c.args.keys.now (sym c.is_empty.ensures ∙ c.if-is_empty.false) in (
      none_first OutOfMemory (map tree c.args.keys.now) (map tree c.args.aggs.now) c.args.schema.now.value some c.in_ok-key_nodes.ensures.0 c.in_ok-agg_nodes.ensures.0 c.in_ok-distinct_names.ensures.0,
      both_planned c.args.schema.now.value (map tree c.args.keys.now) (map tree c.args.aggs.now) (record { keys = c.in_ok-key_nodes.key_nodes; aggs = c.in_ok-agg_nodes.agg_nodes }) c.in_ok-key_nodes.ensures.1 c.in_ok-agg_nodes.ensures.1,
    )
