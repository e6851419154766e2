use Rattle.std.proofs.Common.{[], ◌∙◌, Some, ap, map, sym}
use Rattle.std.proofs.lemmas.Result.{err_from_is_err_and}
use Rattle.px_frame.specs.Schema.{column_field}
use Rattle.px_tree.specs.Tree.{column}
use Rattle.px_steps.specs.Finds.{typed_group_refusals}
use Rattle.px_steps.proofs.GroupStep.{aggs_first, keys_first}
use Rattle.px_steps.proofs.Named.{IsFirst_append}
use Rattle.px_vectors.specs.PlainStep.{tree_of}
use Rattle.px_vectors.proofs.PlainAnswer.{no_key, some_key, step_answer}
use Rattle.px_vectors.proofs.plain_step.plain_group_step.Goals as goal

pub returns-then-is_empty : goal.returns-then-is_empty
returns-then-is_empty c = no_key c.args.keys.now (map tree_of c.args.aggs.now) c.args.frame.now (sym c.is_empty.ensures ∙ c.if-is_empty.true)

pub returns-in_err-by : goal.returns-in_err-by
returns-in_err-by c =
    let p = err_from_is_err_and c.from_residual.result c.from_residual.ensures.1 in
    let e = c.in_err-by.field-0.0 in
    let over = map column_field c.args.frame.now in
    let keys = map column c.args.keys.now in
    let aggs = map tree_of c.args.aggs.now in
    rw (p.1, p.2)
    (IsFirst_append e (typed_group_refusals over keys aggs) [] (keys_first e keys aggs over (some_key c.args.keys.now (sym c.is_empty.ensures ∙ c.if-is_empty.false)) c.in_err-by.ensures))

pub returns-in_err-group_columns : goal.returns-in_err-group_columns
returns-in_err-group_columns c =
    let p = err_from_is_err_and c.from_residual-in_err-group_columns.result c.from_residual-in_err-group_columns.ensures.1 in
    let e = c.in_err-group_columns.field-0.0 in
    let over = map column_field c.args.frame.now in
    let keys = map column c.args.keys.now in
    let aggs = map tree_of c.args.aggs.now in
    rw (p.1, p.2)
    (IsFirst_append e (typed_group_refusals over keys aggs) [] (aggs_first e keys aggs over (some_key c.args.keys.now (sym c.is_empty.ensures ∙ c.if-is_empty.false)) c.in_ok-by.ensures.0 c.in_err-group_columns.ensures))

pub returns : goal.returns
returns c =
    let keys = c.in_ok-by.ensures in
    let columns = c.in_ok-group_columns.ensures in
    step_answer c.args.frame.now (map column c.args.keys.now) (map tree_of c.args.aggs.now) c.deref.result.now c.in_ok-group_columns.field-0.items c.new.result c.new.ensures.answer
    (some_key c.args.keys.now (sym c.is_empty.ensures ∙ c.if-is_empty.false)) (keys.1 ∙ ap Some (sym c.deref.ensures.value)) keys.0 columns.1 columns.0
