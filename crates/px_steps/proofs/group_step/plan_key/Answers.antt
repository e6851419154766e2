use Rattle.std.proofs.Common.{◌∙◌, ap, not, sym}
use Rattle.std.proofs.lemmas.Result.{err_from_is_err_and}
use Rattle.px_column.specs.Prelude.{kind_of}
use Rattle.px_value.specs.declared.error.PxError.TheVariants.{InvalidOperation}
use Rattle.px_value.specs.declared.error.InvalidWhy.TheVariants.{ListKey}
use Rattle.px_tree.specs.Typing.{not_list, refusals_of}
use Rattle.px_tree.specs.View.{tree}
use Rattle.px_tree.specs.declared.context.Context.TheVariants.{Default}
use Rattle.px_steps.proofs.Named.{IsFirst_append}
use Rattle.px_steps.proofs.Nodes.{type_fails, type_passes}
use Rattle.px_steps.proofs.group_step.plan_key.Goals as goal

pub returns-in_err-node : goal.returns-in_err-node
returns-in_err-node c =
    let p = err_from_is_err_and c.from_residual.result c.from_residual.ensures.1 in
    rw (p.1, p.2) (IsFirst_append c.in_err-node.field-0.0 (refusals_of (tree c.args.key.now) c.args.schema.now.value Default) _ c.in_err-node.ensures.node)

pub returns-then-is_list : goal.returns-then-is_list
returns-then-is_list c =
    type_fails (tree c.args.key.now) c.args.schema.now.value c.in_ok-node.ensures.node.0 not_list (InvalidOperation ListKey) (kind_of c.in_ok-node.dtype) c.in_ok-node.ensures.dtype
    (ap not (sym c.is_list.ensures ∙ c.if-is_list.true))

pub returns-else-is_list : goal.returns-else-is_list
returns-else-is_list c = (
  type_passes (tree c.args.key.now) c.args.schema.now.value c.in_ok-node.ensures.node.0 not_list (InvalidOperation ListKey) (kind_of c.in_ok-node.dtype) c.in_ok-node.ensures.dtype
      (ap not (sym c.is_list.ensures ∙ c.if-is_list.false)),
  c.in_ok-node.ensures.node.1,
)
