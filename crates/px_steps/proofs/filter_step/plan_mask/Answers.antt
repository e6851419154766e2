use Rattle.std.proofs.Common.{◌∙◌, sym}
use Rattle.std.proofs.lemmas.Result.{err_from_is_err_and}
use Rattle.px_column.specs.Operator.{is_boolean_kind}
use Rattle.px_column.specs.Prelude.{kind_of}
use Rattle.px_value.specs.declared.error.PxError.TheVariants.{SchemaMismatch}
use Rattle.px_tree.specs.Typing.{refusals_of}
use Rattle.px_tree.specs.View.{tree}
use Rattle.px_tree.specs.declared.context.Context.TheVariants.{Default}
use Rattle.px_steps.proofs.Named.{IsFirst_append}
use Rattle.px_steps.proofs.Nodes.{type_fails, type_passes}
use Rattle.px_steps.proofs.filter_step.plan_mask.Goals as goal

pub returns-in_err-node : goal.returns-in_err-node
returns-in_err-node c =
    let p = err_from_is_err_and c.from_residual.result c.from_residual.ensures.1 in
    rw (p.1, p.2) (IsFirst_append c.in_err-node.field-0.0 (refusals_of (tree c.args.mask.now) c.args.schema.now.value Default) _ c.in_err-node.ensures.node)

pub returns-then-is_boolean : goal.returns-then-is_boolean
returns-then-is_boolean c = (
  type_passes (tree c.args.mask.now) c.args.schema.now.value c.in_ok-node.ensures.node.0 is_boolean_kind SchemaMismatch (kind_of c.in_ok-node.dtype) c.in_ok-node.ensures.dtype
      (sym c.is_boolean.ensures ∙ c.if-is_boolean.true),
  c.in_ok-node.ensures.node.1,
)

pub returns-else-is_boolean : goal.returns-else-is_boolean
returns-else-is_boolean c =
    type_fails (tree c.args.mask.now) c.args.schema.now.value c.in_ok-node.ensures.node.0 is_boolean_kind SchemaMismatch (kind_of c.in_ok-node.dtype) c.in_ok-node.ensures.dtype
    (sym c.is_boolean.ensures ∙ c.if-is_boolean.false)
