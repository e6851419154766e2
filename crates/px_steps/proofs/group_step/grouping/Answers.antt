use Rattle.std.proofs.Common.{Result, subst}
use Rattle.px_column.specs.Prelude.{Answers}
use Rattle.px_value.specs.declared.error.PxError.{PxError}
use Rattle.px_frame.specs.Groups.{Groups}
use Rattle.px_steps.proofs.Columns.{grouped_by_keys}
use Rattle.px_steps.proofs.group_step.grouping.Goals as goal

pub returns-clause-groups : goal.returns-clause-groups
returns-clause-groups g c =
    subst (λ (e : Result Groups PxError). Answers c.group_by.result e) (grouped_by_keys _ c.args.frame.now c.args.by.now c.height.ensures c.requires.some c.requires.keys) c.group_by.ensures.answer
