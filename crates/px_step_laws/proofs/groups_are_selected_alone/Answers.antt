use Rattle.px_tree.specs.View.{tree}
use Rattle.px_step_laws.proofs.OnGroups.{alike_on_groups}
use Rattle.px_step_laws.proofs.groups_are_selected_alone.Goals as goal

pub returns : goal.returns
returns c = alike_on_groups (tree c.args.expr.now)
