use Rattle.px_tree.specs.View.{tree}
use Rattle.px_typing.proofs.Placing.{refused_more, type_kept}
use Rattle.px_typing.proofs.typing.type_on_groups.Goals as goal

pub returns-clause-refuses_more : goal.returns-clause-refuses_more
returns-clause-refuses_more c = refused_more (tree c.args.expr.now)

pub returns-clause-keeps_type : goal.returns-clause-keeps_type
returns-clause-keeps_type c = type_kept (tree c.args.expr.now)
