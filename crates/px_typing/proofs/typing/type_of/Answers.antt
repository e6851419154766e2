use Rattle.std.proofs.Common.{rules}
use Rattle.px_tree.specs.View.{tree}
use Rattle.px_typing.proofs.Found.{type_of_found}
use Rattle.px_typing.proofs.typing.type_of.Goals as goal

pub returns-in_err-typed : goal.returns-in_err-typed
returns-in_err-typed c = rw (type_of_found (tree c.args.expr.now) c.args.scope.now c.args.context) (search rules)

pub returns : goal.returns
returns c = rw (type_of_found (tree c.args.expr.now) c.args.scope.now c.args.context) (search rules)
