use Rattle.std.proofs.Common.{sym}
use Rattle.px_window.specs.State.{beside}
use Rattle.px_tree.specs.View.{literal_of}
use Rattle.px_answers.proofs.Literals.{literal_cause}
use Rattle.px_physical.proofs.literal.LiteralExprPhysicalExpr.evaluate.Goals as goal

pub returns-clause-causes : goal.returns-clause-causes
returns-clause-causes g c = literal_cause c.args.self.now (literal_of c.self.inside.value) (beside c.args.df.now c.args.state.now) c.literal_column.result (sym c.self.view_is) c.literal_column.ensures
