use Rattle.px_expr.specs.NodeView.{plan_of}
use Rattle.px_window.specs.State.{beside}
use Rattle.px_steps.proofs.Aggregated.{column_finds}
use Rattle.px_steps.proofs.aggregation.aggregate.Goals as goal

pub returns-clause-answer : goal.returns-clause-answer
returns-clause-answer g c =
    let laid = c.finalize.ensures in
    column_finds (plan_of c.args.node.now) (beside c.args.frame.now c.args.state.now) c.args.groups.now c.in_ok-context.context c.finalize.new.self c.finalize.result c.requires.accepted c.in_ok-context.ensures.context laid.answer laid.rows laid.kind laid.context laid.types
