use Rattle.px_context.proofs.Apart.{final_cells, final_kind}
use Rattle.px_context.proofs.context.AggregationContext.get_final_aggregation.Goals as goal

pub returns-clause-rows : goal.returns-clause-rows
returns-clause-rows c = final_cells c.args.self c.take_apart.result c.take_apart.ensures.context c.take_apart.ensures.answer

pub returns-clause-kind : goal.returns-clause-kind
returns-clause-kind c = final_kind c.args.self c.take_apart.result c.take_apart.ensures.answer
