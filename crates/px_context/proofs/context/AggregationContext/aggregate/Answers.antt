use Rattle.px_context.proofs.Laying.{laid_cells, laid_values}
use Rattle.px_context.proofs.context.AggregationContext.aggregate.Goals as goal

pub returns-clause-cells : goal.returns-clause-cells
returns-clause-cells c = laid_cells c.args.self.now c.lay_out.new.self c.lay_out.result c.lay_out.ensures.context c.lay_out.ensures.answer c.lay_out.ensures.refused

pub returns-clause-values : goal.returns-clause-values
returns-clause-values c = laid_values c.args.self.now c.lay_out.new.self c.lay_out.result c.lay_out.ensures.context c.lay_out.ensures.answer
