use Rattle.px_context.proofs.Aggregating.{AreLists-listed}
use Rattle.px_context_trials.proofs.worked.lists.Goals as goal

pub from_agg_state-context-requires : goal.from_agg_state-context-requires
from_agg_state-context-requires c = AreLists-listed c.args.values.now c.in_ok-lists.lists c.args.groups.now c.in_ok-lists.ensures
