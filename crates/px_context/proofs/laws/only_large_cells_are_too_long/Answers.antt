use Rattle.px_context.proofs.Sameness.{aggregated_long, always_aggregated, always_final, always_flat, final_long, flat_long}
use Rattle.px_context.proofs.laws.only_large_cells_are_too_long.Goals as goal

pub returns-clause-aggregated : goal.returns-clause-aggregated
returns-clause-aggregated c = aggregated_long

pub returns-clause-flat : goal.returns-clause-flat
returns-clause-flat c = flat_long

pub returns-clause-apart : goal.returns-clause-apart
returns-clause-apart c = final_long

pub returns-clause-flat_lists : goal.returns-clause-flat_lists
returns-clause-flat_lists c = always_aggregated

pub returns-clause-joined : goal.returns-clause-joined
returns-clause-joined c = always_flat

pub returns-clause-lists_apart : goal.returns-clause-lists_apart
returns-clause-lists_apart c = always_final
