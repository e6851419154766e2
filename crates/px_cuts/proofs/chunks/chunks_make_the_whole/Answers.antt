use Rattle.px_cuts.proofs.Whole.{keys_of_chunks_are_whole, values_of_chunks_are_whole}
use Rattle.px_cuts.proofs.chunks.chunks_make_the_whole.Goals as goal

pub returns-clause-keys : goal.returns-clause-keys
returns-clause-keys c = keys_of_chunks_are_whole

pub returns-clause-values : goal.returns-clause-values
returns-clause-values c = values_of_chunks_are_whole
