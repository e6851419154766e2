use Rattle.px_cuts.proofs.Whole.{keys_of_either, values_of_either}
use Rattle.px_cuts.proofs.chunks.every_cut_makes_the_same.Goals as goal

pub returns-clause-keys : goal.returns-clause-keys
returns-clause-keys c = keys_of_either

pub returns-clause-values : goal.returns-clause-values
returns-clause-values c = values_of_either
