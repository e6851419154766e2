use Rattle.std.proofs.Common.{refl}
use Rattle.std.specs.Fmt.{digits}
use Rattle.px_vectors.proofs.node_examples.row_examples.Goals as goal

pub returns-clause-texts : goal.returns-clause-texts
unfolding digits
returns-clause-texts c = refl
