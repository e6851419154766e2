use Rattle.std.proofs.Common.{refl}
use Rattle.std.specs.Int.{int_wrap}
use Rattle.px_vectors.proofs.worked.worked_steps.Goals as goal

pub returns-clause-wraps : goal.returns-clause-wraps
unfolding int_wrap
returns-clause-wraps c = refl
