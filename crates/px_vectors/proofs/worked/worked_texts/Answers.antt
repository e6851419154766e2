use Rattle.std.proofs.Common.{refl}
use Rattle.std.specs.Fmt.{digits}
use Rattle.px_vectors.proofs.worked.worked_texts.Goals as goal

pub returns-clause-four_lines : goal.returns-clause-four_lines
unfolding digits
returns-clause-four_lines c = refl

pub returns-clause-len : goal.returns-clause-len
unfolding digits
returns-clause-len c = refl

pub returns-clause-least : goal.returns-clause-least
unfolding digits
returns-clause-least c = refl

pub returns-clause-list : goal.returns-clause-list
unfolding digits
returns-clause-list c = refl
