use Rattle.px_value.specs.View.{slot_of}
use Rattle.px_operation.proofs.LastRow.{last_both}
use Rattle.px_operation.proofs.reductions.ends.LastReduceReduce.merge.Goals as goal

pub returns-clause-both : goal.returns-clause-both
returns-clause-both c = λ k xs ys h j _. rw (c.or.ensures, c.take-earlier.ensures.value) (last_both slot_of c.args.self.now.last c.args.later.last xs ys h j)
