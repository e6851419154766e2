use Rattle.std.proofs.Common.{◌≡◌, ◌+ℤ◌, arith, to_z, of_z}
use Rattle.std.specs.Int.{w128}
use Rattle.std.proofs.lemmas.Int.{ints}
use Rattle.px_value.specs.KindView.{kind_of}
use Rattle.px_operation.proofs.Sums.{total_both}
use Rattle.px_operation.proofs.reductions.sum.SumReduceReduce.merge.Goals as goal

pub returns-clause-both : goal.returns-clause-both
returns-clause-both c = λ k xs ys h j short.
    let sum : to_z w128 (of_z w128 (to_z w128 (of_z w128 c.args.self.now.total) +ℤ to_z w128 (of_z w128 c.args.later.total))) ≡ c.args.self.now.total +ℤ c.args.later.total =
    omega (arith, ints, h.within.low, h.within.high, j.within.low, j.within.high, short) in
    total_both (kind_of c.args.self.now.dtype) (kind_of c.args.later.dtype) _ c.args.self.now.total c.args.later.total k xs ys sum h j
