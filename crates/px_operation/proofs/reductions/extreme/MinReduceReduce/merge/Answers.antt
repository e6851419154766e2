use Rattle.std.proofs.Common.{◌≡◌}
use Rattle.std.specs.Ordering.{ord_min}
use Rattle.px_value.specs.Order.{datum_cmp}
use Rattle.px_value.specs.View.{slot_of}
use Rattle.px_operation.specs.Reduction.{better}
use Rattle.px_operation.proofs.Extremes.{least_both}
use Rattle.px_operation.proofs.reductions.extreme.MinReduceReduce.merge.Goals as goal

pub returns-then-not-is_lesser-clause-both : goal.returns-then-not-is_lesser-clause-both
returns-then-not-is_lesser-clause-both c = λ k xs ys h j _.
    let best = slot_of c.args.self.now.least in
    let later = slot_of c.args.later.least in
    let kept : best ≡ better (ord_min datum_cmp) best later = cc (c.lend.ensures, c.lend-2.ensures, c.if-not-is_lesser.ensures) in
    least_both best best later k xs ys kept h j

pub returns-clause-both : goal.returns-clause-both
returns-clause-both c = λ k xs ys h j _.
    let best = slot_of c.args.self.now.least in
    let later = slot_of c.args.later.least in
    let taken : later ≡ better (ord_min datum_cmp) best later = cc (c.lend.ensures, c.lend-2.ensures, c.if-not-is_lesser.ensures) in
    least_both later best later k xs ys taken h j
