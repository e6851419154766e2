use Rattle.std.proofs.Common.{◌≡◌}
use Rattle.std.specs.Ordering.{ord_max}
use Rattle.px_value.specs.Order.{datum_cmp}
use Rattle.px_value.specs.View.{slot_of}
use Rattle.px_operation.specs.Reduction.{better}
use Rattle.px_operation.proofs.Extremes.{greatest_both}
use Rattle.px_operation.proofs.reductions.extreme.MaxReduceReduce.merge.Goals as goal

pub returns-then-not-is_greater-clause-both : goal.returns-then-not-is_greater-clause-both
returns-then-not-is_greater-clause-both c = λ k xs ys h j _.
    let best = slot_of c.args.self.now.greatest in
    let later = slot_of c.args.later.greatest in
    let kept : best ≡ better (ord_max datum_cmp) best later = cc (c.lend.ensures, c.lend-2.ensures, c.if-not-is_greater.ensures) in
    greatest_both best best later k xs ys kept h j

pub returns-clause-both : goal.returns-clause-both
returns-clause-both c = λ k xs ys h j _.
    let best = slot_of c.args.self.now.greatest in
    let later = slot_of c.args.later.greatest in
    let taken : later ≡ better (ord_max datum_cmp) best later = cc (c.lend.ensures, c.lend-2.ensures, c.if-not-is_greater.ensures) in
    greatest_both later best later k xs ys taken h j
