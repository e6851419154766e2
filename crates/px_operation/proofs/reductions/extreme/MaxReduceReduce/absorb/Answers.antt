use Rattle.std.proofs.Common.{◌≡◌}
use Rattle.std.specs.Ordering.{ord_max}
use Rattle.px_value.specs.LentView.{slot_of_ref}
use Rattle.px_value.specs.Order.{datum_cmp}
use Rattle.px_value.specs.View.{slot_of}
use Rattle.px_operation.specs.Reduction.{better}
use Rattle.px_operation.proofs.Extremes.{best_one}
use Rattle.px_operation.proofs.reductions.extreme.MaxReduceReduce.absorb.Goals as goal

pub returns-then-not-is_greater-clause-one : goal.returns-then-not-is_greater-clause-one
returns-then-not-is_greater-clause-one c = λ k xs h f _.
    let best = slot_of c.args.self.now.greatest in
    let value = slot_of_ref c.args.value in
    let kept : best ≡ better (ord_max datum_cmp) best value = cc (c.lend.ensures, c.if-not-is_greater.ensures) in
    best_one (ord_max datum_cmp) best best value k xs kept h f

pub returns-clause-one : goal.returns-clause-one
returns-clause-one c = λ k xs h f _.
    let best = slot_of c.args.self.now.greatest in
    let value = slot_of_ref c.args.value in
    let taken : slot_of c.in_ok-self.field-0 ≡ better (ord_max datum_cmp) best value = cc (c.in_ok-self.ensures, c.lend.ensures, c.if-not-is_greater.ensures) in
    best_one (ord_max datum_cmp) (slot_of c.in_ok-self.field-0) best value k xs taken h f
