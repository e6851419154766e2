use Rattle.std.proofs.Common.{◌∙◌, ap, Some, ℤ}
use Rattle.px_value.specs.Datum.{integer}
use Rattle.px_value.specs.KindView.{kind_of}
use Rattle.px_operation.proofs.OperatorLaws.{integer_kind}
use Rattle.px_operation.proofs.Numbers.{product_is}
use Rattle.px_operation.proofs.operators.number.calculate.Goals as goal

pub returns-in-Multiply : goal.returns-in-Multiply
returns-in-Multiply c =
    let kind = integer_kind (kind_of c.args.dtype.now) c.args.x c.requires.left in
    rw c.in-Multiply.is (c.number_in-in-Multiply.ensures ∙ ap (λ (z : ℤ). Some (integer z)) (product_is (kind_of c.args.dtype.now) c.args.x c.args.y kind c.ranges.x c.ranges.y))
