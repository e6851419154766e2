use Rattle.std.proofs.Common.{◌≡◌, ◌∙◌, None, sym}
use Rattle.px_document.specs.ExprForm.{arithmetic, comparisons, meant_by}
use Rattle.px_document.proofs.Operators.{is_arithmetic, is_comparison, is_logical}
use Rattle.px_document.proofs.document.names.operator_named.Goals as goal

pub returns-in-Some : goal.returns-in-Some
returns-in-Some c = is_comparison c.args.text.now c.in-Some.operator c.in-Some.ensures

pub returns-in-Some-arithmetic_named : goal.returns-in-Some-arithmetic_named
returns-in-Some-arithmetic_named c =
    let none : None ≡ meant_by comparisons c.args.text.now = sym c.in_default.is ∙ c.comparison_named.ensures in
    is_arithmetic c.args.text.now c.in-Some-arithmetic_named.operator none c.in-Some-arithmetic_named.ensures

pub returns : goal.returns
returns c =
    let none : None ≡ meant_by comparisons c.args.text.now = sym c.in_default.is ∙ c.comparison_named.ensures in
    let neither : None ≡ meant_by arithmetic c.args.text.now = sym c.in_default-arithmetic_named.is ∙ c.arithmetic_named.ensures in
    is_logical c.args.text.now c.logical_named.result none neither c.logical_named.ensures
