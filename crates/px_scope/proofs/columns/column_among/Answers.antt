use Rattle.std.proofs.Common.{◌≡◌, ◌+◌, None, rules, sym, ◌∙◌, ap}
use Rattle.std.specs.Option.{option_or}
use Rattle.px_frame.specs.Frame.{look}
use Rattle.px_scope.proofs.Externals.{columns_from, looked_here}
use Rattle.px_scope.proofs.columns.column_among.Goals as goal

pub returns-in-Some : goal.returns-in-Some
returns-in-Some c =
    let here = looked_here c.args.frames.now c.loop-frame.frame-index c.frame-item.result c.loop-frame-test.true c.frame-item.is c.args.name.now in
    sym (c.loop-frame.invariant ∙ here ∙ ap (λ o. option_or o (look c.args.name.now (columns_from c.args.frames.now (c.loop-frame.frame-index + 1)))) (sym c.in-Some.ensures.found))

pub loop-frame-preserved : goal.loop-frame-preserved
loop-frame-preserved c =
    let here = looked_here c.args.frames.now c.loop-frame.frame-index c.frame-item.result c.loop-frame-test.true c.frame-item.is c.args.name.now in
    let none : look c.args.name.now c.frame-item.result ≡ None = search rules in
    c.loop-frame.invariant ∙ here ∙ ap (λ o. option_or o (look c.args.name.now (columns_from c.args.frames.now (c.loop-frame.frame-index + 1)))) none
