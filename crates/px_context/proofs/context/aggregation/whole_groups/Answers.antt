use Rattle.std.proofs.Common.{◌≡◌, ◌∙◌, ℕ, [], ◌∷◌, ap, arith, refl, replicate}
use Rattle.px_context.proofs.Whole.{whole_few, whole_made}
use Rattle.px_context.proofs.context.aggregation.whole_groups.Goals as goal

pub new-requires-clause-few : goal.new-requires-clause-few
new-requires-clause-few c = whole_few c.loop.counter c.args.height c.loop.groups.items c.loop.invariant (omega arith)

pub returns : goal.returns
returns c =
    let many : c.loop.counter ≡ c.args.len = omega arith in
    let made = c.loop.invariant ∙ ap (λ (n : ℕ). replicate n (0 ∷ c.args.height ∷ [])) many in
    rw (c.new.ensures ∙ whole_made c.args.len c.args.height c.loop.groups.items made) refl
