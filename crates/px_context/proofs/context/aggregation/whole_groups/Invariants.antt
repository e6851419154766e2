use Rattle.std.proofs.Common.{◌≡◌, [], ◌∷◌, replicate}
use Rattle.px_context.proofs.context.aggregation.whole_groups.Given as goal

abbrev pub invariant-loop : goal.invariant-loop
invariant-loop l = l.groups.items ≡ replicate l.counter (0 ∷ l.height ∷ [])
