use Rattle.std.proofs.Common.{◌≡◌, [], ◌∷◌, replicate}
use Rattle.px_group_nodes.proofs.kept.empty_groups.Given as goal

abbrev pub invariant-loop : goal.invariant-loop
invariant-loop l = l.slices.items ≡ replicate l.counter (0 ∷ 0 ∷ [])
