use Rattle.std.proofs.Common.{◌≡◌}
use Rattle.std.specs.Prelude.{codes}
use Rattle.px_generated.specs.Generated.{column_of}
use Rattle.px_generated.proofs.columns.values.Given as goal

abbrev pub invariant-loop-row : goal.invariant-loop-row
invariant-loop-row l = l.builder ≡ column_of (codes "x") (λ i. i) l.row
