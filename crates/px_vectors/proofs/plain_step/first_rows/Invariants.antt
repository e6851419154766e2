use Rattle.std.proofs.Common.{◌≡◌, ◌++◌, drop, map}
use Rattle.px_frame.specs.Groups.{first_row}
use Rattle.px_vectors.proofs.plain_step.first_rows.Given as goal

abbrev pub invariant-loop-part : goal.invariant-loop-part
invariant-loop-part l = map first_row (map (λ p. p.items) l.parts) ≡ l.rows.items ++ map first_row (map (λ p. p.items) (drop l.part-index l.parts))
