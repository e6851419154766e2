use Rattle.std.proofs.Common.{◌≡◌, ◌++◌, drop, map}
use Rattle.px_column.specs.Equality.{row_eq}
use Rattle.px_column.specs.Key.{key_at, keys_of}
use Rattle.px_frame.specs.Parts.{rows_of_keys}
use Rattle.px_vectors.proofs.plain.plain_parts.Given as goal

-- the parts so far, and those that are left, are all
abbrev pub invariant-loop-first : goal.invariant-loop-first
invariant-loop-first l =
    rows_of_keys row_eq (map (key_at l.by) l.first-items) (keys_of l.by l.height)
    ≡ map (λ p. p.items) l.parts.items ++ rows_of_keys row_eq (map (key_at l.by) (drop l.first-index l.first-items)) (keys_of l.by l.height)
