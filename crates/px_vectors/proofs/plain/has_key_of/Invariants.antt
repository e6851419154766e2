use Rattle.std.proofs.Common.{◌≡◌, drop, map}
use Rattle.std.specs.List.{list_any}
use Rattle.px_column.specs.Equality.{row_eq}
use Rattle.px_column.specs.Key.{key_at}
use Rattle.px_vectors.proofs.plain.has_key_of.Given as goal

-- none of the rows so far has the key
abbrev pub invariant-loop-first : goal.invariant-loop-first
invariant-loop-first l = list_any (row_eq (key_at l.by l.row)) (map (key_at l.by) l.firsts) ≡ list_any (row_eq (key_at l.by l.row)) (map (key_at l.by) (drop l.first-index l.firsts))
