use Rattle.std.proofs.Common.{◌≡◌}
use Rattle.px_column.specs.Equality.{row_eq}
use Rattle.px_column.specs.Key.{key_at, keys_of}
use Rattle.px_frame.specs.Parts.{numbers}
use Rattle.px_vectors.proofs.plain.rows_like.Given as goal

-- those of the rows so far that have the key
abbrev pub invariant-loop-row : goal.invariant-loop-row
invariant-loop-row l = l.rows.items ≡ numbers (row_eq (key_at l.by l.first)) 0 (keys_of l.by l.row)
