use Rattle.std.proofs.Common.{◌≡◌, map}
use Rattle.px_column.specs.Equality.{row_eq}
use Rattle.px_column.specs.Key.{key_at, keys_of}
use Rattle.px_frame.specs.Parts.{distinct}
use Rattle.px_vectors.proofs.plain.first_rows.Given as goal

-- the keys of the rows so far, each once
abbrev pub invariant-loop-row : goal.invariant-loop-row
invariant-loop-row l = map (key_at l.by) l.firsts.items ≡ distinct row_eq (keys_of l.by l.row)
