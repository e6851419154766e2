use Rattle.std.proofs.Common.{◌≡◌, ◌++◌, drop, map}
use Rattle.px_column.specs.Key.{key_at}
use Rattle.px_text.specs.Text.{slot_text}
use Rattle.std.specs.List.{join_with_byte}
use Rattle.px_text.proofs.Separated.{separated}
use Rattle.px_text.proofs.frame.push_row.Given as goal

abbrev pub invariant-loop-i : goal.invariant-loop-i
invariant-loop-i l =
    l.initial.out.items ++ join_with_byte 44 (map slot_text (key_at l.columns l.row)) ≡ l.out.items ++ separated l.i (map slot_text (key_at (drop l.i l.columns) l.row))
