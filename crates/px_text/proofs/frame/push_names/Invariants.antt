use Rattle.std.proofs.Common.{◌≡◌, ◌++◌, drop, map}
use Rattle.px_text.specs.Text.{quoted}
use Rattle.std.specs.List.{join_with_byte}
use Rattle.px_text.proofs.Separated.{separated}
use Rattle.px_text.proofs.frame.push_names.Given as goal

abbrev pub invariant-loop-i : goal.invariant-loop-i
invariant-loop-i l =
    l.initial.out.items ++ join_with_byte 44 (map (λ s. quoted s.name) l.columns) ≡ l.out.items ++ separated l.i (map (λ s. quoted s.name) (drop l.i l.columns))
