use Rattle.std.proofs.Common.{◌≡◌, ◌++◌, drop, map}
use Rattle.px_text.specs.Text.{in_quotes, kind_name}
use Rattle.std.specs.List.{join_with_byte}
use Rattle.px_text.proofs.Separated.{separated}
use Rattle.px_text.proofs.frame.push_types.Given as goal

abbrev pub invariant-loop-i : goal.invariant-loop-i
invariant-loop-i l =
    l.initial.out.items ++ join_with_byte 44 (map (λ s. in_quotes (kind_name s.kind)) l.columns) ≡ l.out.items ++ separated l.i (map (λ s. in_quotes (kind_name s.kind)) (drop l.i l.columns))
