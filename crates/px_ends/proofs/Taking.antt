-- What was taken so far of a text.
use Rattle.std.proofs.Common.{◌≡◌, ℕ, ◌+◌, ◌-◌, ◌≤◌, List, ◌++◌, length, take, drop, refl, append_assoc, arith}
use Rattle.std.specs.Prelude.{Option, Some, None}
use Rattle.std.proofs.lemmas.List.{drop-take, take-take, take-append-drop, take_rest}
use Rattle.px_ends.specs.Ends.{Takes}

-- the first m, and then n more
take-more : (m n : ℕ) (xs : List ℕ) → take m xs ++ take n (drop m xs) ≡ take (m + n) xs
take-more m n xs =
    let le : m ≤ m + n = omega arith in
    rw (← drop-take m n xs, ← take-take m (m + n) xs le, take-append-drop) refl

-- m bytes of a text were taken, and then n of what follows them
pub Takes-more : (m n : ℕ) (text : List ℕ) (old mid new : Option (List ℕ)) →
    Takes m text old mid → Takes n (take (length text - m) (drop m text)) mid new → Takes (m + n) text old new
Takes-more m n text None mid new h g = rw (g, h) refl
Takes-more m n text (Some b) mid new h g = rw (g, h, take_rest text m, append_assoc, take-more) refl
