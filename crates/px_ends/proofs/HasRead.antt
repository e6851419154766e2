-- What was read so far of the bytes that a source had left.
use Rattle.std.proofs.Common.{◌≡◌, ℕ, ◌+◌, ◌≤◌, ◌^◌, List, ◌++◌, length, refl, arith, length-append}
use Rattle.std.specs.Prelude.{Option, Some, None, option_map}
use Rattle.std.proofs.Math.Seq.{drop-append_seam, drop-append-add}
use Rattle.px_ends.specs.Ends.{Gives, GivesFront, IsTooLong}

-- what was left is these bytes, and then what is left now
pub record HasRead (bytes : List ℕ) (old new : Option (List ℕ)) : Type 0 where
  pub is : old ≡ option_map (λ rest. bytes ++ rest) new

-- reading stops where 2^26 bytes were read
pub HasRead-limit : (bytes : List ℕ) (old new : Option (List ℕ)) →
    HasRead bytes old new → length bytes ≡ 2 ^ 26 → IsTooLong old new
HasRead-limit bytes old None h e = rw h.is refl
HasRead-limit bytes old (Some b) h e =
    rw h.is (omega (arith, length-append bytes b), rw (← e, drop-append_seam) refl)

-- what was read so far was given, and then the next n bytes
pub HasRead-gives : (n : ℕ) (bytes buf : List ℕ) (old mid new : Option (List ℕ)) →
    HasRead bytes old mid → Gives n buf mid new → length bytes + n ≤ 2 ^ 26 → GivesFront old new
HasRead-gives n bytes buf old None new h g short = rw (h.is, g) refl
HasRead-gives n bytes buf old (Some b) new h g short =
    rw (h.is, g.0) (length bytes + n, short, rw drop-append-add refl)
