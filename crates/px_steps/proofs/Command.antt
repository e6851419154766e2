-- The words of a command.
use Rattle.std.proofs.Common.{◌≡◌, ◌<◌, ◌≤◌, Bool, List, [], ◌∷◌, map, length, codes, slice_index_or, string_bytes, arith}
use Rattle.std.specs.Bool.{Decides}
use Rattle.std.specs.Prelude.{String}
use Rattle.std.specs.declared.alloc.Global.{Global}
use Rattle.px_steps.specs.Run.{IsCommand}

-- a test of the first word decides, where there is one word
pub only-word : (words : List (String Global)) (word : String Global) (r : Bool) →
    1 ≤ length words → length words < 2 → word ≡ slice_index_or words 0 word →
    Decides r (string_bytes word ≡ codes "run") → Decides r (IsCommand (map string_bytes words))
only-word [] word r some one first test = absurd (omega arith)
only-word (w ∷ []) word r some one first test = (λ t. cc (first, test.0 t), λ e. test.1 (cc (first, e)))
only-word (w ∷ v ∷ words) word r some one first test = absurd (omega arith)
