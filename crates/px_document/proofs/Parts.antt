-- The parts that an array has, and what a reader of several parts answers where it passes a refusal on.
use Rattle.std.proofs.Common.{◌≡◌, ◌<◌, ◌≤◌, List, [], ◌∷◌, map, length, get_or, Option, None, Some, Result, Ok, Err, sym, arith}
use Rattle.std.specs.Result.{IsErrAnd}
use Rattle.px_document.specs.Form.{Misses, ReadsBy}
use Rattle.px_document.specs.declared.document.fault.DocumentFault.{DocumentFault}
use Rattle.px_document.specs.declared.document.fault.DocumentFault.TheVariants.{BadDocument, OutOfMemory}

-- the two parts
pub two_parts : {V A : Type 0} (seen : V → A) (vs : List V) (o : Option (List A)) (a b : V) → Some (map seen vs) ≡ o → 2 ≤ length vs → length vs < 3 → a ≡ get_or vs 0 a → b ≡ get_or vs 1 b → o ≡ Some (seen a ∷ seen b ∷ [])
two_parts seen [] o a b e l m h i = absurd (omega (arith, l))
two_parts seen (x ∷ []) o a b e l m h i = absurd (omega (arith, l))
two_parts seen (x ∷ y ∷ []) o a b e l m h i = rw (h, i) (sym e)
two_parts seen (x ∷ y ∷ z ∷ vs) o a b e l m h i = absurd (omega (arith, m))

-- the three parts
pub three_parts : {V A : Type 0} (seen : V → A) (vs : List V) (o : Option (List A)) (a b c : V) → Some (map seen vs) ≡ o → 3 ≤ length vs → length vs < 4 → a ≡ get_or vs 0 a → b ≡ get_or vs 1 b → c ≡ get_or vs 2 c → o ≡ Some (seen a ∷ seen b ∷ seen c ∷ [])
three_parts seen [] o a b c e l m h i j = absurd (omega (arith, l))
three_parts seen (x ∷ []) o a b c e l m h i j = absurd (omega (arith, l))
three_parts seen (x ∷ y ∷ []) o a b c e l m h i j = absurd (omega (arith, l))
three_parts seen (x ∷ y ∷ z ∷ []) o a b c e l m h i j = rw (h, i, j) (sym e)
three_parts seen (x ∷ y ∷ z ∷ w ∷ vs) o a b c e l m h i j = absurd (omega (arith, m))

-- a part's refusal, which is passed on, is a refusal of what needs the part
pub passed : {A X Y : Type 0} (r : Result X DocumentFault) (seen : X → Y) (e : DocumentFault) (part : Option A) (o : Option Y) → IsErrAnd r (λ f. f ≡ e) → Misses e part → (part ≡ None → o ≡ None) → ReadsBy seen r o
passed (Ok x) seen e part o h m n = absurd h
passed (Err f) seen BadDocument part o h m n = rw h (n m)
passed (Err f) seen OutOfMemory part o h m n = rw h tt

-- memory was wanting
pub wanting : {X Y : Type 0} (r : Result X DocumentFault) (seen : X → Y) (o : Option Y) → IsErrAnd r (λ f. f ≡ OutOfMemory) → ReadsBy seen r o
wanting (Ok x) seen o h = absurd h
wanting (Err f) seen o h = rw h tt
