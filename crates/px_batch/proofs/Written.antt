-- Two texts, one appended after the other.
use Rattle.std.proofs.Common.{◌≡◌, ◌∙◌, ap, ℕ, List, [], ◌∷◌, ◌++◌, Option, Some, None, Result, Ok, refl, subst}
use Rattle.std.specs.Fmt.{decimal}
use Rattle.std.specs.Io.KnownBytes.{Appends}
use Rattle.px_value.specs.declared.error.PxError.{PxError}
use Rattle.px_batch.specs.Told.{IsTold}
use Rattle.px_ends.specs.Memory.{Store}
use Rattle.px_steps.specs.Run.{Ends, number_of}
use Rattle.px_steps.specs.declared.status.Status.{Status}

abbrev Made : Result Store PxError → Result Store PxError → Type 0
Made a b = a ≡ b

made : (expected found : Store) → Made (Ok expected) (Ok found) → found ≡ expected
made expected found h = cc

joined : (xs ys zs : List ℕ) → (xs ++ ys) ++ zs ≡ xs ++ (ys ++ zs)
joined [] ys zs = refl
joined (x ∷ xs) ys zs = ap (λ ws. x ∷ ws) (joined xs ys zs)

-- a sink that was made empty is empty
pub empty : (expected found : Store) → Made (Ok expected) (Ok found) → expected.bytes ≡ [] → found.bytes ≡ []
empty expected found h e = ap (λ (s : Store). s.bytes) (made expected found h) ∙ e

-- both are appended as one
both : (a b c : Option (List ℕ)) (xs ys : List ℕ) → Appends a b xs → Appends b c ys → Appends a c (xs ++ ys)
both None b c xs ys h k = tt
both (Some a) None c xs ys h k = absurd h
both (Some a) (Some b) None xs ys h k = absurd k
both (Some a) (Some b) (Some c) xs ys h k = k ∙ ap (λ v. v ++ ys) h ∙ joined a xs ys

-- the number of a status and the text of the run are what is told of it
pub told : (bytes rest left before text : List ℕ) (status : Status) (a b c : Option (List ℕ)) → rest ≡ bytes → before ≡ [] → Ends status rest (Some left) (Some before) (Some text)
    → Appends a b (decimal (number_of status) ++ 10 ∷ []) → Appends b c text → (all : List ℕ) × IsTold bytes all × Appends a c all
told bytes rest left before text status a b c r e ends h k =
    let line = decimal (number_of status) ++ 10 ∷ [] in
    let whole = subst (λ old. Ends status bytes (Some left) (Some old) (Some text)) e (subst (λ bs. Ends status bs (Some left) (Some before) (Some text)) r ends) in
    (line ++ text, record { status = status; left = left; text = text; ends = whole; all = refl }, both a b c line text h k)
