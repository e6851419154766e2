-- Arrays as loops write them: each piece after its comma.
use Rattle.std.proofs.Common.{◌≡◌, ℕ, zero, suc, ◌+◌, ◌<◌, ◌≤◌, List, [], ◌∷◌, ◌++◌, length, drop, None, Some, refl, ap, arith}
use Rattle.std.proofs.lemmas.Grind.{common_steps}
use Rattle.std.specs.List.{join_with_byte}
use Rattle.px_column.specs.Prelude.{Slot, slots, slot_at}
use Rattle.px_column.specs.Datum.{slot_weight, list_weight}
use Rattle.px_text.specs.Text.{comma_before, item_texts, slot_text}

-- the pieces from the index on, each after a comma unless it is the first
abbrev pub separated : ℕ → List (List ℕ) → List ℕ
separated i [] = []
separated i (x ∷ xs) = comma_before i ++ (x ++ separated (i + 1) xs)

after_comma : (i : ℕ) (x : List ℕ) (xs : List (List ℕ)) → separated (suc i) (x ∷ xs) ≡ 44 ∷ join_with_byte 44 (x ∷ xs)
after_comma i x [] = grind (arith, common_steps)
after_comma i x (y ∷ ys) = let e : suc i + 1 ≡ suc (suc i) = omega arith in rw e (ap (λ zs. 44 ∷ (x ++ zs)) (after_comma (suc i) y ys))

pub separated_joins : (xs : List (List ℕ)) → separated 0 xs ≡ join_with_byte 44 xs
separated_joins [] = refl
separated_joins (x ∷ []) = grind (arith, common_steps)
separated_joins (x ∷ y ∷ xs) = ap (λ zs. x ++ zs) (after_comma 0 y xs)

-- one item and those that follow
item_texts_at : (xs : List Slot) (i : ℕ) → i < length xs → item_texts (slots (drop i xs)) ≡ slot_text (slot_at xs i) ∷ item_texts (slots (drop (i + 1) xs))
item_texts_at [] i h = absurd (omega arith)
item_texts_at (None ∷ xs) zero h = refl
item_texts_at (Some d ∷ xs) zero h = refl
item_texts_at (x ∷ xs) (suc i) h = let e : suc i + 1 ≡ suc (i + 1) = omega arith in rw e (item_texts_at xs i (omega arith))

-- what is left to write of a list: an item after its comma, and those that follow
pub separated_items_at : (xs : List Slot) (i : ℕ) → i < length xs → separated i (item_texts (slots (drop i xs))) ≡ comma_before i ++ (slot_text (slot_at xs i) ++ separated (i + 1) (item_texts (slots (drop (i + 1) xs))))
separated_items_at xs i h = ap (separated i) (item_texts_at xs i h)

-- an item weighs no more than the list
pub slot_weight_at : (xs : List Slot) (i : ℕ) → slot_weight (slot_at xs i) ≤ list_weight xs
slot_weight_at [] i = omega arith
slot_weight_at (None ∷ xs) zero = omega arith
slot_weight_at (Some d ∷ xs) zero = omega arith
slot_weight_at (None ∷ xs) (suc i) = slot_weight_at xs i
slot_weight_at (Some d ∷ xs) (suc i) = omega (arith, slot_weight_at xs i)
