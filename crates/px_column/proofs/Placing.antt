-- Rows in other places, one by one.
use Rattle.std.proofs.Common.{◌≡◌, ℕ, zero, suc, ◌+◌, ◌-◌, ◌<◌, ◌≤◌, ℤ, pos, ◌-ℤ◌, List, [], ◌∷◌, ◌++◌, length, take, drop, reverse, map, get_or, None, refl, ◌∙◌, sym, ap, arith, length-drop}
use Rattle.std.specs.List.{range_with_len}
use Rattle.std.proofs.lemmas.List.{length-take-le, length-reverse, get_or-take, get_or-reverse, take_all}
use Rattle.std.proofs.lemmas.List.FromFn.{length-map-range_with_len}
use Rattle.px_value.specs.Datum.{Slot}
use Rattle.px_value.specs.Series.{slot_at}
use Rattle.px_operation.specs.Function.{shifted, slot_from}
use Rattle.px_column.proofs.Taking.{take_row}

slot_get : (xs : List Slot) (i : ℕ) → slot_at xs i ≡ get_or xs i None
slot_get [] i = refl
slot_get (x ∷ xs) zero = refl
slot_get (x ∷ xs) (suc i) = slot_get xs i

slot_drop : (xs : List Slot) (a i : ℕ) → slot_at (drop a xs) i ≡ slot_at xs (a + i)
slot_drop xs zero i = ap (slot_at xs) (let e : i ≡ 0 + i = omega arith in e)
slot_drop [] (suc a) i = refl
slot_drop (x ∷ xs) (suc a) i = slot_drop xs a i ∙ ap (slot_at (x ∷ xs)) (let e : suc (a + i) ≡ suc a + i = omega arith in e)

slot_take : (xs : List Slot) (n i : ℕ) → i < n → slot_at (take n xs) i ≡ slot_at xs i
slot_take xs n i h = slot_get (take n xs) i ∙ get_or-take n xs i None h ∙ sym (slot_get xs i)

-- a window has as many rows as it says
pub window_len : (xs : List Slot) (a n : ℕ) → a + n ≤ length xs → length (take n (drop a xs)) ≡ n
window_len xs a n h = length-take-le n (drop a xs) (omega (arith, h, length-drop a xs))

-- a row of a window
pub window_slot : (xs : List Slot) (a n i : ℕ) → i < n → slot_at (take n (drop a xs)) i ≡ slot_at xs (a + i)
window_slot xs a n i h = slot_take (drop a xs) n i h ∙ slot_drop xs a i

slot_reverse : (xs : List Slot) (i : ℕ) → i < length xs → slot_at (reverse xs) i ≡ slot_at xs (length xs - 1 - i)
slot_reverse xs i h = slot_get (reverse xs) i ∙ get_or-reverse xs i None h ∙ sym (slot_get xs (length xs - 1 - i))

pub reverse_more : (xs : List Slot) (i : ℕ) → i < length xs → take (i + 1) (reverse xs) ≡ take i (reverse xs) ++ slot_at xs (length xs - 1 - i) ∷ []
reverse_more xs i h =
    take_row (reverse xs) i (omega (arith, h, length-reverse xs)) ∙ ap (λ s. take i (reverse xs) ++ s ∷ []) (slot_reverse xs i h)

pub reverse_all : (xs : List Slot) (i : ℕ) → length xs ≤ i → take i (reverse xs) ≡ reverse xs
reverse_all xs i h = take_all i (reverse xs) (omega (arith, h, length-reverse xs))

slot_range : (f : ℕ → Slot) (a n i : ℕ) → i < n → slot_at (map f (range_with_len a n)) i ≡ f (a + i)
slot_range f a zero i h = absurd (omega (arith, h))
slot_range f a (suc n) zero h = ap f (let e : a ≡ a + 0 = omega arith in e)
slot_range f a (suc n) (suc i) h = slot_range f (a + 1) n i (omega (arith, h)) ∙ ap f (let e : a + 1 + i ≡ a + suc i = omega arith in e)

shifted_length : (n : ℤ) (xs : List Slot) → length (shifted n xs) ≡ length xs
shifted_length n xs = length-map-range_with_len (λ i. slot_from xs (pos i -ℤ n)) 0 (length xs)

pub shift_more : (n : ℤ) (xs : List Slot) (i : ℕ) → i < length xs → take (i + 1) (shifted n xs) ≡ take i (shifted n xs) ++ slot_from xs (pos i -ℤ n) ∷ []
shift_more n xs i h =
    take_row (shifted n xs) i (omega (arith, h, shifted_length n xs))
    ∙ ap (λ s. take i (shifted n xs) ++ s ∷ []) (slot_range (λ j. slot_from xs (pos j -ℤ n)) 0 (length xs) i h ∙ ap (λ j. slot_from xs (pos j -ℤ n)) (let e : 0 + i ≡ i = omega arith in e))

pub shift_all : (n : ℤ) (xs : List Slot) (i : ℕ) → length xs ≤ i → take i (shifted n xs) ≡ shifted n xs
shift_all n xs i h = take_all i (shifted n xs) (omega (arith, h, shifted_length n xs))
