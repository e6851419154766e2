-- The rows of a range are below its end, and stand one after another.
use Rattle.std.proofs.Common.{◌≡◌, ◌∙◌, ℕ, zero, suc, ◌+◌, ◌≤◌, ◌<◌, ◌&&◌, true, List, [], ◌∷◌, drop, length, take, nat_lt, refl, ap, arith}
use Rattle.std.specs.List.{range_with_len}
use Rattle.std.proofs.lemmas.Bool.Decides.{nat_tests}
use Rattle.px_column.specs.Prelude.{Series, Slot, slot_at}
use Rattle.px_frame.specs.Frame.{are_below, series_at, slots_at}

is_below : (h r : ℕ) → r < h → nat_lt r h ≡ true
is_below h r lt = grind (arith, nat_tests)

pub range_below : (h a n : ℕ) → a + n ≤ h → are_below h (range_with_len a n) ≡ true
range_below h a zero le = refl
range_below h a (suc n) le = λ i. is_below h a (omega (arith, le)) i && range_below h (a + 1) n (omega (arith, le)) i

range_rest : (x : Slot) (xs : List Slot) (a n : ℕ) → slots_at (x ∷ xs) (range_with_len (a + 1) n) ≡ slots_at xs (range_with_len a n)
range_rest x xs a zero = refl
range_rest x xs a (suc n) = let e : a + 1 ≡ suc a = omega arith in λ i. slot_at (x ∷ xs) (e i) ∷ range_rest x xs (a + 1) n i

-- rows that are there, one after another, are a part of the list
range_rows : (xs : List Slot) (a n : ℕ) → a + n ≤ length xs → slots_at xs (range_with_len a n) ≡ take n (drop a xs)
range_rows xs zero zero h = refl
range_rows [] zero (suc n) h = absurd (omega (arith, h))
range_rows (x ∷ xs) zero (suc n) h = ap (λ ys. x ∷ ys) (range_rest x xs 0 n ∙ range_rows xs 0 n (omega (arith, h)))
range_rows [] (suc a) n h = let none : n ≡ 0 = omega (arith, h) in rw none refl
range_rows (x ∷ xs) (suc a) n h =
    let e : suc a ≡ a + 1 = omega arith in
    ap (λ b. slots_at (x ∷ xs) (range_with_len b n)) e ∙ range_rest x xs a n ∙ range_rows xs a n (omega (arith, h))

-- the rows of a range, of a column
pub range_slots : (s : Series) (a n : ℕ) → a + n ≤ length s.slots → series_at (range_with_len a n) s ≡ record { name = s.name; kind = s.kind; slots = take n (drop a s.slots) }
range_slots s a n h = ap (λ ys. record { name = s.name; kind = s.kind; slots = ys }) (range_rows s.slots a n h)
