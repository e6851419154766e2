-- Windows over a function of the place.
use Rattle.std.proofs.Common.{◌≡◌, ℕ, zero, suc, ◌+◌, ◌-◌, ◌<◌, ◌≤◌, ◌^◌, true, ◌&&◌, List, [], ◌∷◌, length, map, take, drop, replicate, refl, subst, ap, sym, ◌∙◌, arith, add-one}
use Rattle.std.proofs.lemmas.List.FromFn.{length-map-range_with_len, take-map-range_with_len}
use Rattle.std.specs.List.{range_with_len}
use Rattle.px_value.proofs.FitLaws.{both}
use Rattle.px_value.specs.Datum.{Slot}
use Rattle.px_value.specs.Kind.{Kind, slot_fits, slots_fit}
use Rattle.px_value.specs.Series.{slot_at}
use Rattle.px_array.specs.Inside.{Covers, IsBuilt, IsInside, IsStored, inner_slot, stored, window}
use Rattle.px_array.specs.Integers.{HasNumbers}
use Rattle.px_array.specs.declared.integers.Numbers.{Numbers}
use Rattle.px_array.specs.declared.integers.Numbers.TheVariants.{Signed, Unsigned}
use Rattle.px_array.specs.Lanes.{Holds, Reaches, lane_slot}
use Rattle.px_array.specs.declared.array.Inner.{Inner}
use Rattle.px_array.specs.declared.array.Inner.TheVariants.{Shared, Constant, SameList}
use Rattle.std.proofs.Common.{Global}
use Rattle.std.specs.declared.rc.Rc.{Rc}
use Rattle.px_value.specs.Series.{IsColumn}
use Rattle.px_array.specs.declared.lanes.Lanes.{Lanes}
use Rattle.px_array.specs.declared.lanes.Store.{Store}
use Rattle.px_array.specs.declared.lanes.Lanes.TheVariants.{Ints, UInts, Bools, Texts, Bytes, Lists, Nulls}

-- a row of a window
pub window_row : (f : ℕ → Slot) (a n i : ℕ) → i < n → slot_at (map f (range_with_len a n)) i ≡ f (a + i)
window_row f a zero i h = absurd (omega (arith, h))
window_row f a (suc n) zero h = let e : a ≡ a + 0 = omega arith in ap f e
window_row f a (suc n) (suc i) h = let e : a + 1 + i ≡ a + suc i = omega arith in window_row f (a + 1) n i (omega (arith, h)) ∙ ap f e

drop_suc : (f : ℕ → Slot) (a n k : ℕ) → k ≤ n → drop k (map f (range_with_len a n)) ≡ map f (range_with_len (a + k) (n - k))
drop_suc f a n zero h =
    let e : a ≡ a + 0 = omega arith in
    let g : n ≡ n - 0 = omega arith in
    ap (λ b. map f (range_with_len b n)) e ∙ ap (λ m. map f (range_with_len (a + 0) m)) g
drop_suc f a zero (suc k) h = absurd (omega (arith, h))
drop_suc f a (suc n) (suc k) h =
    let e : a + 1 + k ≡ a + suc k = omega arith in
    let g : n - k ≡ suc n - suc k = omega arith in
    drop_suc f (a + 1) n k (omega (arith, h)) ∙ ap (λ b. map f (range_with_len b (n - k))) e ∙ ap (λ m. map f (range_with_len (a + suc k) m)) g

-- a window of a window
pub window_within : (f : ℕ → Slot) (a n o l : ℕ) → o + l ≤ n → take l (drop o (map f (range_with_len a n))) ≡ map f (range_with_len (a + o) l)
window_within f a n o l h = ap (take l) (drop_suc f a n o (omega (arith, h))) ∙ take-map-range_with_len f (a + o) (n - o) l (omega (arith, h))

-- windows over equal functions
pub same_window : (f g : ℕ → Slot) (a n : ℕ) → ((i : ℕ) → f i ≡ g i) → map f (range_with_len a n) ≡ map g (range_with_len a n)
same_window f g a zero h = refl
same_window f g a (suc n) h = ap (λ s. s ∷ map f (range_with_len (a + 1) n)) (h a) ∙ ap (λ s. g a ∷ s) (same_window f g (a + 1) n h)

-- windows over functions that are equal below the end
pub same_below : (f g : ℕ → Slot) (a n : ℕ) → ((i : ℕ) → i < a + n → f i ≡ g i) → map f (range_with_len a n) ≡ map g (range_with_len a n)
same_below f g a zero h = refl
same_below f g a (suc n) h = ap (λ s. s ∷ map f (range_with_len (a + 1) n)) (h a (omega arith)) ∙ ap (λ s. g a ∷ s) (same_below f g (a + 1) n (λ i l. h i (omega (arith, l))))

-- one place again and again
pub repeated : (s : Slot) (a n : ℕ) → map (λ (i : ℕ). s) (range_with_len a n) ≡ replicate n s
repeated s a zero = refl
repeated s a (suc n) = ap (λ x. s ∷ x) (repeated s (a + 1) n)

pub fits_repeated : (k : Kind) (s : Slot) (n : ℕ) → slot_fits k s ≡ true → slots_fit k (replicate n s) ≡ true
fits_repeated k s zero h = refl
fits_repeated k s (suc n) h = λ i. h i && fits_repeated k s n h i

fits_take : (k : Kind) (n : ℕ) (xs : List Slot) → slots_fit k xs ≡ true → slots_fit k (take n xs) ≡ true
fits_take k zero xs h = refl
fits_take k (suc n) [] h = refl
fits_take k (suc n) (x ∷ xs) h = let b = both (slot_fits k x) (slots_fit k xs) h in λ i. b.0 i && fits_take k n xs b.1 i

fits_drop : (k : Kind) (n : ℕ) (xs : List Slot) → slots_fit k xs ≡ true → slots_fit k (drop n xs) ≡ true
fits_drop k zero xs h = h
fits_drop k (suc n) [] h = refl
fits_drop k (suc n) (x ∷ xs) h = fits_drop k n xs (both (slot_fits k x) (slots_fit k xs) h).1

-- n values reach to each place below n
pub holds_reaches : (f : Lanes) (m n : ℕ) → m ≤ n → Holds f n → Reaches f m
holds_reaches (Ints v) m n h c = omega (arith, h, c)
holds_reaches (UInts v) m n h c = omega (arith, h, c)
holds_reaches (Bools v) m n h c = omega (arith, h, c.room)
holds_reaches (Texts v) m n h c = omega (arith, h, c)
holds_reaches (Bytes v) m n h c = omega (arith, h, c)
holds_reaches (Lists v) m n h c = omega (arith, h, c)
holds_reaches Nulls m n h c = tt

-- fewer places are there too
pub covers_less : (x : Inner) (m n : ℕ) → m ≤ n → Covers x n → Covers x m
covers_less (Shared s) m n h c = (omega (arith, h, c.0), c.1)
covers_less (Constant s) m n h c = tt
covers_less (SameList xs) m n h c = tt

-- a window of an array is an array
pub inside_within : (k : Kind) (x : Inner) (a n o l : ℕ) → o + l ≤ n → IsInside k x a n → IsInside k x (a + o) l
inside_within k x a n o l h i = record {
  bound = omega (arith, i.bound);
  covers = covers_less x (a + o + l) (a + n) (omega (arith, h)) i.covers;
  column = record {
    fit = ap (slots_fit k) (sym (window_within (inner_slot x) a n o l h)) ∙ fits_take k l (drop o (window x a n)) (fits_drop k o (window x a n) i.column.fit);
    short = omega (arith, i.bound, length-map-range_with_len (inner_slot x) (a + o) l);
  };
}

-- equal places make an array too
pub inside_same : (k : Kind) (x y : Inner) (a n : ℕ) → ((m : ℕ) → Covers x m → Covers y m) → ((i : ℕ) → inner_slot y i ≡ inner_slot x i) → IsInside k x a n → IsInside k y a n
inside_same k x y a n c e i =
    let same : window y a n ≡ window x a n = same_window (inner_slot y) (inner_slot x) a n e in
    record {
      bound = i.bound;
      covers = c (a + n) i.covers;
      column = record {
        fit = ap (slots_fit k) same ∙ i.column.fit;
        short = omega (arith, i.bound, length-map-range_with_len (inner_slot y) a n);
      };
    }

-- what is left from a row on
pub drop_row : (xs : List Slot) (i : ℕ) → i < length xs → drop i xs ≡ slot_at xs i ∷ drop (i + 1) xs
drop_row xs i h = by xs i h ∙ ap (λ n. slot_at xs i ∷ drop n xs) (sym (add-one i))
  where
    by : (xs : List Slot) (i : ℕ) → i < length xs → drop i xs ≡ slot_at xs i ∷ drop (suc i) xs
    by [] i h = absurd (omega (arith, h))
    by (x ∷ xs) zero h = refl
    by (x ∷ xs) (suc i) h = by xs i (omega (arith, h))

-- values that were built, shared
pub shared_rows : (rc : Rc Store Global) (s : Store) → rc.value ≡ s → window (Shared rc) 0 s.len ≡ stored s.lanes s.valid.items s.len
shared_rows rc s e = ap (λ (t : Store). map (lane_slot t.lanes t.valid.items) (range_with_len 0 s.len)) e

pub shared_inside : (k : Kind) (rc : Rc Store Global) (s : Store) → rc.value ≡ s → IsBuilt k s.lanes s.valid.items s.len → IsInside k (Shared rc) 0 s.len
shared_inside k rc s e b = record {
  bound = omega (arith, b.column.short, length-map-range_with_len (lane_slot s.lanes s.valid.items) 0 s.len);
  covers = (omega (arith, ap (λ (t : Store). t.len) e), subst (λ (t : Store). IsStored t.lanes t.valid.items t.len) (sym e) b.store);
  column = subst (IsColumn k) (sym (shared_rows rc s e)) b.column;
}

-- one place again and again
pub same_rows : (x : Inner) (s : Slot) (n : ℕ) → ((i : ℕ) → inner_slot x i ≡ s) → window x 0 n ≡ replicate n s
same_rows x s n h = same_window (inner_slot x) (λ i. s) 0 n h ∙ repeated s 0 n

pub same_inside : (k : Kind) (x : Inner) (s : Slot) (n : ℕ) → ((i : ℕ) → inner_slot x i ≡ s) → ((i : ℕ) → Covers x i) → slot_fits k s ≡ true → n < 2 ^ 32 → IsInside k x 0 n
same_inside k x s n h c fits short = record {
  bound = omega (arith, short);
  covers = c (0 + n);
  column = record {
    fit = ap (slots_fit k) (same_rows x s n h) ∙ fits_repeated k s n fits;
    short = omega (arith, short, length-map-range_with_len (inner_slot x) 0 n);
  };
}

-- fewer numbers are there too
pub numbers_less : (v : Numbers) (m n : ℕ) → m ≤ n → HasNumbers v n → HasNumbers v m
numbers_less (Signed vs) m n h c = omega (arith, h, c)
numbers_less (Unsigned vs) m n h c = omega (arith, h, c)
