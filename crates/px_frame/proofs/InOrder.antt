-- Groups that a stable sort by their numbers `first` has put in order.
use Rattle.std.proofs.Common.{◌≡◌, ℕ, zero, suc, ◌<◌, Bool, true, false, cond, List, [], ◌∷◌, length, map, get_or, refl, sym, ◌∙◌, ap, arith}
use Rattle.std.specs.List.{filter}
use Rattle.std.specs.List.Sorted.{IsNonDecreasingBy, IsPermutation, IsSortedByKey, IsStableByKey, ties}
use Rattle.std.specs.Ordering.{is_lt, nat_cmp}
use Rattle.std.proofs.lemmas.List.Sorted.{IsNonDecreasingBy-from_sort, IsPermutation-map, length_permutation, All-permutation}
use Rattle.std.proofs.lemmas.List.Sums.{AllPass-from_list_all, list_all-from_AllPass}
use Rattle.px_frame.specs.Groups.{Group, is_group, IsGroups}
use Rattle.px_frame.specs.InOrder.{IsByFirst}

-- ties of groups by their numbers
abbrev tied : ℕ → ℕ → Bool
tied m n = ties (λ (x y : ℕ). is_lt (nat_cmp x y)) m n

module _ {X : Type 0} (f : X → Group) where
  get_map : (xs : List X) (i : ℕ) (d : Group) (e : X) → i < length xs → get_or (map f xs) i d ≡ f (get_or xs i e)
  get_map [] i d e h = absurd (omega (arith, h))
  get_map (x ∷ xs) zero d e h = refl
  get_map (x ∷ xs) (suc i) d e h = get_map xs i d e (omega (arith, h))

  length-mapped : (xs : List X) → length (map f xs) ≡ length xs
  length-mapped [] = refl
  length-mapped (x ∷ xs) = ap suc (length-mapped xs)

  rising_map : (xs : List X) → IsNonDecreasingBy (λ x. (f x).first) xs → IsNonDecreasingBy (λ g. g.first) (map f xs)
  rising_map [] h i j d le lt = absurd (omega (arith, lt))
  rising_map (x ∷ xs) h i j d le lt =
      let short : j < length (x ∷ xs) = omega (arith, lt, length-mapped (x ∷ xs)) in
      let low = get_map (x ∷ xs) i d x (omega (arith, le, short)) in
      let high = get_map (x ∷ xs) j d x short in
      omega (arith, h i j x le short, ap (λ (g : Group). g.first) low, ap (λ (g : Group). g.first) high)

  filter_map : (test : Group → Bool) (xs : List X) → filter test (map f xs) ≡ map f (filter (λ x. test (f x)) xs)
  filter_map test [] = refl
  filter_map test (x ∷ xs) = by (test (f x)) (filter_map test xs)
    where
      by : (b : Bool) → filter test (map f xs) ≡ map f (filter (λ x. test (f x)) xs)
          → cond b (f x ∷ filter test (map f xs)) (filter test (map f xs)) ≡ map f (cond b (x ∷ filter (λ x. test (f x)) xs) (filter (λ x. test (f x)) xs))
      by true h = ap (λ gs. f x ∷ gs) h
      by false h = h

  -- with an item of the group's number
  stable_at : (xs ys : List X) → IsStableByKey (λ x. (f x).first) nat_cmp xs ys → (g : Group) (x : X) → (f x).first ≡ g.first
      → filter (ties (λ a b. is_lt (nat_cmp a.first b.first)) g) (map f ys) ≡ filter (ties (λ a b. is_lt (nat_cmp a.first b.first)) g) (map f xs)
  stable_at xs ys s g x e =
      let test = λ (n : ℕ) (y : X). tied n (f y).first in
      filter_map _ ys ∙ ap (map f) (ap (λ n. filter (test n) ys) (sym e) ∙ s x ∙ ap (λ n. filter (test n) xs) e) ∙ sym (filter_map _ xs)

  pub by_first : (of : (n : ℕ) → X → (x : X) × ((f x).first ≡ n)) (xs ys : List X) → IsPermutation xs ys → IsSortedByKey (λ x. (f x).first) nat_cmp ys → IsStableByKey (λ x. (f x).first) nat_cmp xs ys → IsByFirst (map f xs) (map f ys)
  by_first of xs ys p r s = record {
    moved = IsPermutation-map f xs ys p;
    rising = rising_map ys (IsNonDecreasingBy-from_sort (λ x. (f x).first) ys r);
    stable = stable xs p s;
  }
    where
      stable : (zs : List X) → IsPermutation zs ys → IsStableByKey (λ x. (f x).first) nat_cmp zs ys → IsStableByKey (λ g. g.first) nat_cmp (map f zs) (map f ys)
      stable [] q t g = none ys (length_permutation [] ys q)
        where
          none : (ws : List X) → length ws ≡ 0 → filter (ties (λ a b. is_lt (nat_cmp a.first b.first)) g) (map f ws) ≡ []
          none [] h = refl
          none (w ∷ ws) h = absurd (omega (arith, h))
      stable (z ∷ zs) q t g = let at = of g.first z in stable_at (z ∷ zs) ys t g at.0 at.1

-- groups put in another order are groups
pub IsGroups-moved : (h : ℕ) (old new : List Group) → IsPermutation old new → IsGroups h old → IsGroups h new
IsGroups-moved h old new p g = record {
  each = list_all-from_AllPass (is_group h) new (All-permutation (λ x. is_group h x ≡ true) old new p (AllPass-from_list_all (is_group h) old g.each));
  few = omega (arith, length_permutation old new p, g.few);
}
