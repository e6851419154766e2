-- What holds of each item of a list, and lists that are built item by item.
use Rattle.std.proofs.Common.{◌≡◌, ℕ, zero, suc, ◌+◌, ◌^◌, ◌<◌, Bool, true, false, ◌&&◌, List, [], ◌∷◌, ◌++◌, Some, length, map, take, nat_lt, slice_get, slice_index, refl, sym, ◌∙◌, ap, arith, add-one}
use Rattle.std.specs.List.{list_all}
use Rattle.std.proofs.lemmas.Bool.Decides.{nat_tests}
use Rattle.std.proofs.lemmas.List.{length-map}
use Rattle.px_column.specs.Column.{taken_at, all_within}
use Rattle.px_value.proofs.FitLaws.{both}
use Rattle.px_column.specs.Prelude.{Slot, Series, slot_at}
use Rattle.px_frame.specs.Aggregate.{has_row, key_column}
use Rattle.px_frame.specs.Frame.{are_below, all_have_height, has_height, are_in_all, taken_series}
use Rattle.px_frame.specs.Groups.{Group, first_row, is_group, IsGroups}

module _ {X : Type 0} where
  pub all_at : (test : X → Bool) (xs : List X) (i : ℕ) (x : X) → list_all test xs ≡ true → slice_get xs i ≡ Some x → test x ≡ true
  all_at test [] i x h e = cc
  all_at test (y ∷ ys) zero x h e = let same : y ≡ x = cc in ap test (sym same) ∙ (both (test y) (list_all test ys) h).0
  all_at test (y ∷ ys) (suc i) x h e = all_at test ys i x (both (test y) (list_all test ys) h).1 e

  pub take_suc : (xs : List X) (i : ℕ) (x : X) → slice_get xs i ≡ Some x → take (suc i) xs ≡ take i xs ++ x ∷ []
  take_suc [] i x e = cc
  take_suc (y ∷ ys) zero x e = let same : y ≡ x = cc in ap (λ z. z ∷ []) same
  take_suc (y ∷ ys) (suc i) x e = ap (λ zs. y ∷ zs) (take_suc ys i x e)

  map_append : {Y : Type 0} (f : X → Y) (xs : List X) (x : X) → map f (xs ++ x ∷ []) ≡ map f xs ++ f x ∷ []
  map_append f [] x = refl
  map_append f (y ∷ ys) x = ap (λ zs. f y ∷ zs) (map_append f ys x)

  pub map_next : {Y : Type 0} (f : X → Y) (xs : List X) (i : ℕ) (x : X) → slice_get xs i ≡ Some x → map f (take (i + 1) xs) ≡ map f (take i xs) ++ f x ∷ []
  map_next f xs i x e = ap (λ n. map f (take n xs)) (add-one i) ∙ ap (map f) (take_suc xs i x e) ∙ map_append f (take i xs) x

pub group_short : (height : ℕ) (groups : List Group) (i : ℕ) (g : Group) → IsGroups height groups → slice_get groups i ≡ Some g → length g.rows < 2 ^ 32
group_short height groups i g h e =
    let short : nat_lt (length g.rows) (2 ^ 32) ≡ true = (both (are_below height g.rows) (nat_lt (length g.rows) (2 ^ 32)) (all_at (is_group height) groups i g h.each e)).1 in
    grind (arith, nat_tests)

pub some_row : (groups : List Group) (i : ℕ) (g : Group) → list_all has_row groups ≡ true → slice_get groups i ≡ Some g → 0 < length g.rows
some_row groups i g h e =
    let some : nat_lt 0 (length g.rows) ≡ true = all_at has_row groups i g h e in
    grind (arith, nat_tests)

pub first_is : (rows : List ℕ) → 0 < length rows → slice_index rows 0 ≡ first_row rows
first_is [] h = absurd (omega (arith, h))
first_is (r ∷ rs) h = refl

-- first rows are rows of the columns
first_below : (height : ℕ) (rows : List ℕ) → are_below height rows ≡ true → nat_lt 0 (length rows) ≡ true → nat_lt (first_row rows) height ≡ true
first_below height [] h e = let no : nat_lt 0 0 ≡ false = refl in absurd (cc (no, e))
first_below height (r ∷ rs) h e = (both (nat_lt r height) (are_below height rs) h).0

firsts_within : (height : ℕ) (groups : List Group) → list_all (is_group height) groups ≡ true → list_all has_row groups ≡ true → all_within height (map (λ g. Some (first_row g.rows)) groups) ≡ true
firsts_within height [] h e = refl
firsts_within height (g ∷ gs) h e =
    let p = both (is_group height g) (list_all (is_group height) gs) h in
    let q = both (has_row g) (list_all has_row gs) e in
    let below = (both (are_below height g.rows) (nat_lt (length g.rows) (2 ^ 32)) p.0).0 in
    λ i. first_below height g.rows below q.0 i && firsts_within height gs p.1 q.1 i

pub has_height_is : (n : ℕ) (s : Series) → has_height n s ≡ true → length s.slots ≡ n
has_height_is n s h = grind (arith, nat_tests)

pub firsts_in_all : (height : ℕ) (groups : List Group) (by : List Series) → IsGroups height groups → list_all has_row groups ≡ true → all_have_height height by ≡ true
    → are_in_all (map (λ g. Some (first_row g.rows)) groups) by ≡ true
firsts_in_all height groups [] h e k = refl
firsts_in_all height groups (s ∷ by) h e k =
    let p = both (has_height height s) (all_have_height height by) k in
    λ i. (ap (λ n. all_within n (map (λ g. Some (first_row g.rows)) groups)) (has_height_is height s p.0) ∙ firsts_within height groups h.each e) i && firsts_in_all height groups by h e p.1 i

pub few_firsts : (height : ℕ) (groups : List Group) → IsGroups height groups → length (map (λ (g : Group). Some (first_row g.rows)) groups) < 2 ^ 32
few_firsts height groups h = rw (length-map groups (λ (g : Group). Some (first_row g.rows))) h.few

first_slots : (xs : List Slot) (groups : List Group) → map (taken_at xs) (map (λ g. Some (first_row g.rows)) groups) ≡ map (λ g. slot_at xs (first_row g.rows)) groups
first_slots xs [] = refl
first_slots xs (g ∷ gs) = ap (λ ys. slot_at xs (first_row g.rows) ∷ ys) (first_slots xs gs)

pub key_columns : (groups : List Group) (by : List Series) → map (taken_series (map (λ g. Some (first_row g.rows)) groups)) by ≡ map (key_column groups) by
key_columns groups [] = refl
key_columns groups (s ∷ by) = λ i. record s { slots = first_slots s.slots groups i } ∷ key_columns groups by i
