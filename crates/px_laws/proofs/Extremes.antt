-- The least and the greatest of values of one sort: those of parts, merged, are those of the whole.
use Rattle.std.proofs.Common.{◌≡◌, ℕ, ◌==◌, Bool, true, false, cond, ◌&&◌, List, [], ◌∷◌, ◌++◌, Some, None, map, fold, refl, sym, ◌∙◌, ap, arith}
use Rattle.std.specs.List.{flat_map, list_all, reduce}
use Rattle.std.specs.Ordering.{bool_cmp, int_cmp, nat_cmp, is_lt, is_gt, ord_min, ord_max, ordering_reverse}
use Rattle.std.specs.Cmp.{IsTotalOrder, bool_cmp_total}
use Rattle.std.specs.Cmp.Lexicographic.{slice_cmp}
use Rattle.std.specs.declared.cmp.Ordering.{Ordering}
use Rattle.std.specs.declared.cmp.Ordering.TheVariants.{Less, Equal, Greater}
use Rattle.std.proofs.lemmas.Cmp.{upto, int_cmp_total, nat_list_cmp_total}
use Rattle.std.proofs.lemmas.Bool.Decides.{nat_tests}
use Rattle.std.proofs.lemmas.Grind.{fold-append}
use Rattle.std.proofs.lemmas.List.Elements.{filter_map-append}
use Rattle.px_column.specs.Prelude.{Datum, boolean, integer, text, bytes, list, Slot, Kind, booleans, strings, binaries, nulls, lists}
use Rattle.px_column.specs.Order.{datum_cmp}
use Rattle.px_column.specs.Reduction.{values_of}
use Rattle.px_value.proofs.FitLaws.{both as both_true}
use Rattle.px_laws.proofs.Like.{is_like, are_slots_like}

-- which kind of value a value is, and a type's values are
abbrev pub sort_of : Datum → ℕ
sort_of (boolean b) = 0
sort_of (integer z) = 1
sort_of (text s) = 2
sort_of (bytes s) = 3
sort_of (list ds) = 4

-- the sort of a type's values
abbrev pub kind_sort : Kind → ℕ
kind_sort booleans = 0
kind_sort strings = 2
kind_sort binaries = 3
kind_sort (lists k) = 4
kind_sort nulls = 5
kind_sort _ = 1

-- a value of a sort
abbrev pub is_of : ℕ → Datum → Bool
is_of n d = sort_of d == n

-- a place of a sort; a null is of each
abbrev pub is_slot_of : ℕ → Slot → Bool
is_slot_of n None = true
is_slot_of n (Some d) = is_of n d

-- each place is
abbrev pub are_slots_of : ℕ → List Slot → Bool
are_slots_of n xs = list_all (is_slot_of n) xs

-- a value like those of a type is of its sort
like_is_sorted : (k : Kind) (d : Datum) → is_like k d ≡ true → is_of (kind_sort k) d ≡ true
like_is_sorted booleans (boolean b) h = refl
like_is_sorted k (boolean b) h = cc
like_is_sorted booleans (integer z) h = cc
like_is_sorted strings (integer z) h = cc
like_is_sorted binaries (integer z) h = cc
like_is_sorted nulls (integer z) h = cc
like_is_sorted (lists j) (integer z) h = cc
like_is_sorted k (integer z) h = refl
like_is_sorted strings (text s) h = refl
like_is_sorted k (text s) h = cc
like_is_sorted binaries (bytes s) h = refl
like_is_sorted k (bytes s) h = cc
like_is_sorted (lists j) (list ds) h = refl
like_is_sorted k (list ds) h = cc

pub like_are_sorted : (k : Kind) (xs : List Slot) → are_slots_like k xs ≡ true → are_slots_of (kind_sort k) xs ≡ true
like_are_sorted k [] h = refl
like_are_sorted k (None ∷ xs) h = like_are_sorted k xs h
like_are_sorted k (Some d ∷ xs) h = let p = both_true (is_like k d) (are_slots_like k xs) h in λ i. like_is_sorted k d p.0 i && like_are_sorted k xs p.1 i

-- what an order says of three values, in turn
less_is : (o : Ordering) → is_lt o ≡ true → o ≡ Less
less_is Less h = refl
less_is Equal h = cc
less_is Greater h = cc

-- an order turned
turned : (o : Ordering) → is_gt (ordering_reverse o) ≡ is_lt o
turned Less = refl
turned Equal = refl
turned Greater = refl

-- less than a lesser one is less
less_all : {X : Type 0} (R : X → X → Ordering) → IsTotalOrder R → (x y z : X) → is_lt (R z y) ≡ true → is_lt (R y x) ≡ true → is_lt (R z x) ≡ true
less_all R t x y z h g = ap is_lt (t.trans z y x (less_is _ h) (less_is _ g))

-- not less is greater or the same
not_less : {X : Type 0} (R : X → X → Ordering) → IsTotalOrder R → (x y : X) → is_gt (R x y) ≡ is_lt (R y x)
not_less R t x y = ap is_gt (t.antisymm x y) ∙ turned (R y x)

-- and goes on to a third
not_less_all : {X : Type 0} (R : X → X → Ordering) → IsTotalOrder R → (x y z : X) → is_lt (R y x) ≡ false → is_lt (R z y) ≡ false → is_lt (R z x) ≡ false
not_less_all R t x y z h g = sym (not_less R t x z) ∙ upto t x y z (not_less R t x y ∙ h) (not_less R t y z ∙ g)

record Ranked (a b c : Datum) : Type 0 where
  down : is_lt (datum_cmp c b) ≡ true → is_lt (datum_cmp b a) ≡ true → is_lt (datum_cmp c a) ≡ true
  up : is_lt (datum_cmp b a) ≡ false → is_lt (datum_cmp c b) ≡ false → is_lt (datum_cmp c a) ≡ false

-- three values of one sort, but lists, are ranked
sorted_three : (a b c : Datum) → (sort_of a ≡ 4 → ⊥) → sort_of b ≡ sort_of a → sort_of c ≡ sort_of a → Ranked a b c
sorted_three (boolean x) (boolean y) (boolean z) unlisted same other = record { down = less_all bool_cmp bool_cmp_total x y z; up = not_less_all bool_cmp bool_cmp_total x y z }
sorted_three (boolean x) (boolean y) (integer z) unlisted same other = absurd (omega arith)
sorted_three (boolean x) (boolean y) (text z) unlisted same other = absurd (omega arith)
sorted_three (boolean x) (boolean y) (bytes z) unlisted same other = absurd (omega arith)
sorted_three (boolean x) (boolean y) (list z) unlisted same other = absurd (omega arith)
sorted_three (boolean x) (integer y) c unlisted same other = absurd (omega arith)
sorted_three (boolean x) (text y) c unlisted same other = absurd (omega arith)
sorted_three (boolean x) (bytes y) c unlisted same other = absurd (omega arith)
sorted_three (boolean x) (list y) c unlisted same other = absurd (omega arith)
sorted_three (integer x) (boolean y) c unlisted same other = absurd (omega arith)
sorted_three (integer x) (integer y) (boolean z) unlisted same other = absurd (omega arith)
sorted_three (integer x) (integer y) (integer z) unlisted same other = record { down = less_all int_cmp int_cmp_total x y z; up = not_less_all int_cmp int_cmp_total x y z }
sorted_three (integer x) (integer y) (text z) unlisted same other = absurd (omega arith)
sorted_three (integer x) (integer y) (bytes z) unlisted same other = absurd (omega arith)
sorted_three (integer x) (integer y) (list z) unlisted same other = absurd (omega arith)
sorted_three (integer x) (text y) c unlisted same other = absurd (omega arith)
sorted_three (integer x) (bytes y) c unlisted same other = absurd (omega arith)
sorted_three (integer x) (list y) c unlisted same other = absurd (omega arith)
sorted_three (text x) (boolean y) c unlisted same other = absurd (omega arith)
sorted_three (text x) (integer y) c unlisted same other = absurd (omega arith)
sorted_three (text x) (text y) (boolean z) unlisted same other = absurd (omega arith)
sorted_three (text x) (text y) (integer z) unlisted same other = absurd (omega arith)
sorted_three (text x) (text y) (text z) unlisted same other = record { down = less_all (slice_cmp nat_cmp) nat_list_cmp_total x y z; up = not_less_all (slice_cmp nat_cmp) nat_list_cmp_total x y z }
sorted_three (text x) (text y) (bytes z) unlisted same other = absurd (omega arith)
sorted_three (text x) (text y) (list z) unlisted same other = absurd (omega arith)
sorted_three (text x) (bytes y) c unlisted same other = absurd (omega arith)
sorted_three (text x) (list y) c unlisted same other = absurd (omega arith)
sorted_three (bytes x) (boolean y) c unlisted same other = absurd (omega arith)
sorted_three (bytes x) (integer y) c unlisted same other = absurd (omega arith)
sorted_three (bytes x) (text y) c unlisted same other = absurd (omega arith)
sorted_three (bytes x) (bytes y) (boolean z) unlisted same other = absurd (omega arith)
sorted_three (bytes x) (bytes y) (integer z) unlisted same other = absurd (omega arith)
sorted_three (bytes x) (bytes y) (text z) unlisted same other = absurd (omega arith)
sorted_three (bytes x) (bytes y) (bytes z) unlisted same other = record { down = less_all (slice_cmp nat_cmp) nat_list_cmp_total x y z; up = not_less_all (slice_cmp nat_cmp) nat_list_cmp_total x y z }
sorted_three (bytes x) (bytes y) (list z) unlisted same other = absurd (omega arith)
sorted_three (bytes x) (list y) c unlisted same other = absurd (omega arith)
sorted_three (list x) b c unlisted same other = absurd (unlisted refl)

-- a choice of one of two values, which is the same whichever two come first
record Chooses (n : ℕ) (f : Datum → Datum → Datum) : Type 0 where
  same : (a b c : Datum) → is_of n a ≡ true → is_of n b ≡ true → is_of n c ≡ true → f (f a b) c ≡ f a (f b c)
  stays : (a b : Datum) → is_of n a ≡ true → is_of n b ≡ true → is_of n (f a b) ≡ true

-- either of two values of a sort is of it
chosen_stays : (n : ℕ) (w : Bool) (a b : Datum) → is_of n a ≡ true → is_of n b ≡ true → is_of n (cond w a b) ≡ true
chosen_stays n true a b x y = x
chosen_stays n false a b x y = y

-- the least of three, whichever two come first
least_same : (a b c : Datum) → Ranked a b c → ord_min datum_cmp (ord_min datum_cmp a b) c ≡ ord_min datum_cmp a (ord_min datum_cmp b c)
least_same a b c r = by (is_lt (datum_cmp b a)) (is_lt (datum_cmp c b)) refl refl
  where
    by : (v w : Bool) → is_lt (datum_cmp b a) ≡ v → is_lt (datum_cmp c b) ≡ w → ord_min datum_cmp (cond v b a) c ≡ ord_min datum_cmp a (cond w c b)
    by true true g h = (λ i. cond (h i) c b) ∙ (λ i. cond (sym (r.down h g) i) c a)
    by true false g h = (λ i. cond (h i) c b) ∙ (λ i. cond (sym g i) b a)
    by false true g h = refl
    by false false g h = (λ i. cond (r.up g h i) c a) ∙ (λ i. cond (sym g i) b a)

-- the greatest of three, whichever two come first
greatest_same : (a b c : Datum) → Ranked a b c → ord_max datum_cmp (ord_max datum_cmp a b) c ≡ ord_max datum_cmp a (ord_max datum_cmp b c)
greatest_same a b c r = by (is_lt (datum_cmp b a)) (is_lt (datum_cmp c b)) refl refl
  where
    by : (v w : Bool) → is_lt (datum_cmp b a) ≡ v → is_lt (datum_cmp c b) ≡ w → ord_max datum_cmp (cond v a b) c ≡ ord_max datum_cmp a (cond w b c)
    by true true g h = (λ i. cond (r.down h g i) a c) ∙ (λ i. cond (sym g i) a b)
    by true false g h = refl
    by false true g h = (λ i. cond (h i) b c) ∙ (λ i. cond (sym g i) a b)
    by false false g h = (λ i. cond (h i) b c) ∙ (λ i. cond (sym (r.up g h) i) a c)

-- the sort that the test found
sort_is : (n : ℕ) (d : Datum) → is_of n d ≡ true → sort_of d ≡ n
sort_is n d h = grind (arith, nat_tests)

-- three values of a sort that is not that of lists
ranked_of : (n : ℕ) (a b c : Datum) → (n ≡ 4 → ⊥) → is_of n a ≡ true → is_of n b ≡ true → is_of n c ≡ true → Ranked a b c
ranked_of n a b c unlisted x y z = sorted_three a b c (λ e. unlisted (sym (sort_is n a x) ∙ e)) (sort_is n b y ∙ sym (sort_is n a x)) (sort_is n c z ∙ sym (sort_is n a x))

-- the lesser of two is such a choice
least_chooses : (n : ℕ) → (n ≡ 4 → ⊥) → Chooses n (ord_min datum_cmp)
least_chooses n unlisted = record {
  same = λ a b c x y z. least_same a b c (ranked_of n a b c unlisted x y z);
  stays = λ a b x y. chosen_stays n (is_lt (datum_cmp b a)) b a y x;
}

-- and so is the greater
greatest_chooses : (n : ℕ) → (n ≡ 4 → ⊥) → Chooses n (ord_max datum_cmp)
greatest_chooses n unlisted = record {
  same = λ a b c x y z. greatest_same a b c (ranked_of n a b c unlisted x y z);
  stays = λ a b x y. chosen_stays n (is_lt (datum_cmp b a)) a b x y;
}

-- a choice from a list, from its first value on or from another before it
fold_inside : (n : ℕ) (f : Datum → Datum → Datum) → Chooses n f → (a y : Datum) (ys : List Datum) → is_of n a ≡ true → is_of n y ≡ true → list_all (is_of n) ys ≡ true → fold f (f a y) ys ≡ f a (fold f y ys)
fold_inside n f ch a y [] x v h = refl
fold_inside n f ch a y (z ∷ zs) x v h =
    let s = both_true (is_of n z) (list_all (is_of n) zs) h in
    ap (λ w. fold f w zs) (ch.same a y z x v s.0) ∙ fold_inside n f ch a (f y z) zs x (ch.stays y z v s.0) s.1

-- what is chosen is of the sort
fold_stays : (n : ℕ) (f : Datum → Datum → Datum) → Chooses n f → (a : Datum) (ys : List Datum) → is_of n a ≡ true → list_all (is_of n) ys ≡ true → is_of n (fold f a ys) ≡ true
fold_stays n f ch a [] x h = x
fold_stays n f ch a (z ∷ zs) x h =
    let s = both_true (is_of n z) (list_all (is_of n) zs) h in
    fold_stays n f ch (f a z) zs (ch.stays a z x s.0) s.1

-- the values of all lists
abbrev flat : List (List Datum) → List Datum
flat dss = flat_map (λ ds. ds) dss

-- each value of each list is of a sort
abbrev are_of : ℕ → List (List Datum) → Bool
are_of n dss = list_all (list_all (is_of n)) dss

-- the choice from each list that has a value
abbrev bests : (Datum → Datum → Datum) → List (List Datum) → List Datum
bests f dss = values_of (map (reduce f) dss)

-- a choice from all, after another value, is one from the choices
best_from : (n : ℕ) (f : Datum → Datum → Datum) → Chooses n f → (a : Datum) (dss : List (List Datum)) → is_of n a ≡ true → are_of n dss ≡ true → fold f a (flat dss) ≡ fold f a (bests f dss)
best_from n f ch a [] x h = refl
best_from n f ch a ([] ∷ dss) x h = best_from n f ch a dss x h
best_from n f ch a ((y ∷ ys) ∷ dss) x h =
    let s = both_true (list_all (is_of n) (y ∷ ys)) (are_of n dss) h in
    let t = both_true (is_of n y) (list_all (is_of n) ys) s.0 in
    let inside = fold_inside n f ch a y ys x t.0 t.1 in
    let there = ch.stays a (fold f y ys) x (fold_stays n f ch y ys t.0 t.1) in
    fold-append f (f a y) ys (flat dss) ∙ ap (λ w. fold f w (flat dss)) inside ∙ best_from n f ch (f a (fold f y ys)) dss there s.1

-- and so from the first on
best_of_lists : (n : ℕ) (f : Datum → Datum → Datum) → Chooses n f → (dss : List (List Datum)) → are_of n dss ≡ true → reduce f (flat dss) ≡ reduce f (bests f dss)
best_of_lists n f ch [] h = refl
best_of_lists n f ch ([] ∷ dss) h = best_of_lists n f ch dss h
best_of_lists n f ch ((y ∷ ys) ∷ dss) h =
    let s = both_true (list_all (is_of n) (y ∷ ys)) (are_of n dss) h in
    let t = both_true (is_of n y) (list_all (is_of n) ys) s.0 in
    ap Some (fold-append f y ys (flat dss) ∙ best_from n f ch (fold f y ys) dss (fold_stays n f ch y ys t.0 t.1) s.1)

-- the values of all places are those of each list
values_flat : (xss : List (List Slot)) → values_of (flat_map (λ (xs : List Slot). xs) xss) ≡ flat (map values_of xss)
values_flat [] = refl
values_flat (xs ∷ xss) = filter_map-append (λ (s : Slot). s) xs (flat_map (λ (ys : List Slot). ys) xss) ∙ ap (λ ds. values_of xs ++ ds) (values_flat xss)

-- the choices, list by list
bests_flat : (f : Datum → Datum → Datum) (xss : List (List Slot)) → map (reduce f) (map values_of xss) ≡ map (λ xs. reduce f (values_of xs)) xss
bests_flat f [] = refl
bests_flat f (xs ∷ xss) = ap (λ ys. reduce f (values_of xs) ∷ ys) (bests_flat f xss)

-- the values of places of a sort are of it
values_are : (n : ℕ) (xs : List Slot) → list_all (is_slot_of n) xs ≡ true → list_all (is_of n) (values_of xs) ≡ true
values_are n [] h = refl
values_are n (None ∷ xs) h = values_are n xs h
values_are n (Some d ∷ xs) h = let s = both_true (is_of n d) (list_all (is_slot_of n) xs) h in (λ i. s.0 i && values_are n xs s.1 i)

-- so of each list
all_values_are : (n : ℕ) (xss : List (List Slot)) → list_all (list_all (is_slot_of n)) xss ≡ true → are_of n (map values_of xss) ≡ true
all_values_are n [] h = refl
all_values_are n (xs ∷ xss) h = let s = both_true (list_all (is_slot_of n) xs) (list_all (list_all (is_slot_of n)) xss) h in (λ i. values_are n xs s.0 i && all_values_are n xss s.1 i)

-- a choice from all places is one from the choices
best_merges : (n : ℕ) (f : Datum → Datum → Datum) → Chooses n f → (xss : List (List Slot)) → list_all (list_all (is_slot_of n)) xss ≡ true
    → reduce f (values_of (flat_map (λ (xs : List Slot). xs) xss)) ≡ reduce f (values_of (map (λ xs. reduce f (values_of xs)) xss))
best_merges n f ch xss h =
    ap (reduce f) (values_flat xss) ∙ best_of_lists n f ch (map values_of xss) (all_values_are n xss h) ∙ ap (λ ys. reduce f (values_of ys)) (bests_flat f xss)

-- the least of all places from the least of each list
pub least_merges : (n : ℕ) (xss : List (List Slot)) → (n ≡ 4 → ⊥) → list_all (list_all (is_slot_of n)) xss ≡ true
    → reduce (ord_min datum_cmp) (values_of (flat_map (λ (xs : List Slot). xs) xss)) ≡ reduce (ord_min datum_cmp) (values_of (map (λ xs. reduce (ord_min datum_cmp) (values_of xs)) xss))
least_merges n xss unlisted h = best_merges n (ord_min datum_cmp) (least_chooses n unlisted) xss h

-- the greatest of all places from the greatest of each list
pub greatest_merges : (n : ℕ) (xss : List (List Slot)) → (n ≡ 4 → ⊥) → list_all (list_all (is_slot_of n)) xss ≡ true
    → reduce (ord_max datum_cmp) (values_of (flat_map (λ (xs : List Slot). xs) xss)) ≡ reduce (ord_max datum_cmp) (values_of (map (λ xs. reduce (ord_max datum_cmp) (values_of xs)) xss))
greatest_merges n xss unlisted h = best_merges n (ord_max datum_cmp) (greatest_chooses n unlisted) xss h
