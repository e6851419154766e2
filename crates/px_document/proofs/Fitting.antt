-- Places that are read one by one, each of which fits its type.
use Rattle.std.proofs.Common.{◌≡◌, ℕ, suc, ◌^◌, ◌<◌, ◌≤◌, Bool, true, false, ◌&&◌, List, [], ◌∷◌, length, Option, Some, None, option_map, if◌then◌else◌, refl, ap, sym, ◌∙◌, arith, nat_lt}
use Rattle.std.proofs.lemmas.Bool.Decides.{nat_tests}
use Rattle.serde_json.specs.Data.{Data}
use Rattle.px_column.specs.Option.{◌>>=◌, each}
use Rattle.px_column.specs.Prelude.{Kind, Slot, slot_fits, slots_fit}
use Rattle.px_document.specs.Document.{column_with, fitting_place, place_of, rows_under}

-- some places, where each fits the type
abbrev fitting : Kind → List Slot → Option (List Slot)
fitting k xs = if slots_fit k xs then Some xs else None

none_next : (o : Option Slot) → (o >>= λ y. option_map (λ ys. y ∷ ys) None) ≡ None
none_next None = refl
none_next (Some s) = refl

both_tests : (a b : Bool) (s : Slot) (xs : List Slot) → ((if a then Some s else None) >>= λ y. option_map (λ ys. y ∷ ys) (if b then Some xs else None)) ≡ (if a && b then Some (s ∷ xs) else None)
both_tests true true s xs = refl
both_tests true false s xs = refl
both_tests false b s xs = refl

fits_next : (k : Kind) (o : Option Slot) (r q : Option (List Slot)) → q ≡ (r >>= fitting k)
    → ((o >>= λ s. if slot_fits k s then Some s else None) >>= λ y. option_map (λ ys. y ∷ ys) q) ≡ ((o >>= λ y. option_map (λ ys. y ∷ ys) r) >>= fitting k)
fits_next k None r q h = refl
fits_next k (Some s) None q h = ap (λ p. (if slot_fits k s then Some s else None) >>= λ y. option_map (λ ys. y ∷ ys) p) h ∙ none_next (if slot_fits k s then Some s else None)
fits_next k (Some s) (Some xs) q h =
    ap (λ p. (if slot_fits k s then Some s else None) >>= λ y. option_map (λ ys. y ∷ ys) p) h ∙ both_tests (slot_fits k s) (slots_fit k xs) s xs

-- places that fit, one by one, are places all of which fit
each_fitting : (k : Kind) (ds : List Data) → each (fitting_place k) ds ≡ (each (place_of k) ds >>= fitting k)
each_fitting k [] = refl
each_fitting k (d ∷ ds) = fits_next k (place_of k d) (each (place_of k) ds) (each (fitting_place k) ds) (each_fitting k ds)

length_next : (o : Option Slot) (r : Option (List Slot)) (n : ℕ) → ((ys : List Slot) → r ≡ Some ys → length ys ≡ n) → (xs : List Slot) → (o >>= λ y. option_map (λ ys. y ∷ ys) r) ≡ Some xs → length xs ≡ suc n
length_next None r n h xs e = cc
length_next (Some s) None n h xs e = cc
length_next (Some s) (Some ys) n h xs e =
    let same : xs ≡ s ∷ ys = cc in
    ap length same ∙ ap suc (h ys refl)

none_left : (xs : List Slot) → Some [] ≡ Some xs → length xs ≡ 0
none_left xs e = let same : xs ≡ [] = cc in ap length same

-- as many places as there are values to read
pub each_length : (f : Data → Option Slot) (ds : List Data) (xs : List Slot) → each f ds ≡ Some xs → length xs ≡ length ds
each_length f [] xs e = none_left xs e
each_length f (d ∷ ds) xs e = length_next (f d) (each f ds) (length ds) (each_length f ds) xs e

column_tests : (a b : Bool) (name : List ℕ) (k : Kind) (xs : List Slot) → a ≡ true
    → (if a && b then Some (rows_under name k xs) else None) ≡ option_map (rows_under name k) (if b then Some xs else None)
column_tests true true name k xs h = refl
column_tests true false name k xs h = refl
column_tests false b name k xs h = cc

no_column : (a b : Bool) (name : List ℕ) (k : Kind) (xs : List Slot) → a ≡ false → (if a && b then Some (rows_under name k xs) else None) ≡ None
no_column false b name k xs h = refl
no_column true b name k xs h = cc

-- fewer than 2^32 places that fit, one by one, are a column
pub fitting_rows : (name : List ℕ) (k : Kind) (ds : List Data) → length ds < 2 ^ 32 → (each (place_of k) ds >>= column_with name k) ≡ option_map (rows_under name k) (each (fitting_place k) ds)
fitting_rows name k ds short = by (each (place_of k) ds) refl ∙ ap (option_map (rows_under name k)) (sym (each_fitting k ds))
  where
    by : (r : Option (List Slot)) → each (place_of k) ds ≡ r → (r >>= column_with name k) ≡ option_map (rows_under name k) (r >>= fitting k)
    by None e = refl
    by (Some xs) e =
        let count : length xs ≡ length ds = each_length (place_of k) ds xs e in
        let less : length xs < 2 ^ 32 = omega (arith, count, short) in
        let test : nat_lt (length xs) (2 ^ 32) ≡ true = grind (arith, nat_tests) in
        column_tests (nat_lt (length xs) (2 ^ 32)) (slots_fit k xs) name k xs test

-- 2^32 places or more are none
pub too_many_rows : (name : List ℕ) (k : Kind) (ds : List Data) → 2 ^ 32 ≤ length ds → (each (place_of k) ds >>= column_with name k) ≡ None
too_many_rows name k ds many = by (each (place_of k) ds) refl
  where
    by : (r : Option (List Slot)) → each (place_of k) ds ≡ r → (r >>= column_with name k) ≡ None
    by None e = refl
    by (Some xs) e =
        let count : length xs ≡ length ds = each_length (place_of k) ds xs e in
        let more : 2 ^ 32 ≤ length xs = omega (arith, count, many) in
        let test : nat_lt (length xs) (2 ^ 32) ≡ false = grind (arith, nat_tests) in
        no_column (nat_lt (length xs) (2 ^ 32)) (slots_fit k xs) name k xs test
