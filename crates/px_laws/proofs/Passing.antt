-- A test that each item of a list passes is passed by each item of the lists made of it.
use Rattle.std.proofs.Common.{◌≡◌, ℕ, zero, suc, Bool, true, false, cond, ◌&&◌, List, [], ◌∷◌, map, filter, reverse, take, drop, replicate, refl, sym, ◌∙◌, ap}
use Rattle.std.specs.List.{flat_map, list_all, zip}
use Rattle.std.proofs.lemmas.List.{take-append-drop, reverse-append}
use Rattle.std.proofs.lemmas.List.Folds.{list_all-append}
use Rattle.px_value.proofs.FitLaws.{both, all_append}

module _ {X : Type 0} (test : X → Bool) where
  halves : (n : ℕ) (xs : List X) → list_all test xs ≡ true → (list_all test (take n xs) ≡ true) × (list_all test (drop n xs) ≡ true)
  halves n xs h = both (list_all test (take n xs)) (list_all test (drop n xs)) (sym (list_all-append test (take n xs) (drop n xs)) ∙ ap (list_all test) (take-append-drop n xs) ∙ h)

  -- some rows from a row on
  pub all_window : (n m : ℕ) (xs : List X) → list_all test xs ≡ true → list_all test (take n (drop m xs)) ≡ true
  all_window n m xs h = (halves n (drop m xs) (halves m xs h).1).0

  pub all_reverse : (xs : List X) → list_all test xs ≡ true → list_all test (reverse xs) ≡ true
  all_reverse [] h = refl
  all_reverse (x ∷ xs) h =
      let p = both (test x) (list_all test xs) h in
      ap (list_all test) (reverse-append (x ∷ []) xs) ∙ all_append test (reverse xs) (x ∷ []) (all_reverse xs p.1) (λ i. p.0 i && true)

  pub all_filter : (keep : X → Bool) (xs : List X) → list_all test xs ≡ true → list_all test (filter keep xs) ≡ true
  all_filter keep [] h = refl
  all_filter keep (x ∷ xs) h = let p = both (test x) (list_all test xs) h in by (keep x) p.0 (all_filter keep xs p.1)
    where
      by : (b : Bool) → test x ≡ true → list_all test (filter keep xs) ≡ true → list_all test (cond b (x ∷ filter keep xs) (filter keep xs)) ≡ true
      by true e g = λ i. e i && g i
      by false e g = g

  pub all_replicate : (n : ℕ) (x : X) → test x ≡ true → list_all test (replicate n x) ≡ true
  all_replicate zero x h = refl
  all_replicate (suc n) x h = λ i. h i && all_replicate n x h i

  -- what is made of anything
  pub all_made : {A : Type 0} (f : A → X) (us : List A) → ((a : A) → test (f a) ≡ true) → list_all test (map f us) ≡ true
  all_made f [] h = refl
  all_made f (a ∷ us) h = λ i. h a i && all_made f us h i

  -- what is made of items that pass a test, one list after another
  pub all_flat : {A : Type 0} (on : A → Bool) (f : A → List X) (us : List A) → ((a : A) → on a ≡ true → list_all test (f a) ≡ true) → list_all on us ≡ true → list_all test (flat_map f us) ≡ true
  all_flat on f [] h e = refl
  all_flat on f (a ∷ us) h e =
      let p = both (on a) (list_all on us) e in
      all_append test (f a) (flat_map f us) (h a p.0) (all_flat on f us h p.1)

  -- what stands beside anything
  pub all_beside : {A : Type 0} (us : List A) (xs : List X) → list_all test xs ≡ true → list_all (λ (p : A × X). test p.1) (zip us xs) ≡ true
  all_beside [] xs h = refl
  all_beside (a ∷ us) [] h = refl
  all_beside (a ∷ us) (x ∷ xs) h = let p = both (test x) (list_all test xs) h in λ i. p.0 i && all_beside us xs p.1 i

  pub all_seconds : {A : Type 0} (ps : List (A × X)) → list_all (λ (p : A × X). test p.1) ps ≡ true → list_all test (map (λ (p : A × X). p.1) ps) ≡ true
  all_seconds [] h = refl
  all_seconds (p ∷ ps) h = let q = both (test p.1) (list_all (λ p. test p.1) ps) h in λ i. q.0 i && all_seconds ps q.1 i
