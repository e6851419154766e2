-- What is made of the parts of chunks, merged for each key, is what is made of the parts of the whole.
use Rattle.std.proofs.Common.{◌≡◌, ℕ, suc, ◌+◌, ◌<◌, ◌≤◌, Bool, true, false, cond, ◌||◌, ◌&&◌, List, [], ◌∷◌, ◌++◌, Option, Some, None, option_map, option_and_then, length, get_or, map, fold, refl, sym, ◌∙◌, ap, subst, arith}
use Rattle.std.specs.Cmp.{IsEquivalence}
use Rattle.std.specs.List.{list_any, list_all}
use Rattle.std.proofs.lemmas.List.Folds.{list_all-append}
use Rattle.std.proofs.lemmas.Simd.{map-map}
use Rattle.px_value.proofs.FitLaws.{both}
use Rattle.px_value.specs.Option.{each}
use Rattle.px_laws.specs.Merge.{has_rows, are_parts}
use Rattle.px_frame.specs.Groups.{first_row}
use Rattle.px_frame.specs.Parts.{numbers, with_key, distinct, parts}
use Rattle.px_cuts.specs.Cut.{joined, parts_from, chunk_keys, chunk_parts}
use Rattle.px_cuts.proofs.Cut.{kept, items_kept, numbers_suc, rows_of_chunks, keys_of_chunks, length-chunk_parts}

-- a test that follows from another
pub weaker : {X : Type 0} (p q : X → Bool) → ((x : X) → p x ≡ true → q x ≡ true) → (xs : List X) → list_all p xs ≡ true → list_all q xs ≡ true
weaker p q f [] h = refl
weaker p q f (x ∷ xs) h = let s = both (p x) (list_all p xs) h in λ i. f x s.0 i && weaker p q f xs s.1 i

-- what is made of a first item and of those that follow
pub record IsNext {B : Type 0} (o : Option B) (r : Option (List B)) (ys : List B) : Type 0 where
  pub item : B
  pub rest : List B
  pub made : o ≡ Some item
  pub others : r ≡ Some rest
  pub all : ys ≡ item ∷ rest

pub next : {B : Type 0} (o : Option B) (r : Option (List B)) (ys : List B) → option_and_then (λ y. option_map (λ zs. y ∷ zs) r) o ≡ Some ys → IsNext o r ys
next None r ys h = cc
next (Some y) None ys h = cc
next (Some y) (Some zs) ys h = record { item = y; rest = zs; made = refl; others = refl; all = cc }

-- nothing is made of no item
pub none_left : {B : Type 0} (ys : List B) → Some [] ≡ Some ys → ys ≡ []
none_left ys h = cc

module _ {A B : Type 0} (f : A → Option B) where
  -- as much is made as there are items
  pub each_length : (xs : List A) (ys : List B) → each f xs ≡ Some ys → length ys ≡ length xs
  each_length [] ys h = ap length (none_left ys h)
  each_length (x ∷ xs) ys h = let n = next (f x) (each f xs) ys h in ap length n.all ∙ ap suc (each_length xs n.rest n.others)

  -- what is made of the items that are kept is kept of what is made
  pub each_kept : {K : Type 0} (test : K → Bool) (ks : List K) (xs : List A) (ys : List B) → each f xs ≡ Some ys → each f (kept test ks xs) ≡ Some (kept test ks ys)
  each_kept test [] xs ys h = refl
  each_kept test (k ∷ ks) [] ys h = subst (λ zs. Some [] ≡ Some (kept test (k ∷ ks) zs)) (sym (none_left ys h)) refl
  each_kept test (k ∷ ks) (x ∷ xs) ys h =
      let n = next (f x) (each f xs) ys h in
      subst (λ zs. each f (cond (test k) (x ∷ kept test ks xs) (kept test ks xs)) ≡ Some (kept test (k ∷ ks) zs)) (sym n.all) (by (test k) n.item n.rest n.made (each_kept test ks xs n.rest n.others))
    where
      by : (b : Bool) (y : B) (zs : List B) → f x ≡ Some y → each f (kept test ks xs) ≡ Some (kept test ks zs)
          → each f (cond b (x ∷ kept test ks xs) (kept test ks xs)) ≡ Some (cond b (y ∷ kept test ks zs) (kept test ks zs))
      by true y zs e rest = λ i. option_and_then (λ y. option_map (λ ws. y ∷ ws) (rest i)) (e i)
      by false y zs e rest = rest

-- what holds of all items holds of those that are kept
all_kept : {K X : Type 0} (p : X → Bool) (test : K → Bool) (ks : List K) (xs : List X) → list_all p xs ≡ true → list_all p (kept test ks xs) ≡ true
all_kept p test [] xs h = refl
all_kept p test (k ∷ ks) [] h = refl
all_kept p test (k ∷ ks) (x ∷ xs) h = let s = both (p x) (list_all p xs) h in by (test k) s.0 (all_kept p test ks xs s.1)
  where
    by : (b : Bool) → p x ≡ true → list_all p (kept test ks xs) ≡ true → list_all p (cond b (x ∷ kept test ks xs) (kept test ks xs)) ≡ true
    by true e rest = λ i. e i && rest i
    by false e rest = rest

-- parts with rows are parts where a key has one of them
parts_kept : {K : Type 0} (test : K → Bool) (ks : List K) (xs : List (List ℕ)) → length xs ≡ length ks → list_all has_rows xs ≡ true → list_any test ks ≡ true → are_parts (kept test ks xs) ≡ true
parts_kept test [] xs l h any = cc
parts_kept test (k ∷ ks) [] l h any = absurd (omega (arith, l))
parts_kept test (k ∷ ks) (x ∷ xs) l h any =
    let s = both (has_rows x) (list_all has_rows xs) h in
    by (test k) any s.0 (all_kept has_rows test ks xs s.1) (parts_kept test ks xs (omega (arith, l)) s.1)
  where
    by : (b : Bool) → (b || list_any test ks) ≡ true → has_rows x ≡ true → list_all has_rows (kept test ks xs) ≡ true → (list_any test ks ≡ true → are_parts (kept test ks xs) ≡ true)
        → are_parts (cond b (x ∷ kept test ks xs) (kept test ks xs)) ≡ true
    by true g e all rest = λ i. e i && all i
    by false g e all rest = rest g

module _ {K : Type 0} where
  -- there are rows where a key passes
  pub rows_any : (test : K → Bool) (n : ℕ) (ks : List K) → has_rows (numbers test n ks) ≡ list_any test ks
  rows_any test n [] = refl
  rows_any test n (k ∷ ks) = by (test k) (rows_any test (n + 1) ks)
    where
      by : (b : Bool) → has_rows (numbers test (n + 1) ks) ≡ list_any test ks → has_rows (cond b (n ∷ numbers test (n + 1) ks) (numbers test (n + 1) ks)) ≡ (b || list_any test ks)
      by true h = refl
      by false h = h

  -- no more numbers than keys
  pub length-numbers-le : (test : K → Bool) (n : ℕ) (ks : List K) → length (numbers test n ks) ≤ length ks
  length-numbers-le test n [] = omega arith
  length-numbers-le test n (k ∷ ks) = by (test k) (length-numbers-le test (n + 1) ks)
    where
      by : (b : Bool) → length (numbers test (n + 1) ks) ≤ length ks → length (cond b (n ∷ numbers test (n + 1) ks) (numbers test (n + 1) ks)) ≤ suc (length ks)
      by true rest = omega (arith, rest)
      by false rest = omega (arith, rest)

  -- the key at the first row that passes passes
  pub first_passes : (test : K → Bool) (d : K) (ks : List K) → has_rows (numbers test 0 ks) ≡ true → test (get_or ks (first_row (numbers test 0 ks)) d) ≡ true
  first_passes test d [] h = cc
  first_passes test d (k ∷ ks) h = by (test k) refl h (first_passes test d ks)
    where
      moved : (ns : List ℕ) → has_rows (map suc ns) ≡ true → (has_rows ns ≡ true) × (first_row (map suc ns) ≡ suc (first_row ns))
      moved [] g = cc
      moved (n ∷ ns) g = (refl, refl)

      by : (b : Bool) → test k ≡ b → has_rows (cond b (0 ∷ numbers test (0 + 1) ks) (numbers test (0 + 1) ks)) ≡ true → (has_rows (numbers test 0 ks) ≡ true → test (get_or ks (first_row (numbers test 0 ks)) d) ≡ true)
          → test (get_or (k ∷ ks) (first_row (cond b (0 ∷ numbers test (0 + 1) ks) (numbers test (0 + 1) ks))) d) ≡ true
      by true e g rest = e
      by false e g rest =
          let m = moved (numbers test 0 ks) (ap has_rows (sym (numbers_suc test 0 ks)) ∙ g) in
          ap (λ i. test (get_or (k ∷ ks) i d)) (ap first_row (numbers_suc test 0 ks) ∙ m.1) ∙ rest m.0

  module _ {eq : K → K → Bool} (laws : IsEquivalence eq) where
    -- what holds of each key holds of those told apart
    all_apart : (p : K → Bool) (ks seen : List K) → list_all p seen ≡ true → list_all p ks ≡ true → list_all p (fold (with_key eq) seen ks) ≡ true
    all_apart p [] seen of_seen of_ks = of_seen
    all_apart p (k ∷ ks) seen of_seen of_ks = let s = both (p k) (list_all p ks) of_ks in all_apart p ks (with_key eq seen k) (by (list_any (eq k) seen) s.0) s.1
      where
        by : (b : Bool) → p k ≡ true → list_all p (cond b seen (seen ++ k ∷ [])) ≡ true
        by true e = of_seen
        by false e = list_all-append p seen (k ∷ []) ∙ (λ i. of_seen i && (e i && true))

    -- each key is one of the keys
    each_there : (ks : List K) → list_all (λ f. list_any (eq f) ks) ks ≡ true
    each_there [] = refl
    each_there (k ∷ ks) = λ i. (laws.refl k i || list_any (eq k) ks) && weaker (λ f. list_any (eq f) ks) (λ f. eq f k || list_any (eq f) ks) (λ f e. or_right (eq f k) (list_any (eq f) ks) e) ks (each_there ks) i
      where
        or_right : (a b : Bool) → b ≡ true → (a || b) ≡ true
        or_right true b e = refl
        or_right false b e = e

    -- so each that is told apart
    pub apart_there : (ks : List K) → list_all (λ f. list_any (eq f) ks) (distinct eq ks) ≡ true
    apart_there ks = all_apart (λ f. list_any (eq f) ks) ks [] refl (each_there ks)

    -- a part of a chunk has rows
    parts_from_rows : (n : ℕ) (ks fs : List K) → list_all (λ f. list_any (eq f) ks) fs ≡ true → list_all has_rows (map (λ f. numbers (eq f) n ks) fs) ≡ true
    parts_from_rows n ks [] h = refl
    parts_from_rows n ks (f ∷ fs) h = let s = both (list_any (eq f) ks) (list_all (λ g. list_any (eq g) ks) fs) h in λ i. (rows_any (eq f) n ks ∙ s.0) i && parts_from_rows n ks fs s.1 i

    -- so of each chunk
    pub chunk_parts_rows : (n : ℕ) (kss : List (List K)) → list_all has_rows (chunk_parts eq n kss) ≡ true
    chunk_parts_rows n [] = refl
    chunk_parts_rows n (ks ∷ kss) =
        list_all-append has_rows (parts_from eq n ks) (chunk_parts eq (n + length ks) kss) ∙ (λ i. parts_from_rows n ks (distinct eq ks) (apart_there ks) i && chunk_parts_rows (n + length ks) kss i)

    -- the keys at the first rows of the parts are the keys told apart
    pub keys_of_parts : (same : (a b : K) → eq a b ≡ true → a ≡ b) (d : K) (ks : List K) → map (λ p. get_or ks (first_row p) d) (parts eq ks) ≡ distinct eq ks
    keys_of_parts same d ks = map-map (λ p. get_or ks (first_row p) d) (λ f. numbers (eq f) 0 ks) (distinct eq ks) ∙ all (distinct eq ks) (apart_there ks)
      where
        all : (fs : List K) → list_all (λ f. list_any (eq f) ks) fs ≡ true → map (λ f. get_or ks (first_row (numbers (eq f) 0 ks)) d) fs ≡ fs
        all [] h = refl
        all (f ∷ fs) h =
            let s = both (list_any (eq f) ks) (list_all (λ g. list_any (eq g) ks) fs) h in
            λ i. sym (same f (get_or ks (first_row (numbers (eq f) 0 ks)) d) (first_passes (eq f) d ks (rows_any (eq f) 0 ks ∙ s.0))) i ∷ all fs s.1 i

    module _ {X : Type 0} (d : X) (f : List ℕ → Option X) (merge : List X → X) (bound : ℕ) where
      -- what is made of parts with rows, fewer than the bound together, merged is what is made of all their rows
      abbrev pub Merges : Type 0
      Merges = (ps : List (List ℕ)) (vs : List X) → are_parts ps ≡ true → length (joined ps) < bound → each f ps ≡ Some vs → f (joined ps) ≡ Some (merge vs)

      -- at one key
      merged_at : Merges → (k : K) (kss : List (List K)) (vs : List X) → length (joined kss) < bound → each f (chunk_parts eq 0 kss) ≡ Some vs → list_any (eq k) (chunk_keys eq kss) ≡ true
          → f (numbers (eq k) 0 (joined kss)) ≡ Some (merge (map (λ i. get_or vs i d) (numbers (eq k) 0 (chunk_keys eq kss))))
      merged_at law k kss vs short h any =
          let rows = rows_of_chunks laws k 0 kss in
          let size = length-chunk_parts eq 0 kss in
          let few : length (joined (kept (eq k) (chunk_keys eq kss) (chunk_parts eq 0 kss))) < bound = omega (arith, ap length rows, length-numbers-le (eq k) 0 (joined kss), short) in
          ap f (sym rows)
          ∙ law (kept (eq k) (chunk_keys eq kss) (chunk_parts eq 0 kss)) (kept (eq k) (chunk_keys eq kss) vs)
          (parts_kept (eq k) (chunk_keys eq kss) (chunk_parts eq 0 kss) size (chunk_parts_rows 0 kss) any) few (each_kept f (eq k) (chunk_keys eq kss) (chunk_parts eq 0 kss) vs h)
          ∙ ap (λ ws. Some (merge ws)) (sym (items_kept (eq k) d (chunk_keys eq kss) vs (each_length f (chunk_parts eq 0 kss) vs h ∙ size)))

      -- at some keys
      merged_at_each : Merges → (kss : List (List K)) (vs : List X) → length (joined kss) < bound → each f (chunk_parts eq 0 kss) ≡ Some vs → (fs : List K) → list_all (λ k. list_any (eq k) (chunk_keys eq kss)) fs ≡ true
          → each f (map (λ k. numbers (eq k) 0 (joined kss)) fs) ≡ Some (map (λ g. merge (map (λ i. get_or vs i d) g)) (map (λ k. numbers (eq k) 0 (chunk_keys eq kss)) fs))
      merged_at_each law kss vs short h [] any = refl
      merged_at_each law kss vs short h (k ∷ fs) any =
          let s = both (list_any (eq k) (chunk_keys eq kss)) (list_all (λ l. list_any (eq l) (chunk_keys eq kss)) fs) any in
          λ i. option_and_then (λ y. option_map (λ ys. y ∷ ys) (merged_at_each law kss vs short h fs s.1 i)) (merged_at law k kss vs short h s.0 i)

      -- what is made of the parts of chunks, merged for each part of their keys, is what is made of the parts of the whole
      pub chunks_merge : Merges → (kss : List (List K)) (vs : List X) → length (joined kss) < bound → each f (chunk_parts eq 0 kss) ≡ Some vs
          → each f (parts eq (joined kss)) ≡ Some (map (λ g. merge (map (λ i. get_or vs i d) g)) (parts eq (chunk_keys eq kss)))
      chunks_merge law kss vs short h =
          ap (λ fs. each f (map (λ k. numbers (eq k) 0 (joined kss)) fs)) (sym (keys_of_chunks laws kss))
          ∙ merged_at_each law kss vs short h (distinct eq (chunk_keys eq kss)) (apart_there (chunk_keys eq kss))
