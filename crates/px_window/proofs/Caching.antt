-- Where a key stands in a cache, and what stands there once it is put in.
use Rattle.std.proofs.Common.{◌≡◌, ℕ, suc, ◌+◌, ◌<◌, ◌≤◌, Bool, true, false, not, cond, List, [], ◌∷◌, ◌++◌, Option, Some, None, option_map, unwrap_or, filter, if◌then◌else◌, length, nat_eq, nat_lt, slice_get, position, refl, sym, ◌∙◌, ap, subst, arith}
use Rattle.std.specs.List.{position_or_len, AllByRecursion, IsDistinct}
use Rattle.std.specs.Map.{keys_of, lookup, remove_entry}
use Rattle.std.proofs.lemmas.Bool.Decides.{nat_tests}
use Rattle.indexmap.specs.IndexMap.{insert_entry, set_value_at}
use Rattle.px_window.specs.State.{State, place_of, with_cached, with_place}
use Rattle.px_window.specs.declared.cached_value.CachedValue.{CachedValue}

plus_one : (n : ℕ) → 1 + n ≡ suc n
plus_one n = omega arith

module _ {X : Type 0} (key : ℕ) where
  abbrev place : List (ℕ × X) → ℕ
  place es = position_or_len (nat_eq key) (keys_of es)

  -- a write at the key's place is a write under the key
  pub written : (es : List (ℕ × X)) (v w : X) → set_value_at (insert_entry nat_eq es key v) (position_or_len (nat_eq key) (keys_of es)) w ≡ insert_entry nat_eq es key w
  written [] v w = refl
  written (e ∷ es) v w = by (nat_eq key e.0) (written es v w)
    where
      by : (b : Bool) → set_value_at (insert_entry nat_eq es key v) (place es) w ≡ insert_entry nat_eq es key w
          → set_value_at (if b then (e.0, v) ∷ es else e ∷ insert_entry nat_eq es key v) (cond (not b) (1 + place es) 0) w ≡ (if b then (e.0, w) ∷ es else e ∷ insert_entry nat_eq es key w)
      by true h = refl
      by false h = ap (λ n. set_value_at (e ∷ insert_entry nat_eq es key v) n w) (plus_one (place es)) ∙ ap (λ t. e ∷ t) h

  -- what is put in under the key stands at its place
  pub put_there : (es : List (ℕ × X)) (v : X) → option_map (λ e. e.1) (slice_get (insert_entry nat_eq es key v) (position_or_len (nat_eq key) (keys_of es))) ≡ Some v
  put_there [] v = refl
  put_there (e ∷ es) v = by (nat_eq key e.0) (put_there es v)
    where
      by : (b : Bool) → option_map (λ e. e.1) (slice_get (insert_entry nat_eq es key v) (place es)) ≡ Some v
          → option_map (λ e. e.1) (slice_get (if b then (e.0, v) ∷ es else e ∷ insert_entry nat_eq es key v) (cond (not b) (1 + place es) 0)) ≡ Some v
      by true h = refl
      by false h = ap (λ n. option_map (λ e. e.1) (slice_get (e ∷ insert_entry nat_eq es key v) n)) (plus_one (place es)) ∙ h

  -- and the place is within
  pub put_within : (es : List (ℕ × X)) (v : X) → position_or_len (nat_eq key) (keys_of es) < length (insert_entry nat_eq es key v)
  put_within [] v = omega arith
  put_within (e ∷ es) v = by (nat_eq key e.0) (put_within es v)
    where
      by : (b : Bool) → place es < length (insert_entry nat_eq es key v)
          → cond (not b) (1 + place es) 0 < length (if b then (e.0, v) ∷ es else e ∷ insert_entry nat_eq es key v)
      by true h = omega arith
      by false h = omega (arith, h)

  length_keys : (es : List (ℕ × X)) → length (keys_of es) ≡ length es
  length_keys [] = refl
  length_keys (e ∷ es) = ap suc (length_keys es)

  -- a key that is found is found at its place, which is within
  pub found_place : (es : List (ℕ × X)) (i : ℕ) → Some i ≡ position (nat_eq key) (keys_of es) → (i ≡ position_or_len (nat_eq key) (keys_of es)) × (position_or_len (nat_eq key) (keys_of es) < length es)
  found_place es i h = by (nat_lt (place es) (length (keys_of es))) refl h
    where
      by : (b : Bool) → nat_lt (place es) (length (keys_of es)) ≡ b → Some i ≡ cond b (Some (place es)) None → (i ≡ place es) × (place es < length es)
      by true e f = let same : i ≡ place es = cc in let there : place es < length (keys_of es) = grind (arith, nat_tests) in (same, omega (arith, there, length_keys es))
      by false e f = cc

  -- to put in again what is there changes nothing
  pub put_again : (es : List (ℕ × X)) (d : X) → position_or_len (nat_eq key) (keys_of es) < length es → insert_entry nat_eq es key (unwrap_or (lookup (nat_eq key) es) d) ≡ es
  put_again [] d h = absurd (omega (arith, h))
  put_again (e ∷ es) d h = by (nat_eq key e.0) (put_again es d) h
    where
      by : (b : Bool) → (place es < length es → insert_entry nat_eq es key (unwrap_or (lookup (nat_eq key) es) d) ≡ es)
          → cond (not b) (1 + place es) 0 < length (e ∷ es)
          → (if b then (e.0, unwrap_or (cond b (Some e.1) (lookup (nat_eq key) es)) d) ∷ es else e ∷ insert_entry nat_eq es key (unwrap_or (cond b (Some e.1) (lookup (nat_eq key) es)) d)) ≡ e ∷ es
      by true rest g = refl
      by false rest g = ap (λ t. e ∷ t) (rest (omega (arith, g)))

  place_most : (es : List (ℕ × X)) → place es ≤ length es
  place_most [] = omega arith
  place_most (e ∷ es) = by (nat_eq key e.0) (place_most es)
    where
      by : (b : Bool) → place es ≤ length es → cond (not b) (1 + place es) 0 ≤ length (e ∷ es)
      by true h = omega arith
      by false h = omega (arith, h)

  -- a key that is not found has its place at the end
  pub missed_place : (es : List (ℕ × X)) → None ≡ position (nat_eq key) (keys_of es) → position_or_len (nat_eq key) (keys_of es) ≡ length es
  missed_place es h = by (nat_lt (place es) (length (keys_of es))) refl h
    where
      by : (b : Bool) → nat_lt (place es) (length (keys_of es)) ≡ b → None ≡ cond b (Some (place es)) None → place es ≡ length es
      by true e f = cc
      by false e f = let past : length (keys_of es) ≤ place es = grind (arith, nat_tests) in omega (arith, past, length_keys es, place_most es)

module _ {X : Type 0} where
  apart : (done rest : List (ℕ × X)) (k n : ℕ) (v : X) → AllByRecursion (λ y. nat_eq n y ≡ false) (keys_of (done ++ (k, v) ∷ rest)) → nat_eq k n ≡ false
  apart [] rest k n v h = let e : nat_eq n k ≡ false = h.0 in grind (arith, nat_tests)
  apart (e ∷ es) rest k n v h = apart es rest k n v h.1

  -- a key that no entry so far has goes last
  pub put_last : (done rest : List (ℕ × X)) (k : ℕ) (v : X) → IsDistinct nat_eq (keys_of (done ++ (k, v) ∷ rest)) → insert_entry nat_eq done k v ++ rest ≡ done ++ (k, v) ∷ rest
  unfolding IsDistinct
  put_last [] rest k v d = refl
  put_last (e ∷ es) rest k v d =
      ap (λ b. (if b then (e.0, v) ∷ es else e ∷ insert_entry nat_eq es k v) ++ rest) (apart es rest k e.0 v d.0) ∙ ap (λ t. e ∷ t) (put_last es rest k v d.1)

  -- a copy that takes in the first entry that is left
  pub copied_on : (done after left rest cache : List (ℕ × X)) (k : ℕ) (v : X) → (done ++ left ≡ cache) × IsDistinct nat_eq (keys_of (done ++ left)) → left ≡ (k, v) ∷ rest → after ≡ insert_entry nat_eq done k v → (after ++ rest ≡ cache) × IsDistinct nat_eq (keys_of (after ++ rest))
  copied_on done after left rest cache k v h at put =
      let same : after ++ rest ≡ done ++ left = ap (λ es. es ++ rest) put ∙ put_last done rest k v (subst (λ l. IsDistinct nat_eq (keys_of (done ++ l))) at h.1) ∙ ap (λ l. done ++ l) (sym at) in
      (same ∙ h.0, subst (λ es. IsDistinct nat_eq (keys_of es)) (sym same) h.1)

  -- the entries without a key are the same once its entry is removed
  filter_removed : (key : ℕ) (es : List (ℕ × X)) → filter (λ e. not (nat_eq key e.0)) (remove_entry (nat_eq key) es) ≡ filter (λ e. not (nat_eq key e.0)) es
  filter_removed key [] = refl
  filter_removed key (e ∷ es) = by (nat_eq key e.0) refl (filter_removed key es)
    where
      by : (b : Bool) → nat_eq key e.0 ≡ b → filter (λ x. not (nat_eq key x.0)) (remove_entry (nat_eq key) es) ≡ filter (λ x. not (nat_eq key x.0)) es
          → filter (λ x. not (nat_eq key x.0)) (cond b es (e ∷ remove_entry (nat_eq key) es)) ≡ cond (not b) (e ∷ filter (λ x. not (nat_eq key x.0)) es) (filter (λ x. not (nat_eq key x.0)) es)
      by true t rest = refl
      by false t rest = ap (λ b. cond (not b) (e ∷ filter (λ x. not (nat_eq key x.0)) (remove_entry (nat_eq key) es)) (filter (λ x. not (nat_eq key x.0)) (remove_entry (nat_eq key) es))) t ∙ ap (λ l. e ∷ l) rest

  -- and are all where the key is not there
  filter_absent : (key : ℕ) (es : List (ℕ × X)) → lookup (nat_eq key) es ≡ None → filter (λ e. not (nat_eq key e.0)) es ≡ es
  filter_absent key [] h = refl
  filter_absent key (e ∷ es) h = by (nat_eq key e.0) (filter_absent key es) h
    where
      by : (b : Bool) → (lookup (nat_eq key) es ≡ None → filter (λ x. not (nat_eq key x.0)) es ≡ es) → cond b (Some e.1) (lookup (nat_eq key) es) ≡ None
          → cond (not b) (e ∷ filter (λ x. not (nat_eq key x.0)) es) (filter (λ x. not (nat_eq key x.0)) es) ≡ e ∷ es
      by true rest g = cc
      by false rest g = ap (λ l. e ∷ l) (rest g)

  -- a cache whose key is removed, and which has it no more, is the cache without the key
  pub removed : (key : ℕ) (es left : List (ℕ × X)) → left ≡ remove_entry (nat_eq key) es → lookup (nat_eq key) left ≡ None → left ≡ filter (λ e. not (nat_eq key e.0)) es
  removed key es left h none = sym (filter_absent key left none) ∙ ap (filter (λ e. not (nat_eq key e.0))) h ∙ filter_removed key es

module _ (old now : State) (key place : ℕ) (first : CachedValue) (kept : now ≡ record old { df_cache = with_cached key first old.df_cache }) (at : place ≡ place_of key old.df_cache) where
  -- a write at the place where a value was put in leaves the state with that value under the key
  pub written_back : (w : CachedValue) → record now { df_cache = with_place place w now.df_cache } ≡ record old { df_cache = with_cached key w old.df_cache }
  written_back w =
      let write : ℕ → State → State = λ n s. record s { df_cache = with_place n w s.df_cache } in
      let with_cache : List (ℕ × CachedValue) → State = λ cache. record old { df_cache = cache } in
      ap (write place) kept ∙ ap (λ n. write n (with_cache (with_cached key first old.df_cache))) at ∙ ap with_cache (written key old.df_cache first w)

  -- and what stands there is that value
  pub stands_there : option_map (λ e. e.1) (slice_get now.df_cache place) ≡ Some first
  stands_there =
      let read : ℕ → List (ℕ × CachedValue) → Option CachedValue = λ n cache. option_map (λ e. e.1) (slice_get cache n) in
      ap (λ s. read place s.df_cache) kept ∙ ap (λ n. read n (with_cached key first old.df_cache)) at ∙ put_there key old.df_cache first

  -- which is within
  pub stands_within : place < length now.df_cache
  stands_within = rw (kept, at) (put_within key old.df_cache first)
