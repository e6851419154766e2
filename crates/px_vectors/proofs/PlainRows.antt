-- One more row among the first rows of keys, and among the rows that have a key.
use Rattle.std.proofs.Common.{◌≡◌, ℕ, ◌+◌, Bool, true, false, cond, List, [], ◌∷◌, ◌++◌, map, refl, sym, ◌∙◌, ap}
use Rattle.std.specs.List.{list_any}
use Rattle.std.proofs.lemmas.List.{append-nil, map_push}
use Rattle.std.proofs.lemmas.List.FromFn.{length-map-range_with_len}
use Rattle.px_column.specs.Prelude.{Slot, Series}
use Rattle.px_column.specs.Equality.{row_eq}
use Rattle.px_column.specs.Key.{key_at, keys_of}
use Rattle.px_frame.specs.Parts.{distinct, numbers}
use Rattle.px_frame.proofs.PartLaws.{keys_step, numbers_end}
use Rattle.px_column.proofs.KeyLaws.{keys_push}

module _ (by : List Series) where
  -- a row whose key is new
  pub first_added : (n : ℕ) (firsts news : List ℕ) → map (key_at by) firsts ≡ distinct row_eq (keys_of by n) → list_any (row_eq (key_at by n)) (map (key_at by) firsts) ≡ false → news ≡ firsts ++ n ∷ []
      → map (key_at by) news ≡ distinct row_eq (keys_of by (n + 1))
  first_added n firsts news h new e =
      let keys = map (key_at by) firsts in
      keys_step by n keys (map (key_at by) news) (key_at by n) refl h
      (ap (map (key_at by)) e ∙ map_push (key_at by) firsts n ∙ ap (λ b. cond b keys (keys ++ key_at by n ∷ [])) (sym new))

  -- a row whose key was there before
  pub first_kept : (n : ℕ) (firsts : List ℕ) → map (key_at by) firsts ≡ distinct row_eq (keys_of by n) → list_any (row_eq (key_at by n)) (map (key_at by) firsts) ≡ true
      → map (key_at by) firsts ≡ distinct row_eq (keys_of by (n + 1))
  first_kept n firsts h old =
      let keys = map (key_at by) firsts in
      keys_step by n keys keys (key_at by n) refl h (ap (λ b. cond b keys (keys ++ key_at by n ∷ [])) (sym old))

  module _ (test : List Slot → Bool) where
    row_next : (n : ℕ) (rows news : List ℕ) (b : Bool) → rows ≡ numbers test 0 (keys_of by n) → test (key_at by n) ≡ b → news ≡ rows ++ cond b (n ∷ []) [] → news ≡ numbers test 0 (keys_of by (n + 1))
    row_next n rows news b h is e =
        e ∙ (λ i. h i ++ cond b (sym (length-map-range_with_len (key_at by) 0 n) i ∷ []) [])
        ∙ sym (numbers_end test (keys_of by n) (key_at by n) b is) ∙ ap (numbers test 0) (sym (keys_push by n))

    -- a row that has the key
    pub row_added : (n : ℕ) (rows news : List ℕ) → rows ≡ numbers test 0 (keys_of by n) → test (key_at by n) ≡ true → news ≡ rows ++ n ∷ [] → news ≡ numbers test 0 (keys_of by (n + 1))
    row_added n rows news h is e = row_next n rows news true h is e

    -- a row that has another key
    pub row_passed : (n : ℕ) (rows : List ℕ) → rows ≡ numbers test 0 (keys_of by n) → test (key_at by n) ≡ false → rows ≡ numbers test 0 (keys_of by (n + 1))
    row_passed n rows h is = row_next n rows rows false h is (sym (append-nil rows))
