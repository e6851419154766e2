-- One more row keeps the groups those of the rows so far.
use Rattle.std.proofs.Common.{◌≡◌, ℕ, suc, ◌+◌, Bool, true, false, cond, ◌||◌, List, [], ◌∷◌, ◌++◌, length, fold, map, refl, sym, ◌∙◌, ap, arith, get_or, zero, not}
use Rattle.std.proofs.Math.ListN.{set}
use Rattle.std.proofs.lemmas.List.{append-nil}
use Rattle.std.specs.Cmp.{IsEquivalence}
use Rattle.std.specs.List.{list_any, position_or_len, IsDistinct, AllByRecursion}
use Rattle.std.proofs.lemmas.List.Folds.{list_any-append}
use Rattle.std.proofs.lemmas.Map.Steps.{list_any_congr}
use Rattle.px_frame.specs.Enter.{entered}
use Rattle.px_frame.proofs.PartLaws.{numbers_end}
use Rattle.px_frame.specs.Parts.{numbers, with_key, distinct, rows_of_keys}

module _ {K : Type 0} where
  pub numbers_none : (p : K → Bool) (n : ℕ) (ks : List K) → list_any p ks ≡ false → numbers p n ks ≡ []
  numbers_none p n [] h = refl
  numbers_none p n (x ∷ xs) h = by (p x) refl (numbers_none p (n + 1) xs)
    where
      by : (b : Bool) → p x ≡ b → (list_any p xs ≡ false → numbers p (n + 1) xs ≡ []) → numbers p n (x ∷ xs) ≡ []
      by true e rest = let f : (true || list_any p xs) ≡ false = ap (λ c. c || list_any p xs) (sym e) ∙ h in cc
      by false e rest = ap (λ c. cond c (n ∷ numbers p (n + 1) xs) (numbers p (n + 1) xs)) e ∙ rest (ap (λ c. c || list_any p xs) (sym e) ∙ h)

  module _ (eq : K → K → Bool) (laws : IsEquivalence eq) where
    pub any_with_key : (ks : List K) (k q : K) → list_any (eq q) (with_key eq ks k) ≡ (list_any (eq q) ks || eq q k)
    any_with_key ks k q = by (list_any (eq k) ks) refl
      where
        or_false : (a : Bool) → (a || false) ≡ a
        or_false true = refl
        or_false false = refl

        or_same : (a b : Bool) → (b ≡ true → a ≡ true) → a ≡ (a || b)
        or_same true b h = refl
        or_same false true h = h refl
        or_same false false h = refl

        by : (b : Bool) → list_any (eq k) ks ≡ b → list_any (eq q) (with_key eq ks k) ≡ (list_any (eq q) ks || eq q k)
        by true e =
            ap (λ c. list_any (eq q) (cond c ks (ks ++ k ∷ []))) e
            ∙ or_same (list_any (eq q) ks) (eq q k) (λ s. list_any_congr laws q k ks s ∙ e)
        by false e =
            ap (λ c. list_any (eq q) (cond c ks (ks ++ k ∷ []))) e
            ∙ list_any-append (eq q) ks (k ∷ []) ∙ ap (λ c. list_any (eq q) ks || c) (or_false (eq q k))

    or_or : (a b c : Bool) → ((a || b) || c) ≡ (a || (b || c))
    or_or true b c = refl
    or_or false b c = refl

    or_none : (a : Bool) → a ≡ (a || false)
    or_none true = refl
    or_none false = refl

    pub any_distinct : (from ks : List K) (q : K) → list_any (eq q) (fold (with_key eq) from ks) ≡ (list_any (eq q) from || list_any (eq q) ks)
    any_distinct from [] q = or_none (list_any (eq q) from)
    any_distinct from (k ∷ ks) q =
        any_distinct (with_key eq from k) ks q ∙ ap (λ c. c || list_any (eq q) ks) (any_with_key from k q)
        ∙ or_or (list_any (eq q) from) (eq q k) (list_any (eq q) ks)

    -- keys that are not k keep their rows
    numbers_same : (ks : List K) (x k : K) → eq k x ≡ false → numbers (eq x) 0 (ks ++ k ∷ []) ≡ numbers (eq x) 0 ks
    numbers_same ks x k e = numbers_end (eq x) ks k false (laws.symm x k ∙ e) ∙ append-nil (numbers (eq x) 0 ks)

    others : (xs ks : List K) (k x : K) → eq k x ≡ true → AllByRecursion (λ y. eq x y ≡ false) xs → rows_of_keys eq xs (ks ++ k ∷ []) ≡ rows_of_keys eq xs ks
    others [] ks k x e h = refl
    others (y ∷ ys) ks k x e h = λ i. numbers_same ks y k (laws.congr k x y e ∙ h.0) i ∷ others ys ks k x e h.1 i

    past_first : (x : K) (xs : List K) (k : K) → eq k x ≡ false → with_key eq (x ∷ xs) k ≡ x ∷ with_key eq xs k
    past_first x xs k e = ap (λ c. cond (c || list_any (eq k) xs) (x ∷ xs) (x ∷ (xs ++ k ∷ []))) e ∙ by (list_any (eq k) xs)
      where
        by : (b : Bool) → cond b (x ∷ xs) (x ∷ (xs ++ k ∷ [])) ≡ x ∷ cond b xs (xs ++ k ∷ [])
        by true = refl
        by false = refl

    pub enter_rows : (firsts ks : List K) (k : K) → IsDistinct eq firsts → (list_any (eq k) firsts ≡ false → list_any (eq k) ks ≡ false)
        → entered eq firsts (rows_of_keys eq firsts ks) k (length ks) ≡ rows_of_keys eq (with_key eq firsts k) (ks ++ k ∷ [])
    unfolding IsDistinct
    enter_rows [] ks k d h = ap (λ ns. ns ∷ []) (sym (numbers_end (eq k) ks k true (laws.refl k) ∙ ap (λ ns. ns ++ length ks ∷ []) (numbers_none (eq k) 0 ks (h refl))))
    enter_rows (x ∷ xs) ks k d h = by (eq k x) refl (enter_rows xs ks k d.1)
      where
        by : (b : Bool) → eq k x ≡ b
            → ((list_any (eq k) xs ≡ false → list_any (eq k) ks ≡ false) → entered eq xs (rows_of_keys eq xs ks) k (length ks) ≡ rows_of_keys eq (with_key eq xs k) (ks ++ k ∷ []))
            → entered eq (x ∷ xs) (rows_of_keys eq (x ∷ xs) ks) k (length ks) ≡ rows_of_keys eq (with_key eq (x ∷ xs) k) (ks ++ k ∷ [])
        by true e rest =
            ap (λ c. cond c ((numbers (eq x) 0 ks ++ length ks ∷ []) ∷ rows_of_keys eq xs ks) (numbers (eq x) 0 ks ∷ entered eq xs (rows_of_keys eq xs ks) k (length ks))) e
            ∙ (λ i. sym (numbers_end (eq x) ks k true (laws.symm x k ∙ e)) i ∷ sym (others xs ks k x e d.0) i)
            ∙ ap (λ c. rows_of_keys eq (cond (c || list_any (eq k) xs) (x ∷ xs) (x ∷ (xs ++ k ∷ []))) (ks ++ k ∷ [])) (sym e)
        by false e rest =
            ap (λ c. cond c ((numbers (eq x) 0 ks ++ length ks ∷ []) ∷ rows_of_keys eq xs ks) (numbers (eq x) 0 ks ∷ entered eq xs (rows_of_keys eq xs ks) k (length ks))) e
            ∙ (λ i. sym (numbers_same ks x k e) i ∷ rest (λ f. h (ap (λ c. c || list_any (eq k) xs) e ∙ f)) i)
            ∙ ap (λ fs. rows_of_keys eq fs (ks ++ k ∷ [])) (sym (past_first x xs k e))

    -- what the program does to the groups, each a record that holds a list
    module _ {V : Type 0} (items : V → List ℕ) where
      pub enter_new : (ks : List K) (gs : List V) (k : K) (row : ℕ) (v : V) → length ks ≡ length gs → list_any (eq k) ks ≡ false → items v ≡ row ∷ []
          → map items (gs ++ v ∷ []) ≡ entered eq ks (map items gs) k row
      enter_new [] [] k row v n h e = ap (λ ns. ns ∷ []) e
      enter_new [] (g ∷ gs) k row v n h e = absurd (omega (arith, n))
      enter_new (x ∷ xs) [] k row v n h e = absurd (omega (arith, n))
      enter_new (x ∷ xs) (g ∷ gs) k row v n h e = by (eq k x) refl (enter_new xs gs k row v)
        where
          by : (b : Bool) → eq k x ≡ b → (length xs ≡ length gs → list_any (eq k) xs ≡ false → items v ≡ row ∷ [] → map items (gs ++ v ∷ []) ≡ entered eq xs (map items gs) k row)
              → map items (g ∷ (gs ++ v ∷ [])) ≡ entered eq (x ∷ xs) (map items (g ∷ gs)) k row
          by true f rest = let z : (true || list_any (eq k) xs) ≡ false = ap (λ c. c || list_any (eq k) xs) (sym f) ∙ h in cc
          by false f rest =
              ap (λ ps. items g ∷ ps) (rest (omega (arith, n)) (ap (λ c. c || list_any (eq k) xs) (sym f) ∙ h) e)
              ∙ ap (λ c. cond c ((items g ++ row ∷ []) ∷ map items gs) (items g ∷ entered eq xs (map items gs) k row)) (sym f)

      pub enter_old : (ks : List K) (gs : List V) (k : K) (row : ℕ) (v d : V) (at : ℕ) → length ks ≡ length gs → list_any (eq k) ks ≡ true → at ≡ position_or_len (eq k) ks
          → items v ≡ items (get_or gs at d) ++ row ∷ [] → map items (set gs at v) ≡ entered eq ks (map items gs) k row
      enter_old [] gs k row v d at n h p e = cc
      enter_old (x ∷ xs) [] k row v d at n h p e = absurd (omega (arith, n))
      enter_old (x ∷ xs) (g ∷ gs) k row v d zero n h p e = by (eq k x) refl
        where
          by : (b : Bool) → eq k x ≡ b → map items (v ∷ gs) ≡ entered eq (x ∷ xs) (map items (g ∷ gs)) k row
          by true f =
              ap (λ q. q ∷ map items gs) e
              ∙ ap (λ c. cond c ((items g ++ row ∷ []) ∷ map items gs) (items g ∷ entered eq xs (map items gs) k row)) (sym f)
          by false f = let q : 0 ≡ 1 + position_or_len (eq k) xs = p ∙ ap (λ c. cond (not c) (1 + position_or_len (eq k) xs) 0) f in absurd (omega (arith, q))
      enter_old (x ∷ xs) (g ∷ gs) k row v d (suc m) n h p e = by (eq k x) refl (enter_old xs gs k row v d m (omega (arith, n)))
        where
          by : (b : Bool) → eq k x ≡ b
              → (list_any (eq k) xs ≡ true → m ≡ position_or_len (eq k) xs → items v ≡ items (get_or gs m d) ++ row ∷ [] → map items (set gs m v) ≡ entered eq xs (map items gs) k row)
              → map items (g ∷ set gs m v) ≡ entered eq (x ∷ xs) (map items (g ∷ gs)) k row
          by true f rest = let q : suc m ≡ 0 = p ∙ ap (λ c. cond (not c) (1 + position_or_len (eq k) xs) 0) f in absurd (omega (arith, q))
          by false f rest =
              let q : suc m ≡ 1 + position_or_len (eq k) xs = p ∙ ap (λ c. cond (not c) (1 + position_or_len (eq k) xs) 0) f in
              ap (λ ps. items g ∷ ps) (rest (ap (λ c. c || list_any (eq k) xs) (sym f) ∙ h) (omega (arith, q)) e)
              ∙ ap (λ c. cond c ((items g ++ row ∷ []) ∷ map items gs) (items g ∷ entered eq xs (map items gs) k row)) (sym f)

    -- a loop over the keys
    pub enter_step : (firsts : List K) (ps qs : List (List ℕ)) (ks : List K) (k : K) (row : ℕ) → IsDistinct eq firsts → firsts ≡ distinct eq ks → ps ≡ rows_of_keys eq firsts ks → row ≡ length ks
        → qs ≡ entered eq firsts ps k row → qs ≡ rows_of_keys eq (with_key eq firsts k) (ks ++ k ∷ [])
    enter_step firsts ps qs ks k row d f p r q =
        q ∙ (λ i. entered eq firsts (p i) k (r i))
        ∙ enter_rows firsts ks k d (λ h. sym (any_distinct [] ks k) ∙ ap (list_any (eq k)) (sym f) ∙ h)

    pub enter_made : (firsts news : List K) (ps qs : List (List ℕ)) (ks : List K) (k : K) (row : ℕ) → IsDistinct eq firsts → firsts ≡ distinct eq ks → ps ≡ rows_of_keys eq firsts ks → row ≡ length ks
        → qs ≡ entered eq firsts ps k row → news ≡ with_key eq firsts k → qs ≡ rows_of_keys eq news (ks ++ k ∷ [])
    enter_made firsts news ps qs ks k row d f p r q n = enter_step firsts ps qs ks k row d f p r q ∙ ap (λ fs. rows_of_keys eq fs (ks ++ k ∷ [])) (sym n)
