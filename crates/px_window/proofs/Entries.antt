-- Entries under keys: what is found, and what is put in.
use Rattle.std.proofs.Common.{◌≡◌, ℕ, ◌+◌, Bool, true, false, cond, List, [], ◌&&◌, ◌==◌, ◌∷◌, ◌++◌, Option, Some, None, Result, Ok, Err, IfSome, option_map, is_some, length, if◌then◌else◌, refl, sym, ◌∙◌, ap, subst, arith, length-append}
use Rattle.std.specs.Borrow.{Bor}
use Rattle.std.specs.List.{AllByRecursion, IsDistinct, list_any}
use Rattle.std.proofs.lemmas.Bool.Decides.{Decides-eqb}
use Rattle.std.specs.Map.{keys_of, lookup}
use Rattle.indexmap.specs.IndexMap.{insert_entry}
use Rattle.px_window.specs.Key.{Key, key_eq, grouped_in, ordered_grouped, with_order}
use Rattle.px_window.specs.KeyDecided.{key_decides}
use Rattle.px_value.specs.declared.error.PxError.{PxError}
use Rattle.px_column.specs.Prelude.{Series}
use Rattle.px_value.specs.declared.sort_options.SortOptions.{SortOptions}
use Rattle.px_frame.specs.Frame.{all_have_height}
use Rattle.px_frame.specs.Groups.{Groups, is_list}
use Rattle.px_window.specs.Cache.{Grown, has_entry}
use Rattle.px_window.specs.Places.{HoldsEachRowOnce}
use Rattle.px_window.proofs.Sorted.{each_once}

module _ {V : Type 0} (P : Key → V → Type 0) where
  -- what is found under a key is as all is
  found_exact : (k : Key) (es : List (Key × V)) → AllByRecursion (λ e. P e.0 e.1) es → IfSome (lookup (key_eq k) es) (P k)
  found_exact k [] h = tt
  found_exact k (e ∷ es) h = by (key_eq k e.0) refl (found_exact k es h.1)
    where
      by : (b : Bool) → key_eq k e.0 ≡ b → IfSome (lookup (key_eq k) es) (P k) → IfSome (cond b (Some e.1) (lookup (key_eq k) es)) (P k)
      by true t rest = subst (λ j. P j e.1) (sym ((key_decides k e.0).0 t)) h.0
      by false t rest = rest

  pub lent_exact : (k : Key) (es : List (Key × V)) (o : Option (Bor V)) → AllByRecursion (λ e. P e.0 e.1) es → option_map (λ g. g.now) o ≡ lookup (key_eq k) es → IfSome o (λ g. P k g.now)
  lent_exact k es None h found = tt
  lent_exact k es (Some g) h found = subst (λ o. IfSome o (P k)) (sym found) (found_exact k es h)

  -- all stays so where such a one is put in
  pub put_exact : (es : List (Key × V)) (k : Key) (v : V) → AllByRecursion (λ e. P e.0 e.1) es → P k v → AllByRecursion (λ e. P e.0 e.1) (insert_entry key_eq es k v)
  put_exact [] k v h p = (p, tt)
  put_exact (e ∷ es) k v h p = by (key_eq k e.0) refl (put_exact es k v h.1 p)
    where
      by : (b : Bool) → key_eq k e.0 ≡ b → AllByRecursion (λ e. P e.0 e.1) (insert_entry key_eq es k v) → AllByRecursion (λ e. P e.0 e.1) (if b then (e.0, v) ∷ es else e ∷ insert_entry key_eq es k v)
      by true t rest = (subst (λ j. P j v) ((key_decides k e.0).0 t) p, h.1)
      by false t rest = (h.0, rest)

module _ {V : Type 0} where
  -- a key that is not there goes last
  pub put_last : (es : List (Key × V)) (k : Key) (v : V) → lookup (key_eq k) es ≡ None → insert_entry key_eq es k v ≡ es ++ (k, v) ∷ []
  put_last [] k v h = refl
  put_last (e ∷ es) k v h = by (key_eq k e.0) h (put_last es k v)
    where
      by : (b : Bool) → cond b (Some e.1) (lookup (key_eq k) es) ≡ None → (lookup (key_eq k) es ≡ None → insert_entry key_eq es k v ≡ es ++ (k, v) ∷ []) → (if b then (e.0, v) ∷ es else e ∷ insert_entry key_eq es k v) ≡ e ∷ (es ++ (k, v) ∷ [])
      by true g rest = absurd (cc g)
      by false g rest = ap (λ l. e ∷ l) (rest g)

  -- it is there then
  pub put_there : (es : List (Key × V)) (k : Key) (v : V) → has_entry k (insert_entry key_eq es k v) ≡ true
  put_there [] k v = ap (λ b. is_some (cond b (Some v) None)) ((key_decides k k).1 refl)
  put_there (e ∷ es) k v = by (key_eq k e.0) refl (put_there es k v)
    where
      by : (b : Bool) → key_eq k e.0 ≡ b → has_entry k (insert_entry key_eq es k v) ≡ true → has_entry k (if b then (e.0, v) ∷ es else e ∷ insert_entry key_eq es k v) ≡ true
      by true t rest = ap (λ b. is_some (cond b (Some v) (lookup (key_eq k) es))) t
      by false t rest = ap (λ b. is_some (cond b (Some e.1) (lookup (key_eq k) (insert_entry key_eq es k v)))) t ∙ rest

  grown_by_one : (es new : List (Key × V)) (k : Key) (v : V) → lookup (key_eq k) es ≡ None → new ≡ insert_entry key_eq es k v → Grown (λ j. j ≡ k) es new
  grown_by_one es new k v h e = record { added = (k, v) ∷ []; whole = e ∙ put_last es k v h; keyed = (refl, tt) }

  one_longer : (es : List (Key × V)) (k : Key) (v : V) → lookup (key_eq k) es ≡ None → length (insert_entry key_eq es k v) ≡ length es + 1
  one_longer es k v h = ap (λ l. length l) (put_last es k v h) ∙ omega (arith, length-append es ((k, v) ∷ []))

  absent : (k : Key) (es : List (Key × V)) (o : Option (Bor V)) → option_map (λ g. g.now) o ≡ lookup (key_eq k) es → false ≡ is_some o → lookup (key_eq k) es ≡ None
  absent k es None found none = sym found
  absent k es (Some g) found none = absurd (cc none)

  -- what is put in under a key where nothing is
  pub put_new : (k j : Key) (v : V) (old new : List (Key × V)) (o : Option (Bor V)) → option_map (λ g. g.now) o ≡ lookup (key_eq k) old → false ≡ is_some o → j ≡ k → new ≡ insert_entry key_eq old j v
      → (has_entry k new ≡ true) × (Grown (λ i. i ≡ k) old new × (length new ≡ length old + 1))
  put_new k j v old new o found none same made =
      let is : new ≡ insert_entry key_eq old k v = made ∙ ap (λ i. insert_entry key_eq old i v) same in
      let gone = absent k old o found none in
      (ap (has_entry k) is ∙ put_there old k v, (grown_by_one old new k v gone is, ap (λ l. length l) is ∙ one_longer old k v gone))

abbrev pub answered : Key → Result Key PxError
answered k = Ok k

pub ok_same : {k j : Key} → answered k ≡ answered j → j ≡ k
ok_same h = cc

both : (a b : Bool) → (a && b) ≡ true → (a ≡ true) × (b ≡ true)
both true b h = (refl, h)
both false b h = absurd (cc h)

first_height : (c : Series) (cs : List Series) (n m : ℕ) → all_have_height n (c ∷ cs) ≡ true → all_have_height m (c ∷ cs) ≡ true → n ≡ m
first_height c cs n m h k =
    sym ((Decides-eqb (length c.slots) n).0 (both (length c.slots == n) _ h).0) ∙ (Decides-eqb (length c.slots) m).0 (both (length c.slots == m) _ k).0

one_height : (o : Option (Series × SortOptions)) (s : Series) (by : List Series) (n m : ℕ) → all_have_height n (with_order o (s ∷ by)) ≡ true → all_have_height m (with_order o (s ∷ by)) ≡ true → n ≡ m
one_height None s by n m h k = first_height s by n m h k
one_height (Some o) s by n m h k = first_height o.0 (s ∷ by) n m h k

reached : (a b : Bool) (e f : PxError) (made g : Groups) → (if a then Err e else (if b then Ok made else Err f)) ≡ Ok g → b ≡ true
reached true b e f made g h = absurd (cc h)
reached false true e f made g h = refl
reached false false e f made g h = absurd (cc h)

told : (keys : List Series) (o : Option (Series × SortOptions)) (g : Groups) (n : ℕ) → grouped_in g.height keys o ≡ Ok g → all_have_height n (with_order o keys) ≡ true → grouped_in n keys o ≡ Ok g
told [] o g n h k = absurd (cc h)
told (s ∷ by) o g n h k =
    let own : all_have_height g.height (with_order o (s ∷ by)) ≡ true = reached (list_any is_list (with_order o (s ∷ by))) (all_have_height g.height (with_order o (s ∷ by))) _ _ _ g h in
    subst (λ m. grouped_in m (s ∷ by) o ≡ Ok g) (one_height o s by g.height n own k) h

-- groups that are kept under a key are those of the height of its columns
pub groups_told : (k : Key) (g : Groups) (n : ℕ) → ordered_grouped g.height k ≡ Ok g → all_have_height n (with_order k.order k.keys) ≡ true → ordered_grouped n k ≡ Ok g
groups_told k g n h height = told k.keys k.order g n h height

-- and hold each row once
pub exact_once : (k : Key) (g : Groups) → ordered_grouped g.height k ≡ Ok g → HoldsEachRowOnce g
exact_once k g h = each_once g.height k.keys k.order (Ok g) h

other_way : (a b : Key) → key_eq a b ≡ false → key_eq b a ≡ false
other_way a b h = by (key_eq b a) refl
  where
    by : (t : Bool) → key_eq b a ≡ t → key_eq b a ≡ false
    by true e = let back : key_eq a b ≡ true = (key_decides a b).1 (sym ((key_decides b a).0 e)) in absurd (cc (h, back))
    by false e = e

module _ {V : Type 0} where
  apart_from : (done rest : List (Key × V)) (k n : Key) (v : V) → AllByRecursion (λ y. key_eq n y ≡ false) (keys_of (done ++ (k, v) ∷ rest)) → key_eq k n ≡ false
  apart_from [] rest k n v h = other_way n k h.0
  apart_from (e ∷ es) rest k n v h = apart_from es rest k n v h.1

  -- a key that no entry so far has goes last
  put_after : (done rest : List (Key × V)) (k : Key) (v : V) → IsDistinct key_eq (keys_of (done ++ (k, v) ∷ rest)) → insert_entry key_eq done k v ++ rest ≡ done ++ (k, v) ∷ rest
  unfolding IsDistinct
  put_after [] rest k v d = refl
  put_after (e ∷ es) rest k v d =
      ap (λ b. (if b then (e.0, v) ∷ es else e ∷ insert_entry key_eq es k v) ++ rest) (apart_from es rest k e.0 v d.0) ∙ ap (λ t. e ∷ t) (put_after es rest k v d.1)

  -- a copy that takes in the first entry that is left
  pub copied_on : (done after left rest cache : List (Key × V)) (k : Key) (v : V) → (done ++ left ≡ cache) × IsDistinct key_eq (keys_of (done ++ left)) → left ≡ (k, v) ∷ rest → after ≡ insert_entry key_eq done k v → (after ++ rest ≡ cache) × IsDistinct key_eq (keys_of (after ++ rest))
  copied_on done after left rest cache k v h at put =
      let same : after ++ rest ≡ done ++ left = ap (λ es. es ++ rest) put ∙ put_after done rest k v (subst (λ l. IsDistinct key_eq (keys_of (done ++ l))) at h.1) ∙ ap (λ l. done ++ l) (sym at) in
      (same ∙ h.0, subst (λ es. IsDistinct key_eq (keys_of es)) (sym same) h.1)
