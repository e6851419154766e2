-- Groups of some of their rows.
use Rattle.std.proofs.Common.{◌≡◌, ℕ, ℤ, zero, suc, ◌+◌, ◌^◌, ◌<◌, ◌≤◌, Bool, true, ◌&&◌, List, [], ◌∷◌, ◌++◌, Option, Some, Result, Ok, Err, IfOk, IfErr, if◌then◌else◌, drop, length, map, nat_le, nat_lt, option_map, slice_get, slice_index, take, refl, subst, sym, ap, ◌∙◌, arith}
use Rattle.std.specs.List.{list_all, range_with_len}
use Rattle.std.proofs.lemmas.List.Folds.{list_all-append}
use Rattle.std.proofs.lemmas.List.FromFn.{length-range_with_len}
use Rattle.std.proofs.lemmas.Bool.Decides.{nat_tests}
use Rattle.std.proofs.lemmas.List.{drop-map, length-map, map_push, take-map}
use Rattle.std.proofs.lemmas.Option.{slice_get-map}
use Rattle.px_column.specs.Function.{slice_window, window_of}
use Rattle.px_column.specs.Prelude.{Slot, slot_at}
use Rattle.px_value.proofs.FitLaws.{both}
use Rattle.px_frame.specs.Frame.{are_below, slots_at}
use Rattle.px_value.specs.declared.error.PxError.{PxError}
use Rattle.px_value.specs.declared.error.PxError.TheVariants.{OutOfBounds, OutOfMemory}
use Rattle.px_frame.specs.Groups.{Group, Groups, IsGroups, group_of, is_group, rows_of}
use Rattle.px_frame.specs.GroupsView.{all_end_within, groups_of, groups_within, is_within, slice_group}
use Rattle.px_frame.specs.declared.groups.GroupsType.{GroupsType}
use Rattle.px_group_nodes.specs.Windows.{rows_window, windows_of}

-- the window of what stands at some rows is what stands at the window of the rows
pub window_slots : (offset : ℤ) (limit : Option ℤ) (xs : List Slot) (g : List ℕ) → window_of offset limit (slots_at xs g) ≡ slots_at xs (rows_window offset limit g)
window_slots offset limit xs g =
    (λ i. take (slice_window offset limit (length-map g (slot_at xs) i)).1 (drop (slice_window offset limit (length-map g (slot_at xs) i)).0 (map (slot_at xs) g)))
    ∙ ap (take (slice_window offset limit (length g)).1) (drop-map (slot_at xs) (slice_window offset limit (length g)).0 g)
    ∙ take-map (slot_at xs) (slice_window offset limit (length g)).1 (drop (slice_window offset limit (length g)).0 g)

module _ (h : ℕ) where
  below_drop : (s : ℕ) (g : List ℕ) → are_below h g ≡ true → are_below h (drop s g) ≡ true
  below_drop zero g p = p
  below_drop (suc s) [] p = refl
  below_drop (suc s) (x ∷ g) p = below_drop s g (both (nat_lt x h) (are_below h g) p).1

  below_take : (c : ℕ) (g : List ℕ) → are_below h g ≡ true → are_below h (take c g) ≡ true
  below_take zero g p = refl
  below_take (suc c) [] p = refl
  below_take (suc c) (x ∷ g) p =
      let q = both (nat_lt x h) (are_below h g) p in
      λ i. q.0 i && below_take c g q.1 i

-- the window of the group at a place
pub windows_at : (offset : ℤ) (limit : Option ℤ) (g : Groups) (i : ℕ) (p : Group) → slice_get g.groups i ≡ Some p → slice_get (windows_of offset limit g) i ≡ Some (rows_window offset limit p.rows)
windows_at offset limit g i p h =
    slice_get-map (rows_window offset limit) (rows_of g) i ∙ ap (option_map (rows_window offset limit)) (slice_get-map (λ (q : Group). q.rows) g.groups i ∙ ap (option_map (λ (q : Group). q.rows)) h)

take_range : (a n c : ℕ) → c ≤ n → take c (range_with_len a n) ≡ range_with_len a c
take_range a n zero h = refl
take_range a zero (suc c) h = absurd (omega (arith, h))
take_range a (suc n) (suc c) h = ap (λ xs. a ∷ xs) (take_range (a + 1) n c (omega (arith, h)))

-- some of rows that follow one another
pub range_window : (a n s c : ℕ) → s + c ≤ n → take c (drop s (range_with_len a n)) ≡ range_with_len (a + s) c
range_window a n zero c h = let e : a ≡ a + 0 = omega arith in take_range a n c (omega (arith, h)) ∙ ap (λ b. range_with_len b c) e
range_window a zero (suc s) c h = absurd (omega (arith, h))
range_window a (suc n) (suc s) c h = let e : a + 1 + s ≡ a + suc s = omega arith in range_window (a + 1) n s c (omega (arith, h)) ∙ ap (λ b. range_with_len b c) e

-- rows that follow one another end where their bound ends at most
pub range_end : (h a n : ℕ) → are_below h (range_with_len a n) ≡ true → 0 < n → a + n ≤ h
range_end h a zero b p = absurd (omega (arith, p))
range_end h a (suc zero) b p = let q : a < h = grind (arith, nat_tests, (both (nat_lt a h) true b).0) in omega (arith, q)
range_end h a (suc (suc n)) b p =
    let others = both (nat_lt a h) (are_below h (range_with_len (a + 1) (suc n))) b in
    let end = range_end h (a + 1) (suc n) others.1 (omega arith) in
    omega (arith, end)

group_range : (a c : ℕ) → 0 < c → group_of (range_with_len a c) ≡ record { first = a; rows = range_with_len a c }
group_range a zero h = absurd (omega (arith, h))
group_range a (suc c) h = refl

-- the window of a slice
window_range : (offset : ℤ) (limit : Option ℤ) (a n s c : ℕ) → slice_window offset limit n ≡ (s, c) → s + c ≤ n → rows_window offset limit (range_with_len a n) ≡ range_with_len (a + s) c
window_range offset limit a n s c e h =
    (λ i. take (slice_window offset limit (length-range_with_len a n i)).1 (drop (slice_window offset limit (length-range_with_len a n i)).0 (range_with_len a n)))
    ∙ (λ i. take (e i).1 (drop (e i).0 (range_with_len a n))) ∙ range_window a n s c h

module _ (offset : ℤ) (limit : Option ℤ) (g : Groups) (i : ℕ) (r : List ℕ) (w : ℕ × ℕ) (there : slice_get g.groups i ≡ Some (slice_group r)) (is : w ≡ slice_window offset limit (slice_index r 1)) (within : w.0 + w.1 ≤ slice_index r 1) where
  range_at : slice_get (windows_of offset limit g) i ≡ Some (range_with_len (slice_index r 0 + w.0) w.1)
  range_at = windows_at offset limit g i (slice_group r) there ∙ ap Some (window_range offset limit (slice_index r 0) (slice_index r 1) w.0 w.1 (sym is) within)

  -- is empty where it has no row
  pub no_slice_at : w.1 ≡ 0 → slice_get (map group_of (windows_of offset limit g)) i ≡ Some (group_of [])
  no_slice_at e =
      slice_get-map group_of (windows_of offset limit g) i
      ∙ ap (option_map group_of) (range_at ∙ ap (λ n. Some (range_with_len (slice_index r 0 + w.0) n)) e)

  -- and else the slice from its first row on
  pub slice_at : 0 < w.1 → slice_get (map group_of (windows_of offset limit g)) i ≡ Some (record { first = slice_index r 0 + w.0; rows = range_with_len (slice_index r 0 + w.0) w.1 })
  slice_at some = slice_get-map group_of (windows_of offset limit g) i ∙ ap (option_map group_of) range_at ∙ ap Some (group_range (slice_index r 0 + w.0) w.1 some)

-- it ends where the slice ends at most
pub slice_ends : (h a n s c : ℕ) → are_below h (range_with_len a n) ≡ true → s + c ≤ n → 0 < c → a + s + c ≤ h
slice_ends h a n s c b p q = let end = range_end h a n b (omega (arith, p, q)) in omega (arith, end, p)

-- one slice more ends within the height
pub ends_more : (h : ℕ) (xs : List (List ℕ)) (s : List ℕ) → all_end_within h xs ≡ true → slice_index s 0 + slice_index s 1 ≤ h → all_end_within h (xs ++ s ∷ []) ≡ true
ends_more h xs s a e =
    let last : nat_le (slice_index s 0 + slice_index s 1) h ≡ true = grind (arith, nat_tests, e) in
    list_all-append (λ (r : List ℕ). nat_le (slice_index r 0 + slice_index r 1) h) xs (s ∷ []) ∙ (λ i. a i && (last i && true))

module _ {X : Type 0} where
  take_step : (xs : List X) (i : ℕ) (x : X) → slice_get xs i ≡ Some x → take (i + 1) xs ≡ take i xs ++ x ∷ []
  take_step [] zero x h = absurd (cc)
  take_step [] (suc i) x h = absurd (cc)
  take_step (y ∷ ys) zero x h = let same : y ≡ x = cc in ap (λ z. z ∷ []) same
  take_step (y ∷ ys) (suc i) x h =
      let e : suc i + 1 ≡ suc (i + 1) = omega arith in
      ap (λ k. take k (y ∷ ys)) e ∙ ap (λ zs. y ∷ zs) (take_step ys i x h)

  -- all of them
  pub taken_all : (xs : List X) (i : ℕ) → length xs ≤ i → take i xs ≡ xs
  taken_all [] zero h = refl
  taken_all [] (suc i) h = refl
  taken_all (y ∷ ys) zero h = absurd (omega (arith, h))
  taken_all (y ∷ ys) (suc i) h = ap (λ zs. y ∷ zs) (taken_all ys i (omega (arith, h)))

  get_past : (xs : List X) (s i : ℕ) → slice_get (drop s xs) i ≡ slice_get xs (s + i)
  get_past xs zero i = let e : i ≡ 0 + i = omega arith in ap (slice_get xs) e
  get_past [] (suc s) i = refl
  get_past (x ∷ xs) (suc s) i = let e : suc (s + i) ≡ suc s + i = omega arith in get_past xs s i ∙ ap (slice_get (x ∷ xs)) e

-- one more
pub one_taken : {A B : Type 0} (f : A → B) (xs : List B) (items : List A) (i : ℕ) (s : A) → map f items ≡ take i xs → slice_get xs i ≡ Some (f s) → map f (items ++ s ∷ []) ≡ take (i + 1) xs
one_taken f xs items i s h g = map_push f items s ∙ ap (λ ys. ys ++ f s ∷ []) h ∙ sym (take_step xs i (f s) g)

index_get : (xs : List ℕ) (j : ℕ) → j < length xs → slice_get xs j ≡ Some (slice_index xs j)
index_get [] j h = absurd (omega (arith, h))
index_get (x ∷ xs) zero h = refl
index_get (x ∷ xs) (suc j) h = index_get xs j (omega (arith, h))

-- one row more
pub row_taken : (rows xs : List ℕ) (s i r : ℕ) → xs ≡ take i (drop s rows) → s + i < length rows → r ≡ slice_index rows (s + i) → xs ++ r ∷ [] ≡ take (i + 1) (drop s rows)
row_taken rows xs s i r h k e =
    ap (λ ys. ys ++ r ∷ []) h ∙ sym (take_step (drop s rows) i r (get_past rows s i ∙ index_get rows (s + i) k ∙ ap Some (sym e)))

-- a window for each group
pub windows_count : (offset : ℤ) (limit : Option ℤ) (g : Groups) → length (windows_of offset limit g) ≡ length g.groups
windows_count offset limit g = length-map (rows_of g) (rows_window offset limit) ∙ length-map g.groups (λ (q : Group). q.rows)

-- the window that was taken row by row
pub window_taken : (offset : ℤ) (limit : Option ℤ) (g : Groups) (i : ℕ) (p : Group) (w : ℕ × ℕ) (n : ℕ) (xs : List ℕ) → slice_get g.groups i ≡ Some p → w ≡ slice_window offset limit n → n ≡ length p.rows → xs ≡ take w.1 (drop w.0 p.rows)
    → slice_get (windows_of offset limit g) i ≡ Some xs
window_taken offset limit g i p w n xs h e l t =
    windows_at offset limit g i p h ∙ ap Some ((λ j. take (slice_window offset limit (sym l j)).1 (drop (slice_window offset limit (sym l j)).0 p.rows)) ∙ (λ j. take (sym e j).1 (drop (sym e j).0 p.rows)) ∙ sym t)

take_short : (c : ℕ) (g : List ℕ) → length (take c g) ≤ length g
take_short zero [] = omega arith
take_short zero (x ∷ g) = omega arith
take_short (suc c) [] = omega arith
take_short (suc c) (x ∷ g) = let n = take_short c g in omega (arith, n)

drop_short : (s : ℕ) (g : List ℕ) → length (drop s g) ≤ length g
drop_short zero g = omega arith
drop_short (suc s) [] = omega arith
drop_short (suc s) (x ∷ g) = let n = drop_short s g in omega (arith, n)

abbrev groups_ok : Groups → Result Groups PxError
groups_ok g = Ok g

window_group : (h : ℕ) (offset : ℤ) (limit : Option ℤ) (p : Group) → is_group h p ≡ true → is_group h (group_of (rows_window offset limit p.rows)) ≡ true
window_group h offset limit p e =
    let w = slice_window offset limit (length p.rows) in
    let q = both (are_below h p.rows) (nat_lt (length p.rows) (2 ^ 32)) e in
    let n = take_short w.1 (drop w.0 p.rows) in
    let m = drop_short w.0 p.rows in
    let few : length p.rows < 2 ^ 32 = grind (arith, nat_tests, q.1) in
    let less : length (take w.1 (drop w.0 p.rows)) < 2 ^ 32 = omega (arith, n, m, few) in
    let short : nat_lt (length (take w.1 (drop w.0 p.rows))) (2 ^ 32) ≡ true = grind (arith, nat_tests, less) in
    λ i. below_take h w.1 (drop w.0 p.rows) (below_drop h w.0 p.rows q.0) i && short i

windows_all : (h : ℕ) (offset : ℤ) (limit : Option ℤ) (gs : List Group) → list_all (is_group h) gs ≡ true → list_all (is_group h) (map group_of (map (rows_window offset limit) (map (λ (p : Group). p.rows) gs))) ≡ true
windows_all h offset limit [] e = refl
windows_all h offset limit (p ∷ gs) e =
    let q = both (is_group h p) (list_all (is_group h) gs) e in
    λ i. window_group h offset limit p q.0 i && windows_all h offset limit gs q.1 i

module _ {X : Type 0} (f : X → Group) where
  lists_all : (h : ℕ) (items : List X) → list_all (is_group h) (map f items) ≡ true → (list_all (λ x. are_below h (f x).rows) items ≡ true) × (list_all (λ x. nat_lt (length (f x).rows) (2 ^ 32)) items ≡ true)
  lists_all h [] e = (refl, refl)
  lists_all h (x ∷ items) e =
      let q = both (is_group h (f x)) (list_all (is_group h) (map f items)) e in
      let r = both (are_below h (f x).rows) (nat_lt (length (f x).rows) (2 ^ 32)) q.0 in
      let others = lists_all h items q.1 in
      ((λ i. r.0 i && others.0 i), (λ i. r.1 i && others.1 i))

  rows_again : (rs : List (List ℕ)) → map (λ (p : Group). p.rows) (map group_of rs) ≡ rs
  rows_again [] = refl
  rows_again (r ∷ rs) = ap (λ qs. r ∷ qs) (rows_again rs)

  module _ (offset : ℤ) (limit : Option ℤ) (g : Groups) (ok : IsGroups g.height g.groups) (items : List X) (made : map f items ≡ map group_of (windows_of offset limit g)) where
    lists_fit : (list_all (λ x. are_below g.height (f x).rows) items ≡ true) × (list_all (λ x. nat_lt (length (f x).rows) (2 ^ 32)) items ≡ true)
    lists_fit = lists_all g.height items (ap (list_all (is_group g.height)) made ∙ windows_all g.height offset limit g.groups ok.each)

    -- there are fewer than 2^32 lists of the rows of windows
    pub lists_few : length (map f items) < 2 ^ 32
    lists_few = let n = ap length made ∙ length-map (windows_of offset limit g) group_of ∙ windows_count offset limit g in omega (arith, n, ok.few)

    -- and each has fewer than 2^32 rows
    pub lists_short : list_all (λ x. nat_lt (length (f x).rows) (2 ^ 32)) items ≡ true
    lists_short = lists_fit.1

    -- which are below the height
    pub lists_below : (h : ℕ) → h ≡ g.height → list_all (λ x. are_below h (f x).rows) items ≡ true
    lists_below h height = ap (λ n. list_all (λ x. are_below n (f x).rows) items) height ∙ lists_fit.0

    module _ (t : GroupsType) (r : Result Groups PxError) (h : ℕ) (fits : is_within h t ≡ true) (are : groups_of t ≡ map f items) (is : r ≡ groups_within h t) where
      groups_made : r ≡ groups_ok (record { height = h; groups = groups_of t })
      groups_made = is ∙ ap (λ (b : Bool). if b then groups_ok (record { height = h; groups = groups_of t }) else Err OutOfBounds) fits

      -- as groups they have the windows' rows
      pub groups_rows : IfOk r (λ q. rows_of q ≡ windows_of offset limit g)
      groups_rows =
          subst (λ (o : Result Groups PxError). IfOk o (λ q. rows_of q ≡ windows_of offset limit g)) (sym groups_made)
          (ap (map (λ (p : Group). p.rows)) (are ∙ made) ∙ rows_again (windows_of offset limit g))

      -- and are there
      pub groups_there : IfErr r (λ e. e ≡ OutOfMemory)
      groups_there = subst (λ (o : Result Groups PxError). IfErr o (λ e. e ≡ OutOfMemory)) (sym groups_made) tt

-- a group of this number and these rows
abbrev pub group_at : ℕ → List ℕ → Group
group_at n rows = record { first = n; rows = rows }
