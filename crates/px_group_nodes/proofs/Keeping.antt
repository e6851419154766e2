-- The rows of groups that a mask keeps.
use Rattle.std.proofs.Common.{◌≡◌, ℕ, zero, suc, ◌+◌, ◌^◌, ◌<◌, ◌≤◌, Bool, true, false, ◌&&◌, cond, List, [], ◌∷◌, ◌++◌, Some, Result, Ok, Err, length, map, filter, slice_get, take, drop, nat_lt, nat_le, replicate, refl, sym, ap, ◌∙◌, arith}
use Rattle.std.specs.List.{list_all}
use Rattle.std.proofs.lemmas.Bool.Decides.{nat_tests}
use Rattle.std.proofs.lemmas.List.{length-map, length-replicate, map_push}
use Rattle.px_column.specs.Prelude.{Slot}
use Rattle.px_column.specs.Rows.{is_true}
use Rattle.px_value.proofs.FitLaws.{both}
use Rattle.px_value.specs.declared.error.PxError.{PxError}
use Rattle.px_value.specs.declared.error.PxError.TheVariants.{OutOfBounds}
use Rattle.px_frame.specs.Cell.{Cell, unit}
use Rattle.px_frame.specs.Frame.{are_below}
use Rattle.px_frame.specs.Groups.{Group, Groups, IsGroups, first_row, group_of, is_group}
use Rattle.px_frame.specs.GroupsView.{all_end_within, slice_group}
use Rattle.px_frame.proofs.Each.{map_next}
use Rattle.px_context.proofs.Reading.{drop_get}
use Rattle.px_context.specs.Built.{with_other_groups}
use Rattle.px_context.specs.Context.{Context}
use Rattle.px_group_nodes.specs.Kept.{has_one_row, kept_flat, kept_group, kept_groups, truth_at}

module _ (f : ℕ → Bool) where
  below_more : (h x : ℕ) (xs : List ℕ) (b : Bool) → f x ≡ b → nat_lt x h ≡ true → are_below h (filter f xs) ≡ true → are_below h (filter f (x ∷ xs)) ≡ true
  below_more h x xs true g first others = rw g (λ i. first i && others i)
  below_more h x xs false g first others = rw g others

  still_below : (h : ℕ) (xs : List ℕ) → are_below h xs ≡ true → are_below h (filter f xs) ≡ true
  still_below h [] e = refl
  still_below h (x ∷ xs) e = let p = both (nat_lt x h) (are_below h xs) e in below_more h x xs (f x) refl p.0 (still_below h xs p.1)

  longer : (x : ℕ) (xs : List ℕ) (b : Bool) → f x ≡ b → length (filter f xs) ≤ length xs → length (filter f (x ∷ xs)) ≤ suc (length xs)
  longer x xs true g others = rw g (omega (arith, others))
  longer x xs false g others = rw g (omega (arith, others))

  no_longer : (xs : List ℕ) → length (filter f xs) ≤ length xs
  no_longer [] = omega arith
  no_longer (x ∷ xs) = longer x xs (f x) refl (no_longer xs)

less : (m n : ℕ) → m < n → nat_lt m n ≡ true
less m n h = grind (arith, nat_tests)

more : (m n : ℕ) → nat_lt m n ≡ true → m < n
more m n h = grind (arith, nat_tests)

module _ (mask : Cell) where
  still_group : (h : ℕ) (g : Group) → is_group h g ≡ true → is_group h (kept_group mask g) ≡ true
  still_group h g e =
      let p = both (are_below h g.rows) (nat_lt (length g.rows) (2 ^ 32)) e in
      let short = less (length (filter (truth_at mask) g.rows)) (2 ^ 32) (omega (arith, no_longer (truth_at mask) g.rows, more (length g.rows) (2 ^ 32) p.1)) in
      λ i. still_below (truth_at mask) h g.rows p.0 i && short i

  still_groups : (h : ℕ) (gs : List Group) → list_all (is_group h) gs ≡ true → list_all (is_group h) (map (kept_group mask) gs) ≡ true
  still_groups h [] e = refl
  still_groups h (g ∷ gs) e = let p = both (is_group h g) (list_all (is_group h) gs) e in λ i. still_group h g p.0 i && still_groups h gs p.1 i

module _ {X : Type 0} (view : X → Group) where
  both_tests : (h : ℕ) (v : List X) → list_all (is_group h) (map view v) ≡ true → (list_all (λ x. are_below h (view x).rows) v ≡ true) × (list_all (λ x. nat_lt (length (view x).rows) (2 ^ 32)) v ≡ true)
  both_tests h [] e = (refl, refl)
  both_tests h (x ∷ v) e =
      let q = both (is_group h (view x)) (list_all (is_group h) (map view v)) e in
      let one = both (are_below h (view x).rows) (nat_lt (length (view x).rows) (2 ^ 32)) q.0 in
      let rest = both_tests h v q.1 in
      (λ i. one.0 i && rest.0 i, λ i. one.1 i && rest.1 i)

  -- the rows that are kept of groups are groups
  module _ (mask : Cell) (h : ℕ) (gs : List Group) (v : List X) (ok : IsGroups h gs) (e : map view v ≡ map (kept_group mask) gs) where
    each : list_all (is_group h) (map view v) ≡ true
    each = ap (list_all (is_group h)) e ∙ still_groups mask h gs ok.each

    pub kept_few : length (map view v) < 2 ^ 32
    kept_few = omega (arith, ap length e, length-map gs (kept_group mask), ok.few)

    pub kept_short : list_all (λ x. nat_lt (length (view x).rows) (2 ^ 32)) v ≡ true
    kept_short = (both_tests h v each).1

    pub kept_made : cond {A = Result Groups PxError} (list_all (λ x. are_below h (view x).rows) v) (Ok (record { height = h; groups = map view v })) (Err OutOfBounds) ≡ Ok (kept_groups mask (record { height = h; groups = gs }))
    kept_made =
        let made : Groups = record { height = h; groups = map view v } in
        ap (λ (b : Bool). cond b (Ok made) (Err OutOfBounds)) (both_tests h v each).0
        ∙ ap Ok (λ i. record { height = h; groups = e i })

  -- the rows of one group more
  pub kept_next : (f : Group → Group) (gs : List Group) (i : ℕ) (p : Group) (old new : List X) (x : X) → new ≡ old ++ x ∷ [] → map view old ≡ map f (take i gs)
      → slice_get gs i ≡ Some p → view x ≡ f p → map view new ≡ map f (take (i + 1) gs)
  kept_next f gs i p old new x e made at same = ap (map view) e ∙ map_push view old x ∙ (λ j. made j ++ same j ∷ []) ∙ sym (map_next f gs i p at)

-- a list of rows beside its first row
pub group_made : (first : ℕ) (xs ys : List ℕ) → xs ≡ ys → first ≡ first_row xs → record { first = first; rows = xs } ≡ group_of ys
group_made first xs ys e f = λ i. record { first = (f ∙ ap first_row e) i; rows = e i }

none_ends : (n h : ℕ) → all_end_within h (replicate n (0 ∷ 0 ∷ [])) ≡ true
none_ends zero h = refl
none_ends (suc n) h = let here : nat_le (0 + 0) h ≡ true = grind (arith, nat_tests) in λ i. here i && none_ends n h i

none_each : (n : ℕ) → map slice_group (replicate n (0 ∷ 0 ∷ [])) ≡ replicate n (group_of [])
none_each zero = refl
none_each (suc n) = ap (λ (gs : List Group). group_of [] ∷ gs) (none_each n)

module _ (n h : ℕ) (v : List (List ℕ)) (e : v ≡ replicate n (0 ∷ 0 ∷ [])) where
  -- so many slices without a row are few
  pub none_few : n < 2 ^ 32 → length (map slice_group v) < 2 ^ 32
  none_few lt =
      let many : length v ≡ n = ap length e ∙ length-replicate n (0 ∷ 0 ∷ []) in
      omega (arith, length-map v slice_group, many, lt)

  -- and are groups without a row
  pub none_made : cond {A = Result Groups PxError} (all_end_within h v) (Ok (record { height = h; groups = map slice_group v })) (Err OutOfBounds) ≡ Ok (record { height = h; groups = replicate n (group_of []) })
  none_made =
      ap (λ (b : Bool). cond {A = Result Groups PxError} b (Ok (record { height = h; groups = map slice_group v })) (Err OutOfBounds)) (ap (all_end_within h) e ∙ none_ends n h)
      ∙ ap (λ (gs : List Group). Ok (record { height = h; groups = gs })) (ap (map slice_group) e ∙ none_each n)

none_true : (s : Slot) (xs : List ℕ) → is_true s ≡ false → filter (truth_at (unit s)) xs ≡ []
none_true s [] h = refl
none_true s (x ∷ xs) h = rw h (none_true s xs h)

-- a unit that is not true keeps no row of any group
none_kept : (s : Slot) (gs : List Group) → is_true s ≡ false → replicate (length gs) (group_of []) ≡ map (kept_group (unit s)) gs
none_kept s [] h = refl
none_kept s (g ∷ gs) h = λ i. group_of (sym (none_true s g.rows h) i) ∷ none_kept s gs h i

-- what a unit keeps of flat values: all
pub unit_all : (s : Slot) (c : Context) → is_true s ≡ true → c ≡ kept_flat (unit s) c
unit_all s c h = ap (λ (b : Bool). cond (b && true) c (with_other_groups c (kept_groups (unit s) c.groups))) (sym h)

-- or nothing
pub unit_none : (s : Slot) (c : Context) (g new : Groups) → is_true s ≡ false → g ≡ c.groups → record { height = g.height; groups = replicate (length g.groups) (group_of []) } ≡ new
    → kept_flat (unit s) c ≡ with_other_groups c new
unit_none s c g new h e made =
    let empty : Groups = record { height = c.groups.height; groups = replicate (length c.groups.groups) (group_of []) } in
    let there : empty ≡ new = ap (λ (q : Groups). record { height = q.height; groups = replicate (length q.groups) (group_of []) }) (sym e) ∙ made in
    ap (λ (b : Bool). cond (b && true) c (with_other_groups c (kept_groups (unit s) c.groups))) h
    ∙ ap (λ (gs : List Group). with_other_groups c (record { height = c.groups.height; groups = gs })) (sym (none_kept s c.groups.groups h)) ∙ ap (with_other_groups c) there

module _ (gs : List Group) (i : ℕ) (p : Group) (at : slice_get gs i ≡ Some p) (left : list_all has_one_row (drop i gs) ≡ list_all has_one_row gs) where
  ahead : (has_one_row p && list_all has_one_row (drop (i + 1) gs)) ≡ list_all has_one_row gs
  ahead = ap (list_all has_one_row) (sym (drop_get gs i p at)) ∙ left

  -- one of the groups has another number of rows
  pub one_other : has_one_row p ≡ false → false ≡ list_all has_one_row gs
  one_other h = ap (λ (b : Bool). b && list_all has_one_row (drop (i + 1) gs)) (sym h) ∙ ahead

  -- or the others tell
  pub one_more : has_one_row p ≡ true → list_all has_one_row (drop (i + 1) gs) ≡ list_all has_one_row gs
  one_more h = ap (λ (b : Bool). b && list_all has_one_row (drop (i + 1) gs)) (sym h) ∙ ahead
