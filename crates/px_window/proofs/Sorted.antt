-- Groups whose rows are put in the order of a column.
use Rattle.std.proofs.Common.{◌≡◌, ℕ, zero, suc, ◌+◌, ◌^◌, ◌<◌, ◌≤◌, Bool, true, false, ◌&&◌, ◌||◌, cond, List, [], ◌∷◌, ◌++◌, Option, Some, None, Result, Ok, Err, IfOk, length, map, nat_lt, slice_get, take, refl, sym, ◌∙◌, ap, subst, arith, if◌then◌else◌}
use Rattle.std.specs.List.{concat, list_all, list_any, range_with_len}
use Rattle.std.specs.List.Sorted.{IsPermutation}
use Rattle.std.specs.declared.alloc.Global.{Global}
use Rattle.smallvec.specs.declared.SmallVec.{SmallVec}
use Rattle.std.proofs.lemmas.Bool.Decides.{nat_tests}
use Rattle.std.proofs.lemmas.List.{length-map, map_push}
use Rattle.std.proofs.lemmas.List.Sorted.{All-permutation, length_permutation}
use Rattle.std.proofs.lemmas.List.Sums.{AllPass-from_list_all, list_all-from_AllPass}
use Rattle.px_column.specs.Order.{arg_sorted, sorted_rows}
use Rattle.px_column.specs.Prelude.{Answers, Series, Slot, is_list_kind}
use Rattle.px_value.proofs.FitLaws.{both}
use Rattle.px_value.specs.declared.error.InvalidWhy.TheVariants.{ListKey}
use Rattle.px_value.specs.declared.error.PxError.{PxError}
use Rattle.px_value.specs.declared.error.PxError.TheVariants.{InvalidOperation, OutOfBounds, ShapeMismatch}
use Rattle.px_value.specs.declared.sort_options.SortOptions.{SortOptions}
use Rattle.px_frame.specs.Frame.{all_have_height, are_below, has_height, series_at, slots_at}
use Rattle.px_frame.specs.Groups.{Group, Groups, IsGroups, first_row, group_of, grouped, groups_by, is_group, is_list}
use Rattle.px_frame.specs.GroupsView.{all_rows_below, idx_group}
use Rattle.px_frame.specs.Ordered.{in_order, ordered_parts}
use Rattle.px_frame.specs.Parts.{parts_of}
use Rattle.px_frame.proofs.Each.{map_next}
use Rattle.px_frame.proofs.Reducing.{length_slots_at}
use Rattle.px_frame.proofs.OrderedRows.{each_ordered_row_once, in_order_once, sorted_once}
use Rattle.px_window.specs.Key.{grouped_in, rows_ordered, with_order}
use Rattle.px_window.specs.Places.{HoldsEachRowOnce}

-- rows in another order are below what they were below
pub below_moved : (h : ℕ) (xs ys : List ℕ) → IsPermutation xs ys → are_below h xs ≡ true → are_below h ys ≡ true
below_moved h xs ys moved below = list_all-from_AllPass (λ r. nat_lt r h) ys (All-permutation (λ r. nat_lt r h ≡ true) xs ys moved (AllPass-from_list_all (λ r. nat_lt r h) xs below))

less : (r n : ℕ) → r < n → nat_lt r n ≡ true
less r n h = grind (arith, nat_tests)

-- numbers of which each is below n
pub below_range : (a m n : ℕ) → a + m ≤ n → are_below n (range_with_len a m) ≡ true
below_range a zero n h = refl
below_range a (suc m) n h = λ i. less a n (omega (arith, h)) i && below_range (a + 1) m n (omega (arith, h)) i

-- the places in a sorted order are there
pub below_sorted : (keys : List (SortOptions × List Slot)) (n : ℕ) → are_below n (sorted_rows keys n) ≡ true
below_sorted keys n = below_moved n (range_with_len 0 n) (sorted_rows keys n) (sorted_once keys n) (below_range 0 n n (omega arith))

-- what the order of a column's rows answers
pub sorted_is : (o : SortOptions) (s : Series) (rows places : List ℕ) → is_list_kind s.kind ≡ false → arg_sorted o (series_at rows s) ≡ Ok places → places ≡ sorted_rows ((o, slots_at s.slots rows) ∷ []) (length rows)
sorted_is o s rows places k e =
    let sorted : List ℕ = sorted_rows ((o, slots_at s.slots rows) ∷ []) (length (slots_at s.slots rows)) in
    let there = sym (ap (λ (b : Bool). if b then Err (InvalidOperation ListKey) else Ok sorted) k) ∙ e in
    let same : places ≡ sorted = cc in
    same ∙ ap (sorted_rows ((o, slots_at s.slots rows) ∷ [])) (length_slots_at s.slots rows)

module _ (s : Series) (o : SortOptions) where
  still_group : (h : ℕ) (p : Group) → is_group h p ≡ true → is_group h (rows_ordered s o p) ≡ true
  still_group h p e =
      let q = both (are_below h p.rows) (nat_lt (length p.rows) (2 ^ 32)) e in
      let moved = in_order_once s o p.rows in
      let below = below_moved h p.rows (in_order s o p.rows) moved q.0 in
      let short = ap (λ n. nat_lt n (2 ^ 32)) (length_permutation p.rows (in_order s o p.rows) moved) ∙ q.1 in
      λ i. below i && short i

  still_groups : (h : ℕ) (gs : List Group) → list_all (is_group h) gs ≡ true → list_all (is_group h) (map (rows_ordered s o) gs) ≡ true
  still_groups h [] e = refl
  still_groups h (p ∷ gs) e = let q = both (is_group h p) (list_all (is_group h) gs) e in λ i. still_group h p q.0 i && still_groups h gs q.1 i

  -- lists of rows that are groups
  both_tests : (h : ℕ) (v : List (ℕ × SmallVec ℕ 1 Global)) → list_all (is_group h) (map idx_group v) ≡ true → (all_rows_below h v ≡ true) × (list_all (λ p. nat_lt (length p.1.items) (2 ^ 32)) v ≡ true)
  both_tests h [] e = (refl, refl)
  both_tests h (p ∷ v) e =
      let q = both (is_group h (idx_group p)) (list_all (is_group h) (map idx_group v)) e in
      let one = both (are_below h p.1.items) (nat_lt (length p.1.items) (2 ^ 32)) q.0 in
      let rest = both_tests h v q.1 in
      (λ i. one.0 i && rest.0 i, λ i. one.1 i && rest.1 i)

  -- groups in order are groups
  module _ (h : ℕ) (gs : List Group) (v : List (ℕ × SmallVec ℕ 1 Global)) (ok : IsGroups h gs) (e : map idx_group v ≡ map (rows_ordered s o) gs) where
    each : list_all (is_group h) (map idx_group v) ≡ true
    each = ap (list_all (is_group h)) e ∙ still_groups h gs ok.each

    pub ordered_few : length (map idx_group v) < 2 ^ 32
    ordered_few = omega (arith, ap length e, length-map gs (rows_ordered s o), ok.few)

    pub ordered_short : list_all (λ (p : ℕ × SmallVec ℕ 1 Global). nat_lt (length p.1.items) (2 ^ 32)) v ≡ true
    ordered_short = (both_tests h v each).1

    pub ordered_made : cond {A = Result Groups PxError} (all_rows_below h v) (Ok (record { height = h; groups = map idx_group v })) (Err OutOfBounds) ≡ Ok (record { height = h; groups = map (rows_ordered s o) gs })
    ordered_made =
        let made : Groups = record { height = h; groups = map idx_group v } in
        ap (λ (b : Bool). cond b (Ok made) (Err OutOfBounds)) (both_tests h v each).0
        ∙ ap Ok (λ i. record { height = h; groups = e i })

  -- the parts put in order are the groups put in order
  ordered_groups_of : (ps : List (List ℕ)) → map group_of (map (in_order s o) ps) ≡ map (rows_ordered s o) (map group_of ps)
  ordered_groups_of [] = refl
  ordered_groups_of (p ∷ ps) = ap (λ (gs : List Group). group_of (in_order s o p) ∷ gs) (ordered_groups_of ps)

-- a choice of refusals and groups
abbrev chosen : Bool → Bool → Groups → Result Groups PxError
chosen l h g = if l then Err (InvalidOperation ListKey) else (if h then Ok g else Err ShapeMismatch)

has_length : (n : ℕ) (s : Series) → length s.slots ≡ n → has_height n s ≡ true
has_length n s h = grind (arith, nat_tests)

-- the groups by the keys alone
chosen_groups : (l h : Bool) (a g : Groups) → chosen l h a ≡ Ok g → (l ≡ false) × (h ≡ true) × (a ≡ g)
chosen_groups true h a g e = absurd (cc)
chosen_groups false true a g e = (refl, refl, cc)
chosen_groups false false a g e = absurd (cc)

-- the groups in order, where the keys alone make groups
pub ordered_from : (n : ℕ) (by : List Series) (o : Series × SortOptions) (g : Groups) → is_list o.0 ≡ false → length o.0.slots ≡ n → grouped n by ≡ Ok g
    → grouped_in n by (Some o) ≡ Ok (record { height = n; groups = map (rows_ordered o.0 o.1) g.groups })
ordered_from n [] o g k h e = absurd (cc)
ordered_from n (s ∷ by) o g k h e =
    let made : Groups = record { height = n; groups = map group_of (ordered_parts (s ∷ by) (Some o) n) } in
    let alone = chosen_groups (list_any is_list (s ∷ by)) (all_have_height n (s ∷ by)) (groups_by (s ∷ by) n) g e in
    (λ i. chosen (k i || alone.0 i) (has_length n o.0 h i && alone.1 i) made)
    ∙ ap (λ (ps : List Group). Ok (record { height = n; groups = ps })) (ordered_groups_of o.0 o.1 (parts_of (s ∷ by) n) ∙ ap (λ (q : Groups). map (rows_ordered o.0 o.1) q.groups) alone.2)

-- there are as many groups as parts, of that height
pub grouped_height : (n : ℕ) (by : List Series) (g : Groups) → grouped n by ≡ Ok g → g.height ≡ n
grouped_height n [] g e = absurd (cc)
grouped_height n (s ∷ by) g e = ap (λ (q : Groups). q.height) (sym (chosen_groups (list_any is_list (s ∷ by)) (all_have_height n (s ∷ by)) (groups_by (s ∷ by) n) g e).2)

-- without an order the groups are those by the keys
pub unordered : (n : ℕ) (by : List Series) → grouped n by ≡ grouped_in n by None
unordered n [] = refl
unordered n (s ∷ by) = refl

rows_back : (ps : List (List ℕ)) → map (λ (p : Group). p.rows) (map group_of ps) ≡ ps
rows_back [] = refl
rows_back (p ∷ ps) = ap (λ (qs : List (List ℕ)). p ∷ qs) (rows_back ps)

-- the groups of a key hold each row once
once_in : (n : ℕ) (by : List Series) (order : Option (Series × SortOptions)) (g : Groups) → grouped_in n by order ≡ Ok g → HoldsEachRowOnce g
once_in n [] order g e = absurd (cc)
once_in n (s ∷ by) order g e =
    let made : Groups = record { height = n; groups = map group_of (ordered_parts (s ∷ by) order n) } in
    let same = (chosen_groups (list_any is_list (with_order order (s ∷ by))) (all_have_height n (with_order order (s ∷ by))) made g e).2 in
    let once : HoldsEachRowOnce made = subst (λ (ps : List (List ℕ)). IsPermutation (range_with_len 0 n) (concat ps)) (sym (rows_back (ordered_parts (s ∷ by) order n))) (each_ordered_row_once (s ∷ by) order n) in
    subst HoldsEachRowOnce same once

pub each_once : (n : ℕ) (by : List Series) (order : Option (Series × SortOptions)) (r : Result Groups PxError) → Answers r (grouped_in n by order) → IfOk r HoldsEachRowOnce
each_once n by order (Ok g) e = once_in n by order g e
each_once n by order (Err x) e = tt

-- a list of rows beside its first row
pub group_made : (first : ℕ) (xs rows : List ℕ) → xs ≡ rows → first ≡ first_row xs → record { first = first; rows = xs } ≡ group_of rows
group_made first xs rows e f = λ i. record { first = (f ∙ ap first_row e) i; rows = e i }

-- the rows of one group more
pub ordered_next : (f : Group → Group) (gs : List Group) (i : ℕ) (p : Group) (old new : List (ℕ × SmallVec ℕ 1 Global)) (x : ℕ × SmallVec ℕ 1 Global) → new ≡ old ++ x ∷ [] → map idx_group old ≡ map f (take i gs)
    → slice_get gs i ≡ Some p → idx_group x ≡ f p → map idx_group new ≡ map f (take (i + 1) gs)
ordered_next f gs i p old new x e made at same = ap (map idx_group) e ∙ map_push idx_group old x ∙ (λ j. made j ++ same j ∷ []) ∙ sym (map_next f gs i p at)
