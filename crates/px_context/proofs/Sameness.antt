-- Laws of cells, and of what is too long.
use Rattle.std.proofs.Common.{◌≡◌, ℕ, ◌+◌, ◌^◌, ◌≤◌, Bool, true, false, List, [], ◌∷◌, Result, Ok, Err, cond, fold, length, map, nat_lt, replicate, sum, refl, sym, ◌∙◌, ap, subst, arith}
use Rattle.std.specs.List.{flat_map, range_with_len}
use Rattle.std.proofs.lemmas.Bool.Decides.{nat_tests}
use Rattle.std.proofs.lemmas.List.{length-map}
use Rattle.std.proofs.lemmas.List.Concat.{length-flat_map}
use Rattle.std.proofs.lemmas.List.FromFn.{length-range_with_len}
use Rattle.px_column.specs.Prelude.{Series, Slot, lists, slot_at}
use Rattle.px_column.specs.Result.{◌>>=◌}
use Rattle.px_value.specs.declared.error.PxError.{PxError}
use Rattle.px_value.specs.declared.error.PxError.TheVariants.{ComputeError}
use Rattle.px_value.specs.declared.error.ComputeWhy.TheVariants.{TooLong}
use Rattle.px_value.specs.declared.method.GroupByMethod.TheVariants.{Implode}
use Rattle.px_frame.specs.Cell.{Cell, count_of, rows, unit}
use Rattle.px_frame.specs.Consecutive.{consecutive, slices_from}
use Rattle.px_frame.specs.Frame.{slots_at}
use Rattle.px_frame.specs.Groups.{Group, Groups, lengths_of, rows_of}
use Rattle.px_frame.specs.GroupsView.{groups_of}
use Rattle.px_frame.specs.Reduced.{reduced_at}
use Rattle.px_frame.specs.declared.groups.GroupsType.{GroupsType}
use Rattle.px_context.specs.Changes.{aggregated, aggregated_in, all_rows, counts_of, groups_for, groups_under, is_pending, with_lists}
use Rattle.px_context.specs.Context.{Context, cells_in, cells_of, items_at}
use Rattle.px_context.specs.Final.{final_in, final_of, flat_in, joined, len_at}
use Rattle.px_context.specs.declared.agg_state.Layout.{Layout}
use Rattle.px_context.specs.declared.agg_state.Layout.TheVariants.{Lists, Scalars, Flat, Rows, Unit as Single}
use Rattle.px_context.specs.declared.agg_state.UpdateGroups.{UpdateGroups}
use Rattle.px_context.specs.declared.agg_state.UpdateGroups.TheVariants.{No, WithGroupsLen, WithSeriesLen}
use Rattle.px_context.proofs.Apart.{pair_ok}
use Rattle.px_context.proofs.Regrouping.{list_counts}

by_rows : (f : List ℕ → Cell) (gs : List Group) → map (λ p. f p.rows) gs ≡ map f (map (λ p. p.rows) gs)
by_rows f [] = refl
by_rows f (g ∷ gs) = ap (λ (cs : List Cell). f g.rows ∷ cs) (by_rows f gs)

cells_by_rows : (l : Layout) (s : Series) (a b : Groups) → rows_of a ≡ rows_of b → cells_in l s a ≡ cells_in l s b
cells_by_rows Lists s a b e = refl
cells_by_rows Scalars s a b e = refl
cells_by_rows Flat s a b e =
    let at = λ (rs : List ℕ). rows (slots_at s.slots rs) in
    by_rows at a.groups ∙ ap (map at) e ∙ sym (by_rows at b.groups)
cells_by_rows Rows s a b e =
    let all = λ (rs : List ℕ). rows s.slots in
    by_rows all a.groups ∙ ap (map all) e ∙ sym (by_rows all b.groups)
cells_by_rows Single s a b e =
    let one = λ (rs : List ℕ). unit (slot_at s.slots 0) in
    by_rows one a.groups ∙ ap (map one) e ∙ sym (by_rows one b.groups)

-- groups of the same rows give equal cells
pub cells_alike : (c : Context) (g : Groups) → rows_of g ≡ rows_of c.groups → cells_of (record c { groups = g }) ≡ cells_of c
cells_alike c g e = cells_by_rows c.layout c.values g c.groups e

-- whatever they are kept as
pub cells_kept_alike : (c : Context) (height : ℕ) (one other : GroupsType) → map (λ p. p.rows) (groups_of one) ≡ map (λ p. p.rows) (groups_of other)
    → cells_of (record c { groups = record { height = height; groups = groups_of one } }) ≡ cells_of (record c { groups = record { height = height; groups = groups_of other } })
cells_kept_alike c height one other e = cells_by_rows c.layout c.values (record { height = height; groups = groups_of one }) (record { height = height; groups = groups_of other }) e

abbrev long : {X : Type 0} → Result X PxError
long = Err (ComputeError TooLong)

-- what is refused only where there are 2^32
large : {X : Type 0} (b : Bool) (n : ℕ) (made : X) → nat_lt n (2 ^ 32) ≡ b → cond b (Ok made) long ≡ long → 2 ^ 32 ≤ n
large true n made h e = cc
large false n made h e = grind (arith, nat_tests)

large_then : {X Y : Type 0} (b : Bool) (n : ℕ) (made : X) (f : X → Y) → nat_lt n (2 ^ 32) ≡ b → (cond b (Ok made) long >>= λ x. Ok (f x)) ≡ long → 2 ^ 32 ≤ n
large_then true n made f h e = cc
large_then false n made f h e = grind (arith, nat_tests)

-- and is always refused there
not_few : (n : ℕ) → 2 ^ 32 ≤ n → nat_lt n (2 ^ 32) ≡ false
not_few n h = grind (arith, nat_tests)

refused : {X : Type 0} (n : ℕ) (made : X) → 2 ^ 32 ≤ n → cond (nat_lt n (2 ^ 32)) (Ok made) long ≡ long
refused n made h = ap (λ (b : Bool). cond b (Ok made) long) (not_few n h)

flat_counts : (xs : List Slot) (gs : List Group) → map (λ p. length p.rows) gs ≡ map count_of (map (λ p. rows (slots_at xs p.rows)) gs)
flat_counts xs [] = refl
flat_counts xs (g ∷ gs) = λ i. sym (length-map g.rows (slot_at xs)) i ∷ flat_counts xs gs i

whole_counts : {X : Type 0} (xs : List Slot) (gs : List X) → map (λ (p : Group). length p.rows) (replicate (length gs) (record { first = 0; rows = range_with_len 0 (length xs) })) ≡ map count_of (map (λ _. rows xs) gs)
whole_counts xs [] = refl
whole_counts xs (g ∷ gs) = λ i. length-range_with_len 0 (length xs) i ∷ whole_counts xs gs i

unit_counts : (xs : List Slot) → replicate (length xs) 1 ≡ map count_of (map unit xs)
unit_counts [] = refl
unit_counts (x ∷ xs) = ap (λ (ns : List ℕ). 1 ∷ ns) (unit_counts xs)

sum_map : {X : Type 0} (f : X → ℕ) (xs : List X) (a : ℕ) → fold (λ b x. b + x) a (map f xs) ≡ fold (λ b x. b + f x) a xs
sum_map f [] a = refl
sum_map f (x ∷ xs) a = sum_map f xs (a + f x)

-- how many items lists have together
joined_count : (xs : List Slot) → length (flat_map items_at xs) ≡ sum (map count_of (map (λ x. rows (items_at x)) xs))
joined_count xs = length-flat_map items_at xs ∙ sym (sum_map len_at xs 0) ∙ ap sum (sym (list_counts xs))

abbrev listed : Series → Groups → Series
listed s g = record { name = s.name; kind = lists s.kind; slots = map (reduced_at Implode s) g.groups }

aggregated_large : (l : Layout) (c : Context) → aggregated_in l c ≡ long → 2 ^ 32 ≤ sum (map count_of (cells_in l c.values c.groups))
aggregated_large Lists c e = cc
aggregated_large Scalars c e = cc
aggregated_large Flat c e =
    let large = large_then (nat_lt (sum (lengths_of c.groups)) (2 ^ 32)) (sum (lengths_of c.groups)) (listed c.values c.groups) (with_lists c) refl e in
    subst (λ (ns : List ℕ). 2 ^ 32 ≤ sum ns) (flat_counts c.values.slots c.groups.groups) large
aggregated_large Rows c e =
    let g = all_rows (length c.groups.groups) (length c.values.slots) in
    let large = large_then (nat_lt (sum (lengths_of g)) (2 ^ 32)) (sum (lengths_of g)) (listed c.values g) (with_lists c) refl e in
    subst (λ (ns : List ℕ). 2 ^ 32 ≤ sum ns) (whole_counts c.values.slots c.groups.groups) large
aggregated_large Single c e = cc

pub aggregated_long : (c : Context) → aggregated c ≡ Err (ComputeError TooLong) → 2 ^ 32 ≤ sum (counts_of c)
aggregated_long c e = aggregated_large c.layout c e

consecutive_large : (cs : List ℕ) → consecutive cs ≡ long → 2 ^ 32 ≤ sum cs
consecutive_large cs e = large (nat_lt (sum cs) (2 ^ 32)) (sum cs) (record { height = sum cs; groups = slices_from 0 cs }) refl e

groups_large : (u : UpdateGroups) (c : Context) → groups_under u c ≡ long → 2 ^ 32 ≤ sum (counts_of c)
groups_large No c e = cc
groups_large WithGroupsLen c e = consecutive_large (counts_of c) e
groups_large WithSeriesLen c e = consecutive_large (counts_of c) e

pub regrouped_long : (c : Context) → groups_for c ≡ Err (ComputeError TooLong) → 2 ^ 32 ≤ sum (counts_of c)
regrouped_long c e = groups_large c.update c e

joined_large : (s : Series) → joined s ≡ long → 2 ^ 32 ≤ sum (map count_of (map (λ x. rows (items_at x)) s.slots))
joined_large s e = subst (λ (n : ℕ). 2 ^ 32 ≤ n) (joined_count s.slots) (large (nat_lt (length (flat_map items_at s.slots)) (2 ^ 32)) (length (flat_map items_at s.slots)) _ refl e)

flat_large : (l : Layout) (s : Series) (g : Groups) → flat_in l s ≡ long → 2 ^ 32 ≤ sum (map count_of (cells_in l s g))
flat_large Lists s g e = joined_large s e
flat_large Scalars s g e = cc
flat_large Flat s g e = cc
flat_large Rows s g e = cc
flat_large Single s g e = cc

pub flat_long : (c : Context) → flat_in c.layout c.values ≡ Err (ComputeError TooLong) → 2 ^ 32 ≤ sum (counts_of c)
flat_long c e = flat_large c.layout c.values c.groups e

-- a pair is refused where one of the two is
both_large : {N : Type 0} (s : Series) (r : Result Series PxError) (q : Result Groups PxError) → (r ≡ long → N) → (q ≡ long → N) → (r >>= λ a. q >>= λ b. pair_ok a b) ≡ long → N
both_large s (Ok a) (Ok b) f g e = cc
both_large s (Ok a) (Err x) f g e = g (let same : x ≡ ComputeError TooLong = cc in ap Err same)
both_large s (Err x) q f g e = f (let same : x ≡ ComputeError TooLong = cc in ap Err same)

lists_large : (s : Series) → 2 ^ 32 ≤ sum (map len_at s.slots) → 2 ^ 32 ≤ sum (map count_of (map (λ x. rows (items_at x)) s.slots))
lists_large s h = subst (λ (ns : List ℕ). 2 ^ 32 ≤ sum ns) (sym (list_counts s.slots)) h

units_large : (s : Series) (q : Result Groups PxError) → consecutive (replicate (length s.slots) 1) ≡ q → (q >>= λ b. pair_ok s b) ≡ long → 2 ^ 32 ≤ sum (map count_of (map unit s.slots))
units_large s (Ok b) f e = cc
units_large s (Err x) f e =
    let same : x ≡ ComputeError TooLong = cc in
    subst (λ (ns : List ℕ). 2 ^ 32 ≤ sum ns) (unit_counts s.slots) (consecutive_large (replicate (length s.slots) 1) (f ∙ ap Err same))

final_large : (l : Layout) (s : Series) (g : Groups) → final_in l s g ≡ long → 2 ^ 32 ≤ sum (map count_of (cells_in l s g))
final_large Lists s g e = both_large s (joined s) (consecutive (map len_at s.slots)) (joined_large s) (λ f. lists_large s (consecutive_large (map len_at s.slots) f)) e
final_large Scalars s g e = units_large s (consecutive (replicate (length s.slots) 1)) refl e
final_large Flat s g e = cc
final_large Rows s g e = cc
final_large Single s g e = cc

pub final_long : (c : Context) → final_of c ≡ Err (ComputeError TooLong) → 2 ^ 32 ≤ sum (counts_of c)
final_long c e = final_large c.layout c.values c.groups e

pub always_aggregated : (c : Context) → c.layout ≡ Flat → 2 ^ 32 ≤ sum (counts_of c) → aggregated c ≡ Err (ComputeError TooLong)
always_aggregated c e h =
    let here : 2 ^ 32 ≤ sum (map count_of (cells_in Flat c.values c.groups)) = subst (λ (l : Layout). 2 ^ 32 ≤ sum (map count_of (cells_in l c.values c.groups))) e h in
    let count : 2 ^ 32 ≤ sum (lengths_of c.groups) = subst (λ (ns : List ℕ). 2 ^ 32 ≤ sum ns) (sym (flat_counts c.values.slots c.groups.groups)) here in
    ap (λ (l : Layout). aggregated_in l c) e ∙ ap (λ r. r >>= λ s. Ok (with_lists c s)) (refused (sum (lengths_of c.groups)) (listed c.values c.groups) count)

joined_refused : (s : Series) → 2 ^ 32 ≤ sum (map count_of (map (λ x. rows (items_at x)) s.slots)) → joined s ≡ long
joined_refused s h = refused (length (flat_map items_at s.slots)) _ (subst (λ (n : ℕ). 2 ^ 32 ≤ n) (sym (joined_count s.slots)) h)

lists_here : (c : Context) → c.layout ≡ Lists → 2 ^ 32 ≤ sum (counts_of c) → 2 ^ 32 ≤ sum (map count_of (map (λ x. rows (items_at x)) c.values.slots))
lists_here c e h = subst (λ (l : Layout). 2 ^ 32 ≤ sum (map count_of (cells_in l c.values c.groups))) e h

pub always_flat : (c : Context) → c.layout ≡ Lists → 2 ^ 32 ≤ sum (counts_of c) → flat_in c.layout c.values ≡ Err (ComputeError TooLong)
always_flat c e h = ap (λ (l : Layout). flat_in l c.values) e ∙ joined_refused c.values (lists_here c e h)

pub always_final : (c : Context) → c.layout ≡ Lists → 2 ^ 32 ≤ sum (counts_of c) → final_of c ≡ Err (ComputeError TooLong)
always_final c e h =
    ap (λ (l : Layout). final_in l c.values c.groups) e
    ∙ ap (λ r. r >>= λ a. consecutive (map len_at c.values.slots) >>= λ b. pair_ok a b) (joined_refused c.values (lists_here c e h))

pending_refused : (u : UpdateGroups) (c : Context) → is_pending u ≡ true → 2 ^ 32 ≤ sum (counts_of c) → groups_under u c ≡ long
pending_refused No c p h = cc
pending_refused WithGroupsLen c p h = refused (sum (counts_of c)) _ h
pending_refused WithSeriesLen c p h = refused (sum (counts_of c)) _ h

pub always_regrouped : (c : Context) → is_pending c.update ≡ true → 2 ^ 32 ≤ sum (counts_of c) → groups_for c ≡ Err (ComputeError TooLong)
always_regrouped c p h = pending_refused c.update c p h
