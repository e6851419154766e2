-- Groups within a height, and slices among them.
use Rattle.std.proofs.Common.{◌≡◌, ℕ, zero, suc, ◌+◌, ◌^◌, ◌<◌, ◌≤◌, true, ◌&&◌, List, [], ◌∷◌, Some, length, map, nat_le, nat_lt, slice_get, slice_index, refl, arith}
use Rattle.std.specs.List.{list_all, range_with_len}
use Rattle.std.specs.declared.alloc.Global.{Global}
use Rattle.smallvec.specs.declared.SmallVec.{SmallVec}
use Rattle.std.proofs.lemmas.Bool.Decides.{nat_tests}
use Rattle.std.proofs.lemmas.List.FromFn.{length-range_with_len, get_or-range_with_len}
use Rattle.px_value.proofs.FitLaws.{both}
use Rattle.px_frame.specs.Frame.{are_below}
use Rattle.px_frame.specs.Groups.{Group, is_group, IsGroups}
use Rattle.px_frame.specs.GroupsView.{all_end_within, all_rows_below, are_short, groups_of, idx_group, is_within, slice_group}
use Rattle.px_frame.specs.declared.groups.GroupsType.{GroupsType}
use Rattle.px_frame.specs.declared.groups.GroupsType.TheVariants.{Idx, Slice}
use Rattle.px_frame.proofs.Each.{all_at}
use Rattle.px_frame.proofs.Ranges.{range_below}

pub test_lt : (m n : ℕ) → m < n → nat_lt m n ≡ true
test_lt m n h = grind (arith, nat_tests)

pub lt_test : (m n : ℕ) → nat_lt m n ≡ true → m < n
lt_test m n h = grind (arith, nat_tests)

pub le_test : (m n : ℕ) → nat_le m n ≡ true → m ≤ n
le_test m n h = grind (arith, nat_tests)

-- rows that are below m are below more
pub are_below_more : (m n : ℕ) (rows : List ℕ) → m ≤ n → are_below m rows ≡ true → are_below n rows ≡ true
are_below_more m n [] le h = refl
are_below_more m n (r ∷ rows) le h =
    let p = both (nat_lt r m) (are_below m rows) h in
    let lt : r < n = omega (arith, lt_test r m p.0, le) in
    λ i. test_lt r n lt i && are_below_more m n rows le p.1 i

-- a group of rows below m is one of rows below more
pub is_group_more : (m n : ℕ) (g : Group) → m ≤ n → is_group m g ≡ true → is_group n g ≡ true
is_group_more m n g le h =
    let p = both (are_below m g.rows) (nat_lt (length g.rows) (2 ^ 32)) h in
    λ i. are_below_more m n g.rows le p.0 i && p.1 i

-- the group at a place
pub group_at : (height : ℕ) (groups : List Group) (i : ℕ) (g : Group) → IsGroups height groups → slice_get groups i ≡ Some g → is_group height g ≡ true
group_at height groups i g h e = all_at (is_group height) groups i g h.each e

-- a row of rows that are below h is below h
pub row_below : (h : ℕ) (rows : List ℕ) (i : ℕ) → are_below h rows ≡ true → i < length rows → slice_index rows i < h
row_below h [] i b lt = absurd (omega (arith, lt))
row_below h (r ∷ rows) zero b lt = lt_test r h (both (nat_lt r h) (are_below h rows) b).0
row_below h (r ∷ rows) (suc i) b lt = row_below h rows i (both (nat_lt r h) (are_below h rows) b).1 (omega (arith, lt))

-- the row at a place of a range
pub range_at : (a n i : ℕ) → i < length (range_with_len a n) → slice_index (range_with_len a n) i ≡ a + i
range_at a n i h = get_or-range_with_len a n i 0 (omega (arith, h, length-range_with_len a n))

-- the row at a place of a slice is below 2^32
pub slice_row : (s : List ℕ) (i : ℕ) → is_group (2 ^ 32) (slice_group s) ≡ true → i < length (slice_group s).rows → slice_index s 0 + i < 2 ^ 32
slice_row s i h lt =
    let rows = range_with_len (slice_index s 0) (slice_index s 1) in
    let below = row_below (2 ^ 32) rows i (both (are_below (2 ^ 32) rows) (nat_lt (length rows) (2 ^ 32)) h).0 lt in
    omega (arith, below, range_at (slice_index s 0) (slice_index s 1) i lt)

-- a slice that ends within h is a group of rows below h
pub is_group-slice : (h a n : ℕ) → h < 2 ^ 32 → a + n ≤ h → is_group h (record { first = a; rows = range_with_len a n }) ≡ true
is_group-slice h a n few le =
    let short : length (range_with_len a n) < 2 ^ 32 = omega (arith, length-range_with_len a n, le, few) in
    λ i. range_below h a n le i && test_lt _ _ short i

slices_each : (h : ℕ) (slices : List (List ℕ)) → h < 2 ^ 32 → all_end_within h slices ≡ true → list_all (is_group h) (map slice_group slices) ≡ true
slices_each h [] few e = refl
slices_each h (s ∷ slices) few e =
    let p = both (nat_le (slice_index s 0 + slice_index s 1) h) (all_end_within h slices) e in
    λ i. is_group-slice h (slice_index s 0) (slice_index s 1) few (le_test _ _ p.0) i && slices_each h slices few p.1 i

lists_each : (h : ℕ) (groups : List (ℕ × SmallVec ℕ 1 Global)) → all_rows_below h groups ≡ true → list_all (λ p. nat_lt (length p.1.items) (2 ^ 32)) groups ≡ true → list_all (is_group h) (map idx_group groups) ≡ true
lists_each h [] e s = refl
lists_each h (g ∷ groups) e s =
    let p = both (are_below h g.1.items) (all_rows_below h groups) e in
    let q = both (nat_lt (length g.1.items) (2 ^ 32)) (list_all (λ p. nat_lt (length p.1.items) (2 ^ 32)) groups) s in
    λ i. (p.0 i && q.0 i) && lists_each h groups p.1 q.1 i

each_within : (h : ℕ) (groups : GroupsType) → h < 2 ^ 32 → is_within h groups ≡ true → are_short groups ≡ true → list_all (is_group h) (groups_of groups) ≡ true
each_within h (Idx v) few e s = lists_each h v.items e s
each_within h (Slice v rolling) few e s = slices_each h v.items few e

-- groups that do not reach past a height are groups of its rows
pub IsGroups-within : (h : ℕ) (groups : GroupsType) → h < 2 ^ 32 → is_within h groups ≡ true → are_short groups ≡ true → length (groups_of groups) < 2 ^ 32 → IsGroups h (groups_of groups)
IsGroups-within h groups few e s n = record { each = each_within h groups few e s; few = n }
