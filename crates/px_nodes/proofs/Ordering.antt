-- Rows of a column in a sorted order.
use Rattle.std.proofs.Common.{◌≡◌, ℕ, zero, suc, ◌+◌, ◌<◌, ◌==◌, Bool, true, false, ◌&&◌, cond, List, [], ◌∷◌, ◌++◌, Result, Ok, Err, length, map, fold, zip, nat_lt, refl, sym, ◌∙◌, ap, subst, arith, append-nil, append_assoc, length-append, replicate, ◌≤◌, ◌-◌, ◌||◌, take, drop, get_or, if◌then◌else◌}
use Rattle.std.specs.List.{list_all, list_any, range_with_len}
use Rattle.std.specs.Ordering.{is_lt}
use Rattle.std.proofs.lemmas.Bool.Decides.{nat_tests}
use Rattle.std.proofs.lemmas.List.{length-replicate, take_all}
use Rattle.std.proofs.lemmas.List.FromFn.{length-range_with_len}
use Rattle.px_column.specs.Order.{arg_sorted, options_with, flags_for, row_cmp, sort_keys, sorted_rows, with_row}
use Rattle.px_column.specs.Prelude.{Refuses, Slot, Series, is_list_kind, slot_at}
use Rattle.px_column.specs.Result.{◌>>=◌}
use Rattle.px_column.specs.Rows.{with_rows}
use Rattle.px_column.specs.Sorted.{rows_sorted_by}
use Rattle.px_value.specs.declared.error.InvalidWhy.TheVariants.{ListKey}
use Rattle.px_value.specs.declared.error.PxError.{PxError}
use Rattle.px_value.specs.declared.error.PxError.TheVariants.{InvalidOperation, ShapeMismatch}
use Rattle.px_value.specs.declared.sort_options.SortMultipleOptions.{SortMultipleOptions}
use Rattle.px_value.specs.declared.sort_options.SortOptions.{SortOptions}
use Rattle.px_value.proofs.FitLaws.{both}
use Rattle.px_frame.specs.Cell.{Cell, unit, rows, list_of, count_of}
use Rattle.px_frame.specs.Frame.{are_below, slots_at}
use Rattle.px_frame.specs.Spread.{NamedCell, before_all, column_of_cell, spread, spread_all, with_slots}
use Rattle.px_tree.specs.Node.{sort_by_cell, sort_cell, spread_keys}
use Rattle.px_nodes.specs.Named.{as_cell, cells_in, kinds_of, sort_by_named, sort_named, sorted_column, sorted_column_by, under}
use Rattle.px_value.proofs.Refusing.{refuses_then}

module _ (keys : List (SortOptions × List Slot)) where
  length_with : (js : List ℕ) (i : ℕ) → length (with_row keys js i) ≡ suc (length js)
  length_with [] i = refl
  length_with (j ∷ js) i = by (is_lt (row_cmp keys i j)) (length_with js i)
    where
      by : (b : Bool) → length (with_row keys js i) ≡ suc (length js) → length (cond b (i ∷ j ∷ js) (j ∷ with_row keys js i)) ≡ suc (suc (length js))
      by true h = refl
      by false h = ap suc h

  length_sorted_from : (js rs : List ℕ) → length (fold (with_row keys) js rs) ≡ length js + length rs
  length_sorted_from js [] = omega arith
  length_sorted_from js (r ∷ rs) = length_sorted_from (with_row keys js r) rs ∙ omega (arith, length_with js r)

  below_with : (n : ℕ) (js : List ℕ) (i : ℕ) → are_below n js ≡ true → nat_lt i n ≡ true → are_below n (with_row keys js i) ≡ true
  below_with n [] i h g = λ k. g k && true
  below_with n (j ∷ js) i h g = let p = both (nat_lt j n) (are_below n js) h in by (is_lt (row_cmp keys i j)) p.0 (below_with n js i p.1 g)
    where
      by : (b : Bool) → nat_lt j n ≡ true → are_below n (with_row keys js i) ≡ true → are_below n (cond b (i ∷ j ∷ js) (j ∷ with_row keys js i)) ≡ true
      by true e rest = λ k. g k && h k
      by false e rest = λ k. e k && rest k

  below_sorted_from : (n : ℕ) (js rs : List ℕ) → are_below n js ≡ true → are_below n rs ≡ true → are_below n (fold (with_row keys) js rs) ≡ true
  below_sorted_from n js [] h g = h
  below_sorted_from n js (r ∷ rs) h g =
      let p = both (nat_lt r n) (are_below n rs) g in below_sorted_from n (with_row keys js r) rs (below_with n js r h p.0) p.1

below_range : (a m n : ℕ) → a + m ≤ n → are_below n (range_with_len a m) ≡ true
below_range a zero n h = refl
below_range a (suc m) n h =
    let first : nat_lt a n ≡ true = grind (arith, nat_tests) in
    λ k. first k && below_range (a + 1) m n (omega (arith, h)) k

-- sorted rows are as many as there are, and each of them is there
pub length_sorted : (keys : List (SortOptions × List Slot)) (n : ℕ) → length (sorted_rows keys n) ≡ n
length_sorted keys n = length_sorted_from keys [] (range_with_len 0 n) ∙ omega (arith, length-range_with_len 0 n)

pub below_sorted : (keys : List (SortOptions × List Slot)) (n : ℕ) → are_below n (sorted_rows keys n) ≡ true
below_sorted keys n = below_sorted_from keys n [] (range_with_len 0 n) refl (below_range 0 n n (omega arith))

-- what an order of a column answers
pub sorted_is : (options : SortOptions) (s : Series) (found : List ℕ) → arg_sorted options s ≡ Ok found → found ≡ sorted_rows ((options, s.slots) ∷ []) (length s.slots)
sorted_is options s found h = by (is_list_kind s.kind) h
  where
    by : (b : Bool) → (if b then Err (InvalidOperation ListKey) else Ok (sorted_rows ((options, s.slots) ∷ []) (length s.slots))) ≡ Ok found → found ≡ sorted_rows ((options, s.slots) ∷ []) (length s.slots)
    by true g = absurd (cc)
    by false g = cc

-- a cell's rows in order are its column's
pub sort_made : (options : SortOptions) (c : NamedCell) → as_cell false (sorted_column options (column_of_cell c)) ≡ sort_named options c
sort_made options c = by (is_list_kind c.kind)
  where
    by : (b : Bool) → as_cell false ((if b then Err (InvalidOperation ListKey) else Ok (sorted_rows ((options, list_of c.cell) ∷ []) (length (list_of c.cell)))) >>= λ found. Ok (with_rows (column_of_cell c) (slots_at (list_of c.cell) found)))
        ≡ (if b then Err (InvalidOperation ListKey) else under c.name c.kind (sort_cell options c.cell))
    by true = refl
    by false = refl

-- without keys rows stay as they are
with_last : (js : List ℕ) (i : ℕ) → with_row [] js i ≡ js ++ i ∷ []
with_last [] i = refl
with_last (j ∷ js) i = ap (λ ks. j ∷ ks) (with_last js i)

all_kept : (js rs : List ℕ) → fold (with_row []) js rs ≡ js ++ rs
all_kept js [] = sym (append-nil js)
all_kept js (r ∷ rs) = all_kept (with_row [] js r) rs ∙ ap (λ ks. ks ++ rs) (with_last js r) ∙ append_assoc js (r ∷ []) rs

at_seam : (xs : List Slot) (y : Slot) (ys : List Slot) → slot_at (xs ++ y ∷ ys) (length xs) ≡ y
at_seam [] y ys = refl
at_seam (x ∷ xs) y ys = at_seam xs y ys

at_rows : (xs ys : List Slot) → map (slot_at (xs ++ ys)) (range_with_len (length xs) (length ys)) ≡ ys
at_rows xs [] = refl
at_rows xs (y ∷ ys) =
    λ i. at_seam xs y ys i ∷ (ap (λ n. map (slot_at (xs ++ y ∷ ys)) (range_with_len n (length ys))) (sym (length-append xs (y ∷ []))) ∙ ap (λ zs. map (slot_at zs) (range_with_len (length (xs ++ y ∷ [])) (length ys))) (sym (append_assoc xs (y ∷ []) ys)) ∙ at_rows (xs ++ y ∷ []) ys) i

abbrev none : List (List Slot)
none = []

no_keys : (flags : List SortOptions) → zip flags none ≡ []
no_keys [] = refl
no_keys (f ∷ flags) = refl

pub unsorted : (options : SortMultipleOptions) (s : Series) → sorted_column_by options s [] ≡ s
unsorted options s =
    ap (λ keys. with_rows s (slots_at s.slots (sorted_rows keys (length s.slots)))) (no_keys (map options_with (zip (flags_for options.descending 0) (flags_for options.nulls_last 0))))
    ∙ ap (λ found. with_rows s (slots_at s.slots found)) (all_kept [] (range_with_len 0 (length s.slots)))
    ∙ ap (λ xs. with_rows s xs) (at_rows [] s.slots)

-- the order by keys of one length that are no lists
pub rows_by_keys : (options : SortMultipleOptions) (first : Series) (rest : List Series) (n : ℕ) → list_any (λ s. is_list_kind s.kind) (first ∷ rest) ≡ false → list_all (λ s. length s.slots == n) (first ∷ rest) ≡ true
    → rows_sorted_by options first rest ≡ Ok (sorted_rows (sort_keys options (map (λ s. s.slots) (first ∷ rest))) n)
rows_by_keys options first rest n k h =
    let p = both (length first.slots == n) (list_all (λ (s : Series). length s.slots == n) rest) h in
    let long : length first.slots ≡ n = grind (arith, nat_tests, p.0) in
    let lengths : list_all (λ (s : Series). length s.slots == length first.slots) rest ≡ true = ap (λ m. list_all (λ (s : Series). length s.slots == m) rest) long ∙ p.1 in
    ap (λ (b : Bool). if b then Err (InvalidOperation ListKey) else if list_all (λ (s : Series). length s.slots == length first.slots) rest then Ok (sorted_rows (sort_keys options (map (λ s. s.slots) (first ∷ rest))) (length first.slots)) else Err ShapeMismatch) k
    ∙ ap (λ (b : Bool). if b then Ok (sorted_rows (sort_keys options (map (λ s. s.slots) (first ∷ rest))) (length first.slots)) else Err ShapeMismatch) lengths
    ∙ ap (λ m. Ok (sorted_rows (sort_keys options (map (λ s. s.slots) (first ∷ rest))) m)) long

-- keys that are spread as columns
spread_each : (n : ℕ) (cs : List NamedCell) → spread_keys n (cells_in cs) ≡ (spread_all n cs >>= λ ss. Ok (map (λ s. s.slots) ss))
spread_each n [] = refl
spread_each n (c ∷ cs) = ap (λ r. spread n c.cell >>= λ xs. r >>= λ others. Ok (xs ∷ others)) (spread_each n cs) ∙ by (spread n c.cell) (spread_all n cs)
  where
    by : (r : Result (List Slot) PxError) (rs : Result (List Series) PxError)
        → (r >>= λ xs. (rs >>= λ ss. Ok (map (λ s. s.slots) ss)) >>= λ others. Ok (xs ∷ others)) ≡ (before_all (with_slots c r) rs >>= λ ss. Ok (map (λ s. s.slots) ss))
    by (Err e) rs = refl
    by (Ok xs) (Err e) = refl
    by (Ok xs) (Ok ss) = refl

-- they keep their types
pub spread_kinds : (n : ℕ) (cs : List NamedCell) (ss : List Series) → spread_all n cs ≡ Ok ss → list_any (λ s. is_list_kind s.kind) ss ≡ list_any is_list_kind (kinds_of cs)
spread_kinds n [] ss e = let same : ss ≡ [] = cc in ap (list_any (λ s. is_list_kind s.kind)) same
spread_kinds n (c ∷ cs) ss e = by (spread n c.cell) (spread_all n cs) (spread_kinds n cs) e
  where
    by : (r : Result (List Slot) PxError) (rs : Result (List Series) PxError) → ((ts : List Series) → rs ≡ Ok ts → list_any (λ s. is_list_kind s.kind) ts ≡ list_any is_list_kind (kinds_of cs)) → before_all (with_slots c r) rs ≡ Ok ss
        → list_any (λ s. is_list_kind s.kind) ss ≡ (is_list_kind c.kind || list_any is_list_kind (kinds_of cs))
    by (Ok xs) (Ok ts) rest h =
        let same : ss ≡ record { name = c.name; kind = c.kind; slots = xs } ∷ ts = cc in
        ap (list_any (λ s. is_list_kind s.kind)) same ∙ ap (λ b. is_list_kind c.kind || b) (rest ts refl)
    by (Ok xs) (Err x) rest h = absurd (cc)
    by (Err x) rs rest h = absurd (cc)

same_number : (m n : ℕ) → m ≡ n → (m == n) ≡ true
same_number m n h = grind (arith, nat_tests)

spread_length : (n : ℕ) (c : Cell) (xs : List Slot) → spread n c ≡ Ok xs → (length xs == n) ≡ true
spread_length n (unit s) xs e = let same : xs ≡ replicate n s = cc in same_number (length xs) n (ap length same ∙ length-replicate n s)
spread_length n (rows ys) xs e = by (length ys == n) refl e
  where
    by : (b : Bool) → (length ys == n) ≡ b → cond b (Ok ys) (Err ShapeMismatch) ≡ Ok xs → (length xs == n) ≡ true
    by true h f = let same : xs ≡ ys = cc in ap (λ zs. length zs == n) same ∙ h
    by false h f = absurd (cc)

-- and are equally long
pub spread_lengths : (n : ℕ) (cs : List NamedCell) (ss : List Series) → spread_all n cs ≡ Ok ss → list_all (λ s. length s.slots == n) ss ≡ true
spread_lengths n [] ss e = let same : ss ≡ [] = cc in ap (list_all (λ s. length s.slots == n)) same
spread_lengths n (c ∷ cs) ss e = by (spread n c.cell) (spread_length n c.cell) (spread_all n cs) (spread_lengths n cs) e
  where
    by : (r : Result (List Slot) PxError) → ((xs : List Slot) → r ≡ Ok xs → (length xs == n) ≡ true) → (rs : Result (List Series) PxError) → ((ts : List Series) → rs ≡ Ok ts → list_all (λ s. length s.slots == n) ts ≡ true)
        → before_all (with_slots c r) rs ≡ Ok ss → list_all (λ s. length s.slots == n) ss ≡ true
    by (Ok xs) one (Ok ts) rest h =
        let same : ss ≡ record { name = c.name; kind = c.kind; slots = xs } ∷ ts = cc in
        ap (list_all (λ s. length s.slots == n)) same ∙ (λ i. one xs refl i && rest ts refl i)
    by (Ok xs) one (Err x) rest h = absurd (cc)
    by (Err x) one rs rest h = absurd (cc)

-- a cell's rows by some keys are its column's
pub sort_by_made : (options : SortMultipleOptions) (c : NamedCell) (by : List NamedCell) (keys : List Series) → list_any is_list_kind (kinds_of by) ≡ false → spread_all (count_of c.cell) by ≡ Ok keys
    → as_cell false (Ok (sorted_column_by options (column_of_cell c) keys)) ≡ sort_by_named options c by
sort_by_made options c by keys h e =
    sym (ap (λ (b : Bool). if b then Err (InvalidOperation ListKey) else under c.name c.kind (sort_by_cell options c.cell (cells_in by))) h
    ∙ ap (λ r. under c.name c.kind (r >>= λ ks. Ok (rows (slots_at (list_of c.cell) (sorted_rows (sort_keys options ks) (length (list_of c.cell))))))) (spread_each (count_of c.cell) by ∙ ap (λ r. r >>= λ ss. Ok (map (λ s. s.slots) ss)) e))

-- and so is the refusal of the keys
pub sort_by_refuses : (options : SortMultipleOptions) (c : NamedCell) (by : List NamedCell) (e : PxError) → list_any is_list_kind (kinds_of by) ≡ false → Refuses e (spread_all (count_of c.cell) by) → Refuses e (sort_by_named options c by)
sort_by_refuses options c by e h r =
    let keys = refuses_then e (spread_all (count_of c.cell) by) (λ ss. Ok (map (λ s. s.slots) ss)) r in
    let same = subst (Refuses e) (sym (spread_each (count_of c.cell) by)) keys in
    let cell = refuses_then e (spread_keys (count_of c.cell) (cells_in by)) (λ ks. Ok (rows (slots_at (list_of c.cell) (sorted_rows (sort_keys options ks) (length (list_of c.cell)))))) same in
    let named = refuses_then e (sort_by_cell options c.cell (cells_in by)) (λ x. Ok (record { name = c.name; kind = c.kind; cell = x })) cell in
    subst (Refuses e) (sym (ap (λ (b : Bool). if b then Err (InvalidOperation ListKey) else under c.name c.kind (sort_by_cell options c.cell (cells_in by))) h)) named

-- a first key and the others are all keys
all_keys : (keys : List Series) (first : Series) → 1 ≤ length keys → first ≡ get_or keys 0 first → first ∷ take (length keys - 1) (drop 1 keys) ≡ keys
all_keys [] first h e = absurd (omega (arith, h))
all_keys (k ∷ keys) first h e =
    let others : take (length (k ∷ keys) - 1) (drop 1 (k ∷ keys)) ≡ keys = take_all (length (k ∷ keys) - 1) keys (omega arith) in
    λ i. e i ∷ others i

-- the order by a first key and the others
pub keys_order : (options : SortMultipleOptions) (keys : List Series) (first : Series) (n : ℕ) → 1 ≤ length keys → first ≡ get_or keys 0 first
    → list_any (λ s. is_list_kind s.kind) keys ≡ false → list_all (λ s. length s.slots == n) keys ≡ true
    → rows_sorted_by options first (take (length keys - 1) (drop 1 keys)) ≡ Ok (sorted_rows (sort_keys options (map (λ s. s.slots) keys)) n)
keys_order options keys first n some is kinds lengths =
    let all = all_keys keys first some is in
    rows_by_keys options first (take (length keys - 1) (drop 1 keys)) n (ap (list_any (λ s. is_list_kind s.kind)) all ∙ kinds) (ap (list_all (λ s. length s.slots == n)) all ∙ lengths)
    ∙ ap (λ ks. Ok (sorted_rows (sort_keys options (map (λ s. s.slots) ks)) n)) all

-- no key at all
pub no_key : (keys : List Series) → length keys < 1 → keys ≡ []
no_key [] h = refl
no_key (k ∷ keys) h = absurd (omega (arith, h))
