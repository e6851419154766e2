-- What an expression has on the parts of chunks, merged for each part of their keys, it has on the parts of the whole.
use Rattle.std.proofs.Common.{◌≡◌, ℕ, zero, suc, ◌+◌, ◌^◌, ◌<◌, true, ◌&&◌, List, [], ◌∷◌, ◌++◌, Option, Some, None, option_map, length, get_or, map, nat_lt, refl, sym, ◌∙◌, ap, arith, append-nil, add-zero}
use Rattle.std.specs.List.{list_all, range_with_len, sum}
use Rattle.std.proofs.lemmas.Bool.Decides.{nat_tests}
use Rattle.std.proofs.lemmas.List.Sums.{sum_by-cons}
use Rattle.std.proofs.lemmas.List.FromFn.{length-map-range_with_len}
use Rattle.px_value.proofs.FitLaws.{both}
use Rattle.px_value.specs.Decided.{IsEquivalence-decides, row_decides}
use Rattle.px_column.specs.Equality.{row_eq}
use Rattle.px_column.specs.Key.{key_at, keys_of}
use Rattle.px_column.specs.Option.{◌>>=◌, each}
use Rattle.px_column.specs.Prelude.{Slot, Series, slot_at}
use Rattle.px_frame.specs.External.{alone, rows_of_frame}
use Rattle.px_frame.specs.Frame.{are_below, series_at, slots_at, all_have_height}
use Rattle.px_frame.specs.Parts.{numbers, distinct, parts}
use Rattle.px_tree.specs.Tree.{Tree}
use Rattle.px_cuts.specs.Cut.{joined, parts_from, chunk_keys, chunk_parts}
use Rattle.px_cuts.proofs.Cut.{numbers_moved}
use Rattle.px_cuts.proofs.Merged.{chunks_merge, Merges, next, none_left}
use Rattle.px_laws.proofs.Shapes.{bound}
use Rattle.px_tree.specs.Value.{value_on}
use Rattle.px_frame.specs.Cell.{value_of_cell}
use Rattle.px_cuts.proofs.Keys.{numbers_below, keys_appended}
use Rattle.px_tree.specs.Grouped.{value_on_part}
use Rattle.px_cuts.specs.Chunks.{Chunk, appended, frame_from, keys_in, partials_on, parts_in}

-- what stands at a row of a range's rows
range_slot : (f : ℕ → Slot) (a n i : ℕ) → i < n → slot_at (map f (range_with_len a n)) i ≡ f (a + i)
range_slot f a zero i h = absurd (omega (arith, h))
range_slot f a (suc n) zero h = ap f (sym (add-zero a))
range_slot f a (suc n) (suc i) h = let e : a + 1 + i ≡ a + suc i = omega arith in range_slot f (a + 1) n i (omega (arith, h)) ∙ ap f e

-- rows of a chunk are rows of the whole
slots_moved : (xs : List Slot) (a n : ℕ) (p : List ℕ) → are_below n p ≡ true → slots_at (slots_at xs (range_with_len a n)) p ≡ slots_at xs (map (λ i. a + i) p)
slots_moved xs a n [] h = refl
slots_moved xs a n (r ∷ p) h =
    let s = both (nat_lt r n) (are_below n p) h in
    let lt : r < n = grind (arith, nat_tests, s.0) in
    λ i. range_slot (slot_at xs) a n r lt i ∷ slots_moved xs a n p s.1 i

columns_moved : (columns : List Series) (a n : ℕ) (p : List ℕ) → are_below n p ≡ true → map (series_at p) (map (series_at (range_with_len a n)) columns) ≡ map (series_at (map (λ i. a + i) p)) columns
columns_moved [] a n p h = refl
columns_moved (s ∷ columns) a n p h = λ i. record s { slots = slots_moved s.slots a n p h i } ∷ columns_moved columns a n p h i

-- the frame of some rows of a chunk is that of these rows of the whole
pub frame_moved : (columns : List Series) (a n : ℕ) (p : List ℕ) → are_below n p ≡ true → rows_of_frame (frame_from columns a n) p ≡ rows_of_frame (alone columns) (map (λ i. a + i) p)
frame_moved columns a n p h = λ i. record { columns = columns_moved columns a n p h i; external = [] }

-- so an expression's value
value_moved : (e : Tree) (columns : List Series) (a n : ℕ) (p : List ℕ) → are_below n p ≡ true → value_on_part (frame_from columns a n) e p ≡ value_on_part (alone columns) e (map (λ i. a + i) p)
value_moved e columns a n p h = ap (λ f. option_map value_of_cell (value_on e f)) (frame_moved columns a n p h)

-- and so on some parts
each_moved : (e : Tree) (columns : List Series) (a n : ℕ) (ps : List (List ℕ)) → list_all (are_below n) ps ≡ true → each (value_on_part (frame_from columns a n) e) ps ≡ each (value_on_part (alone columns) e) (map (map (λ i. a + i)) ps)
each_moved e columns a n [] h = refl
each_moved e columns a n (p ∷ ps) h =
    let s = both (are_below n p) (list_all (are_below n) ps) h in
    λ i. value_moved e columns a n p s.0 i >>= λ y. option_map (λ ys. y ∷ ys) (each_moved e columns a n ps s.1 i)

-- the parts of a chunk are below its number of rows
parts_below : (c : Chunk) → list_all (are_below c.rows) (parts_in c) ≡ true
parts_below c = all (distinct row_eq (keys_in c))
  where
    all : (fs : List (List Slot)) → list_all (are_below c.rows) (map (λ f. numbers (row_eq f) 0 (keys_in c)) fs) ≡ true
    all [] = refl
    all (f ∷ fs) = λ i. numbers_below (row_eq f) 0 (keys_in c) c.rows (omega (arith, length-map-range_with_len (key_at c.by) 0 c.rows)) i && all fs i

-- and from its first row on
parts_moved : (a : ℕ) (c : Chunk) → map (map (λ i. a + i)) (parts_in c) ≡ parts_from row_eq a (keys_in c)
parts_moved a c = all (distinct row_eq (keys_in c))
  where
    all : (fs : List (List Slot)) → map (map (λ i. a + i)) (map (λ f. numbers (row_eq f) 0 (keys_in c)) fs) ≡ map (λ f. numbers (row_eq f) a (keys_in c)) fs
    all [] = refl
    all (f ∷ fs) = λ i. (sym (numbers_moved (row_eq f) a 0 (keys_in c)) ∙ ap (λ n. numbers (row_eq f) n (keys_in c)) (add-zero a)) i ∷ all fs i

-- what is made of some and of others is made of both
each_append : {A B : Type 0} (f : A → Option B) (xs ys : List A) (us vs : List B) → each f xs ≡ Some us → each f ys ≡ Some vs → each f (xs ++ ys) ≡ Some (us ++ vs)
each_append f [] ys us vs h g = g ∙ ap (λ ws. Some (ws ++ vs)) (sym (none_left us h))
each_append f (x ∷ xs) ys us vs h g =
    let n = next (f x) (each f xs) us h in
    (λ i. n.made i >>= λ y. option_map (λ ws. y ∷ ws) (each_append f xs ys n.rest vs n.others g i)) ∙ ap (λ ws. Some (ws ++ vs)) (sym n.all)

-- the values on the parts of chunks, as rows of the whole
pub values_whole : (e : Tree) (columns : List Series) (a : ℕ) (chunks : List Chunk) (vs : List Slot) → partials_on e columns a chunks ≡ Some vs → each (value_on_part (alone columns) e) (chunk_parts row_eq a (map keys_in chunks)) ≡ Some vs
values_whole e columns a [] vs h = h
values_whole e columns a (c ∷ chunks) vs h =
    let us = bound (each (value_on_part (frame_from columns a c.rows) e) (parts_in c)) _ vs h in
    let ws = bound (partials_on e columns (a + c.rows) chunks) _ vs us.2 in
    let all : us.0 ++ ws.0 ≡ vs = let e : Some (us.0 ++ ws.0) ≡ Some vs = ws.2 in cc in
    let first : each (value_on_part (alone columns) e) (parts_from row_eq a (keys_in c)) ≡ Some us.0 =
    ap (each (value_on_part (alone columns) e)) (sym (parts_moved a c)) ∙ sym (each_moved e columns a c.rows (parts_in c) (parts_below c)) ∙ us.1 in
    let size : c.rows ≡ length (keys_in c) = sym (length-map-range_with_len (key_at c.by) 0 c.rows) in
    let others = values_whole e columns (a + c.rows) chunks ws.0 ws.1 in
    each_append (value_on_part (alone columns) e) (parts_from row_eq a (keys_in c)) (chunk_parts row_eq (a + length (keys_in c)) (map keys_in chunks)) us.0 ws.0 first
    (ap (λ n. each (value_on_part (alone columns) e) (chunk_parts row_eq (a + n) (map keys_in chunks))) (sym size) ∙ others)
    ∙ ap Some all

-- a place or none
slot_is : (xs : List Slot) (i : ℕ) → get_or xs i None ≡ slot_at xs i
slot_is [] i = refl
slot_is (x ∷ xs) zero = refl
slot_is (x ∷ xs) (suc i) = slot_is xs i

slots_are : (xs : List Slot) (g : List ℕ) → map (λ i. get_or xs i None) g ≡ slots_at xs g
slots_are xs [] = refl
slots_are xs (i ∷ g) = λ j. slot_is xs i j ∷ slots_are xs g j

merged_are : (merge : List Slot → Slot) (vs : List Slot) (gs : List (List ℕ)) → map (λ g. merge (map (λ i. get_or vs i None) g)) gs ≡ map (λ g. merge (slots_at vs g)) gs
merged_are merge vs [] = refl
merged_are merge vs (g ∷ gs) = λ j. merge (slots_are vs g j) ∷ merged_are merge vs gs j

-- what an expression that merges has on the parts of chunks, merged for each part of their keys, it has on the parts of the whole
pub values_merge : (e : Tree) (columns : List Series) (merge : List Slot → Slot) (chunks : List Chunk) (vs : List Slot) → Merges (IsEquivalence-decides row_decides) None (value_on_part (alone columns) e) merge (2 ^ 32)
    → length (joined (map keys_in chunks)) < 2 ^ 32 → partials_on e columns 0 chunks ≡ Some vs
    → each (value_on_part (alone columns) e) (parts row_eq (joined (map keys_in chunks))) ≡ Some (map (λ g. merge (slots_at vs g)) (parts row_eq (chunk_keys row_eq (map keys_in chunks))))
values_merge e columns merge chunks vs law short h =
    chunks_merge (IsEquivalence-decides row_decides) None (value_on_part (alone columns) e) merge (2 ^ 32) law (map keys_in chunks) vs short (values_whole e columns 0 chunks vs h)
    ∙ ap Some (merged_are merge vs (parts row_eq (chunk_keys row_eq (map keys_in chunks))))

-- as many columns
pub length_appended : (ls rs : List Series) → length ls ≡ length rs → length (appended ls rs) ≡ length ls
length_appended [] rs h = refl
length_appended (l ∷ ls) [] h = absurd (omega (arith, h))
length_appended (l ∷ ls) (r ∷ rs) h = ap suc (length_appended ls rs (omega (arith, h)))

-- what is asked of the columns of chunks: as many, and each as long as is said
abbrev pub AreTables : ℕ → List (ℕ × List Series) → Type 0
AreTables k [] = Unit {0}
AreTables k (t ∷ ts) = (length t.1 ≡ k) × (all_have_height t.0 t.1 ≡ true) × AreTables k ts

-- tables one after another
abbrev pub stacked : List (ℕ × List Series) → List Series
stacked [] = []
stacked (t ∷ []) = t.1
stacked (t ∷ u ∷ ts) = appended t.1 (stacked (u ∷ ts))

length_stacked : (k : ℕ) (t : ℕ × List Series) (ts : List (ℕ × List Series)) → AreTables k (t ∷ ts) → length (stacked (t ∷ ts)) ≡ k
length_stacked k t [] h = h.0
length_stacked k t (u ∷ ts) h = length_appended t.1 (stacked (u ∷ ts)) (h.0 ∙ sym (length_stacked k u ts h.2)) ∙ h.0

-- the number of their rows
abbrev pub rows_stacked : List (ℕ × List Series) → ℕ
rows_stacked [] = 0
rows_stacked (t ∷ ts) = t.0 + rows_stacked ts

-- their keys are those of each, one after another
pub keys_stacked : (k : ℕ) (t : ℕ × List Series) (ts : List (ℕ × List Series)) → AreTables k (t ∷ ts)
    → keys_of (stacked (t ∷ ts)) (rows_stacked (t ∷ ts)) ≡ joined (map (λ (u : ℕ × List Series). keys_of u.1 u.0) (t ∷ ts))
keys_stacked k t [] h = let z : t.0 + 0 ≡ t.0 = omega arith in ap (keys_of t.1) z ∙ sym (append-nil (keys_of t.1 t.0))
keys_stacked k t (u ∷ ts) h =
    keys_appended t.1 (stacked (u ∷ ts)) t.0 (rows_stacked (u ∷ ts)) (h.0 ∙ sym (length_stacked k u ts h.2)) h.1
    ∙ ap (λ ks. keys_of t.1 t.0 ++ ks) (keys_stacked k u ts h.2)

-- the lengths of chunks, added up
abbrev pub total_length : List ℕ → ℕ
total_length [] = 0
total_length (n ∷ lengths) = n + total_length lengths

pub total_is_sum : (lengths : List ℕ) → total_length lengths ≡ sum lengths
total_is_sum [] = refl
total_is_sum (n ∷ lengths) = ap (λ m. n + m) (total_is_sum lengths) ∙ sym (sum_by-cons (λ (m : ℕ). m) n lengths)
