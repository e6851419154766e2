-- What the chunks of a frame make is what the frame makes.
use Rattle.std.proofs.Common.{◌≡◌, ℕ, zero, suc, ◌+◌, ◌^◌, ◌<◌, ◌≤◌, true, ◌&&◌, List, [], ◌∷◌, ◌++◌, Option, Some, None, option_map, length, get_or, map, refl, sym, ◌∙◌, ap, subst, arith, add-zero}
use Rattle.std.specs.List.{All, list_all, range_with_len}
use Rattle.std.proofs.lemmas.List.{length-map}
use Rattle.std.proofs.lemmas.List.Elements.{All-head, All-tail}
use Rattle.std.proofs.lemmas.List.FromFn.{length-range_with_len, length-map-range_with_len, get_or-range_with_len}
use Rattle.std.proofs.lemmas.List.Sums.{sum_by-cons}
use Rattle.std.proofs.lemmas.List.Sorted.{All-permutation}
use Rattle.px_value.specs.Decided.{IsEquivalence-decides, row_decides}
use Rattle.px_value.specs.declared.sort_options.SortOptions.{SortOptions}
use Rattle.px_column.specs.Equality.{row_eq}
use Rattle.px_column.specs.Key.{key_at, keys_of}
use Rattle.px_column.specs.Option.{◌>>=◌, each}
use Rattle.px_column.specs.Order.{sorted_rows}
use Rattle.px_column.specs.Prelude.{Kind, Slot, Series, slot_at}
use Rattle.px_frame.specs.External.{Frame, alone, height, scope_of, rows_of_frame}
use Rattle.px_frame.specs.Frame.{slots_at, height_of, all_have_height}
use Rattle.px_frame.specs.Groups.{first_row}
use Rattle.px_frame.specs.Parts.{distinct, parts, parts_of}
use Rattle.px_frame.proofs.OrderedRows.{sorted_once}
use Rattle.px_tree.specs.Nodes.{leaf_names}
use Rattle.px_tree.specs.Partition.{is_elementwise, merged}
use Rattle.px_tree.specs.Tree.{Tree}
use Rattle.px_laws.proofs.Merging.{typed_parts_merge}
use Rattle.px_laws.proofs.Shapes.{bound}
use Rattle.px_cuts.specs.Cut.{joined, chunk_keys}
use Rattle.px_cuts.specs.Whole.{rising, parts_by_keys, GroupOrder, appearance, by_keys, parts_in_order, IsCut, IsMergeable, AreChunks, final_keys, final_values, KeysAreWhole, ValuesAreWhole}
use Rattle.px_cuts.proofs.Merged.{Merges, next, none_left}
use Rattle.px_cuts.proofs.Keys.{cut_keys, keys_of_rows, keys_at_parts, same_key_values, values_of_keys, same_columns, of_keys, is_high, range_append, Matching}
use Rattle.px_cuts.proofs.KeyColumns.{keys_join, frame_whole, keys_high, none_there}
use Rattle.px_cuts.proofs.Chunked.{values_merge, AreTables, stacked, rows_stacked, keys_stacked, length_appended, total_length, total_is_sum}
use Rattle.px_tree.specs.Grouped.{key_on, key_values, value_on_part}
use Rattle.px_cuts.specs.Chunks.{Chunk, appended, chunks_on, count_key_rows, frame_from, joined_key_rows, joined_keys, key_rows_in, keys_in, partials_on, parts_in}

-- the first chunk, and those that follow
record IsFirst (keys : List Tree) (columns : List Series) (a n : ℕ) (lengths : List ℕ) (c : Chunk) (chunks : List Chunk) : Type 0 where
  by : each (key_on (frame_from columns a n)) keys ≡ Some c.by
  rows : c.rows ≡ n
  others : chunks_on keys columns (a + n) lengths ≡ Some chunks

first_chunk : (keys : List Tree) (columns : List Series) (a n : ℕ) (lengths : List ℕ) (c : Chunk) (chunks : List Chunk) → chunks_on keys columns a (n ∷ lengths) ≡ Some (c ∷ chunks) → IsFirst keys columns a n lengths c chunks
first_chunk keys columns a n lengths c chunks h =
    let by = bound (each (key_on (frame_from columns a n)) keys) _ (c ∷ chunks) h in
    let cs = bound (chunks_on keys columns (a + n) lengths) _ (c ∷ chunks) by.2 in
    let all : Some (record { rows = n; by = by.0 } ∷ cs.0) ≡ Some (c ∷ chunks) = cs.2 in
    let one : record { rows = n; by = by.0 } ≡ c = cc in
    let more : cs.0 ≡ chunks = cc in
    record { by = by.1 ∙ ap (λ (d : Chunk). Some d.by) one; rows = ap (λ (d : Chunk). d.rows) (sym one); others = cs.1 ∙ ap Some more }

-- a chunk has its number of rows
from_high : (columns : List Series) (a n m : ℕ) → height_of columns ≡ m → n ≤ m → height (frame_from columns a n) ≡ n
from_high [] a n m h le = omega (arith, h, le)
from_high (s ∷ columns) a n m h le = length-map-range_with_len (slot_at s.slots) a n

-- there are as many keys as expressions
keys_length : (frame : Frame) (keys : List Tree) (by : List Series) → each (key_on frame) keys ≡ Some by → length by ≡ length keys
keys_length frame [] by h = ap length (none_left by h)
keys_length frame (e ∷ keys) by h = let n = next (key_on frame e) (each (key_on frame) keys) by h in ap length n.all ∙ ap suc (keys_length frame keys n.rest n.others)

-- the key columns of all chunks are those of their rows
by_whole : (keys : List Tree) (columns : List Series) (a n : ℕ) (lengths : List ℕ) (c : Chunk) (chunks : List Chunk) → list_all (λ e. is_elementwise e (scope_of (alone columns))) keys ≡ true
    → chunks_on keys columns a (n ∷ lengths) ≡ Some (c ∷ chunks) → each (key_on (frame_from columns a (total_length (n ∷ lengths)))) keys ≡ Some (joined_keys c chunks)
by_whole keys columns a n [] c [] w h =
    let f = first_chunk keys columns a n [] c [] h in
    ap (λ m. each (key_on (frame_from columns a m)) keys) (add-zero n) ∙ f.by
by_whole keys columns a n [] c (d ∷ chunks) w h =
    let f = first_chunk keys columns a n [] c (d ∷ chunks) h in
    let no : Some [] ≡ Some (d ∷ chunks) = f.others in cc
by_whole keys columns a n (m ∷ lengths) c [] w h =
    let f = first_chunk keys columns a n (m ∷ lengths) c [] h in
    let by = bound (each (key_on (frame_from columns (a + n) m)) keys) _ [] f.others in
    let cs = bound (chunks_on keys columns (a + n + m) lengths) _ [] by.2 in
    let no : Some (record { rows = m; by = by.0 } ∷ cs.0) ≡ Some [] = cs.2 in cc
by_whole keys columns a n (m ∷ lengths) c (d ∷ chunks) w h =
    let f = first_chunk keys columns a n (m ∷ lengths) c (d ∷ chunks) h in
    let rest = by_whole keys columns (a + n) m lengths d chunks w f.others in
    ap (λ p. each (key_on (rows_of_frame (alone columns) p)) keys) (range_append a n (total_length (m ∷ lengths)))
    ∙ keys_join keys (scope_of (alone columns)) columns (range_with_len a n) (range_with_len (a + n) (total_length (m ∷ lengths))) c.by (joined_keys d chunks) w f.by rest

-- the key columns of chunks, as tables
abbrev by_table : Chunk → ℕ × List Series
by_table c = (c.rows, c.by)

abbrev rows_table : Chunk → ℕ × List Series
rows_table c = (length (parts_in c), key_rows_in c)

by_tables : (keys : List Tree) (columns : List Series) (a : ℕ) (lengths : List ℕ) (chunks : List Chunk) → total_length lengths ≤ height_of columns → chunks_on keys columns a lengths ≡ Some chunks → AreTables (length keys) (map by_table chunks)
by_tables keys columns a lengths [] le h = tt
by_tables keys columns a [] (c ∷ chunks) le h = let no : Some [] ≡ Some (c ∷ chunks) = h in cc
by_tables keys columns a (n ∷ lengths) (c ∷ chunks) le h =
    let f = first_chunk keys columns a n lengths c chunks h in
    let high = from_high columns a n (height_of columns) refl (omega (arith, le)) in (
      keys_length (frame_from columns a n) keys c.by f.by,
      ap (λ m. all_have_height m c.by) (f.rows ∙ sym high) ∙ keys_high (frame_from columns a n) keys c.by f.by,
      by_tables keys columns (a + n) lengths chunks (omega (arith, le)) f.others,
    )

-- a column at the first rows of parts has a place for each
values_high : (ps : List (List ℕ)) (by : List Series) → all_have_height (length ps) (map (key_values ps) by) ≡ true
values_high ps [] = refl
values_high ps (s ∷ by) = λ i. is_high (length ps) (key_values ps s) (length-map ps (λ p. slot_at s.slots (first_row p))) i && values_high ps by i

rows_tables : (k : ℕ) (chunks : List Chunk) → AreTables k (map by_table chunks) → AreTables k (map rows_table chunks)
rows_tables k [] h = tt
rows_tables k (c ∷ chunks) h = (length-map c.by (key_values (parts_in c)) ∙ h.0, values_high (parts_in c) c.by, rows_tables k chunks h.2)

joined_keys_is : (c : Chunk) (chunks : List Chunk) → stacked (map by_table (c ∷ chunks)) ≡ joined_keys c chunks
joined_keys_is c [] = refl
joined_keys_is c (d ∷ chunks) = ap (appended c.by) (joined_keys_is d chunks)

joined_key_rows_is : (c : Chunk) (chunks : List Chunk) → stacked (map rows_table (c ∷ chunks)) ≡ joined_key_rows c chunks
joined_key_rows_is c [] = refl
joined_key_rows_is c (d ∷ chunks) = ap (appended (key_rows_in c)) (joined_key_rows_is d chunks)

total_is : (keys : List Tree) (columns : List Series) (a : ℕ) (lengths : List ℕ) (chunks : List Chunk) → chunks_on keys columns a lengths ≡ Some chunks → rows_stacked (map by_table chunks) ≡ total_length lengths
total_is keys columns a [] [] h = refl
total_is keys columns a [] (c ∷ chunks) h = let no : Some [] ≡ Some (c ∷ chunks) = h in cc
total_is keys columns a (n ∷ lengths) [] h =
    let by = bound (each (key_on (frame_from columns a n)) keys) _ [] h in
    let cs = bound (chunks_on keys columns (a + n) lengths) _ [] by.2 in
    let no : Some (record { rows = n; by = by.0 } ∷ cs.0) ≡ Some [] = cs.2 in cc
total_is keys columns a (n ∷ lengths) (c ∷ chunks) h =
    let f = first_chunk keys columns a n lengths c chunks h in
    λ i. f.rows i + total_is keys columns (a + n) lengths chunks f.others i

count_is : (chunks : List Chunk) → rows_stacked (map rows_table chunks) ≡ count_key_rows chunks
count_is [] = refl
count_is (c ∷ chunks) = ap (λ n. length (parts_in c) + n) (count_is chunks) ∙ sym (sum_by-cons (λ (d : Chunk). length (parts_in d)) c chunks)

by_joined : (chunks : List Chunk) → joined (map (λ (u : ℕ × List Series). keys_of u.1 u.0) (map by_table chunks)) ≡ joined (map keys_in chunks)
by_joined [] = refl
by_joined (c ∷ chunks) = ap (λ ks. keys_in c ++ ks) (by_joined chunks)

rows_joined : (chunks : List Chunk) → joined (map (λ (u : ℕ × List Series). keys_of u.1 u.0) (map rows_table chunks)) ≡ chunk_keys row_eq (map keys_in chunks)
rows_joined [] = refl
rows_joined (c ∷ chunks) = λ i. keys_of_rows c.by c.rows i ++ rows_joined chunks i

-- columns of the same names and types, with further rows
match_appended : (ls ms rs ss : List Series) → Matching ls ms → length rs ≡ length ls → length ss ≡ length ls → Matching (appended ls rs) (appended ms ss)
match_appended [] [] rs ss h l m = tt
match_appended [] (t ∷ ms) rs ss h l m = absurd h
match_appended (s ∷ ls) [] rs ss h l m = absurd h
match_appended (s ∷ ls) (t ∷ ms) [] ss h l m = absurd (omega (arith, l))
match_appended (s ∷ ls) (t ∷ ms) (r ∷ rs) [] h l m = absurd (omega (arith, m))
match_appended (s ∷ ls) (t ∷ ms) (r ∷ rs) (q ∷ ss) h l m = (h.0, h.1, match_appended ls ms rs ss h.2 (omega (arith, l)) (omega (arith, m)))

match_values : (ps : List (List ℕ)) (by : List Series) → Matching (map (key_values ps) by) by
match_values ps [] = tt
match_values ps (s ∷ by) = (refl, refl, match_values ps by)

length_by : (k : ℕ) (c : Chunk) (chunks : List Chunk) → AreTables k (map by_table (c ∷ chunks)) → length (joined_keys c chunks) ≡ k
length_by k c [] h = h.0
length_by k c (d ∷ chunks) h = length_appended c.by (joined_keys d chunks) (h.0 ∙ sym (length_by k d chunks h.2)) ∙ h.0

length_rows : (k : ℕ) (c : Chunk) (chunks : List Chunk) → AreTables k (map by_table (c ∷ chunks)) → length (joined_key_rows c chunks) ≡ k
length_rows k c [] h = length-map c.by (key_values (parts_in c)) ∙ h.0
length_rows k c (d ∷ chunks) h =
    let own : length (key_rows_in c) ≡ k = length-map c.by (key_values (parts_in c)) ∙ h.0 in
    length_appended (key_rows_in c) (joined_key_rows d chunks) (own ∙ sym (length_rows k d chunks h.2)) ∙ own

match_stacked : (k : ℕ) (c : Chunk) (chunks : List Chunk) → AreTables k (map by_table (c ∷ chunks)) → Matching (joined_key_rows c chunks) (joined_keys c chunks)
match_stacked k c [] h = match_values (parts_in c) c.by
match_stacked k c (d ∷ chunks) h =
    let own : length (key_rows_in c) ≡ k = length-map c.by (key_values (parts_in c)) ∙ h.0 in
    match_appended (key_rows_in c) c.by (joined_key_rows d chunks) (joined_keys d chunks) (match_values (parts_in c) c.by) (length_rows k d chunks h.2 ∙ sym own) (length_by k d chunks h.2 ∙ sym own)

-- the same item of the same list, whatever stands past its end
same_at : {X : Type 0} (xs : List X) (i : ℕ) (d e : X) → i < length xs → get_or xs i d ≡ get_or xs i e
same_at [] i d e h = absurd (omega (arith, h))
same_at (x ∷ xs) zero d e h = refl
same_at (x ∷ xs) (suc i) d e h = same_at xs i d e (omega (arith, h))

-- an item of what is made
made_at : {X Y : Type 0} (f : X → Y) (xs : List X) (i : ℕ) (d : X) → f (get_or xs i d) ≡ get_or (map f xs) i (f d)
made_at f [] i d = refl
made_at f (x ∷ xs) zero d = refl
made_at f (x ∷ xs) (suc i) d = made_at f xs i d

-- items of two lists of which the same is made
same_picked : {X Y Z : Type 0} (f : X → Z) (g : Y → Z) (xs : List X) (ys : List Y) (d : X) (e : Y) → map f xs ≡ map g ys → (o : List ℕ) → All (λ i. i < length xs) o
    → map f (map (λ i. get_or xs i d) o) ≡ map g (map (λ i. get_or ys i e) o)
same_picked f g xs ys d e h [] all = refl
same_picked f g xs ys d e h (i ∷ o) all =
    let lt = All-head (λ i. i < length xs) i o all in
    let long : i < length (map f xs) = omega (arith, lt, length-map xs f) in
    λ j. (made_at f xs i d ∙ same_at (map f xs) i (f d) (g e) long ∙ ap (λ zs. get_or zs i (g e)) h ∙ sym (made_at g ys i e)) j
    ∷ same_picked f g xs ys d e h o (All-tail (λ i. i < length xs) i o all) j

-- what is made of items that are picked
each_at : {A B : Type 0} (f : A → Option B) (xs : List A) (ys : List B) (i : ℕ) (d : A) (e : B) → each f xs ≡ Some ys → i < length xs → f (get_or xs i d) ≡ Some (get_or ys i e)
each_at f [] ys i d e h lt = absurd (omega (arith, lt))
each_at f (x ∷ xs) ys zero d e h lt = let n = next (f x) (each f xs) ys h in n.made ∙ ap (λ zs. Some (get_or zs 0 e)) (sym n.all)
each_at f (x ∷ xs) ys (suc i) d e h lt = let n = next (f x) (each f xs) ys h in each_at f xs n.rest i d e n.others (omega (arith, lt)) ∙ ap (λ zs. Some (get_or zs (suc i) e)) (sym n.all)

each_picked : {A B C : Type 0} (f : A → Option B) (g : C → B) (xs : List A) (ys : List C) (d : A) (e : C) → each f xs ≡ Some (map g ys) → (o : List ℕ) → All (λ i. i < length xs) o
    → each f (map (λ i. get_or xs i d) o) ≡ Some (map g (map (λ i. get_or ys i e) o))
each_picked f g xs ys d e h [] all = refl
each_picked f g xs ys d e h (i ∷ o) all =
    let one : f (get_or xs i d) ≡ Some (g (get_or ys i e)) = each_at f xs (map g ys) i d (g e) h (All-head (λ i. i < length xs) i o all) ∙ ap Some (sym (made_at g ys i e)) in
    λ j. one j >>= λ y. option_map (λ zs. y ∷ zs) (each_picked f g xs ys d e h o (All-tail (λ i. i < length xs) i o all) j)

-- sorted rows are below their number
sorted_below : (sort_keys : List (SortOptions × List Slot)) (n : ℕ) → All (λ i. i < n) (sorted_rows sort_keys n)
sorted_below sort_keys n =
    All-permutation (λ i. i < n) (range_with_len 0 n) (sorted_rows sort_keys n) (sorted_once sort_keys n)
    (λ k d lt. let size = length-range_with_len 0 n in let at = get_or-range_with_len 0 n k d (omega (arith, size, lt)) in omega (arith, size, lt, at))

-- there are as many parts as keys told apart
count_apart : (by : List Series) (n : ℕ) → length (parts_of by n) ≡ length (distinct row_eq (keys_of by n))
count_apart by n = sym (length-map (parts_of by n) (λ p. key_at by (first_row p))) ∙ ap length (keys_at_parts by n)

-- the keys of the chunks' rows, and of the whole
module _ (keys : List Tree) (columns : List Series) (n : ℕ) (lengths : List ℕ) (c : Chunk) (chunks : List Chunk) (cut : IsCut columns keys (n ∷ lengths)) (h : chunks_on keys columns 0 (n ∷ lengths) ≡ Some (c ∷ chunks)) where
  -- the lengths sum to the height
  size : height_of columns ≡ total_length (n ∷ lengths)
  size = sym cut.whole ∙ sym (total_is_sum (n ∷ lengths))

  tables : AreTables (length keys) (map by_table (c ∷ chunks))
  tables = by_tables keys columns 0 (n ∷ lengths) (c ∷ chunks) (omega (arith, size)) h

  keys_by : keys_of (joined_keys c chunks) (total_length (n ∷ lengths)) ≡ joined (map keys_in (c ∷ chunks))
  keys_by =
      (λ i. keys_of (sym (joined_keys_is c chunks) i) (sym (total_is keys columns 0 (n ∷ lengths) (c ∷ chunks) h) i))
      ∙ keys_stacked (length keys) (by_table c) (map by_table chunks) tables ∙ by_joined (c ∷ chunks)

  keys_rows : keys_of (joined_key_rows c chunks) (count_key_rows (c ∷ chunks)) ≡ chunk_keys row_eq (map keys_in (c ∷ chunks))
  keys_rows =
      (λ i. keys_of (sym (joined_key_rows_is c chunks) i) (sym (count_is (c ∷ chunks)) i))
      ∙ keys_stacked (length keys) (rows_table c) (map rows_table chunks) (rows_tables (length keys) (c ∷ chunks) tables) ∙ rows_joined (c ∷ chunks)

  apart : distinct row_eq (keys_of (joined_key_rows c chunks) (count_key_rows (c ∷ chunks))) ≡ distinct row_eq (keys_of (joined_keys c chunks) (total_length (n ∷ lengths)))
  apart = ap (distinct row_eq) keys_rows ∙ cut_keys (map keys_in (c ∷ chunks)) ∙ ap (distinct row_eq) (sym keys_by)

  -- the keys have values on the whole
  keys_whole : each (key_on (alone columns)) keys ≡ Some (joined_keys c chunks)
  keys_whole =
      ap (λ f. each (key_on f) keys) (sym (frame_whole (total_length (n ∷ lengths)) columns (ap (λ m. all_have_height m columns) (sym size) ∙ cut.even))) ∙ by_whole keys columns 0 n lengths c chunks cut.keyed h

  -- at the parts stand the same keys
  rows_same : map (key_values (parts_of (joined_key_rows c chunks) (count_key_rows (c ∷ chunks)))) (joined_key_rows c chunks) ≡ map (key_values (parts_of (joined_keys c chunks) (total_length (n ∷ lengths)))) (joined_keys c chunks)
  rows_same = same_key_values (joined_key_rows c chunks) (joined_keys c chunks) (count_key_rows (c ∷ chunks)) (total_length (n ∷ lengths)) (match_stacked (length keys) c chunks tables) apart

  -- and as many
  count_same : length (parts_of (joined_key_rows c chunks) (count_key_rows (c ∷ chunks))) ≡ length (parts_of (joined_keys c chunks) (total_length (n ∷ lengths)))
  count_same = count_apart (joined_key_rows c chunks) (count_key_rows (c ∷ chunks)) ∙ ap length apart ∙ sym (count_apart (joined_keys c chunks) (total_length (n ∷ lengths)))

  -- so the parts stand in one order
  order_of : List Series → ℕ → List ℕ
  order_of by m = sorted_rows (map (λ (s : Series). (rising, s.slots)) (map (key_values (parts_of by m)) by)) (length (parts_of by m))

  order_same : order_of (joined_key_rows c chunks) (count_key_rows (c ∷ chunks)) ≡ order_of (joined_keys c chunks) (total_length (n ∷ lengths))
  unfolding order_of
  order_same = λ i. sorted_rows (map (λ (s : Series). (rising, s.slots)) (rows_same i)) (count_same i)

  -- in either order
  rows_whole : (order : GroupOrder) → map (key_values (parts_in_order order (joined_key_rows c chunks) (count_key_rows (c ∷ chunks)))) (joined_key_rows c chunks)
      ≡ map (key_values (parts_in_order order (joined_keys c chunks) (total_length (n ∷ lengths)))) (joined_keys c chunks)
  unfolding order_of
  rows_whole appearance = rows_same
  rows_whole by_keys =
      let m = count_key_rows (c ∷ chunks) in
      let t = total_length (n ∷ lengths) in
      let reps = joined_key_rows c chunks in
      let by = joined_keys c chunks in
      let keys_there : map (λ p. key_at reps (first_row p)) (parts_of reps m) ≡ map (λ p. key_at by (first_row p)) (parts_of by t) = keys_at_parts reps m ∙ apart ∙ sym (keys_at_parts by t) in
      let picked = same_picked (λ p. key_at reps (first_row p)) (λ p. key_at by (first_row p)) (parts_of reps m) (parts_of by t) [] [] keys_there (order_of reps m)
      (sorted_below (map (λ (s : Series). (rising, s.slots)) (map (key_values (parts_of reps m)) reps)) (length (parts_of reps m))) in
      values_of_keys reps (parts_by_keys reps m)
      ∙ same_columns reps by (map (λ p. key_at reps (first_row p)) (parts_by_keys reps m)) (match_stacked (length keys) c chunks tables)
      ∙ ap (of_keys by) (picked ∙ ap (λ o. map (λ p. key_at by (first_row p)) (map (λ i. get_or (parts_of by t) i []) o)) order_same)
      ∙ sym (values_of_keys by (parts_by_keys by t))

  -- the key columns
  pub keys_are_whole : KeysAreWhole columns keys c chunks
  keys_are_whole = record {
    whole = keys_whole;
    rows = λ order. rows_whole order ∙ ap (λ m. map (key_values (parts_in_order order (joined_keys c chunks) m)) (joined_keys c chunks)) (sym size);
  }

  -- there are as many keys as rows
  length_keys : length (joined (map keys_in (c ∷ chunks))) ≡ total_length (n ∷ lengths)
  length_keys = ap length (sym keys_by) ∙ length-map-range_with_len (key_at (joined_keys c chunks)) 0 (total_length (n ∷ lengths))

  module _ (e : Tree) (k : Kind) (merging : IsMergeable columns e k) (vs : List Slot) (there : partials_on e columns 0 (c ∷ chunks) ≡ Some vs) where
    -- values on parts with rows, merged, are the value on all their rows
    law : Merges (IsEquivalence-decides row_decides) None (value_on_part (alone columns) e) (merged e k) (2 ^ 32)
    law ps ws some short on =
        typed_parts_merge e (alone columns) k ps merging.columns_fit merging.literals_fit
        (record { safe = merging.safe; accepted = merging.accepted; even = none_there columns (leaf_names e); kind = merging.kind; some = some; short = short }) ws on

    values_same : each (value_on_part (alone columns) e) (parts_of (joined_keys c chunks) (total_length (n ∷ lengths))) ≡ Some (map (λ g. merged e k (slots_at vs g)) (parts_of (joined_key_rows c chunks) (count_key_rows (c ∷ chunks))))
    values_same =
        ap (λ ks. each (value_on_part (alone columns) e) (parts row_eq ks)) keys_by
        ∙ values_merge e columns (merged e k) (c ∷ chunks) vs law (subst (λ m. m < 2 ^ 32) (size ∙ sym length_keys) cut.short) there
        ∙ ap (λ ks. Some (map (λ g. merged e k (slots_at vs g)) (parts row_eq ks))) (sym keys_rows)

    -- merged for each part of the chunks' rows, in either order
    values_in_order : (order : GroupOrder) → each (value_on_part (alone columns) e) (parts_in_order order (joined_keys c chunks) (total_length (n ∷ lengths))) ≡ Some (final_values order c chunks e k vs)
    unfolding order_of
    values_in_order appearance = values_same
    values_in_order by_keys =
        let m = count_key_rows (c ∷ chunks) in
        let t = total_length (n ∷ lengths) in
        let reps = joined_key_rows c chunks in
        let by = joined_keys c chunks in
        each_picked (value_on_part (alone columns) e) (λ g. merged e k (slots_at vs g)) (parts_of by t) (parts_of reps m) [] [] values_same (order_of by t)
        (sorted_below (map (λ (s : Series). (rising, s.slots)) (map (key_values (parts_of by t)) by)) (length (parts_of by t)))
        ∙ ap (λ o. Some (map (λ g. merged e k (slots_at vs g)) (map (λ i. get_or (parts_of reps m) i []) o))) (sym order_same)

    -- so of the frame's height
    pub values_are_whole : ValuesAreWhole columns c chunks e k vs
    values_are_whole order = ap (λ m. each (value_on_part (alone columns) e) (parts_in_order order (joined_keys c chunks) m)) size ∙ values_in_order order

-- so of the chunks of any cut
pub keys_of_chunks_are_whole : (columns : List Series) (keys : List Tree) (lengths : List ℕ) (c : Chunk) (chunks : List Chunk) → AreChunks columns keys lengths c chunks → KeysAreWhole columns keys c chunks
keys_of_chunks_are_whole columns keys [] c chunks are = let no : Some [] ≡ Some (c ∷ chunks) = are.chunked in cc
keys_of_chunks_are_whole columns keys (n ∷ lengths) c chunks are = keys_are_whole keys columns n lengths c chunks are.cut are.chunked

pub values_of_chunks_are_whole : (columns : List Series) (keys : List Tree) (lengths : List ℕ) (c : Chunk) (chunks : List Chunk) → AreChunks columns keys lengths c chunks
    → (e : Tree) (k : Kind) (partials : List Slot) → IsMergeable columns e k → partials_on e columns 0 (c ∷ chunks) ≡ Some partials → ValuesAreWhole columns c chunks e k partials
values_of_chunks_are_whole columns keys [] c chunks are e k partials merging there = let no : Some [] ≡ Some (c ∷ chunks) = are.chunked in cc
values_of_chunks_are_whole columns keys (n ∷ lengths) c chunks are e k partials merging there = values_are_whole keys columns n lengths c chunks are.cut are.chunked e k merging partials there

-- two cuts of one frame
module _ (columns : List Series) (keys : List Tree) (ls ms : List ℕ) (c d : Chunk) (cs ds : List Chunk) (left : AreChunks columns keys ls c cs) (right : AreChunks columns keys ms d ds) where
  -- have the same key columns
  same_keys : joined_keys c cs ≡ joined_keys d ds
  same_keys =
      let x = keys_of_chunks_are_whole columns keys ls c cs left in
      let y = keys_of_chunks_are_whole columns keys ms d ds right in
      let e : Some (joined_keys c cs) ≡ Some (joined_keys d ds) = sym x.whole ∙ y.whole in cc

  -- so they make the same keys
  pub keys_of_either : (order : GroupOrder) → final_keys order c cs ≡ final_keys order d ds
  keys_of_either order =
      (keys_of_chunks_are_whole columns keys ls c cs left).rows order
      ∙ (λ i. map (key_values (parts_in_order order (same_keys i) (height_of columns))) (same_keys i))
      ∙ sym ((keys_of_chunks_are_whole columns keys ms d ds right).rows order)

  -- and the same values
  pub values_of_either : (e : Tree) (k : Kind) (vs ws : List Slot) → IsMergeable columns e k → partials_on e columns 0 (c ∷ cs) ≡ Some vs → partials_on e columns 0 (d ∷ ds) ≡ Some ws
      → (order : GroupOrder) → final_values order c cs e k vs ≡ final_values order d ds e k ws
  values_of_either e k vs ws merging there here order =
      let x = values_of_chunks_are_whole columns keys ls c cs left e k vs merging there order in
      let y = values_of_chunks_are_whole columns keys ms d ds right e k ws merging here order in
      let same : Some (final_values order c cs e k vs) ≡ Some (final_values order d ds e k ws) =
      sym x ∙ (λ i. each (value_on_part (alone columns) e) (parts_in_order order (same_keys i) (height_of columns))) ∙ y in cc
