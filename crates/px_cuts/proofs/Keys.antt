-- The key columns of chunks: their keys are the keys of all rows, and at the first row of each part stand the keys told apart.
use Rattle.std.proofs.Common.{◌≡◌, ℕ, zero, suc, ◌+◌, ◌<◌, ◌≤◌, Bool, true, false, cond, ◌&&◌, List, [], ◌∷◌, ◌++◌, None, length, get_or, map, nat_lt, refl, sym, ◌∙◌, ap, arith}
use Rattle.std.specs.List.{list_any, list_all, range_with_len}
use Rattle.std.proofs.lemmas.Bool.Decides.{nat_tests}
use Rattle.std.proofs.lemmas.List.{map-append}
use Rattle.std.proofs.lemmas.List.FromFn.{length-map-range_with_len, get_or-map-range_with_len}
use Rattle.std.proofs.lemmas.Simd.{map-map}
use Rattle.px_value.proofs.FitLaws.{both}
use Rattle.px_value.specs.Decided.{IsEquivalence-decides, row_decides}
use Rattle.px_column.specs.Equality.{row_eq}
use Rattle.px_column.specs.Key.{key_at, keys_of}
use Rattle.px_column.specs.Prelude.{Slot, Series, slot_at}
use Rattle.px_frame.specs.Frame.{has_height, all_have_height}
use Rattle.px_frame.specs.Groups.{first_row}
use Rattle.px_frame.specs.Parts.{numbers, distinct, parts, parts_of}
use Rattle.px_cuts.specs.Cut.{joined, rows_at, chunk_keys, chunk_parts}
use Rattle.px_laws.specs.Merge.{has_rows}
use Rattle.px_cuts.proofs.Cut.{keys_of_chunks, parts_of_chunks}
use Rattle.px_cuts.proofs.Merged.{apart_there, rows_any, first_passes}
use Rattle.px_tree.specs.Grouped.{key_values}
use Rattle.px_cuts.specs.Chunks.{appended}

pub cut_keys : (kss : List (List (List Slot))) → distinct row_eq (chunk_keys row_eq kss) ≡ distinct row_eq (joined kss)
cut_keys kss = keys_of_chunks (IsEquivalence-decides row_decides) kss

pub cut_parts : (kss : List (List (List Slot))) → map (rows_at (chunk_parts row_eq 0 kss)) (parts row_eq (chunk_keys row_eq kss)) ≡ parts row_eq (joined kss)
cut_parts kss = parts_of_chunks (IsEquivalence-decides row_decides) kss

-- what is made of a range, where the same is made of another
pub range_same : {X : Type 0} (f g : ℕ → X) (a b n : ℕ) → ((i : ℕ) → i < n → f (a + i) ≡ g (b + i)) → map f (range_with_len a n) ≡ map g (range_with_len b n)
range_same f g a b zero h = refl
range_same f g a b (suc n) h =
    let ea : a + 0 ≡ a = omega arith in
    let eb : b + 0 ≡ b = omega arith in
    λ i. (ap f (sym ea) ∙ h 0 (omega arith) ∙ ap g eb) i ∷ range_same f g (a + 1) (b + 1) n (λ j lt. let ja : a + 1 + j ≡ a + suc j = omega arith in let jb : b + 1 + j ≡ b + suc j = omega arith in ap f ja ∙ h (suc j) (omega (arith, lt)) ∙ ap g (sym jb)) i

-- a range in two
pub range_append : (a n m : ℕ) → range_with_len a (n + m) ≡ range_with_len a n ++ range_with_len (a + n) m
range_append a zero m = let e : a + 0 ≡ a = omega arith in let z : 0 + m ≡ m = omega arith in ap (range_with_len a) z ∙ ap (λ b. range_with_len b m) (sym e)
range_append a (suc n) m =
    let one : suc n + m ≡ suc (n + m) = omega arith in
    let e : a + 1 + n ≡ a + suc n = omega arith in
    ap (range_with_len a) one ∙ ap (λ ns. a ∷ ns) (range_append (a + 1) n m ∙ ap (λ b. range_with_len (a + 1) n ++ range_with_len b m) e)

-- a place of the first of two lists, and of the second
slot_left : (xs ys : List Slot) (i : ℕ) → i < length xs → slot_at (xs ++ ys) i ≡ slot_at xs i
slot_left [] ys i h = absurd (omega (arith, h))
slot_left (x ∷ xs) ys zero h = refl
slot_left (x ∷ xs) ys (suc i) h = slot_left xs ys i (omega (arith, h))

slot_right : (xs ys : List Slot) (n i : ℕ) → length xs ≡ n → slot_at (xs ++ ys) (n + i) ≡ slot_at ys i
slot_right [] ys n i h = let e : n + i ≡ i = omega (arith, h) in ap (slot_at ys) e
slot_right (x ∷ xs) ys n i h =
    let e : n + i ≡ suc (length xs + i) = omega (arith, h) in
    ap (slot_at (x ∷ (xs ++ ys))) e ∙ slot_right xs ys (length xs) i refl

-- a height that a column has
pub high : (n : ℕ) (s : Series) → has_height n s ≡ true → length s.slots ≡ n
high n s h = grind (arith, nat_tests, h)

pub is_high : (n : ℕ) (s : Series) → length s.slots ≡ n → has_height n s ≡ true
is_high n s h = grind (arith, nat_tests, h)

-- the key of a row of the first columns, and of the second
key_left : (ls rs : List Series) (n i : ℕ) → length ls ≡ length rs → all_have_height n ls ≡ true → i < n → key_at (appended ls rs) i ≡ key_at ls i
key_left [] rs n i l h lt = refl
key_left (a ∷ ls) [] n i l h lt = absurd (omega (arith, l))
key_left (a ∷ ls) (b ∷ rs) n i l h lt =
    let s = both (has_height n a) (all_have_height n ls) h in
    let size = high n a s.0 in
    λ j. slot_left a.slots b.slots i (omega (arith, size, lt)) j ∷ key_left ls rs n i (omega (arith, l)) s.1 lt j

key_right : (ls rs : List Series) (n i : ℕ) → length ls ≡ length rs → all_have_height n ls ≡ true → key_at (appended ls rs) (n + i) ≡ key_at rs i
key_right [] [] n i l h = refl
key_right [] (b ∷ rs) n i l h = absurd (omega (arith, l))
key_right (a ∷ ls) [] n i l h = absurd (omega (arith, l))
key_right (a ∷ ls) (b ∷ rs) n i l h =
    let s = both (has_height n a) (all_have_height n ls) h in
    λ j. slot_right a.slots b.slots n i (high n a s.0) j ∷ key_right ls rs n i (omega (arith, l)) s.1 j

-- the keys of columns one after another
pub keys_appended : (ls rs : List Series) (n m : ℕ) → length ls ≡ length rs → all_have_height n ls ≡ true → keys_of (appended ls rs) (n + m) ≡ keys_of ls n ++ keys_of rs m
keys_appended ls rs n m l h =
    ap (map (key_at (appended ls rs))) (range_append 0 n m)
    ∙ map-append (key_at (appended ls rs)) (range_with_len 0 n) (range_with_len (0 + n) m)
    ∙ (λ j. range_same (key_at (appended ls rs)) (key_at ls) 0 0 n (λ i lt. let e : 0 + i ≡ i = omega arith in key_left ls rs n (0 + i) l h (omega (arith, lt))) j
    ++ range_same (key_at (appended ls rs)) (key_at rs) (0 + n) 0 m (λ i lt. let e : 0 + n + i ≡ n + i = omega arith in let z : 0 + i ≡ i = omega arith in ap (key_at (appended ls rs)) e ∙ key_right ls rs n i l h ∙ ap (key_at rs) (sym z)) j)

-- the keys of a table of ls many rows ls parts
keys_made : {P : Type 0} (at : Series → P → Slot) (by : List Series) (ps : List P) → keys_of (map (λ (s : Series). record s { slots = map (at s) ps }) by) (length ps) ≡ map (λ p. map (λ (s : Series). at s p) by) ps
keys_made {P} at by [] = refl
keys_made {P} at by (p ∷ ps) =
    (λ j. first by j ∷ (range_same (key_at (made (p ∷ ps))) (key_at (made ps)) (0 + 1) 0 (length ps) (λ i lt. let e : 0 + 1 + i ≡ suc (0 + i) = omega arith in ap (key_at (made (p ∷ ps))) e ∙ later by (0 + i)) ∙ keys_made at by ps) j)
  where
    made : List P → List Series
    made qs = map (λ (s : Series). record s { slots = map (at s) qs }) by

    first : (by : List Series) → key_at (map (λ (s : Series). record s { slots = map (at s) (p ∷ ps) }) by) 0 ≡ map (λ (s : Series). at s p) by
    first [] = refl
    first (s ∷ by) = ap (λ k. at s p ∷ k) (first by)

    later : (by : List Series) (i : ℕ) → key_at (map (λ (s : Series). record s { slots = map (at s) (p ∷ ps) }) by) (suc i) ≡ key_at (map (λ (s : Series). record s { slots = map (at s) ps }) by) i
    later [] i = refl
    later (s ∷ by) i = ap (λ k. slot_at (map (at s) ps) i ∷ k) (later by i)

-- a number below another
is_lower : (r n : ℕ) → nat_lt r n ≡ true → r < n
is_lower r n h = grind (arith, nat_tests, h)

-- the first number of some, each of which is below n
first_below : (n : ℕ) (ns : List ℕ) → has_rows ns ≡ true → list_all (λ r. nat_lt r n) ns ≡ true → first_row ns < n
first_below n [] h b = cc
first_below n (r ∷ ns) h b = is_lower r n (both (nat_lt r n) (list_all (λ r. nat_lt r n) ns) b).0

-- the key at the first row of a part is the part's
key_of_part : (by : List Series) (n : ℕ) (f : List Slot) → has_rows (numbers (row_eq f) 0 (keys_of by n)) ≡ true → list_all (λ r. nat_lt r n) (numbers (row_eq f) 0 (keys_of by n)) ≡ true
    → key_at by (first_row (numbers (row_eq f) 0 (keys_of by n))) ≡ f
key_of_part by n f h b =
    let lt = first_below n (numbers (row_eq f) 0 (keys_of by n)) h b in
    let z : 0 + first_row (numbers (row_eq f) 0 (keys_of by n)) ≡ first_row (numbers (row_eq f) 0 (keys_of by n)) = omega arith in
    let at = get_or-map-range_with_len (key_at by) 0 n (first_row (numbers (row_eq f) 0 (keys_of by n))) (first_row (numbers (row_eq f) 0 (keys_of by n))) [] lt z in
    sym at ∙ sym ((row_decides f (get_or (keys_of by n) (first_row (numbers (row_eq f) 0 (keys_of by n))) [])).0 (first_passes (row_eq f) [] (keys_of by n) h))

-- a number below a height
lower : (r n : ℕ) → r < n → nat_lt r n ≡ true
lower r n h = grind (arith, nat_tests)

-- numbers from a on are below the end
pub numbers_below : {K : Type 0} (test : K → Bool) (a : ℕ) (ks : List K) (n : ℕ) → a + length ks ≤ n → list_all (λ r. nat_lt r n) (numbers test a ks) ≡ true
numbers_below test a [] n h = refl
numbers_below test a (k ∷ ks) n h = by (test k) (numbers_below test (a + 1) ks n (omega (arith, h)))
  where
    by : (b : Bool) → list_all (λ r. nat_lt r n) (numbers test (a + 1) ks) ≡ true → list_all (λ r. nat_lt r n) (cond b (a ∷ numbers test (a + 1) ks) (numbers test (a + 1) ks)) ≡ true
    by true rest = λ i. lower a n (omega (arith, h)) i && rest i
    by false rest = rest

-- the keys at the first rows of the parts are the keys told apart
pub keys_at_parts : (by : List Series) (n : ℕ) → map (λ p. key_at by (first_row p)) (parts_of by n) ≡ distinct row_eq (keys_of by n)
keys_at_parts by n = map-map (λ p. key_at by (first_row p)) (λ f. numbers (row_eq f) 0 (keys_of by n)) (distinct row_eq (keys_of by n)) ∙ all (distinct row_eq (keys_of by n)) (apart_there (IsEquivalence-decides row_decides) (keys_of by n))
  where
    size : length (keys_of by n) ≡ n
    size = length-map-range_with_len (key_at by) 0 n

    all : (fs : List (List Slot)) → list_all (λ f. list_any (row_eq f) (keys_of by n)) fs ≡ true → map (λ f. key_at by (first_row (numbers (row_eq f) 0 (keys_of by n)))) fs ≡ fs
    all [] h = refl
    all (f ∷ fs) h =
        let s = both (list_any (row_eq f) (keys_of by n)) (list_all (λ g. list_any (row_eq g) (keys_of by n)) fs) h in
        λ i. key_of_part by n f (rows_any (row_eq f) 0 (keys_of by n) ∙ s.0) (numbers_below (row_eq f) 0 (keys_of by n) n (omega (arith, size))) i ∷ all fs s.1 i

-- so the key columns of a chunk, at its parts, have the keys told apart
pub keys_of_rows : (by : List Series) (n : ℕ) → keys_of (map (key_values (parts_of by n)) by) (length (parts_of by n)) ≡ distinct row_eq (keys_of by n)
keys_of_rows by n = keys_made (λ s p. slot_at s.slots (first_row p)) by (parts_of by n) ∙ keys_at_parts by n

-- the first place of a key, and those behind it
abbrev pub first_slot : List Slot → Slot
first_slot [] = None
first_slot (s ∷ ss) = s

abbrev pub other_slots : List Slot → List Slot
other_slots [] = []
other_slots (s ∷ ss) = ss

-- columns of these names and types, whose rows have these keys
abbrev pub of_keys : List Series → List (List Slot) → List Series
of_keys [] keys = []
of_keys (s ∷ by) keys = record s { slots = map first_slot keys } ∷ of_keys by (map other_slots keys)

-- columns at the first rows of parts are those of the keys there
pub values_of_keys : (by : List Series) (ps : List (List ℕ)) → map (key_values ps) by ≡ of_keys by (map (λ p. key_at by (first_row p)) ps)
values_of_keys [] ps = refl
values_of_keys (s ∷ by) ps =
    λ i. record s { slots = sym (map-map first_slot (λ p. key_at (s ∷ by) (first_row p)) ps) i } ∷ (values_of_keys by ps ∙ ap (of_keys by) (sym (map-map other_slots (λ p. key_at (s ∷ by) (first_row p)) ps))) i

-- columns of the same names and types
abbrev pub Matching : List Series → List Series → Type 0
Matching [] [] = Unit {0}
Matching (s ∷ ss) (t ∷ ts) = (s.name ≡ t.name) × (s.kind ≡ t.kind) × Matching ss ts
Matching _ _ = ⊥

-- keys make the same columns of the same names and types
pub same_columns : (ls rs : List Series) (keys : List (List Slot)) → Matching ls rs → of_keys ls keys ≡ of_keys rs keys
same_columns [] [] keys m = refl
same_columns [] (b ∷ rs) keys m = absurd m
same_columns (a ∷ ls) [] keys m = absurd m
same_columns (a ∷ ls) (b ∷ rs) keys m = λ i. record { name = m.0 i; kind = m.1 i; slots = map first_slot keys } ∷ same_columns ls rs (map other_slots keys) m.2 i

-- key columns whose keys are told apart alike have the same values at their parts
pub same_key_values : (ls rs : List Series) (n m : ℕ) → Matching ls rs → distinct row_eq (keys_of ls n) ≡ distinct row_eq (keys_of rs m) → map (key_values (parts_of ls n)) ls ≡ map (key_values (parts_of rs m)) rs
same_key_values ls rs n m match h =
    values_of_keys ls (parts_of ls n) ∙ same_columns ls rs (map (λ p. key_at ls (first_row p)) (parts_of ls n)) match
    ∙ ap (of_keys rs) (keys_at_parts ls n ∙ h ∙ sym (keys_at_parts rs m))
    ∙ sym (values_of_keys rs (parts_of rs m))
