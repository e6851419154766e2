-- Rows of groups that are joined, and what stands beside them.
use Rattle.std.proofs.Common.{◌≡◌, ℕ, zero, suc, ◌+◌, ◌<◌, ◌≤◌, ◌==◌, Bool, true, false, not, ◌&&◌, cond, List, [], ◌∷◌, ◌++◌, Some, None, drop, length, map, nat_lt, replicate, slice_get, slice_index, refl, sym, ◌∙◌, ap, arith, append_assoc, length-append, zero-add}
use Rattle.std.specs.List.{concat, find, flat_map, range_with_len, zip}
use Rattle.std.specs.Option.{option_map_or}
use Rattle.std.specs.List.Sorted.{IsPermutation}
use Rattle.std.proofs.lemmas.Bool.Decides.{nat_tests}
use Rattle.std.proofs.lemmas.List.{drop-map, length-map, length-replicate, map-append}
use Rattle.std.proofs.lemmas.List.FromFn.{get_or-range_with_len}
use Rattle.px_column.specs.Prelude.{Slot, slot_at}
use Rattle.px_frame.specs.Cell.{Cell, value_of_cell}
use Rattle.px_frame.specs.Frame.{are_below, slots_at}
use Rattle.px_frame.specs.Groups.{Group, Groups, rows_of}
use Rattle.px_frame.proofs.Reducing.{length_slots_at, slot_at_rows}
use Rattle.px_frame.proofs.Slices.{row_below}
use Rattle.px_value.proofs.FitLaws.{all_append}
use Rattle.px_tree.specs.Window.{in_row_order, joined, slot_of_row}
use Rattle.px_context.proofs.Reading.{drop_get}
use Rattle.px_window.specs.Places.{HoldsEachRowOnce, numbers_from, part_numbers, place_of, put_at}
use Rattle.px_window.proofs.Once.{as_many, row_there}

-- the rows of the groups from a place on
pub rows_drop : (gs : List Group) (i : ℕ) (p : Group) → slice_get gs i ≡ Some p → drop i (map (λ q. q.rows) gs) ≡ p.rows ∷ drop (i + 1) (map (λ q. q.rows) gs)
rows_drop gs i p e =
    let rows = λ (q : Group). q.rows in
    drop-map rows i gs ∙ ap (map rows) (drop_get gs i p e) ∙ ap (λ (ps : List (List ℕ)). p.rows ∷ ps) (sym (drop-map rows (i + 1) gs))

-- the rows of one group more
pub rows_more : (gs : List Group) (i : ℕ) (p : Group) (rows new whole : List ℕ) → slice_get gs i ≡ Some p → new ≡ rows ++ p.rows → rows ++ concat (drop i (map (λ q. q.rows) gs)) ≡ whole
    → new ++ concat (drop (i + 1) (map (λ q. q.rows) gs)) ≡ whole
rows_more gs i p rows new whole at e h =
    ap (λ (ns : List ℕ). ns ++ concat (drop (i + 1) (map (λ q. q.rows) gs))) e ∙ append_assoc rows p.rows (concat (drop (i + 1) (map (λ q. q.rows) gs)))
    ∙ ap (λ (ps : List (List ℕ)). rows ++ concat ps) (sym (rows_drop gs i p at)) ∙ h

-- the number of rows of the groups from a place on
pub count_drop : (gs : List Group) (i : ℕ) (p : Group) → slice_get gs i ≡ Some p → length (concat (drop i (map (λ q. q.rows) gs))) ≡ length p.rows + length (concat (drop (i + 1) (map (λ q. q.rows) gs)))
count_drop gs i p e = ap (λ (ps : List (List ℕ)). length (concat ps)) (rows_drop gs i p e) ∙ length-append p.rows (concat (drop (i + 1) (map (λ q. q.rows) gs)))

-- the numbers of one group more
pub numbers_more : (gs : List Group) (i : ℕ) (p : Group) (numbers new whole : List ℕ) → slice_get gs i ≡ Some p → new ≡ numbers ++ replicate (length p.rows) i → numbers ++ numbers_from i (drop i (map (λ q. q.rows) gs)) ≡ whole
    → new ++ numbers_from (i + 1) (drop (i + 1) (map (λ q. q.rows) gs)) ≡ whole
numbers_more gs i p numbers new whole at e h =
    ap (λ (ns : List ℕ). ns ++ numbers_from (i + 1) (drop (i + 1) (map (λ q. q.rows) gs))) e
    ∙ append_assoc numbers (replicate (length p.rows) i) (numbers_from (i + 1) (drop (i + 1) (map (λ q. q.rows) gs)))
    ∙ ap (λ (ps : List (List ℕ)). numbers ++ numbers_from i ps) (sym (rows_drop gs i p at)) ∙ h

-- there are as many numbers as rows
pub numbers_many : (n : ℕ) (ps : List (List ℕ)) → length (numbers_from n ps) ≡ length (concat ps)
numbers_many n [] = refl
numbers_many n (p ∷ ps) = omega (arith, length-append (replicate (length p) n) (numbers_from (n + 1) ps), length-append p (concat ps), length-replicate (length p) n, numbers_many (n + 1) ps)

module _ {X : Type 0} where
  -- what is the same at each number below n
  pub same_below : (f g : ℕ → X) (a m n : ℕ) → a + m ≤ n → ((r : ℕ) → r < n → f r ≡ g r) → map f (range_with_len a m) ≡ map g (range_with_len a m)
  same_below f g a zero n le h = refl
  same_below f g a (suc m) n le h = λ i. h a (omega (arith, le)) i ∷ same_below f g (a + 1) m n (omega (arith, le)) h i

less : (r n : ℕ) → r < n → nat_lt r n ≡ true
less r n h = grind (arith, nat_tests)

below_each : (f : ℕ → ℕ) (a m n b : ℕ) → a + m ≤ n → ((r : ℕ) → r < n → f r < b) → are_below b (map f (range_with_len a m)) ≡ true
below_each f a zero n b le h = refl
below_each f a (suc m) n b le h = λ i. less (f a) b (h a (omega (arith, le))) i && below_each f (a + 1) m n b (omega (arith, le)) h i

-- what stands beside a row stands at the row's place
found_at : (rows : List ℕ) (xs : List Slot) (row : ℕ) → length xs ≡ length rows → slot_of_row (zip rows xs) row ≡ slot_at xs (place_of rows row)
found_at [] [] row h = refl
found_at [] (x ∷ xs) row h = absurd (omega (arith, h))
found_at (r ∷ rows) [] row h = absurd (omega (arith, h))
found_at (r ∷ rows) (x ∷ xs) row h = by (r == row) refl (found_at rows xs row (omega (arith, h)))
  where
    by : (b : Bool) → (r == row) ≡ b → slot_of_row (zip rows xs) row ≡ slot_at xs (place_of rows row) → slot_of_row ((r, x) ∷ zip rows xs) row ≡ slot_at (x ∷ xs) (place_of (r ∷ rows) row)
    by true e rest =
        ap (λ (c : Bool). option_map_or (λ (p : ℕ × Slot). p.1) (cond c (Some (r, x)) (find (λ p. p.0 == row) (zip rows xs))) None) e
        ∙ ap (λ (c : Bool). slot_at (x ∷ xs) (cond (not c) (1 + place_of rows row) 0)) (sym e)
    by false e rest =
        let next : suc (place_of rows row) ≡ 1 + place_of rows row = omega arith in
        ap (λ (c : Bool). option_map_or (λ (p : ℕ × Slot). p.1) (cond c (Some (r, x)) (find (λ p. p.0 == row) (zip rows xs))) None) e
        ∙ rest ∙ ap (slot_at (x ∷ xs)) next ∙ ap (λ (c : Bool). slot_at (x ∷ xs) (cond (not c) (1 + place_of rows row) 0)) (sym e)

map_map : {X Y Z : Type 0} (f : Y → Z) (g : X → Y) (xs : List X) → map f (map g xs) ≡ map (λ x. f (g x)) xs
map_map f g [] = refl
map_map f g (x ∷ xs) = ap (λ ys. f (g x) ∷ ys) (map_map f g xs)

module _ (n : ℕ) (rows : List ℕ) (once : IsPermutation (range_with_len 0 n) rows) where
  -- places of rows are places among as many
  pub places_below : (m : ℕ) → length rows ≡ m → are_below m (map (place_of rows) (range_with_len 0 n)) ≡ true
  places_below m h = below_each (place_of rows) 0 n n m (omega arith) (λ r lt. let there = row_there n rows once r lt in omega (arith, there.0, h))

  -- values beside the rows, in the order of the rows
  pub in_order_at : (xs : List Slot) → length xs ≡ length rows → slots_at xs (map (place_of rows) (range_with_len 0 n)) ≡ in_row_order n (zip rows xs)
  in_order_at xs h = map_map (slot_at xs) (place_of rows) (range_with_len 0 n) ∙ same_below (λ r. slot_at xs (place_of rows r)) (slot_of_row (zip rows xs)) 0 n n (omega arith) (λ r lt. sym (found_at rows xs r h))

  -- the numbers below n beside the rows are the rows' places
  pub places_put : put_at n rows (range_with_len 0 n) ≡ map (place_of rows) (range_with_len 0 n)
  places_put =
      same_below (λ r. slice_index (range_with_len 0 n) (place_of rows r)) (place_of rows) 0 n n (omega arith)
      (λ r lt. let there = row_there n rows once r lt in get_or-range_with_len 0 n (place_of rows r) 0 (omega (arith, there.0, as_many n rows once)) ∙ zero-add (place_of rows r))

-- the same number for each
all_same : (b n m : ℕ) → n < b → are_below b (replicate m n) ≡ true
all_same b n zero h = refl
all_same b n (suc m) h = λ i. less n b h i && all_same b n m h i

-- numbers of parts are below their end
numbers_below : (n : ℕ) (ps : List (List ℕ)) (b : ℕ) → n + length ps ≤ b → are_below b (numbers_from n ps) ≡ true
numbers_below n [] b h = refl
numbers_below n (p ∷ ps) b h =
    all_append (λ r. nat_lt r b) (replicate (length p) n) (numbers_from (n + 1) ps) (all_same b n (length p) (omega (arith, h))) (numbers_below (n + 1) ps b (omega (arith, h)))

at_seam : (xs : List Slot) (y : Slot) (ys : List Slot) → slot_at (xs ++ y ∷ ys) (length xs) ≡ y
at_seam [] y ys = refl
at_seam (x ∷ xs) y ys = at_seam xs y ys

same_slots : (xs : List Slot) (n m : ℕ) (s : Slot) → slot_at xs n ≡ s → slots_at xs (replicate m n) ≡ replicate m s
same_slots xs n zero s e = refl
same_slots xs n (suc m) s e = λ i. e i ∷ same_slots xs n m s e i

beside_each : (p rest : List ℕ) (s : Slot) (ys : List Slot) → map (λ row. (row, s)) p ++ zip rest ys ≡ zip (p ++ rest) (replicate (length p) s ++ ys)
beside_each [] rest s ys = refl
beside_each (r ∷ p) rest s ys = ap (λ (qs : List (ℕ × Slot)). (r, s) ∷ qs) (beside_each p rest s ys)

-- each part's rows with its cell's whole value, told by the numbers of parts
joined_by_number : (before : List Slot) (ps : List (List ℕ)) (cells : List Cell) → length cells ≡ length ps
    → flat_map joined (zip ps cells) ≡ zip (concat ps) (slots_at (before ++ map value_of_cell cells) (numbers_from (length before) ps))
joined_by_number before [] cells h = refl
joined_by_number before (p ∷ ps) [] h = absurd (omega (arith, h))
joined_by_number before (p ∷ ps) (c ∷ cells) h =
    let value = value_of_cell c in
    let values = map value_of_cell cells in
    let whole = before ++ value ∷ values in
    let n = length before in
    let longer : length (before ++ value ∷ []) ≡ n + 1 = length-append before (value ∷ []) in
    let rest = joined_by_number (before ++ value ∷ []) ps cells (omega (arith, h)) in
    let others : flat_map joined (zip ps cells) ≡ zip (concat ps) (slots_at whole (numbers_from (n + 1) ps)) =
    rest ∙ (λ i. zip (concat ps) (slots_at (append_assoc before (value ∷ []) values i) (numbers_from (longer i) ps))) in
    ap (λ (qs : List (ℕ × Slot)). map (λ row. (row, value)) p ++ qs) others ∙ beside_each p (concat ps) value (slots_at whole (numbers_from (n + 1) ps))
    ∙ ap (λ (ys : List Slot). zip (p ++ concat ps) (ys ++ slots_at whole (numbers_from (n + 1) ps))) (sym (same_slots whole n (length p) value (at_seam before value values)))
    ∙ ap (zip (p ++ concat ps)) (sym (map-append (slot_at whole) (replicate (length p) n) (numbers_from (n + 1) ps)))

module _ (g : Groups) (once : HoldsEachRowOnce g) where
  abbrev rows : List ℕ
  rows = concat (rows_of g)

  abbrev numbers : List ℕ
  numbers = numbers_from 0 (rows_of g)

  -- the numbers of the rows' groups are numbers of groups
  pub part_numbers_below : are_below (length g.groups) (part_numbers g) ≡ true
  part_numbers_below =
      let all = numbers_below 0 (rows_of g) (length g.groups) (omega (arith, length-map g.groups (λ (p : Group). p.rows))) in
      below_each (λ row. slice_index numbers (place_of rows row)) 0 g.height g.height (length g.groups) (omega arith)
      (λ r lt. let there = row_there g.height rows once r lt in row_below (length g.groups) numbers (place_of rows r) all (omega (arith, there.0, numbers_many 0 (rows_of g))))

  -- the whole value of each row's cell, in the order of the rows
  pub joined_at : (cells : List Cell) → length cells ≡ length g.groups → slots_at (map value_of_cell cells) (part_numbers g) ≡ in_row_order g.height (flat_map joined (zip (rows_of g) cells))
  joined_at cells h =
      let values = map value_of_cell cells in
      let xs = slots_at values numbers in
      let long : length xs ≡ length rows = length_slots_at values numbers ∙ numbers_many 0 (rows_of g) in
      let by_number = joined_by_number [] (rows_of g) cells (h ∙ sym (length-map g.groups (λ (p : Group). p.rows))) in
      map_map (slot_at values) (λ row. slice_index numbers (place_of rows row)) (range_with_len 0 g.height)
      ∙ same_below (λ row. slot_at values (slice_index numbers (place_of rows row))) (λ row. slot_at xs (place_of rows row)) 0 g.height g.height (omega arith)
      (λ r lt. let there = row_there g.height rows once r lt in sym (slot_at_rows values numbers (place_of rows r) (omega (arith, there.0, numbers_many 0 (rows_of g)))))
      ∙ sym (map_map (slot_at xs) (place_of rows) (range_with_len 0 g.height)) ∙ in_order_at g.height rows once xs long
      ∙ ap (in_row_order g.height) (sym by_number)
