-- Cells at the rows of a group: what a function of rows makes of cells side by side, it makes at these rows.
use Rattle.std.proofs.Common.{◌≡◌, ℕ, zero, suc, ◌+◌, ◌<◌, Bool, true, false, ◌&&◌, List, [], ◌∷◌, Result, Ok, Err, length, map, nat_lt, replicate, refl, sym, ap, ◌∙◌, arith, eq-eqb}
use Rattle.std.specs.List.{range_with_len}
use Rattle.std.proofs.lemmas.Bool.Decides.{nat_tests}
use Rattle.std.proofs.lemmas.List.{length-map}
use Rattle.std.proofs.lemmas.List.FromFn.{length-map-range_with_len}
use Rattle.px_column.specs.Beside.{rows_to, zipped}
use Rattle.px_column.specs.Prelude.{Slot, slot_at}
use Rattle.px_column.specs.Result.{◌>>=◌}
use Rattle.px_value.proofs.FitLaws.{both}
use Rattle.px_value.specs.declared.error.PxError.{PxError}
use Rattle.px_frame.specs.Cell.{Cell, unit, rows, list_of, is_unit_cell, cell_of}
use Rattle.px_frame.specs.Frame.{are_below, slots_at}
use Rattle.px_frame.specs.Spread.{rows_beside, spread}
use Rattle.px_tree.specs.Node.{zip_cells}
use Rattle.px_nodes.specs.Together.{rows_or, stands_at, are_two_beside}
use Rattle.px_context.proofs.Aggregating.{slots_all}
use Rattle.px_context.proofs.Reading.{same_each}
use Rattle.px_nodes.proofs.Alongside.{two_beside}

-- a cell at the rows of a group; a unit stands as it is
abbrev pub cell_at : Cell → List ℕ → Cell
cell_at (unit s) g = unit s
cell_at (rows xs) g = rows (slots_at xs g)

-- what it has beside a row
abbrev pub read : Cell → ℕ → Slot
read (unit s) i = s
read (rows xs) i = slot_at xs i

slot_range : (f : ℕ → Slot) (a n i : ℕ) → i < n → slot_at (map f (range_with_len a n)) i ≡ f (a + i)
slot_range f a zero i h = absurd (omega (arith, h))
slot_range f a (suc n) zero h = let e : a + 0 ≡ a = omega arith in ap f (sym e)
slot_range f a (suc n) (suc i) h =
    let e : a + 1 + i ≡ a + suc i = omega arith in
    slot_range f (a + 1) n i (omega (arith, h)) ∙ ap f e

-- what is made of all rows, at some of them
pub slots_below : (n : ℕ) (f : ℕ → Slot) (g : List ℕ) → are_below n g ≡ true → slots_at (map f (range_with_len 0 n)) g ≡ map f g
slots_below n f [] h = refl
slots_below n f (i ∷ g) h =
    let p = both (nat_lt i n) (are_below n g) h in
    let lt : i < n = grind (arith, nat_tests, p.0) in
    let e : 0 + i ≡ i = omega arith in
    λ j. (slot_range f 0 n i lt ∙ ap f e) j ∷ slots_below n f g p.1 j

-- as many
pub stands_all : (n : ℕ) (f : ℕ → Slot) → stands_at n (rows (map f (range_with_len 0 n))) ≡ true
stands_all n f = eq-eqb _ _ (length-map-range_with_len f 0 n)

-- a cell at all its rows
pub cell_whole : (n : ℕ) (a : Cell) → stands_at n a ≡ true → cell_at a (range_with_len 0 n) ≡ a
cell_whole n (unit s) h = refl
cell_whole n (rows xs) h =
    let e : length xs ≡ n = grind (arith, nat_tests, h) in
    ap (λ m. rows (slots_at xs (range_with_len 0 m))) (sym e) ∙ ap rows (slots_all xs)

rows_of_all : (xs : List Slot) (n : ℕ) → length xs ≡ n → rows_to n xs ≡ xs
rows_of_all [] n h = refl
rows_of_all (x ∷ []) n h = ap (λ k. replicate k x) (sym h)
rows_of_all (x ∷ y ∷ xs) n h = refl

-- what stands at the rows of a group
pub row_list : (a : Cell) (g : List ℕ) → rows_to (length g) (list_of (cell_at a g)) ≡ map (read a) g
row_list (unit s) g = same_each s g
row_list (rows xs) g = rows_of_all (slots_at xs g) (length g) (length-map g (slot_at xs))

-- a cell at the rows of a group stands at as many
pub stands_group : (a : Cell) (g : List ℕ) → stands_at (length g) (cell_at a g) ≡ true
stands_group (unit s) g = refl
stands_group (rows xs) g = eq-eqb _ _ (length-map g (slot_at xs))

zipped_each : (f : Slot → Slot → Slot) (p q : ℕ → Slot) (g : List ℕ) → zipped f (map p g) (map q g) ≡ map (λ i. f (p i) (q i)) g
zipped_each f p q [] = refl
zipped_each f p q (i ∷ g) = ap (λ ys. f (p i) (q i) ∷ ys) (zipped_each f p q g)

-- the number of rows of two cells of a group, where one is a list
height_of_two : (a b : Cell) (g : List ℕ) → (is_unit_cell a && is_unit_cell b) ≡ false → rows_or (rows_or 1 (cell_at b g)) (cell_at a g) ≡ length g
height_of_two (rows xs) b g h = length-map g (slot_at xs)
height_of_two (unit s) (rows ys) g h = length-map g (slot_at ys)
height_of_two (unit s) (unit t) g h = absurd (cc)

-- and is a unit where it was
pub unit_at : (a : Cell) (g : List ℕ) → is_unit_cell (cell_at a g) ≡ is_unit_cell a
unit_at (unit s) g = refl
unit_at (rows xs) g = refl

-- two cells at a group's rows, of which one is a list
two_rows : (f : Slot → Slot → Slot) (a b : Cell) (g : List ℕ) → (is_unit_cell a && is_unit_cell b) ≡ false
    → zip_cells f (cell_at a g) (cell_at b g) ≡ Ok (rows (map (λ i. f (read a i) (read b i)) g))
two_rows f a b g h =
    let high = height_of_two a b g h in
    let beside : are_two_beside (cell_at a g) (cell_at b g) ≡ true = ap (λ n. stands_at n (cell_at a g) && stands_at n (cell_at b g)) high ∙ (λ i. stands_group a g i && stands_group b g i) in
    two_beside f (cell_at a g) (cell_at b g) beside
    ∙ (λ i. Ok (cell_of (unit_at a g i && unit_at b g i) (zipped f (rows_to (high i) (list_of (cell_at a g))) (rows_to (high i) (list_of (cell_at b g))))))
    ∙ (λ i. Ok (cell_of (h i) (zipped f (row_list a g i) (row_list b g i)))) ∙ ap (λ ys. Ok (rows ys)) (zipped_each f (read a) (read b) g)

-- what is made of cells side by side: their shape, as many rows, and at a group's rows the same
pub record IsRow (n : ℕ) (g : List ℕ) (one : Bool) (at_group : Result Cell PxError) (c : Cell) : Type 0 where
  pub at : at_group ≡ Ok (cell_at c g)
  pub stands : stands_at n c ≡ true
  pub shape : is_unit_cell c ≡ one

-- what is made of all rows and of those of a group
pub by_rows : (n : ℕ) (g : List ℕ) (f : ℕ → Slot) (whole at_group : Result Cell PxError) (c : Cell) → are_below n g ≡ true → whole ≡ Ok (rows (map f (range_with_len 0 n))) → at_group ≡ Ok (rows (map f g)) → whole ≡ Ok c → IsRow n g false at_group c
by_rows n g f whole at_group c h w a e =
    let made : rows (map f (range_with_len 0 n)) ≡ c = cc in
    rw (← made) (record { at = a ∙ ap (λ ys. Ok (rows ys)) (sym (slots_below n f g h)); stands = stands_all n f; shape = refl })

two_lists : (f : Slot → Slot → Slot) (n : ℕ) (a b c : Cell) (g : List ℕ) → (is_unit_cell a && is_unit_cell b) ≡ false → stands_at n a ≡ true → stands_at n b ≡ true → are_below n g ≡ true
    → zip_cells f a b ≡ Ok c → IsRow n g false (zip_cells f (cell_at a g) (cell_at b g)) c
two_lists f n a b c g u x y h e =
    let all = range_with_len 0 n in
    let whole : zip_cells f a b ≡ zip_cells f (cell_at a all) (cell_at b all) = λ i. zip_cells f (sym (cell_whole n a x) i) (sym (cell_whole n b y) i) in
    by_rows n g (λ i. f (read a i) (read b i)) (zip_cells f a b) (zip_cells f (cell_at a g) (cell_at b g)) c h (whole ∙ two_rows f a b (range_with_len 0 n) u) (two_rows f a b g u) e

pub two_at : (f : Slot → Slot → Slot) (n : ℕ) (a b c : Cell) (g : List ℕ) → stands_at n a ≡ true → stands_at n b ≡ true → are_below n g ≡ true → zip_cells f a b ≡ Ok c
    → IsRow n g (is_unit_cell a && is_unit_cell b) (zip_cells f (cell_at a g) (cell_at b g)) c
two_at f n (unit s) (unit t) c g x y h e = let made : unit (f s t) ≡ c = cc in rw (← made) (record { at = refl; stands = refl; shape = refl })
two_at f n (rows xs) b c g x y h e = two_lists f n (rows xs) b c g refl x y h e
two_at f n (unit s) (rows ys) c g x y h e = two_lists f n (unit s) (rows ys) c g refl x y h e

pub unit_cell_of : (u : Bool) (xs : List Slot) → is_unit_cell (cell_of u xs) ≡ u
unit_cell_of true xs = refl
unit_cell_of false xs = refl

shape_two : (w : Bool) (z : List Slot → List Slot → List Slot) (p q : Result (List Slot) PxError) (c : Cell) → (p >>= λ xs. q >>= λ ys. Ok (cell_of w (z xs ys))) ≡ Ok c → is_unit_cell c ≡ w
shape_two w z (Ok xs) (Ok ys) c h = let same : cell_of w (z xs ys) ≡ c = cc in ap is_unit_cell (sym same) ∙ unit_cell_of w (z xs ys)
shape_two w z (Ok xs) (Err e) c h = absurd (cc)
shape_two w z (Err e) q c h = absurd (cc)

-- what is made of two cells is a unit where both are
pub zip_shape : (f : Slot → Slot → Slot) (a b c : Cell) → zip_cells f a b ≡ Ok c → is_unit_cell c ≡ (is_unit_cell a && is_unit_cell b)
zip_shape f a b c h = shape_two (is_unit_cell a && is_unit_cell b) (zipped f) (spread (rows_beside (a ∷ b ∷ [])) a) (spread (rows_beside (a ∷ b ∷ [])) b) c h

-- cells of as many rows are never refused
pub two_there : (f : Slot → Slot → Slot) (n : ℕ) (a b : Cell) (e : PxError) → stands_at n a ≡ true → stands_at n b ≡ true → zip_cells f a b ≡ Err e → ⊥
two_there f n (unit s) (unit t) e x y h = cc
two_there f n (rows xs) b e x y h =
    let all = range_with_len 0 n in
    let whole : zip_cells f (rows xs) b ≡ zip_cells f (cell_at (rows xs) all) (cell_at b all) = λ i. zip_cells f (sym (cell_whole n (rows xs) x) i) (sym (cell_whole n b y) i) in
    let made = whole ∙ two_rows f (rows xs) b all refl in
    cc
two_there f n (unit s) (rows ys) e x y h =
    let all = range_with_len 0 n in
    let whole : zip_cells f (unit s) (rows ys) ≡ zip_cells f (unit s) (cell_at (rows ys) all) = λ i. zip_cells f (unit s) (sym (cell_whole n (rows ys) y) i) in
    let made = whole ∙ two_rows f (unit s) (rows ys) all refl in
    cc
