-- Three cells at the rows of a group: what a function of rows makes of them side by side, it makes at these rows.
use Rattle.std.proofs.Common.{◌≡◌, ℕ, Bool, true, false, ◌&&◌, List, [], ◌∷◌, Result, Ok, Err, length, map, refl, sym, ap, ◌∙◌}
use Rattle.std.specs.List.{range_with_len}
use Rattle.std.proofs.lemmas.List.{length-map}
use Rattle.px_column.specs.Beside.{rows_to, zipped_three}
use Rattle.px_column.specs.Prelude.{Slot, slot_at}
use Rattle.px_column.specs.Result.{◌>>=◌}
use Rattle.px_value.specs.declared.error.PxError.{PxError}
use Rattle.px_frame.specs.Cell.{Cell, unit, rows, list_of, is_unit_cell, cell_of}
use Rattle.px_frame.specs.Frame.{are_below}
use Rattle.px_frame.specs.Spread.{rows_beside, spread}
use Rattle.px_tree.specs.Node.{zip_three_cells}
use Rattle.px_nodes.specs.Together.{rows_or, stands_at, are_three_beside}
use Rattle.px_nodes.proofs.Alongside.{three_beside}
use Rattle.px_lanes.proofs.Rowwise.{IsRow, by_rows, cell_at, cell_whole, read, row_list, stands_group, unit_at, unit_cell_of}

zipped_three_each : (f : Slot → Slot → Slot → Slot) (p q r : ℕ → Slot) (g : List ℕ) → zipped_three f (map p g) (map q g) (map r g) ≡ map (λ i. f (p i) (q i) (r i)) g
zipped_three_each f p q r [] = refl
zipped_three_each f p q r (i ∷ g) = ap (λ ys. f (p i) (q i) (r i) ∷ ys) (zipped_three_each f p q r g)

-- the number of rows of three cells of a group, where one is a list
height_of_three : (a b c : Cell) (g : List ℕ) → (is_unit_cell a && (is_unit_cell b && is_unit_cell c)) ≡ false → rows_or (rows_or (rows_or 1 (cell_at c g)) (cell_at b g)) (cell_at a g) ≡ length g
height_of_three (rows xs) b c g h = length-map g (slot_at xs)
height_of_three (unit s) (rows ys) c g h = length-map g (slot_at ys)
height_of_three (unit s) (unit t) (rows zs) g h = length-map g (slot_at zs)
height_of_three (unit s) (unit t) (unit u) g h = absurd (cc)

-- three cells at a group's rows, of which one is a list
three_rows : (f : Slot → Slot → Slot → Slot) (a b c : Cell) (g : List ℕ) → (is_unit_cell a && (is_unit_cell b && is_unit_cell c)) ≡ false
    → zip_three_cells f (cell_at a g) (cell_at b g) (cell_at c g) ≡ Ok (rows (map (λ i. f (read a i) (read b i) (read c i)) g))
three_rows f a b c g h =
    let high = height_of_three a b c g h in
    let beside : are_three_beside (cell_at a g) (cell_at b g) (cell_at c g) ≡ true =
    ap (λ n. stands_at n (cell_at a g) && (stands_at n (cell_at b g) && stands_at n (cell_at c g))) high ∙ (λ i. stands_group a g i && (stands_group b g i && stands_group c g i)) in
    three_beside f (cell_at a g) (cell_at b g) (cell_at c g) beside
    ∙ (λ i. Ok (cell_of (unit_at a g i && (unit_at b g i && unit_at c g i)) (zipped_three f (rows_to (high i) (list_of (cell_at a g))) (rows_to (high i) (list_of (cell_at b g))) (rows_to (high i) (list_of (cell_at c g))))))
    ∙ (λ i. Ok (cell_of (h i) (zipped_three f (row_list a g i) (row_list b g i) (row_list c g i)))) ∙ ap (λ ys. Ok (rows ys)) (zipped_three_each f (read a) (read b) (read c) g)

module _ (f : Slot → Slot → Slot → Slot) (n : ℕ) where
  three_whole : (a b c : Cell) → stands_at n a ≡ true → stands_at n b ≡ true → stands_at n c ≡ true
      → zip_three_cells f a b c ≡ zip_three_cells f (cell_at a (range_with_len 0 n)) (cell_at b (range_with_len 0 n)) (cell_at c (range_with_len 0 n))
  three_whole a b c x y z = λ i. zip_three_cells f (sym (cell_whole n a x) i) (sym (cell_whole n b y) i) (sym (cell_whole n c z) i)

  three_lists : (a b c d : Cell) (g : List ℕ) → (is_unit_cell a && (is_unit_cell b && is_unit_cell c)) ≡ false → stands_at n a ≡ true → stands_at n b ≡ true → stands_at n c ≡ true → are_below n g ≡ true
      → zip_three_cells f a b c ≡ Ok d → IsRow n g false (zip_three_cells f (cell_at a g) (cell_at b g) (cell_at c g)) d
  three_lists a b c d g u x y z h e =
      by_rows n g (λ i. f (read a i) (read b i) (read c i)) (zip_three_cells f a b c) (zip_three_cells f (cell_at a g) (cell_at b g) (cell_at c g)) d h (three_whole a b c x y z ∙ three_rows f a b c (range_with_len 0 n) u) (three_rows f a b c g u) e

  -- three cells side by side
  pub three_at : (a b c d : Cell) (g : List ℕ) → stands_at n a ≡ true → stands_at n b ≡ true → stands_at n c ≡ true → are_below n g ≡ true → zip_three_cells f a b c ≡ Ok d
      → IsRow n g (is_unit_cell a && (is_unit_cell b && is_unit_cell c)) (zip_three_cells f (cell_at a g) (cell_at b g) (cell_at c g)) d
  three_at (unit s) (unit t) (unit u) d g x y z h e = let made : unit (f s t u) ≡ d = cc in rw (← made) (record { at = refl; stands = refl; shape = refl })
  three_at (rows xs) b c d g x y z h e = three_lists (rows xs) b c d g refl x y z h e
  three_at (unit s) (rows ys) c d g x y z h e = three_lists (unit s) (rows ys) c d g refl x y z h e
  three_at (unit s) (unit t) (rows zs) d g x y z h e = three_lists (unit s) (unit t) (rows zs) d g refl x y z h e

  lists_there : (a b c : Cell) (e : PxError) → (is_unit_cell a && (is_unit_cell b && is_unit_cell c)) ≡ false → stands_at n a ≡ true → stands_at n b ≡ true → stands_at n c ≡ true → zip_three_cells f a b c ≡ Err e → ⊥
  lists_there a b c e u x y z h = let made = three_whole a b c x y z ∙ three_rows f a b c (range_with_len 0 n) u in cc

  -- cells of as many rows are never refused
  pub three_there : (a b c : Cell) (e : PxError) → stands_at n a ≡ true → stands_at n b ≡ true → stands_at n c ≡ true → zip_three_cells f a b c ≡ Err e → ⊥
  three_there (unit s) (unit t) (unit u) e x y z h = cc
  three_there (rows xs) b c e x y z h = lists_there (rows xs) b c e refl x y z h
  three_there (unit s) (rows ys) c e x y z h = lists_there (unit s) (rows ys) c e refl x y z h
  three_there (unit s) (unit t) (rows zs) e x y z h = lists_there (unit s) (unit t) (rows zs) e refl x y z h

shape_three : (w : Bool) (made : List Slot → List Slot → List Slot → List Slot) (p q r : Result (List Slot) PxError) (c : Cell) → (p >>= λ xs. q >>= λ ys. r >>= λ zs. Ok (cell_of w (made xs ys zs))) ≡ Ok c → is_unit_cell c ≡ w
shape_three w made (Ok xs) (Ok ys) (Ok zs) c h = let same : cell_of w (made xs ys zs) ≡ c = cc in ap is_unit_cell (sym same) ∙ unit_cell_of w (made xs ys zs)
shape_three w made (Ok xs) (Ok ys) (Err e) c h = absurd (cc)
shape_three w made (Ok xs) (Err e) r c h = absurd (cc)
shape_three w made (Err e) q r c h = absurd (cc)

-- what is made of three cells is a unit where all are
pub zip_three_shape : (f : Slot → Slot → Slot → Slot) (a b c d : Cell) → zip_three_cells f a b c ≡ Ok d → is_unit_cell d ≡ (is_unit_cell a && (is_unit_cell b && is_unit_cell c))
zip_three_shape f a b c d h =
    let n = rows_beside (a ∷ b ∷ c ∷ []) in
    shape_three (is_unit_cell a && (is_unit_cell b && is_unit_cell c)) (zipped_three f) (spread n a) (spread n b) (spread n c) d h
