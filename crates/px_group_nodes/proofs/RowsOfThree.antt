-- What is made of three cells row by row, at the rows of a group.
use Rattle.std.proofs.Common.{◌≡◌, ℕ, Bool, true, false, ◌&&◌, List, [], ◌∷◌, Result, Ok, Err, length, map, refl, sym, ap, ◌∙◌}
use Rattle.std.specs.List.{range_with_len}
use Rattle.std.proofs.lemmas.List.{length-map}
use Rattle.px_column.specs.Beside.{rows_to, zipped_three}
use Rattle.px_column.specs.Prelude.{Slot, slot_at}
use Rattle.px_column.specs.Result.{◌>>=◌}
use Rattle.px_value.specs.declared.error.PxError.{PxError}
use Rattle.px_frame.specs.Cell.{Cell, unit, rows, cell_of, is_unit_cell, list_of}
use Rattle.px_frame.specs.Frame.{are_below}
use Rattle.px_frame.specs.Spread.{rows_beside, spread}
use Rattle.px_tree.specs.Node.{zip_three_cells}
use Rattle.px_nodes.specs.Together.{are_three_beside, rows_or, stands_at}
use Rattle.px_nodes.proofs.Alongside.{three_beside}
use Rattle.px_lanes.proofs.Rowwise.{IsRow, by_rows, cell_at, cell_whole, read, row_list, stands_group, unit_at, unit_cell_of}

-- three cells are units
abbrev pub all_units : Cell → Cell → Cell → Bool
all_units a b c = is_unit_cell a && (is_unit_cell b && is_unit_cell c)

zipped_each : (f : Slot → Slot → Slot → Slot) (p q r : ℕ → Slot) (g : List ℕ) → zipped_three f (map p g) (map q g) (map r g) ≡ map (λ i. f (p i) (q i) (r i)) g
zipped_each f p q r [] = refl
zipped_each f p q r (i ∷ g) = ap (λ ys. f (p i) (q i) (r i) ∷ ys) (zipped_each f p q r g)

height_of_three : (a b c : Cell) (g : List ℕ) → all_units a b c ≡ false → rows_or (rows_or (rows_or 1 (cell_at c g)) (cell_at b g)) (cell_at a g) ≡ length g
height_of_three (rows xs) b c g h = length-map g (slot_at xs)
height_of_three (unit s) (rows ys) c g h = length-map g (slot_at ys)
height_of_three (unit s) (unit t) (rows zs) g h = length-map g (slot_at zs)
height_of_three (unit s) (unit t) (unit u) g h = absurd (cc)

module _ (f : Slot → Slot → Slot → Slot) (a b c : Cell) where
  -- three cells at a group's rows, of which one is a list
  three_rows : (g : List ℕ) → all_units a b c ≡ false → zip_three_cells f (cell_at a g) (cell_at b g) (cell_at c g) ≡ Ok (rows (map (λ i. f (read a i) (read b i) (read c i)) g))
  three_rows g h =
      let high = height_of_three a b c g h in
      let beside : are_three_beside (cell_at a g) (cell_at b g) (cell_at c g) ≡ true =
      ap (λ n. stands_at n (cell_at a g) && (stands_at n (cell_at b g) && stands_at n (cell_at c g))) high ∙ (λ i. stands_group a g i && (stands_group b g i && stands_group c g i)) in
      three_beside f (cell_at a g) (cell_at b g) (cell_at c g) beside
      ∙ (λ i. Ok (cell_of (unit_at a g i && (unit_at b g i && unit_at c g i)) (zipped_three f (rows_to (high i) (list_of (cell_at a g))) (rows_to (high i) (list_of (cell_at b g))) (rows_to (high i) (list_of (cell_at c g))))))
      ∙ (λ i. Ok (cell_of (h i) (zipped_three f (row_list a g i) (row_list b g i) (row_list c g i)))) ∙ ap (λ ys. Ok (rows ys)) (zipped_each f (read a) (read b) (read c) g)

  module _ (n : ℕ) (x : stands_at n a ≡ true) (y : stands_at n b ≡ true) (z : stands_at n c ≡ true) where
    -- and at all rows
    three_whole : all_units a b c ≡ false → zip_three_cells f a b c ≡ Ok (rows (map (λ i. f (read a i) (read b i) (read c i)) (range_with_len 0 n)))
    three_whole u = (λ i. zip_three_cells f (sym (cell_whole n a x) i) (sym (cell_whole n b y) i) (sym (cell_whole n c z) i)) ∙ three_rows (range_with_len 0 n) u

    three_lists : (m : Cell) (g : List ℕ) → all_units a b c ≡ false → are_below n g ≡ true → zip_three_cells f a b c ≡ Ok m → IsRow n g false (zip_three_cells f (cell_at a g) (cell_at b g) (cell_at c g)) m
    three_lists m g u h e =
        by_rows n g (λ i. f (read a i) (read b i) (read c i)) (zip_three_cells f a b c) (zip_three_cells f (cell_at a g) (cell_at b g) (cell_at c g)) m h (three_whole u) (three_rows g u) e

-- what is made of three cells of as many rows is that at each of them
pub three_at : (f : Slot → Slot → Slot → Slot) (n : ℕ) (a b c m : Cell) (g : List ℕ) → stands_at n a ≡ true → stands_at n b ≡ true → stands_at n c ≡ true → are_below n g ≡ true → zip_three_cells f a b c ≡ Ok m
    → IsRow n g (all_units a b c) (zip_three_cells f (cell_at a g) (cell_at b g) (cell_at c g)) m
three_at f n (unit s) (unit t) (unit u) m g x y z h e = let made : unit (f s t u) ≡ m = cc in rw (← made) (record { at = refl; stands = refl; shape = refl })
three_at f n (rows xs) b c m g x y z h e = three_lists f (rows xs) b c n x y z m g refl h e
three_at f n (unit s) (rows ys) c m g x y z h e = three_lists f (unit s) (rows ys) c n x y z m g refl h e
three_at f n (unit s) (unit t) (rows zs) m g x y z h e = three_lists f (unit s) (unit t) (rows zs) n x y z m g refl h e

-- it is never refused
pub three_there : (f : Slot → Slot → Slot → Slot) (n : ℕ) (a b c : Cell) (e : PxError) → stands_at n a ≡ true → stands_at n b ≡ true → stands_at n c ≡ true → zip_three_cells f a b c ≡ Err e → ⊥
three_there f n (unit s) (unit t) (unit u) e x y z h = cc
three_there f n (rows xs) b c e x y z h = let made = three_whole f (rows xs) b c n x y z refl in cc
three_there f n (unit s) (rows ys) c e x y z h = let made = three_whole f (unit s) (rows ys) c n x y z refl in cc
three_there f n (unit s) (unit t) (rows zs) e x y z h = let made = three_whole f (unit s) (unit t) (rows zs) n x y z refl in cc

shape_three : (w : Bool) (v : List Slot → List Slot → List Slot → List Slot) (p q r : Result (List Slot) PxError) (m : Cell) → (p >>= λ xs. q >>= λ ys. r >>= λ zs. Ok (cell_of w (v xs ys zs))) ≡ Ok m → is_unit_cell m ≡ w
shape_three w v (Ok xs) (Ok ys) (Ok zs) m h = let same : cell_of w (v xs ys zs) ≡ m = cc in ap is_unit_cell (sym same) ∙ unit_cell_of w (v xs ys zs)
shape_three w v (Ok xs) (Ok ys) (Err e) m h = absurd (cc)
shape_three w v (Ok xs) (Err e) r m h = absurd (cc)
shape_three w v (Err e) q r m h = absurd (cc)

-- it is a unit where all three are
pub three_shape : (f : Slot → Slot → Slot → Slot) (a b c m : Cell) → zip_three_cells f a b c ≡ Ok m → is_unit_cell m ≡ all_units a b c
three_shape f a b c m h =
    let n = rows_beside (a ∷ b ∷ c ∷ []) in
    shape_three (all_units a b c) (zipped_three f) (spread n a) (spread n b) (spread n c) m h
