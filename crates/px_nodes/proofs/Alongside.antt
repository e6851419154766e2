-- Cells side by side: what they are at their common number of rows.
use Rattle.std.proofs.Common.{◌≡◌, ℕ, ◌==◌, Bool, true, false, ◌&&◌, cond, if◌then◌else◌, List, [], ◌∷◌, Result, Ok, Err, length, replicate, refl, sym, ◌∙◌, ap, eq-eqb, arith}
use Rattle.std.proofs.lemmas.Bool.Decides.{nat_tests}
use Rattle.px_column.specs.Beside.{common_length, length_of_three, rows_to, zipped, zipped_three}
use Rattle.px_column.specs.Prelude.{Slot}
use Rattle.px_column.specs.Result.{◌>>=◌}
use Rattle.px_value.specs.declared.error.PxError.{PxError}
use Rattle.px_value.specs.declared.error.PxError.TheVariants.{ShapeMismatch}
use Rattle.px_value.proofs.FitLaws.{both}
use Rattle.px_frame.specs.Cell.{Cell, unit, rows, list_of, count_of, is_unit_cell, cell_of}
use Rattle.px_frame.specs.Spread.{spread, rows_beside}
use Rattle.px_tree.specs.Node.{zip_cells, zip_three_cells}
use Rattle.px_nodes.specs.Together.{rows_or, stands_at, are_two_beside, are_three_beside}

equal : (m n : ℕ) → (m == n) ≡ true → m ≡ n
equal m n h = grind (arith, nat_tests)

rows_of_all : (xs : List Slot) (n : ℕ) → length xs ≡ n → rows_to n xs ≡ xs
rows_of_all [] n h = refl
rows_of_all (x ∷ []) n h = ap (λ k. replicate k x) (sym h)
rows_of_all (x ∷ y ∷ xs) n h = refl

-- a cell that stands at so many rows, and one that does not
pub spread_there : (n : ℕ) (c : Cell) → stands_at n c ≡ true → spread n c ≡ Ok (rows_to n (list_of c))
spread_there n (unit s) h = refl
spread_there n (rows xs) h = ap (λ (b : Bool). cond b (Ok xs) (Err ShapeMismatch)) h ∙ ap Ok (sym (rows_of_all xs n (equal (length xs) n h)))

pub spread_nowhere : (n : ℕ) (c : Cell) → stands_at n c ≡ false → spread n c ≡ Err ShapeMismatch
spread_nowhere n (unit s) h = cc
spread_nowhere n (rows xs) h = ap (λ (b : Bool). cond b (Ok xs) (Err ShapeMismatch)) h

-- the number of rows that two cells have together
rows_of_two : (a b : Cell) → rows_beside (a ∷ b ∷ []) ≡ rows_or (rows_or 1 b) a
rows_of_two (rows xs) b = refl
rows_of_two (unit s) (rows ys) = refl
rows_of_two (unit s) (unit t) = refl

-- and three
rows_of_three : (a b c : Cell) → rows_beside (a ∷ b ∷ c ∷ []) ≡ rows_or (rows_or (rows_or 1 c) b) a
rows_of_three (rows xs) b c = refl
rows_of_three (unit s) b c = rows_of_two b c

-- two cells at n rows
abbrev two_at : (Slot → Slot → Slot) → Cell → Cell → ℕ → Result Cell PxError
two_at f a b n = spread n a >>= λ xs. spread n b >>= λ ys. Ok (cell_of (is_unit_cell a && is_unit_cell b) (zipped f xs ys))

abbrev second_at : (Slot → Slot → Slot) → Cell → Cell → ℕ → List Slot → Result Cell PxError
second_at f a b n xs = spread n b >>= λ ys. Ok (cell_of (is_unit_cell a && is_unit_cell b) (zipped f xs ys))

-- cells side by side, row by row
pub two_beside : (f : Slot → Slot → Slot) (a b : Cell) → are_two_beside a b ≡ true
    → zip_cells f a b ≡ Ok (cell_of (is_unit_cell a && is_unit_cell b) (zipped f (rows_to (rows_or (rows_or 1 b) a) (list_of a)) (rows_to (rows_or (rows_or 1 b) a) (list_of b))))
two_beside f a b h =
    let n = rows_or (rows_or 1 b) a in
    let there = both (stands_at n a) (stands_at n b) h in
    ap (two_at f a b) (rows_of_two a b) ∙ ap (λ r. r >>= second_at f a b n) (spread_there n a there.0)
    ∙ ap (λ r. r >>= λ ys. Ok (cell_of (is_unit_cell a && is_unit_cell b) (zipped f (rows_to n (list_of a)) ys))) (spread_there n b there.1)

-- and lists that differ in length
pub two_apart : (f : Slot → Slot → Slot) (a b : Cell) → are_two_beside a b ≡ false → zip_cells f a b ≡ Err ShapeMismatch
two_apart f a b h = ap (two_at f a b) (rows_of_two a b) ∙ by (stands_at n a) refl (stands_at n b) refl h
  where
    n : ℕ
    n = rows_or (rows_or 1 b) a

    by : (x : Bool) → stands_at n a ≡ x → (y : Bool) → stands_at n b ≡ y → (x && y) ≡ false → two_at f a b n ≡ Err ShapeMismatch
    by false p y q g = ap (λ r. r >>= second_at f a b n) (spread_nowhere n a p)
    by true p false q g =
        ap (λ r. r >>= second_at f a b n) (spread_there n a p)
        ∙ ap (λ r. r >>= λ ys. Ok (cell_of (is_unit_cell a && is_unit_cell b) (zipped f (rows_to n (list_of a)) ys))) (spread_nowhere n b q)
    by true p true q g = cc

-- three cells at n rows
abbrev last_at : (Slot → Slot → Slot → Slot) → Cell → Cell → Cell → ℕ → List Slot → List Slot → Result Cell PxError
last_at f a b c n xs ys = spread n c >>= λ zs. Ok (cell_of (is_unit_cell a && (is_unit_cell b && is_unit_cell c)) (zipped_three f xs ys zs))

abbrev others_at : (Slot → Slot → Slot → Slot) → Cell → Cell → Cell → ℕ → List Slot → Result Cell PxError
others_at f a b c n xs = spread n b >>= λ ys. last_at f a b c n xs ys

abbrev three_at : (Slot → Slot → Slot → Slot) → Cell → Cell → Cell → ℕ → Result Cell PxError
three_at f a b c n = spread n a >>= λ xs. others_at f a b c n xs

pub three_beside : (f : Slot → Slot → Slot → Slot) (a b c : Cell) → are_three_beside a b c ≡ true
    → zip_three_cells f a b c
    ≡ Ok (cell_of (is_unit_cell a && (is_unit_cell b && is_unit_cell c)) (zipped_three f (rows_to (rows_or (rows_or (rows_or 1 c) b) a) (list_of a)) (rows_to (rows_or (rows_or (rows_or 1 c) b) a) (list_of b)) (rows_to (rows_or (rows_or (rows_or 1 c) b) a) (list_of c))))
three_beside f a b c h =
    let n = rows_or (rows_or (rows_or 1 c) b) a in
    let there = both (stands_at n a) (stands_at n b && stands_at n c) h in
    let others = both (stands_at n b) (stands_at n c) there.1 in
    ap (three_at f a b c) (rows_of_three a b c) ∙ ap (λ r. r >>= λ xs. others_at f a b c n xs) (spread_there n a there.0)
    ∙ ap (λ r. r >>= λ ys. last_at f a b c n (rows_to n (list_of a)) ys) (spread_there n b others.0)
    ∙ ap (λ r. r >>= λ zs. Ok (cell_of (is_unit_cell a && (is_unit_cell b && is_unit_cell c)) (zipped_three f (rows_to n (list_of a)) (rows_to n (list_of b)) zs))) (spread_there n c others.1)

pub three_apart : (f : Slot → Slot → Slot → Slot) (a b c : Cell) → are_three_beside a b c ≡ false → zip_three_cells f a b c ≡ Err ShapeMismatch
three_apart f a b c h = ap (three_at f a b c) (rows_of_three a b c) ∙ by (stands_at n a) refl (stands_at n b) refl (stands_at n c) refl h
  where
    n : ℕ
    n = rows_or (rows_or (rows_or 1 c) b) a

    first : stands_at n a ≡ true → three_at f a b c n ≡ others_at f a b c n (rows_to n (list_of a))
    first p = ap (λ r. r >>= λ xs. others_at f a b c n xs) (spread_there n a p)

    second : stands_at n b ≡ true → others_at f a b c n (rows_to n (list_of a)) ≡ last_at f a b c n (rows_to n (list_of a)) (rows_to n (list_of b))
    second q = ap (λ r. r >>= λ ys. last_at f a b c n (rows_to n (list_of a)) ys) (spread_there n b q)

    by : (x : Bool) → stands_at n a ≡ x → (y : Bool) → stands_at n b ≡ y → (z : Bool) → stands_at n c ≡ z → (x && (y && z)) ≡ false → three_at f a b c n ≡ Err ShapeMismatch
    by false p y q z r g = ap (λ t. t >>= λ xs. others_at f a b c n xs) (spread_nowhere n a p)
    by true p false q z r g = first p ∙ ap (λ t. t >>= λ ys. last_at f a b c n (rows_to n (list_of a)) ys) (spread_nowhere n b q)
    by true p true q false r g =
        first p ∙ second q
        ∙ ap (λ t. t >>= λ zs. Ok (cell_of (is_unit_cell a && (is_unit_cell b && is_unit_cell c)) (zipped_three f (rows_to n (list_of a)) (rows_to n (list_of b)) zs))) (spread_nowhere n c r)
    by true p true q true r g = cc

-- the common length of one row and others
after_one : (a b c : Bool) (n : ℕ) → (a ≡ true → 1 ≡ n) → b ≡ true → (if a then Ok 1 else if b then Ok n else if c then Ok 1 else Err ShapeMismatch) ≡ Ok n
after_one true b c n f h = ap Ok (f refl)
after_one false true c n f h = refl
after_one false false c n f h = absurd (cc h)

common_one : (n : ℕ) → common_length 1 n ≡ Ok n
common_one n = after_one (1 == n) (1 == 1) (n == 1) n (equal 1 n) refl

-- the common length of others and one row
before_one : (a b : Bool) (n : ℕ) → b ≡ true → (if a then Ok n else if a then Ok 1 else if b then Ok n else Err ShapeMismatch) ≡ Ok n
before_one true b n h = refl
before_one false true n h = refl
before_one false false n h = absurd (cc h)

-- the common length of n rows and as many
as_many : (a b c : Bool) (m n : ℕ) → a ≡ true → (if a then Ok m else if b then Ok n else if c then Ok m else Err ShapeMismatch) ≡ Ok m
as_many true b c m n h = refl
as_many false b c m n h = absurd (cc h)

-- the common length of n rows and a cell that stands at them
common_with : (n : ℕ) (c : Cell) → stands_at n c ≡ true → common_length n (count_of c) ≡ Ok n
common_with n (unit s) h = before_one (n == 1) (1 == 1) n refl
common_with n (rows xs) h = as_many (n == length xs) (n == 1) (length xs == 1) n (length xs) (eq-eqb _ _ (sym (equal (length xs) n h)))

-- cells side by side have the common length of their columns
pub common_two : (a b : Cell) → are_two_beside a b ≡ true → common_length (count_of a) (count_of b) ≡ Ok (rows_or (rows_or 1 b) a)
common_two (rows xs) b h = common_with (length xs) b (both (stands_at (length xs) (rows xs)) (stands_at (length xs) b) h).1
common_two (unit s) (rows ys) h = common_one (length ys)
common_two (unit s) (unit t) h = refl

pub common_three : (a b c : Cell) → are_three_beside a b c ≡ true → length_of_three (count_of a) (count_of b) (count_of c) ≡ Ok (rows_or (rows_or (rows_or 1 c) b) a)
common_three (rows xs) b c h =
    let n = length xs in
    let others = both (stands_at n b) (stands_at n c) (both (stands_at n (rows xs)) (stands_at n b && stands_at n c) h).1 in
    ap (λ r. r >>= λ k. common_length k (count_of c)) (common_with n b others.0) ∙ common_with n c others.1
common_three (unit s) (rows ys) c h =
    let n = length ys in
    ap (λ r. r >>= λ k. common_length k (count_of c)) (common_one n) ∙ common_with n c (both (stands_at n (rows ys)) (stands_at n c) h).1
common_three (unit s) (unit t) (rows zs) h = common_one (length zs)
common_three (unit s) (unit t) (unit u) h = refl
