-- Functions of rows go row by row.
use Rattle.std.proofs.Common.{◌≡◌, ℕ, zero, suc, ◌^◌, ◌<◌, Bool, true, false, ◌&&◌, cond, List, [], ◌∷◌, Result, Ok, Err, length, map, nat_lt, refl, sym, ap, ◌∙◌, arith, eq-eqb}
use Rattle.std.specs.List.{list_all}
use Rattle.std.proofs.lemmas.Bool.Decides.{nat_tests}
use Rattle.std.proofs.lemmas.List.{length-map}
use Rattle.px_column.specs.Function.{between_slot, is_not_null_slot, is_null_slot, not_slot}
use Rattle.px_column.specs.Prelude.{Kind, Slot, slot_at}
use Rattle.px_column.specs.Result.{◌>>=◌}
use Rattle.px_value.proofs.FitLaws.{both}
use Rattle.px_value.specs.declared.error.ComputeWhy.TheVariants.{TooLong}
use Rattle.px_value.specs.declared.error.PxError.{PxError}
use Rattle.px_value.specs.declared.error.PxError.TheVariants.{ComputeError}
use Rattle.px_frame.specs.Cell.{Cell, unit, rows, count_of, is_unit_cell}
use Rattle.px_frame.specs.Frame.{are_below, slots_at}
use Rattle.px_frame.specs.Groups.{is_group}
use Rattle.px_frame.specs.Spread.{NamedCell}
use Rattle.px_tree.specs.Node.{function_cell, map_cell}
use Rattle.px_tree.specs.Partition.{is_row_function}
use Rattle.px_tree.specs.Typing.{function_kind}
use Rattle.px_tree.specs.Value.{first_kind}
use Rattle.px_tree.specs.declared.function.FunctionExpr.{FunctionExpr}
use Rattle.px_tree.specs.declared.function.FunctionExpr.TheVariants.{IsNull, IsNotNull, Not, IsBetween}
use Rattle.px_nodes.specs.Named.{cells_in, first_name, function_named, kinds_of, short, under}
use Rattle.px_nodes.specs.Together.{stands_at}
use Rattle.px_lanes.proofs.Lanes.{named_at}
use Rattle.px_lanes.proofs.Operators.{under_made}
use Rattle.px_lanes.proofs.Rowwise.{IsRow, cell_at}
use Rattle.px_group_nodes.proofs.Functions.{cell_ok, function_kinds, function_made, function_name}
use Rattle.px_group_nodes.proofs.RowsOfThree.{three_at, three_there}

-- each of some cells stands at n rows
abbrev pub stand_at : ℕ → List Cell → Bool
stand_at n cs = list_all (stands_at n) cs

-- cells at the rows of a group
abbrev pub cells_at : List Cell → List ℕ → List Cell
cells_at cs g = map (λ c. cell_at c g) cs

-- the same with their names and types
abbrev pub all_at : List NamedCell → List ℕ → List NamedCell
all_at xs g = map (λ x. named_at x g) xs

slot_map : (f : Slot → Slot) (xs : List Slot) (i : ℕ) → i < length xs → slot_at (map f xs) i ≡ f (slot_at xs i)
slot_map f [] i h = absurd (omega (arith, h))
slot_map f (x ∷ xs) zero h = refl
slot_map f (x ∷ xs) (suc i) h = slot_map f xs i (omega (arith, h))

slots_map : (f : Slot → Slot) (xs : List Slot) (g : List ℕ) → are_below (length xs) g ≡ true → map f (slots_at xs g) ≡ slots_at (map f xs) g
slots_map f xs [] h = refl
slots_map f xs (i ∷ g) h =
    let p = both (nat_lt i (length xs)) (are_below (length xs) g) h in
    let lt : i < length xs = grind (arith, nat_tests, p.0) in
    λ j. sym (slot_map f xs i lt) j ∷ slots_map f xs g p.1 j

-- what is made of each row by itself
map_at : (f : Slot → Slot) (n : ℕ) (c y : Cell) (g : List ℕ) → stands_at n c ≡ true → are_below n g ≡ true → cell_ok (map_cell f c) ≡ Ok y → IsRow n g (is_unit_cell c) (Ok (map_cell f (cell_at c g))) y
map_at f n (unit s) y g h k e = let made : unit (f s) ≡ y = cc in rw (← made) (record { at = refl; stands = refl; shape = refl })
map_at f n (rows xs) y g h k e =
    let made : rows (map f xs) ≡ y = cc in
    let len : length xs ≡ n = grind (arith, nat_tests, h) in
    let below : are_below (length xs) g ≡ true = ap (λ l. are_below l g) len ∙ k in
    rw (← made) (record { at = ap (λ ys. Ok (rows ys)) (slots_map f xs g below); stands = eq-eqb _ _ (length-map xs f ∙ len); shape = refl })

one_stands : (n : ℕ) (a : Cell) → stand_at n (a ∷ []) ≡ true → stands_at n a ≡ true
one_stands n a h = (both (stands_at n a) true h).0

and_true : (a : Bool) → a ≡ (a && true)
and_true true = refl
and_true false = refl

one_row : (n : ℕ) (g : List ℕ) (a y : Cell) (made : Result Cell PxError) → IsRow n g (is_unit_cell a) made y → IsRow n g (list_all is_unit_cell (a ∷ [])) made y
one_row n g a y made r = record { at = r.at; stands = r.stands; shape = r.shape ∙ and_true (is_unit_cell a) }

-- a function of rows
row_at : (f : FunctionExpr) (k : Kind) (n : ℕ) (cs : List Cell) (y : Cell) (g : List ℕ) → is_row_function f ≡ true → stand_at n cs ≡ true → are_below n g ≡ true → function_cell f k cs ≡ Ok y
    → IsRow n g (list_all is_unit_cell cs) (function_cell f k (cells_at cs g)) y
row_at IsNull k n (a ∷ []) y g r s b h = one_row n g a y _ (map_at is_null_slot n a y g (one_stands n a s) b h)
row_at IsNotNull k n (a ∷ []) y g r s b h = one_row n g a y _ (map_at is_not_null_slot n a y g (one_stands n a s) b h)
row_at Not k n (a ∷ []) y g r s b h = one_row n g a y _ (map_at not_slot n a y g (one_stands n a s) b h)
row_at (IsBetween closed) k n (a ∷ c ∷ d ∷ []) y g r s b h =
    let p = both (stands_at n a) (stand_at n (c ∷ d ∷ [])) s in
    let q = both (stands_at n c) (stand_at n (d ∷ [])) p.1 in
    let made = three_at (between_slot k closed) n a c d y g p.0 q.0 (one_stands n d q.1) b h in
    record { at = made.at; stands = made.stands; shape = made.shape ∙ ap (λ u. is_unit_cell a && (is_unit_cell c && u)) (and_true (is_unit_cell d)) }
row_at _ k n cs y g r s b h = absurd (cc)

short_by : (b : Bool) (x : Cell) → b ≡ true → cond b (Ok x) (Err (ComputeError TooLong)) ≡ Ok x
short_by true x h = refl
short_by false x h = absurd (cc)

-- a cell of fewer than 2^32 values is short
short_cell : (x : Cell) → count_of x < 2 ^ 32 → short x ≡ Ok x
short_cell x h = short_by (nat_lt (count_of x) (2 ^ 32)) x (grind (arith, nat_tests, h))

count_stands : (n : ℕ) (x : Cell) → stands_at n x ≡ true → n < 2 ^ 32 → count_of x < 2 ^ 32
count_stands n (unit s) h l = omega arith
count_stands n (rows xs) h l = let len : length xs ≡ n = grind (arith, nat_tests, h) in omega (arith, len, l)

count_group : (n : ℕ) (c : Cell) (g : List ℕ) → is_group n (record { first = 0; rows = g }) ≡ true → count_of (cell_at c g) < 2 ^ 32
count_group n (unit s) g h = omega arith
count_group n (rows xs) g h =
    let few = (both (are_below n g) (nat_lt (length g) (2 ^ 32)) h).1 in
    let lt : length g < 2 ^ 32 = grind (arith, nat_tests, few) in
    omega (arith, length-map g (slot_at xs), lt)

kinds_at : (xs : List NamedCell) (g : List ℕ) → kinds_of (all_at xs g) ≡ kinds_of xs
kinds_at [] g = refl
kinds_at (x ∷ xs) g = ap (λ ks. x.kind ∷ ks) (kinds_at xs g)

cells_of_at : (xs : List NamedCell) (g : List ℕ) → cells_in (all_at xs g) ≡ cells_at (cells_in xs) g
cells_of_at [] g = refl
cells_of_at (x ∷ xs) g = ap (λ cs. cell_at x.cell g ∷ cs) (cells_of_at xs g)

name_at : (xs : List NamedCell) (g : List ℕ) → first_name (all_at xs g) ≡ first_name xs
name_at [] g = refl
name_at (x ∷ xs) g = refl

module _ (f : FunctionExpr) (r : is_row_function f ≡ true) (n : ℕ) (xs : List NamedCell) (stand : stand_at n (cells_in xs) ≡ true) where
  module _ (m : NamedCell) (h : function_named f xs ≡ Ok m) where
    whole_row : (g : List ℕ) → are_below n g ≡ true → IsRow n g (list_all is_unit_cell (cells_in xs)) (function_cell f (first_kind (kinds_of xs)) (cells_at (cells_in xs) g)) m.cell
    whole_row g b = row_at f (first_kind (kinds_of xs)) n (cells_in xs) m.cell g r stand b (function_made f xs m h)

    -- its answer has the rows that its inputs have
    pub function_stands : stands_at n m.cell ≡ true
    function_stands = (whole_row [] refl).stands

    -- it is a unit where all inputs are
    pub function_units_all : is_unit_cell m.cell ≡ list_all is_unit_cell (cells_in xs)
    function_units_all = (whole_row [] refl).shape

    -- at the rows of a group it is the function of the inputs there
    pub function_at : (g : List ℕ) → is_group n (record { first = 0; rows = g }) ≡ true → function_named f (all_at xs g) ≡ Ok (named_at m g)
    function_at g group =
        let b = (both (are_below n g) (nat_lt (length g) (2 ^ 32)) group).0 in
        let there : function_cell f (first_kind (kinds_of xs)) (cells_at (cells_in xs) g) ≡ Ok (cell_at m.cell g) = (whole_row g b).at in
        let made : (function_cell f (first_kind (kinds_of xs)) (cells_at (cells_in xs) g) >>= short) ≡ Ok (cell_at m.cell g) =
        ap (λ o. o >>= short) there ∙ short_cell (cell_at m.cell g) (count_group n m.cell g group) in
        (λ i. function_kind f (kinds_at xs g i) >>= λ k. under (name_at xs g i) k (function_cell f (first_kind (kinds_at xs g i)) (cells_of_at xs g i) >>= short))
        ∙ ap (λ o. o >>= λ k. under (first_name xs) k (function_cell f (first_kind (kinds_of xs)) (cells_at (cells_in xs) g) >>= short)) (function_kinds f xs m h)
        ∙ under_made (first_name xs) m.kind m (function_cell f (first_kind (kinds_of xs)) (cells_at (cells_in xs) g) >>= short) (cell_at m.cell g) (function_name f xs m h) refl made

-- cells of as many rows are refused for their types alone
row_there : (f : FunctionExpr) (xs : List NamedCell) (k : Kind) (n : ℕ) (e : PxError) → is_row_function f ≡ true → stand_at n (cells_in xs) ≡ true → function_kind f (kinds_of xs) ≡ Ok k
    → function_cell f (first_kind (kinds_of xs)) (cells_in xs) ≡ Err e → ⊥
row_there IsNull (x ∷ []) k n e r s t h = cc
row_there IsNotNull (x ∷ []) k n e r s t h = cc
row_there Not (x ∷ []) k n e r s t h = cc
row_there (IsBetween closed) (x ∷ y ∷ z ∷ []) k n e r s t h =
    let p = both (stands_at n x.cell) (stand_at n (y.cell ∷ z.cell ∷ [])) s in
    let q = both (stands_at n y.cell) (stand_at n (z.cell ∷ [])) p.1 in
    three_there (between_slot x.kind closed) n x.cell y.cell z.cell e p.0 q.0 (one_stands n z.cell q.1) h
row_there _ xs k n e r s t h = cc

pub function_refused : (f : FunctionExpr) (xs : List NamedCell) (n : ℕ) (e : PxError) → is_row_function f ≡ true → stand_at n (cells_in xs) ≡ true → n < 2 ^ 32 → function_named f xs ≡ Err e
    → function_kind f (kinds_of xs) ≡ Err e
function_refused f xs n e r s l h = by (function_kind f (kinds_of xs)) refl h
  where
    made : Result Cell PxError
    made = function_cell f (first_kind (kinds_of xs)) (cells_in xs)

    never : (k : Kind) (o : Result Cell PxError) → function_kind f (kinds_of xs) ≡ Ok k → made ≡ o → under (first_name xs) k (o >>= short) ≡ Err e → ⊥
    never k (Err d) t q g = row_there f xs k n d r s t q
    never k (Ok y) t q g =
        let stands = (row_at f (first_kind (kinds_of xs)) n (cells_in xs) y [] r s refl q).stands in
        let there = short_cell y (count_stands n y stands l) in
        let same : under (first_name xs) k (short y) ≡ under (first_name xs) k (Ok y) = ap (under (first_name xs) k) there in
        cc

    by : (o : Result Kind PxError) → function_kind f (kinds_of xs) ≡ o → (o >>= λ k. under (first_name xs) k (made >>= short)) ≡ Err e → function_kind f (kinds_of xs) ≡ Err e
    by (Err d) t g = cc
    by (Ok k) t g = absurd (never k made t refl g)
