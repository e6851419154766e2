-- Where an elementwise expression has a value on some rows and others together, it has one on each.
use Rattle.std.proofs.Common.{◌≡◌, ℕ, suc, true, false, ◌&&◌, List, [], ◌∷◌, ◌++◌, Option, Some, None, Result, Ok, option_map, length, map, replicate, subst, refl, sym, ◌∙◌, ap, arith}
use Rattle.std.specs.List.{list_any, zip}
use Rattle.std.specs.Result.{result_map_both}
use Rattle.px_column.specs.Cast.{cast_slot, cast_slots, items_cast, before}
use Rattle.px_column.specs.Chosen.{chosen}
use Rattle.px_column.specs.Function.{between_slot}
use Rattle.px_column.specs.Operator.{operated}
use Rattle.px_column.specs.Option.{◌>>=◌}
use Rattle.px_column.specs.Prelude.{Slot, Slots, no_slots, slots, items, Kind, Series}
use Rattle.px_column.specs.Result.{◌>>=◌ as ◌>>>◌}
use Rattle.px_value.proofs.FitLaws.{both as both_true}
use Rattle.px_value.specs.declared.operator.Operator.{Operator}
use Rattle.px_value.specs.declared.cast_options.CastOptions.{CastOptions}
use Rattle.px_value.specs.declared.error.PxError.{PxError}
use Rattle.px_frame.specs.Cell.{Cell, unit, rows, is_unit_cell, cell_of}
use Rattle.px_frame.specs.External.{Frame, look_in, scope_of, rows_of_frame}
use Rattle.px_frame.specs.Frame.{slots_at}
use Rattle.px_frame.specs.Spread.{spread, rows_beside}
use Rattle.px_tree.specs.Node.{zip_cells, zip_three_cells, binary_cell, ternary_cell, cast_cell, function_cell}
use Rattle.px_tree.specs.Nodes.{leaf_names, all_leaf_names}
use Rattle.px_tree.specs.Partition.{is_elementwise, are_elementwise, is_row_function}
use Rattle.px_tree.specs.Tree.{Tree, Call, called, Trees, Literal, single, range, series, no_trees, one_tree, column, literal, alias, binary, ternary, cast, function, filter, slice, gather, sort, sort_by, agg, len, window}
use Rattle.px_tree.specs.Typing.{Scope, kind_in, kinds_in}
use Rattle.px_tree.specs.Value.{value_on, outcome_on, made, cells_on, first_kind, is_misfit}
use Rattle.px_tree.specs.declared.function.FunctionExpr.{FunctionExpr}
use Rattle.px_tree.specs.declared.function.FunctionExpr.TheVariants.{IsNull, IsNotNull, Not, IsBetween, IsIn, Reverse, Shift, DropNulls, NullCount, Explode}
use Rattle.px_tree.proofs.KindLaws.{There}
use Rattle.px_laws.proofs.Defined.{scope_of_rows}
use Rattle.px_laws.proofs.Joining.{Alike, same_unit, two_lists, joined, neither, no_misfits, column_rows, under_name, spread_list, before_made, before_parts, items_first, both_ok, value_joins}
use Rattle.px_laws.proofs.RowCount.{IsLong, value_long}
use Rattle.px_laws.proofs.Shapes.{bound, made_bound, made_ok, result_bound}

-- a result that is there
abbrev pub Made : {A : Type 0} → Result A PxError → Type 0
Made {A} r = (a : A) × (r ≡ Ok a)

-- a unit, or a cell as long as the rows, spreads
spread_there : (n : ℕ) (c : Cell) → IsLong n c → Made (spread n c)
spread_there n (unit s) h = (replicate n s, refl)
spread_there n (rows xs) h = (xs, spread_list n xs h)

-- the rows beside cells of n rows: n, or as many as units like
record AreBeside (a b c : Cell) : Type 0 where
  count : ℕ
  is : rows_beside (a ∷ b ∷ c ∷ []) ≡ count
  first : IsLong count a
  second : IsLong count b
  third : IsLong count c

three_beside : (n : ℕ) (a b c : Cell) → IsLong n a → IsLong n b → IsLong n c → AreBeside a b c
three_beside n (rows xs) b c x y z = record { count = n; is = x; first = x; second = y; third = z }
three_beside n (unit s) (rows ys) c x y z = record { count = n; is = y; first = tt; second = y; third = z }
three_beside n (unit s) (unit t) (rows zs) x y z = record { count = n; is = z; first = tt; second = tt; third = z }
three_beside n (unit s) (unit t) (unit r) x y z = record { count = 1; is = refl; first = tt; second = tt; third = tt }

-- two and three cells of n rows are zipped
pub zip_there : (f : Slot → Slot → Slot) (n : ℕ) (a b : Cell) → IsLong n a → IsLong n b → Made (zip_cells f a b)
zip_there f n a b x y =
    let s = three_beside n a b b x y y in
    let m = two_of a b b s.count s.is in
    let xs = spread_there s.count a s.first in
    let ys = spread_there s.count b s.second in (
      cell_of (is_unit_cell a && is_unit_cell b) (map (λ (p : Slot × Slot). f p.0 p.1) (zip xs.0 ys.0)),
      (λ i. spread (m i) a >>> λ us. spread (m i) b >>> λ vs. Ok (cell_of (is_unit_cell a && is_unit_cell b) (map (λ (p : Slot × Slot). f p.0 p.1) (zip us vs))))
          ∙ (λ i. xs.1 i >>> λ us. ys.1 i >>> λ vs. Ok (cell_of (is_unit_cell a && is_unit_cell b) (map (λ (p : Slot × Slot). f p.0 p.1) (zip us vs)))),
    )
  where
    two_of : (a b c : Cell) (k : ℕ) → rows_beside (a ∷ b ∷ b ∷ []) ≡ k → rows_beside (a ∷ b ∷ []) ≡ k
    two_of (rows us) b c k h = h
    two_of (unit s) (rows us) c k h = h
    two_of (unit s) (unit t) c k h = h

pub zip_three_there : (f : Slot → Slot → Slot → Slot) (n : ℕ) (a b c : Cell) → IsLong n a → IsLong n b → IsLong n c → Made (zip_three_cells f a b c)
zip_three_there f n a b c x y z =
    let s = three_beside n a b c x y z in
    let xs = spread_there s.count a s.first in
    let ys = spread_there s.count b s.second in
    let zs = spread_there s.count c s.third in
    let whole = λ (us vs ws : List Slot). cell_of (is_unit_cell a && (is_unit_cell b && is_unit_cell c)) (map (λ (p : Slot × (Slot × Slot)). f p.0 p.1.0 p.1.1) (zip us (zip vs ws))) in (
      whole xs.0 ys.0 zs.0,
      (λ i. spread (s.is i) a >>> λ us. spread (s.is i) b >>> λ vs. spread (s.is i) c >>> λ ws. Ok (whole us vs ws))
          ∙ (λ i. xs.1 i >>> λ us. ys.1 i >>> λ vs. zs.1 i >>> λ ws. Ok (whole us vs ws)),
    )

-- where joined lists are there in another type, each is
items_split : (from to : Kind) (o : CastOptions) (xs ys : List Slot) (ds : Slots) → items_cast to o (slots (xs ++ ys)) ≡ Ok ds → Made (items_cast to o (slots xs)) × Made (items_cast to o (slots ys))
items_split from to o [] ys ds h = ((no_slots, refl), (ds, h))
items_split from to o (x ∷ xs) ys ds h =
    let p = before_parts (cast_slot from to o x) (items_cast to o (slots (xs ++ ys))) ds (sym (items_first from to o x (xs ++ ys)) ∙ h) in
    let rest = items_split from to o xs ys p.1 p.3 in
    let all = before_made p.0 rest.0.0 in
    ((all.0, items_first from to o x xs ∙ (λ i. before (p.2 i) (rest.0.1 i)) ∙ all.1), rest.1)

-- so of cells
cast_split : (from to : Kind) (o : CastOptions) {a b : Cell} (c : Cell) → Alike a b → cast_cell from to o (joined a b) ≡ Ok c → Made (cast_cell from to o a) × Made (cast_cell from to o b)
cast_split from to o c (same_unit s) h = ((c, h), (c, h))
cast_split from to o c (two_lists xs ys) h =
    let t = result_bound (cast_slots from to o (xs ++ ys)) _ c h in
    let ds = both_ok (items_cast to o (slots (xs ++ ys))) t.0 t.1 in
    let s = items_split from to o xs ys ds.0 ds.1 in
    ((rows (items s.0.0), (λ i. result_map_both items (λ e. e) (s.0.1 i) >>> λ zs. Ok (rows zs))), (rows (items s.1.0), (λ i. result_map_both items (λ e. e) (s.1.1 i) >>> λ zs. Ok (rows zs))))

-- a cell of what is made is there
made_there : (o : Option (Result Cell PxError)) (r : Result Cell PxError) → o ≡ Some r → Made r → There (made o)
made_there o r h m = (m.0, ap made h ∙ ap (λ x. made (Some x)) m.1)

-- all are units, or the rows are n
abbrev pub AreLong : ℕ → List Cell → Type 0
AreLong n [] = Unit {0}
AreLong n (c ∷ cs) = IsLong n c × AreLong n cs

-- a row function of as many cells
function_there : (f : FunctionExpr) (j k : Kind) (n : ℕ) (cs ds : List Cell) (d : Cell) → is_row_function f ≡ true → length cs ≡ length ds → AreLong n cs → function_cell f j ds ≡ Ok d → Made (function_cell f k cs)
function_there IsNull j k n (a ∷ []) ds d w l x h = (_, refl)
function_there IsNull j k n [] [] d w l x h = cc
function_there IsNull j k n [] (b ∷ ds) d w l x h = absurd (omega (arith, l))
function_there IsNull j k n (a ∷ c ∷ cs) [] d w l x h = absurd (omega (arith, l))
function_there IsNull j k n (a ∷ c ∷ cs) (b ∷ []) d w l x h = absurd (omega (arith, l))
function_there IsNull j k n (a ∷ c ∷ cs) (b ∷ e ∷ ds) d w l x h = cc
function_there IsNotNull j k n (a ∷ []) ds d w l x h = (_, refl)
function_there IsNotNull j k n [] [] d w l x h = cc
function_there IsNotNull j k n [] (b ∷ ds) d w l x h = absurd (omega (arith, l))
function_there IsNotNull j k n (a ∷ c ∷ cs) [] d w l x h = absurd (omega (arith, l))
function_there IsNotNull j k n (a ∷ c ∷ cs) (b ∷ []) d w l x h = absurd (omega (arith, l))
function_there IsNotNull j k n (a ∷ c ∷ cs) (b ∷ e ∷ ds) d w l x h = cc
function_there Not j k n (a ∷ []) ds d w l x h = (_, refl)
function_there Not j k n [] [] d w l x h = cc
function_there Not j k n [] (b ∷ ds) d w l x h = absurd (omega (arith, l))
function_there Not j k n (a ∷ c ∷ cs) [] d w l x h = absurd (omega (arith, l))
function_there Not j k n (a ∷ c ∷ cs) (b ∷ []) d w l x h = absurd (omega (arith, l))
function_there Not j k n (a ∷ c ∷ cs) (b ∷ e ∷ ds) d w l x h = cc
function_there (IsBetween closed) j k n (a ∷ b ∷ c ∷ []) ds d w l x h = zip_three_there (between_slot k closed) n a b c x.0 x.1.0 x.1.1.0
function_there (IsBetween closed) j k n [] [] d w l x h = cc
function_there (IsBetween closed) j k n [] (b ∷ ds) d w l x h = absurd (omega (arith, l))
function_there (IsBetween closed) j k n (a ∷ []) [] d w l x h = absurd (omega (arith, l))
function_there (IsBetween closed) j k n (a ∷ []) (b ∷ []) d w l x h = cc
function_there (IsBetween closed) j k n (a ∷ []) (b ∷ e ∷ ds) d w l x h = absurd (omega (arith, l))
function_there (IsBetween closed) j k n (a ∷ c ∷ []) [] d w l x h = absurd (omega (arith, l))
function_there (IsBetween closed) j k n (a ∷ c ∷ []) (b ∷ []) d w l x h = absurd (omega (arith, l))
function_there (IsBetween closed) j k n (a ∷ c ∷ []) (b ∷ e ∷ []) d w l x h = cc
function_there (IsBetween closed) j k n (a ∷ c ∷ []) (b ∷ e ∷ g ∷ ds) d w l x h = absurd (omega (arith, l))
function_there (IsBetween closed) j k n (a ∷ c ∷ u ∷ v ∷ cs) [] d w l x h = absurd (omega (arith, l))
function_there (IsBetween closed) j k n (a ∷ c ∷ u ∷ v ∷ cs) (b ∷ []) d w l x h = absurd (omega (arith, l))
function_there (IsBetween closed) j k n (a ∷ c ∷ u ∷ v ∷ cs) (b ∷ e ∷ []) d w l x h = absurd (omega (arith, l))
function_there (IsBetween closed) j k n (a ∷ c ∷ u ∷ v ∷ cs) (b ∷ e ∷ g ∷ []) d w l x h = absurd (omega (arith, l))
function_there (IsBetween closed) j k n (a ∷ c ∷ u ∷ v ∷ cs) (b ∷ e ∷ g ∷ q ∷ ds) d w l x h = cc
function_there IsIn j k n cs ds d w l x h = cc
function_there Reverse j k n cs ds d w l x h = cc
function_there (Shift m) j k n cs ds d w l x h = cc
function_there DropNulls j k n cs ds d w l x h = cc
function_there NullCount j k n cs ds d w l x h = cc
function_there Explode j k n cs ds d w l x h = cc

-- a type on some rows is that on others
kind_on : (e : Tree) (frame : Frame) (p q : List ℕ) (k : Option Kind) → kind_in e (scope_of (rows_of_frame frame p)) ≡ k → kind_in e (scope_of (rows_of_frame frame q)) ≡ k
kind_on e frame p q k h = ap (kind_in e) (scope_of_rows frame q ∙ sym (scope_of_rows frame p)) ∙ h

kinds_on : (es : Trees) (frame : Frame) (p q : List ℕ) (k : Option (List Kind)) → kinds_in es (scope_of (rows_of_frame frame p)) ≡ k → kinds_in es (scope_of (rows_of_frame frame q)) ≡ k
kinds_on es frame p q k h = ap (kinds_in es) (scope_of_rows frame q ∙ sym (scope_of_rows frame p)) ∙ h

-- a column is there on all rows where it is on some
column_there : (n : List ℕ) (frame : Frame) (p q : List ℕ) (c : Cell) → is_misfit frame n ≡ false → value_on (column n) (rows_of_frame frame q) ≡ Some c → There (value_on (column n) (rows_of_frame frame p))
column_there n frame p q c fit h = by (look_in n frame) (sym (column_rows n frame q fit) ∙ h) (column_rows n frame p fit)
  where
    by : (o : Option Series) → option_map (λ (s : Series). rows (slots_at s.slots q)) o ≡ Some c → value_on (column n) (rows_of_frame frame p) ≡ option_map (λ (s : Series). rows (slots_at s.slots p)) o → There (value_on (column n) (rows_of_frame frame p))
    by None e g = cc
    by (Some s) e g = (rows (slots_at s.slots p), g)

-- a number of trees
abbrev count_trees : Trees → ℕ
count_trees no_trees = 0
count_trees (one_tree t ts) = suc (count_trees ts)

cells_count : (es : Trees) (frame : Frame) (cs : List Cell) → cells_on es frame ≡ Some cs → length cs ≡ count_trees es
cells_count no_trees frame cs h = let e : [] ≡ cs = cc in ap length (sym e)
cells_count (one_tree t ts) frame cs h =
    let x = bound (made (outcome_on t frame)) _ cs h in
    let xs = bound (cells_on ts frame) _ cs x.2 in
    let e : x.0 ∷ xs.0 ≡ cs = cc (xs.2) in
    ap length (sym e) ∙ ap suc (cells_count ts frame xs.0 xs.1)

pub cells_long : (es : Trees) (s : Scope) (frame : Frame) (p : List ℕ) (cs : List Cell) → are_elementwise es s ≡ true → list_any (is_misfit frame) (all_leaf_names es) ≡ false → cells_on es (rows_of_frame frame p) ≡ Some cs → AreLong (length p) cs
cells_long no_trees s frame p cs w m h = let e : [] ≡ cs = cc in subst (AreLong (length p)) e tt
cells_long (one_tree t ts) s frame p cs w m h =
    let ew = both_true (is_elementwise t s) (are_elementwise ts s) w in
    let ms = no_misfits frame (leaf_names t) (all_leaf_names ts) m in
    let x = bound (made (outcome_on t (rows_of_frame frame p))) _ cs h in
    let xs = bound (cells_on ts (rows_of_frame frame p)) _ cs x.2 in
    let e : x.0 ∷ xs.0 ≡ cs = cc (xs.2) in
    subst (AreLong (length p)) e (value_long t s frame p x.0 ew.0 ms.0 x.1, cells_long ts s frame p xs.0 ew.1 ms.1 xs.1)

-- an operator's value on some rows, where its operands have one
binary_at : (l r : Tree) (op : Operator) (s : Scope) (frame : Frame) (p q : List ℕ) (k : Kind) → (is_elementwise l s ≡ true) × (is_elementwise r s ≡ true) → (list_any (is_misfit frame) (leaf_names l) ≡ false) × (list_any (is_misfit frame) (leaf_names r) ≡ false)
    → kind_in l (scope_of (rows_of_frame frame q)) ≡ Some k → There (value_on l (rows_of_frame frame p)) → There (value_on r (rows_of_frame frame p)) → There (value_on (binary l op r) (rows_of_frame frame p))
binary_at l r op s frame p q k w m kind a b =
    made_there (outcome_on (binary l op r) (rows_of_frame frame p)) (binary_cell k op a.0 b.0)
    (λ i. kind_on l frame q p (Some k) kind i >>= λ t. a.1 i >>= λ c. b.1 i >>= λ d. Some (binary_cell t op c d))
    (zip_there (operated k op) (length p) a.0 b.0 (value_long l s frame p a.0 w.0 m.0 a.1) (value_long r s frame p b.0 w.1 m.1 b.1))

ternary_at : (t l r : Tree) (s : Scope) (frame : Frame) (p : List ℕ) → (is_elementwise t s ≡ true) × (is_elementwise l s ≡ true) × (is_elementwise r s ≡ true)
    → (list_any (is_misfit frame) (leaf_names t) ≡ false) × (list_any (is_misfit frame) (leaf_names l) ≡ false) × (list_any (is_misfit frame) (leaf_names r) ≡ false)
    → There (value_on t (rows_of_frame frame p)) → There (value_on l (rows_of_frame frame p)) → There (value_on r (rows_of_frame frame p)) → There (value_on (ternary t l r) (rows_of_frame frame p))
ternary_at t l r s frame p w m z a b =
    made_there (outcome_on (ternary t l r) (rows_of_frame frame p)) (ternary_cell z.0 a.0 b.0)
    (λ i. z.1 i >>= λ y. a.1 i >>= λ c. b.1 i >>= λ d. Some (ternary_cell y c d))
    (zip_three_there chosen (length p) z.0 a.0 b.0 (value_long t s frame p z.0 w.0 m.0 z.1) (value_long l s frame p a.0 w.1 m.1 a.1) (value_long r s frame p b.0 w.2 m.2 b.1))

cast_at : (e : Tree) (to k : Kind) (o : CastOptions) (frame : Frame) (p q : List ℕ) (a : Cell) → kind_in e (scope_of (rows_of_frame frame q)) ≡ Some k → value_on e (rows_of_frame frame p) ≡ Some a → Made (cast_cell k to o a)
    → There (value_on (cast e to o) (rows_of_frame frame p))
cast_at e to k o frame p q a kind h m =
    made_there (outcome_on (cast e to o) (rows_of_frame frame p)) (cast_cell k to o a) (λ i. kind_on e frame q p (Some k) kind i >>= λ t. h i >>= λ c. Some (cast_cell t to o c)) m

function_at : (es : Trees) (f : Call) (s : Scope) (frame : Frame) (p q : List ℕ) (ks : List Kind) (ds : List Cell) (d : Cell) → is_row_function (called f) ≡ true → are_elementwise es s ≡ true → list_any (is_misfit frame) (all_leaf_names es) ≡ false
    → kinds_in es (scope_of (rows_of_frame frame q)) ≡ Some ks → length ds ≡ count_trees es → function_cell (called f) (first_kind ks) ds ≡ Ok d → There (cells_on es (rows_of_frame frame p)) → There (value_on (function es f) (rows_of_frame frame p))
function_at es f s frame p q ks ds d row w m kinds size h cs =
    made_there (outcome_on (function es f) (rows_of_frame frame p)) (function_cell (called f) (first_kind ks) cs.0)
    (λ i. kinds_on es frame q p (Some ks) kinds i >>= λ t. cs.1 i >>= λ c. Some (function_cell (called f) (first_kind t) c))
    (function_there (called f) (first_kind ks) (first_kind ks) (length p) cs.0 ds d row (cells_count es (rows_of_frame frame p) cs.0 cs.1 ∙ sym size) (cells_long es s frame p cs.0 w m cs.1) h)

literal_there : (v : Literal) (s : Scope) (frame : Frame) (c : Cell) → is_elementwise (literal v) s ≡ true → There (value_on (literal v) frame)
literal_there (single k x) s frame c w = (unit x, refl)
literal_there (range low high k) s frame c w = cc
literal_there (series t) s frame c w = cc

mutual
  -- where an elementwise expression has a value on some rows and others together, it has one on each
  pub value_splits : (e : Tree) (s : Scope) (frame : Frame) (p q : List ℕ) (c : Cell) → is_elementwise e s ≡ true → list_any (is_misfit frame) (leaf_names e) ≡ false
      → value_on e (rows_of_frame frame (p ++ q)) ≡ Some c → There (value_on e (rows_of_frame frame p)) × There (value_on e (rows_of_frame frame q))
  value_splits (column n) s frame p q c w m h =
      let fit = (neither (is_misfit frame n) false m).0 in
      (column_there n frame p (p ++ q) c fit h, column_there n frame q (p ++ q) c fit h)
  value_splits (literal v) s frame p q c w m h = (literal_there v s (rows_of_frame frame p) c w, literal_there v s (rows_of_frame frame q) c w)
  value_splits (alias e n) s frame p q c w m h =
      let r = value_splits e s frame p q c w m (sym (under_name _) ∙ h) in
      ((r.0.0, under_name _ ∙ r.0.1), (r.1.0, under_name _ ∙ r.1.1))
  value_splits (binary l op r) s frame p q c w m h =
      let ew = both_true (is_elementwise l s) (is_elementwise r s) w in
      let ms = no_misfits frame (leaf_names l) (leaf_names r) m in
      let k = made_bound (kind_in l (scope_of (rows_of_frame frame (p ++ q)))) _ c h in
      let x = made_bound (made (outcome_on l (rows_of_frame frame (p ++ q)))) _ c k.2 in
      let y = made_bound (made (outcome_on r (rows_of_frame frame (p ++ q)))) _ c x.2 in
      let a = value_splits l s frame p q x.0 ew.0 ms.0 x.1 in
      let b = value_splits r s frame p q y.0 ew.1 ms.1 y.1 in
      (binary_at l r op s frame p (p ++ q) k.0 ew ms k.1 a.0 b.0, binary_at l r op s frame q (p ++ q) k.0 ew ms k.1 a.1 b.1)
  value_splits (ternary t l r) s frame p q c w m h =
      let ew = both_true (is_elementwise t s) (is_elementwise l s && is_elementwise r s) w in
      let ev = both_true (is_elementwise l s) (is_elementwise r s) ew.1 in
      let ms = no_misfits frame (leaf_names t) (leaf_names l ++ leaf_names r) m in
      let ns = no_misfits frame (leaf_names l) (leaf_names r) ms.1 in
      let k = made_bound (made (outcome_on t (rows_of_frame frame (p ++ q)))) _ c h in
      let x = made_bound (made (outcome_on l (rows_of_frame frame (p ++ q)))) _ c k.2 in
      let y = made_bound (made (outcome_on r (rows_of_frame frame (p ++ q)))) _ c x.2 in
      let z = value_splits t s frame p q k.0 ew.0 ms.0 k.1 in
      let a = value_splits l s frame p q x.0 ev.0 ns.0 x.1 in
      let b = value_splits r s frame p q y.0 ev.1 ns.1 y.1 in
      (ternary_at t l r s frame p (ew.0, ev.0, ev.1) (ms.0, ns.0, ns.1) z.0 a.0 b.0, ternary_at t l r s frame q (ew.0, ev.0, ev.1) (ms.0, ns.0, ns.1) z.1 a.1 b.1)
  value_splits (cast e to o) s frame p q c w m h =
      let k = made_bound (kind_in e (scope_of (rows_of_frame frame (p ++ q)))) _ c h in
      let x = made_bound (made (outcome_on e (rows_of_frame frame (p ++ q)))) _ c k.2 in
      let r = value_splits e s frame p q x.0 w m x.1 in
      let j = value_joins e s frame p q r.0.0 r.1.0 w m r.0.1 r.1.1 in
      let same : joined r.0.0 r.1.0 ≡ x.0 = let all : Some (joined r.0.0 r.1.0) ≡ Some x.0 = sym j.0 ∙ x.1 in cc in
      let parts = cast_split k.0 to o c j.1 (ap (cast_cell k.0 to o) same ∙ made_ok _ c x.2) in
      (cast_at e to k.0 o frame p (p ++ q) r.0.0 k.1 r.0.1 parts.0, cast_at e to k.0 o frame q (p ++ q) r.1.0 k.1 r.1.1 parts.1)
  value_splits (function es f) s frame p q c w m h =
      let ew = both_true (is_row_function (called f)) (are_elementwise es s) w in
      let k = made_bound (kinds_in es (scope_of (rows_of_frame frame (p ++ q)))) _ c h in
      let x = made_bound (cells_on es (rows_of_frame frame (p ++ q))) _ c k.2 in
      let r = cells_split es s frame p q x.0 ew.1 m x.1 in
      let size = cells_count es (rows_of_frame frame (p ++ q)) x.0 x.1 in
      (function_at es f s frame p (p ++ q) k.0 x.0 c ew.0 ew.1 m k.1 size (made_ok _ c x.2) r.0, function_at es f s frame q (p ++ q) k.0 x.0 c ew.0 ew.1 m k.1 size (made_ok _ c x.2) r.1)
  value_splits (filter e by) s frame p q c w m h = cc
  value_splits (slice e offset size) s frame p q c w m h = cc
  value_splits (gather e idx one) s frame p q c w m h = cc
  value_splits (sort e o) s frame p q c w m h = cc
  value_splits (sort_by e by o) s frame p q c w m h = cc
  value_splits (agg f e) s frame p q c w m h = cc
  value_splits len s frame p q c w m h = cc
  value_splits (window f keys order mapping) s frame p q c w m h = cc

  cells_split : (es : Trees) (s : Scope) (frame : Frame) (p q : List ℕ) (cs : List Cell) → are_elementwise es s ≡ true → list_any (is_misfit frame) (all_leaf_names es) ≡ false
      → cells_on es (rows_of_frame frame (p ++ q)) ≡ Some cs → There (cells_on es (rows_of_frame frame p)) × There (cells_on es (rows_of_frame frame q))
  cells_split no_trees s frame p q cs w m h = (([], refl), ([], refl))
  cells_split (one_tree t ts) s frame p q cs w m h =
      let ew = both_true (is_elementwise t s) (are_elementwise ts s) w in
      let ms = no_misfits frame (leaf_names t) (all_leaf_names ts) m in
      let x = bound (made (outcome_on t (rows_of_frame frame (p ++ q)))) _ cs h in
      let xs = bound (cells_on ts (rows_of_frame frame (p ++ q))) _ cs x.2 in
      let one = value_splits t s frame p q x.0 ew.0 ms.0 x.1 in
      let more = cells_split ts s frame p q xs.0 ew.1 ms.1 xs.1 in
      ((one.0.0 ∷ more.0.0, (λ i. one.0.1 i >>= λ c. more.0.1 i >>= λ ds. Some (c ∷ ds))), (one.1.0 ∷ more.1.0, (λ i. one.1.1 i >>= λ c. more.1.1 i >>= λ ds. Some (c ∷ ds))))
