-- An elementwise expression that is a list has as many places as there are rows.
use Rattle.std.proofs.Common.{◌≡◌, ℕ, suc, true, false, ◌&&◌, List, [], ◌∷◌, ◌++◌, Option, Some, None, Ok, option_map, length, map, replicate, subst, refl, sym, ◌∙◌, ap}
use Rattle.std.specs.List.{zip, list_any}
use Rattle.std.proofs.lemmas.List.{length-map, length-replicate}
use Rattle.px_column.specs.Cast.{cast_slot, cast_slots, items_cast}
use Rattle.px_column.specs.Prelude.{Slot, Slots, no_slots, slots, items, Kind, Series, slot_at}
use Rattle.px_column.specs.Function.{is_null_slot, is_not_null_slot, not_slot, between_slot}
use Rattle.px_column.specs.Operator.{operated}
use Rattle.px_value.specs.declared.cast_options.CastOptions.{CastOptions}
use Rattle.px_frame.specs.Cell.{Cell, unit, rows}
use Rattle.px_frame.specs.External.{Frame, look_in, scope_of, rows_of_frame}
use Rattle.px_frame.specs.Frame.{slots_at}
use Rattle.px_frame.specs.Spread.{spread, rows_beside}
use Rattle.px_tree.specs.Node.{map_cell, zip_cells, zip_three_cells, cast_cell, function_cell}
use Rattle.px_frame.specs.Cell.{is_unit_cell, cell_of}
use Rattle.px_column.specs.Chosen.{chosen}
use Rattle.px_tree.specs.Nodes.{leaf_names, all_leaf_names}
use Rattle.px_tree.specs.Partition.{is_elementwise, are_elementwise, is_row_function}
use Rattle.px_tree.specs.Tree.{Tree, called, Trees, Literal, single, range, series, no_trees, one_tree, column, literal, alias, binary, ternary, cast, function, filter, slice, gather, sort, sort_by, agg, len, window}
use Rattle.px_tree.specs.Typing.{Scope, kind_in, kinds_in}
use Rattle.px_tree.specs.Value.{value_on, outcome_on, made, cells_on, first_kind, is_misfit}
use Rattle.px_tree.specs.declared.function.FunctionExpr.{FunctionExpr}
use Rattle.px_tree.specs.declared.function.FunctionExpr.TheVariants.{IsNull, IsNotNull, Not, IsBetween, IsIn, Reverse, Shift, DropNulls, NullCount, Explode}
use Rattle.px_laws.proofs.Joining.{same_list, neither, no_misfits, column_rows, under_name, before_parts, items_first, both_ok, length_zip}
use Rattle.px_value.proofs.FitLaws.{both as both_true}
use Rattle.px_laws.proofs.Shapes.{bound, made_bound, made_ok, result_bound}

-- a unit, or n places
abbrev pub IsLong : ℕ → Cell → Type 0
IsLong n (unit s) = Unit {0}
IsLong n (rows xs) = length xs ≡ n

-- a cell that spreads has as many places as rows
spread_long : (n : ℕ) (a : Cell) (xs : List Slot) → spread n a ≡ Ok xs → length xs ≡ n
spread_long n (unit s) xs h = let e : replicate n s ≡ xs = cc in ap length (sym e) ∙ length-replicate n s
spread_long n (rows ys) xs h = let e = same_list n ys xs h in ap length (sym e.0) ∙ e.1

-- all are units, or the rows are n
abbrev AreLong : ℕ → List Cell → Type 0
AreLong n [] = Unit {0}
AreLong n (c ∷ cs) = IsLong n c × AreLong n cs

-- a list of n places
long_list : (n : ℕ) (xs : List Slot) (c : Cell) → rows xs ≡ c → length xs ≡ n → IsLong n c
long_list n xs c e h = subst (IsLong n) e h

-- a unit, whatever n is
long_unit : (n : ℕ) (s : Slot) (c : Cell) → unit s ≡ c → IsLong n c
long_unit n s c e = subst (IsLong n) e tt

-- two cells row by row, where the rows beside each other are n
zip_rows : (f : Slot → Slot → Slot) (n : ℕ) (a b c : Cell) → rows_beside (a ∷ b ∷ []) ≡ n → (is_unit_cell a && is_unit_cell b) ≡ false → zip_cells f a b ≡ Ok c → IsLong n c
zip_rows f n a b c m shape h =
    let each_pair = λ (p : Slot × Slot). f p.0 p.1 in
    let xs = result_bound (spread (rows_beside (a ∷ b ∷ [])) a) _ c h in
    let ys = result_bound (spread (rows_beside (a ∷ b ∷ [])) b) _ c xs.2 in
    let x = spread_long (rows_beside (a ∷ b ∷ [])) a xs.0 xs.1 in
    let y = spread_long (rows_beside (a ∷ b ∷ [])) b ys.0 ys.1 in
    let e : cell_of (is_unit_cell a && is_unit_cell b) (map each_pair (zip xs.0 ys.0)) ≡ c = cc (ys.2) in
    long_list n (map each_pair (zip xs.0 ys.0)) c (ap (λ w. cell_of w (map each_pair (zip xs.0 ys.0))) (sym shape) ∙ e)
    (length-map (zip xs.0 ys.0) each_pair ∙ length_zip xs.0 ys.0 (x ∙ sym y) ∙ x ∙ m)

-- two cells row by row
zip_long : (f : Slot → Slot → Slot) (n : ℕ) (a b c : Cell) → IsLong n a → IsLong n b → zip_cells f a b ≡ Ok c → IsLong n c
zip_long f n (unit s) (unit t) c x y h = long_unit n (f s t) c (cc)
zip_long f n (unit s) (rows ys) c x y h = zip_rows f n (unit s) (rows ys) c y refl h
zip_long f n (rows xs) b c x y h = zip_rows f n (rows xs) b c x refl h

-- three cells row by row, where the rows beside each other are n
zip_three_rows : (f : Slot → Slot → Slot → Slot) (n : ℕ) (a b d c : Cell) → rows_beside (a ∷ b ∷ d ∷ []) ≡ n → (is_unit_cell a && (is_unit_cell b && is_unit_cell d)) ≡ false → zip_three_cells f a b d ≡ Ok c → IsLong n c
zip_three_rows f n a b d c m shape h =
    let each_pair = λ (p : Slot × (Slot × Slot)). f p.0 p.1.0 p.1.1 in
    let xs = result_bound (spread (rows_beside (a ∷ b ∷ d ∷ [])) a) _ c h in
    let ys = result_bound (spread (rows_beside (a ∷ b ∷ d ∷ [])) b) _ c xs.2 in
    let zs = result_bound (spread (rows_beside (a ∷ b ∷ d ∷ [])) d) _ c ys.2 in
    let x = spread_long (rows_beside (a ∷ b ∷ d ∷ [])) a xs.0 xs.1 in
    let y = spread_long (rows_beside (a ∷ b ∷ d ∷ [])) b ys.0 ys.1 in
    let z = spread_long (rows_beside (a ∷ b ∷ d ∷ [])) d zs.0 zs.1 in
    let all = zip xs.0 (zip ys.0 zs.0) in
    let e : cell_of (is_unit_cell a && (is_unit_cell b && is_unit_cell d)) (map each_pair all) ≡ c = cc (zs.2) in
    long_list n (map each_pair all) c (ap (λ w. cell_of w (map each_pair all)) (sym shape) ∙ e)
    (length-map all each_pair ∙ length_zip xs.0 (zip ys.0 zs.0) (x ∙ sym y ∙ sym (length_zip ys.0 zs.0 (y ∙ sym z))) ∙ x ∙ m)

-- three cells row by row
zip_three_long : (f : Slot → Slot → Slot → Slot) (n : ℕ) (a b d c : Cell) → IsLong n a → IsLong n b → IsLong n d → zip_three_cells f a b d ≡ Ok c → IsLong n c
zip_three_long f n (unit s) (unit t) (unit r) c x y z h = long_unit n (f s t r) c (cc)
zip_three_long f n (unit s) (unit t) (rows zs) c x y z h = zip_three_rows f n (unit s) (unit t) (rows zs) c z refl h
zip_three_long f n (unit s) (rows ys) d c x y z h = zip_three_rows f n (unit s) (rows ys) d c y refl h
zip_three_long f n (rows xs) b d c x y z h = zip_three_rows f n (rows xs) b d c x refl h

-- each row by itself
map_long : (f : Slot → Slot) (n : ℕ) (a c : Cell) → IsLong n a → map_cell f a ≡ c → IsLong n c
map_long f n (unit s) c x h = long_unit n (f s) c h
map_long f n (rows xs) c x h = long_list n (map f xs) c h (length-map xs f ∙ x)

-- as many places in another type
items_long : (from to : Kind) (o : CastOptions) (xs : List Slot) (ds : Slots) → items_cast to o (slots xs) ≡ Ok ds → length (items ds) ≡ length xs
items_long from to o [] ds h = let e : no_slots ≡ ds = cc in ap (λ ts. length (items ts)) (sym e)
items_long from to o (x ∷ xs) ds h =
    let p = before_parts (cast_slot from to o x) (items_cast to o (slots xs)) ds (sym (items_first from to o x xs) ∙ h) in
    ap length p.4 ∙ ap suc (items_long from to o xs p.1 p.3)

-- a cell in another type
cast_long : (from to : Kind) (o : CastOptions) (n : ℕ) (a c : Cell) → IsLong n a → cast_cell from to o a ≡ Ok c → IsLong n c
cast_long from to o n (unit s) c x h = let t = result_bound (cast_slot from to o s) _ c h in long_unit n t.0 c (cc (t.2))
cast_long from to o n (rows xs) c x h =
    let t = result_bound (cast_slots from to o xs) _ c h in
    let ds = both_ok (items_cast to o (slots xs)) t.0 t.1 in
    long_list n t.0 c (cc (t.2)) (ap length (sym ds.2) ∙ items_long from to o xs ds.0 ds.1 ∙ x)

-- a row function of cells
function_long : (f : FunctionExpr) (k : Kind) (n : ℕ) (cs : List Cell) (c : Cell) → is_row_function f ≡ true → AreLong n cs → function_cell f k cs ≡ Ok c → IsLong n c
function_long IsNull k n [] c e x h = cc
function_long IsNull k n (a ∷ []) c e x h = map_long is_null_slot n a c x.0 (cc)
function_long IsNull k n (a ∷ b ∷ cs) c e x h = cc
function_long IsNotNull k n [] c e x h = cc
function_long IsNotNull k n (a ∷ []) c e x h = map_long is_not_null_slot n a c x.0 (cc)
function_long IsNotNull k n (a ∷ b ∷ cs) c e x h = cc
function_long Not k n [] c e x h = cc
function_long Not k n (a ∷ []) c e x h = map_long not_slot n a c x.0 (cc)
function_long Not k n (a ∷ b ∷ cs) c e x h = cc
function_long (IsBetween closed) k n [] c e x h = cc
function_long (IsBetween closed) k n (a ∷ []) c e x h = cc
function_long (IsBetween closed) k n (a ∷ b ∷ []) c e x h = cc
function_long (IsBetween closed) k n (a ∷ b ∷ d ∷ []) c e x h = zip_three_long (between_slot k closed) n a b d c x.0 x.1.0 x.1.1.0 h
function_long (IsBetween closed) k n (a ∷ b ∷ d ∷ f ∷ cs) c e x h = cc
function_long IsIn k n cs c e x h = cc
function_long Reverse k n cs c e x h = cc
function_long (Shift m) k n cs c e x h = cc
function_long DropNulls k n cs c e x h = cc
function_long NullCount k n cs c e x h = cc
function_long Explode k n cs c e x h = cc

-- a column's rows
column_long : (p : List ℕ) (o : Option Series) (c : Cell) → option_map (λ (s : Series). rows (slots_at s.slots p)) o ≡ Some c → IsLong (length p) c
column_long p None c h = cc
column_long p (Some s) c h = long_list (length p) (slots_at s.slots p) c (cc) (length-map p (slot_at s.slots))

-- a literal is a unit
literal_long : (v : Literal) (s : Scope) (n : ℕ) (frame : Frame) (c : Cell) → is_elementwise (literal v) s ≡ true → value_on (literal v) frame ≡ Some c → IsLong n c
literal_long (single k x) s n frame c e h = long_unit n x c (cc)
literal_long (range low high k) s n frame c e h = cc
literal_long (series t) s n frame c e h = cc

mutual
  pub value_long : (e : Tree) (s : Scope) (frame : Frame) (p : List ℕ) (c : Cell) → is_elementwise e s ≡ true → list_any (is_misfit frame) (leaf_names e) ≡ false → value_on e (rows_of_frame frame p) ≡ Some c → IsLong (length p) c
  value_long (column n) s frame p c w m h = column_long p (look_in n frame) c (sym (column_rows n frame p (neither (is_misfit frame n) false m).0) ∙ h)
  value_long (literal v) s frame p c w m h = literal_long v s (length p) frame c w h
  value_long (alias e n) s frame p c w m h = value_long e s frame p c w m (sym (under_name _) ∙ h)
  value_long (binary l op r) s frame p c w m h =
      let ew = both_true (is_elementwise l s) (is_elementwise r s) w in
      let ms = no_misfits frame (leaf_names l) (leaf_names r) m in
      let k = made_bound (kind_in l (scope_of (rows_of_frame frame p))) _ c h in
      let x = made_bound (made (outcome_on l (rows_of_frame frame p))) _ c k.2 in
      let y = made_bound (made (outcome_on r (rows_of_frame frame p))) _ c x.2 in
      zip_long (operated k.0 op) (length p) x.0 y.0 c (value_long l s frame p x.0 ew.0 ms.0 x.1) (value_long r s frame p y.0 ew.1 ms.1 y.1) (made_ok _ c y.2)
  value_long (ternary t l r) s frame p c w m h =
      let ew = both_true (is_elementwise t s) (is_elementwise l s && is_elementwise r s) w in
      let ev = both_true (is_elementwise l s) (is_elementwise r s) ew.1 in
      let ms = no_misfits frame (leaf_names t) (leaf_names l ++ leaf_names r) m in
      let ns = no_misfits frame (leaf_names l) (leaf_names r) ms.1 in
      let k = made_bound (made (outcome_on t (rows_of_frame frame p))) _ c h in
      let x = made_bound (made (outcome_on l (rows_of_frame frame p))) _ c k.2 in
      let y = made_bound (made (outcome_on r (rows_of_frame frame p))) _ c x.2 in
      zip_three_long chosen (length p) k.0 x.0 y.0 c (value_long t s frame p k.0 ew.0 ms.0 k.1) (value_long l s frame p x.0 ev.0 ns.0 x.1) (value_long r s frame p y.0 ev.1 ns.1 y.1) (made_ok _ c y.2)
  value_long (cast e to o) s frame p c w m h =
      let k = made_bound (kind_in e (scope_of (rows_of_frame frame p))) _ c h in
      let x = made_bound (made (outcome_on e (rows_of_frame frame p))) _ c k.2 in
      cast_long k.0 to o (length p) x.0 c (value_long e s frame p x.0 w m x.1) (made_ok _ c x.2)
  value_long (function es f) s frame p c w m h =
      let ew = both_true (is_row_function (called f)) (are_elementwise es s) w in
      let k = made_bound (kinds_in es (scope_of (rows_of_frame frame p))) _ c h in
      let x = made_bound (cells_on es (rows_of_frame frame p)) _ c k.2 in
      function_long (called f) (first_kind k.0) (length p) x.0 c ew.0 (cells_long es s frame p x.0 ew.1 m x.1) (made_ok _ c x.2)
  value_long (filter e by) s frame p c w m h = cc
  value_long (slice e offset size) s frame p c w m h = cc
  value_long (gather e idx one) s frame p c w m h = cc
  value_long (sort e o) s frame p c w m h = cc
  value_long (sort_by e by o) s frame p c w m h = cc
  value_long (agg f e) s frame p c w m h = cc
  value_long len s frame p c w m h = cc
  value_long (window f keys order mapping) s frame p c w m h = cc

  -- so the values of several trees
  cells_long : (es : Trees) (s : Scope) (frame : Frame) (p : List ℕ) (cs : List Cell) → are_elementwise es s ≡ true → list_any (is_misfit frame) (all_leaf_names es) ≡ false → cells_on es (rows_of_frame frame p) ≡ Some cs → AreLong (length p) cs
  cells_long no_trees s frame p cs w m h = let e : [] ≡ cs = cc in subst (AreLong (length p)) e tt
  cells_long (one_tree t ts) s frame p cs w m h =
      let ew = both_true (is_elementwise t s) (are_elementwise ts s) w in
      let ms = no_misfits frame (leaf_names t) (all_leaf_names ts) m in
      let x = bound (made (outcome_on t (rows_of_frame frame p))) _ cs h in
      let xs = bound (cells_on ts (rows_of_frame frame p)) _ cs x.2 in
      let e : x.0 ∷ xs.0 ≡ cs = cc (xs.2) in
      subst (AreLong (length p)) e (value_long t s frame p x.0 ew.0 ms.0 x.1, cells_long ts s frame p xs.0 ew.1 ms.1 xs.1)
