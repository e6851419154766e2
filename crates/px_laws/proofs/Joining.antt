-- An elementwise expression's value on some rows and then others is its value on the first, and then that on the others.
use Rattle.std.proofs.Common.{◌≡◌, ℕ, ◌+◌, ◌==◌, suc, Bool, true, false, cond, not, ◌&&◌, ◌||◌, List, [], ◌∷◌, ◌++◌, Option, Some, None, Result, Ok, Err, option_map, length, map, replicate, subst, refl, sym, ◌∙◌, ap, arith}
use Rattle.std.specs.List.{find, zip, list_any, list_all}
use Rattle.std.specs.Option.{option_or, option_map_or}
use Rattle.std.specs.Prelude.{is_some}
use Rattle.std.specs.Result.{result_map_both}
use Rattle.std.proofs.lemmas.List.{length-append, map-append, replicate-append-replicate, length-replicate}
use Rattle.std.proofs.lemmas.List.Folds.{list_any-append}
use Rattle.std.proofs.lemmas.Bool.Decides.{nat_tests}
use Rattle.px_column.specs.Cast.{cast_slot, cast_slots, items_cast, before}
use Rattle.px_column.specs.Prelude.{Slot, Slots, no_slots, absent, present, slots, items, Kind, Series, slot_at}
use Rattle.px_column.specs.Function.{is_null_slot, is_not_null_slot, not_slot, between_slot}
use Rattle.px_column.specs.Operator.{operated}
use Rattle.px_column.specs.Option.{◌>>=◌}
use Rattle.px_column.specs.Result.{◌>>=◌ as ◌>>>◌}
use Rattle.px_value.specs.declared.cast_options.CastOptions.{CastOptions}
use Rattle.px_value.specs.declared.error.PxError.{PxError}
use Rattle.px_value.specs.declared.error.PxError.TheVariants.{ShapeMismatch}
use Rattle.px_frame.specs.Cell.{Cell, unit, rows, list_of}
use Rattle.px_frame.specs.External.{Frame, height, look_in, scope_of, rows_of_frame, external_at}
use Rattle.px_frame.specs.Frame.{look, has_name, has_height, series_at, slots_at}
use Rattle.px_frame.specs.Spread.{spread, rows_beside}
use Rattle.px_tree.specs.Node.{map_cell, zip_cells, zip_three_cells, binary_cell, ternary_cell, cast_cell, function_cell}
use Rattle.px_frame.specs.Cell.{is_unit_cell, cell_of}
use Rattle.px_column.specs.Chosen.{chosen}
use Rattle.px_tree.specs.Nodes.{leaf_names, all_leaf_names}
use Rattle.px_tree.specs.Partition.{is_elementwise, are_elementwise, is_row_function}
use Rattle.px_tree.specs.Tree.{Tree, called, Trees, Literal, single, range, series, no_trees, one_tree, column, literal, alias, binary, ternary, cast, function, filter, slice, gather, sort, sort_by, agg, len, window}
use Rattle.px_tree.specs.Typing.{Scope, kind_in, kinds_in}
use Rattle.px_tree.specs.Value.{value_on, outcome_on, made, cells_on, first_kind, is_misfit}
use Rattle.px_tree.specs.declared.function.FunctionExpr.{FunctionExpr}
use Rattle.px_tree.specs.declared.function.FunctionExpr.TheVariants.{IsNull, IsNotNull, Not, IsBetween, IsIn, Reverse, Shift, DropNulls, NullCount, Explode}
use Rattle.px_laws.proofs.Defined.{scope_of_rows}
use Rattle.px_laws.proofs.Shapes.{bound, made_bound, made_ok, result_bound}
use Rattle.px_value.proofs.FitLaws.{both as both_true}
use Rattle.px_frame.proofs.LookLaws.{look_rows as look_columns}

-- one unit twice, or two lists
pub data Alike : Cell → Cell → Type 0 where
  same_unit : (s : Slot) → Alike (unit s) (unit s)
  two_lists : (xs ys : List Slot) → Alike (rows xs) (rows ys)

-- the unit, or the rows of one list and then of the other
abbrev pub joined : Cell → Cell → Cell
joined (unit s) b = unit s
joined (rows xs) b = rows (xs ++ list_of b)

-- what is made is the two, joined
abbrev pub Joint : Result Cell PxError → Cell → Cell → Type 0
Joint r a b = (r ≡ Ok (joined a b)) × Alike a b

-- the same unit twice, where that is what is made
as_units : (r : Result Cell PxError) (s : Slot) (a b : Cell) → r ≡ Ok (unit s) → unit s ≡ a → unit s ≡ b → Joint r a b
as_units r s a b h e g = subst (λ x. Joint r x b) e (subst (λ y. Joint r (unit s) y) g (h, same_unit s))

-- two lists, where what is made is the one after the other
as_lists : (r : Result Cell PxError) (xs ys : List Slot) (a b : Cell) → r ≡ Ok (rows (xs ++ ys)) → rows xs ≡ a → rows ys ≡ b → Joint r a b
as_lists r xs ys a b h e g = subst (λ x. Joint r x b) e (subst (λ y. Joint r (rows xs) y) g (h, two_lists xs ys))

-- joined cells have the shape of the first
joined_shape : {a b : Cell} → Alike a b → is_unit_cell (joined a b) ≡ is_unit_cell a
joined_shape (same_unit s) = refl
joined_shape (two_lists xs ys) = refl

-- and the second has the same
alike_shape : {a b : Cell} → Alike a b → is_unit_cell b ≡ is_unit_cell a
alike_shape (same_unit s) = refl
alike_shape (two_lists xs ys) = refl

-- each cell beside its like
pub data AllAlike : List Cell → List Cell → Type 0 where
  none_alike : AllAlike [] []
  more_alike : (a b : Cell) (cs ds : List Cell) → Alike a b → AllAlike cs ds → AllAlike (a ∷ cs) (b ∷ ds)

-- cells joined side by side
abbrev all_joined : List Cell → List Cell → List Cell
all_joined [] ds = []
all_joined (a ∷ cs) [] = []
all_joined (a ∷ cs) (b ∷ ds) = joined a b ∷ all_joined cs ds

-- the rows of joined cells, of which one is a list
beside_joins : {cs ds : List Cell} → AllAlike cs ds → list_all is_unit_cell cs ≡ false → rows_beside (all_joined cs ds) ≡ rows_beside cs + rows_beside ds
beside_joins none_alike h = cc
beside_joins (more_alike a b cs ds (same_unit s) more) h = beside_joins more h
beside_joins (more_alike a b cs ds (two_lists xs ys) more) h = length-append xs ys

-- a list that spreads is as long as the rows, and stays as it is
pub same_list : (n : ℕ) (xs ys : List Slot) → spread n (rows xs) ≡ Ok ys → (xs ≡ ys) × (length xs ≡ n)
same_list n xs ys h = by (length xs == n) refl h
  where
    by : (b : Bool) → (length xs == n) ≡ b → cond b (Ok xs) (Err ShapeMismatch) ≡ Ok ys → (xs ≡ ys) × (length xs ≡ n)
    by true e g = (cc, grind (arith, nat_tests))
    by false e g = cc

-- a list as long as the rows spreads
pub spread_list : (n : ℕ) (xs : List Slot) → length xs ≡ n → spread n (rows xs) ≡ Ok xs
spread_list n xs e = ap (λ b. cond b (Ok xs) (Err ShapeMismatch)) (let t : (length xs == n) ≡ true = grind (arith, nat_tests) in t)

-- joined cells spread as each does
pub spread_joins : (n m : ℕ) {a b : Cell} (xs ys : List Slot) → Alike a b → spread n a ≡ Ok xs → spread m b ≡ Ok ys → (spread (n + m) (joined a b) ≡ Ok (xs ++ ys)) × (length xs ≡ n)
spread_joins n m xs ys (same_unit s) h g =
    let e : replicate n s ≡ xs = cc in
    let f : replicate m s ≡ ys = cc in
    (ap Ok (sym (replicate-append-replicate n m s)) ∙ (λ i. Ok (e i ++ f i)), ap length (sym e) ∙ length-replicate n s)
spread_joins n m xs ys (two_lists us vs) h g =
    let e = same_list n us xs h in
    let f = same_list m vs ys g in
    (spread_list (n + m) (us ++ vs) (length-append us vs ∙ (λ i. e.1 i + f.1 i)) ∙ (λ i. Ok (e.0 i ++ f.0 i)), ap length (sym e.0) ∙ e.1)

-- pairs of lists joined are the pairs joined
zip_append : {A B : Type 0} (xs us : List A) (ys vs : List B) → length xs ≡ length ys → zip (xs ++ us) (ys ++ vs) ≡ zip xs ys ++ zip us vs
zip_append [] us [] vs h = refl
zip_append [] us (y ∷ ys) vs h = absurd (omega arith)
zip_append (x ∷ xs) us [] vs h = absurd (omega arith)
zip_append (x ∷ xs) us (y ∷ ys) vs h = ap (λ ps. (x, y) ∷ ps) (zip_append xs us ys vs (omega arith))

-- there are as many pairs as places
pub length_zip : {A B : Type 0} (xs : List A) (ys : List B) → length xs ≡ length ys → length (zip xs ys) ≡ length xs
length_zip [] ys h = refl
length_zip (x ∷ xs) [] h = absurd (omega arith)
length_zip (x ∷ xs) (y ∷ ys) h = ap suc (length_zip xs ys (omega arith))

-- two cells that are not both units
two_shapes : (a b : Bool) → (a && b) ≡ false → (a && (b && true)) ≡ false
two_shapes true true h = h
two_shapes true false h = refl
two_shapes false b h = refl

-- three cells that are not all units
three_shapes : (a b c : Bool) → (a && (b && c)) ≡ false → (a && (b && (c && true))) ≡ false
three_shapes true b c h = two_shapes b c h
three_shapes false b c h = refl

-- two cells of which one is a list, row by row
zip_lists : (f : Slot → Slot → Slot) {a u b v : Cell} (c d : Cell) → Alike a u → Alike b v → (is_unit_cell a && is_unit_cell b) ≡ false → zip_cells f a b ≡ Ok c → zip_cells f u v ≡ Ok d → Joint (zip_cells f (joined a u) (joined b v)) c d
zip_lists f {a = a} {u = u} {b = b} {v = v} c d s t shape h g =
    let each_pair = λ (p : Slot × Slot). f p.0 p.1 in
    let n = rows_beside (a ∷ b ∷ []) in
    let m = rows_beside (u ∷ v ∷ []) in
    let xs = result_bound (spread n a) _ c h in
    let ys = result_bound (spread n b) _ c xs.2 in
    let us = result_bound (spread m u) _ d g in
    let vs = result_bound (spread m v) _ d us.2 in
    let rows_of = beside_joins (more_alike a u _ _ s (more_alike b v _ _ t none_alike)) (two_shapes (is_unit_cell a) (is_unit_cell b) shape) in
    let x = spread_joins n m xs.0 us.0 s xs.1 us.1 in
    let y = spread_joins n m ys.0 vs.0 t ys.1 vs.1 in
    let ec : cell_of (is_unit_cell a && is_unit_cell b) (map each_pair (zip xs.0 ys.0)) ≡ c = cc (ys.2) in
    let ed : cell_of (is_unit_cell u && is_unit_cell v) (map each_pair (zip us.0 vs.0)) ≡ d = cc (vs.2) in
    let whole : (is_unit_cell (joined a u) && is_unit_cell (joined b v)) ≡ false = (λ i. joined_shape s i && joined_shape t i) ∙ shape in
    let after : (is_unit_cell u && is_unit_cell v) ≡ false = (λ i. alike_shape s i && alike_shape t i) ∙ shape in
    as_lists _ (map each_pair (zip xs.0 ys.0)) (map each_pair (zip us.0 vs.0)) c d
    ((λ i. spread (rows_of i) (joined a u) >>> λ ps. spread (rows_of i) (joined b v) >>> λ qs. Ok (cell_of (whole i) (map each_pair (zip ps qs))))
    ∙ (λ i. x.0 i >>> λ ps. y.0 i >>> λ qs. Ok (rows (map each_pair (zip ps qs))))
    ∙ ap (λ ps. Ok (rows (map each_pair ps))) (zip_append xs.0 us.0 ys.0 vs.0 (x.1 ∙ sym y.1))
    ∙ ap (λ ps. Ok (rows ps)) (map-append each_pair (zip xs.0 ys.0) (zip us.0 vs.0)))
    (ap (λ w. cell_of w (map each_pair (zip xs.0 ys.0))) (sym shape) ∙ ec)
    (ap (λ w. cell_of w (map each_pair (zip us.0 vs.0))) (sym after) ∙ ed)

-- two cells row by row, joined
pub zip_joins : (f : Slot → Slot → Slot) {a u b v : Cell} (c d : Cell) → Alike a u → Alike b v → zip_cells f a b ≡ Ok c → zip_cells f u v ≡ Ok d → Joint (zip_cells f (joined a u) (joined b v)) c d
zip_joins f c d (same_unit s) (same_unit t) h g = as_units _ (f s t) c d refl (cc) (cc)
zip_joins f c d (same_unit s) (two_lists xs ys) h g = zip_lists f c d (same_unit s) (two_lists xs ys) refl h g
zip_joins f c d (two_lists xs ys) t h g = zip_lists f c d (two_lists xs ys) t refl h g

-- three cells of which one is a list, row by row
zip_three_lists : (f : Slot → Slot → Slot → Slot) {a u b v e w : Cell} (c d : Cell) → Alike a u → Alike b v → Alike e w → (is_unit_cell a && (is_unit_cell b && is_unit_cell e)) ≡ false
    → zip_three_cells f a b e ≡ Ok c → zip_three_cells f u v w ≡ Ok d → Joint (zip_three_cells f (joined a u) (joined b v) (joined e w)) c d
zip_three_lists f {a = a} {u = u} {b = b} {v = v} {e = e} {w = w} c d s t r shape h g =
    let each_pair = λ (p : Slot × (Slot × Slot)). f p.0 p.1.0 p.1.1 in
    let n = rows_beside (a ∷ b ∷ e ∷ []) in
    let m = rows_beside (u ∷ v ∷ w ∷ []) in
    let xs = result_bound (spread n a) _ c h in
    let ys = result_bound (spread n b) _ c xs.2 in
    let zs = result_bound (spread n e) _ c ys.2 in
    let us = result_bound (spread m u) _ d g in
    let vs = result_bound (spread m v) _ d us.2 in
    let ws = result_bound (spread m w) _ d vs.2 in
    let rows_of = beside_joins (more_alike a u _ _ s (more_alike b v _ _ t (more_alike e w _ _ r none_alike))) (three_shapes (is_unit_cell a) (is_unit_cell b) (is_unit_cell e) shape) in
    let x = spread_joins n m xs.0 us.0 s xs.1 us.1 in
    let y = spread_joins n m ys.0 vs.0 t ys.1 vs.1 in
    let z = spread_joins n m zs.0 ws.0 r zs.1 ws.1 in
    let first = zip xs.0 (zip ys.0 zs.0) in
    let last = zip us.0 (zip vs.0 ws.0) in
    let ec : cell_of (is_unit_cell a && (is_unit_cell b && is_unit_cell e)) (map each_pair first) ≡ c = cc (zs.2) in
    let ed : cell_of (is_unit_cell u && (is_unit_cell v && is_unit_cell w)) (map each_pair last) ≡ d = cc (ws.2) in
    let whole : (is_unit_cell (joined a u) && (is_unit_cell (joined b v) && is_unit_cell (joined e w))) ≡ false = (λ i. joined_shape s i && (joined_shape t i && joined_shape r i)) ∙ shape in
    let after : (is_unit_cell u && (is_unit_cell v && is_unit_cell w)) ≡ false = (λ i. alike_shape s i && (alike_shape t i && alike_shape r i)) ∙ shape in
    as_lists _ (map each_pair first) (map each_pair last) c d
    ((λ i. spread (rows_of i) (joined a u) >>> λ ps. spread (rows_of i) (joined b v) >>> λ qs. spread (rows_of i) (joined e w) >>> λ os. Ok (cell_of (whole i) (map each_pair (zip ps (zip qs os)))))
    ∙ (λ i. x.0 i >>> λ ps. y.0 i >>> λ qs. z.0 i >>> λ os. Ok (rows (map each_pair (zip ps (zip qs os)))))
    ∙ ap (λ qs. Ok (rows (map each_pair (zip (xs.0 ++ us.0) qs)))) (zip_append ys.0 vs.0 zs.0 ws.0 (y.1 ∙ sym z.1))
    ∙ ap (λ ps. Ok (rows (map each_pair ps))) (zip_append xs.0 us.0 (zip ys.0 zs.0) (zip vs.0 ws.0) (x.1 ∙ sym y.1 ∙ sym (length_zip ys.0 zs.0 (y.1 ∙ sym z.1))))
    ∙ ap (λ ps. Ok (rows ps)) (map-append each_pair first last))
    (ap (λ k. cell_of k (map each_pair first)) (sym shape) ∙ ec)
    (ap (λ k. cell_of k (map each_pair last)) (sym after) ∙ ed)

-- three cells row by row, joined
pub zip_three_joins : (f : Slot → Slot → Slot → Slot) {a u b v e w : Cell} (c d : Cell) → Alike a u → Alike b v → Alike e w
    → zip_three_cells f a b e ≡ Ok c → zip_three_cells f u v w ≡ Ok d → Joint (zip_three_cells f (joined a u) (joined b v) (joined e w)) c d
zip_three_joins f c d (same_unit s) (same_unit t) (same_unit r) h g = as_units _ (f s t r) c d refl (cc) (cc)
zip_three_joins f c d (same_unit s) (same_unit t) (two_lists xs ys) h g = zip_three_lists f c d (same_unit s) (same_unit t) (two_lists xs ys) refl h g
zip_three_joins f c d (same_unit s) (two_lists xs ys) r h g = zip_three_lists f c d (same_unit s) (two_lists xs ys) r refl h g
zip_three_joins f c d (two_lists xs ys) t r h g = zip_three_lists f c d (two_lists xs ys) t r refl h g

-- each row by itself, joined
map_joins : (f : Slot → Slot) {a b : Cell} (c d : Cell) → Alike a b → map_cell f a ≡ c → map_cell f b ≡ d → Joint (Ok (map_cell f (joined a b))) c d
map_joins f c d (same_unit s) h g = as_units _ (f s) c d refl h g
map_joins f c d (two_lists xs ys) h g = as_lists _ (map f xs) (map f ys) c d (ap (λ zs. Ok (rows zs)) (map-append f xs ys)) h g

-- a place before others in another type
pub before_parts : (r : Result Slot PxError) (q : Result Slots PxError) (ds : Slots) → before r q ≡ Ok ds → (s : Slot) × (ts : Slots) × (r ≡ Ok s) × (q ≡ Ok ts) × (items ds ≡ s ∷ items ts)
before_parts (Err e) q ds h = cc
before_parts (Ok s) (Err e) ds h = cc
before_parts (Ok None) (Ok ts) ds h = let e : ds ≡ absent ts = cc in (None, ts, refl, refl, ap items e)
before_parts (Ok (Some d)) (Ok ts) ds h = let e : ds ≡ present d ts = cc in (Some d, ts, refl, refl, ap items e)

-- a place before others is there where both are
pub before_made : (s : Slot) (ts : Slots) → (gs : Slots) × (before (Ok s) (Ok ts) ≡ Ok gs) × (items gs ≡ s ∷ items ts)
before_made None ts = (absent ts, refl, refl)
before_made (Some d) ts = (present d ts, refl, refl)

-- the first place of a list in another type
pub items_first : (from to : Kind) (o : CastOptions) (x : Slot) (xs : List Slot) → items_cast to o (slots (x ∷ xs)) ≡ before (cast_slot from to o x) (items_cast to o (slots xs))
items_first from to o None xs = refl
items_first from to o (Some d) xs = refl

-- lists in another type, joined
items_join : (from to : Kind) (o : CastOptions) (xs ys : List Slot) (ds es : Slots) → items_cast to o (slots xs) ≡ Ok ds → items_cast to o (slots ys) ≡ Ok es
    → (gs : Slots) × (items_cast to o (slots (xs ++ ys)) ≡ Ok gs) × (items gs ≡ items ds ++ items es)
items_join from to o [] ys ds es h g = let e : no_slots ≡ ds = cc in (es, g, ap (λ ts. items ts ++ items es) e)
items_join from to o (x ∷ xs) ys ds es h g =
    let p = before_parts (cast_slot from to o x) (items_cast to o (slots xs)) ds (sym (items_first from to o x xs) ∙ h) in
    let rest = items_join from to o xs ys p.1 es p.3 g in
    let all = before_made p.0 rest.0 in
    (all.0, items_first from to o x (xs ++ ys) ∙ (λ i. before (p.2 i) (rest.1 i)) ∙ all.1, all.2 ∙ ap (λ zs. p.0 ∷ zs) rest.2 ∙ ap (λ zs. zs ++ items es) (sym p.4))

-- places in another type come from items in it
pub both_ok : (r : Result Slots PxError) (xs : List Slot) → result_map_both items (λ e. e) r ≡ Ok xs → (ds : Slots) × (r ≡ Ok ds) × (items ds ≡ xs)
both_ok (Ok ds) xs h = (ds, refl, cc)
both_ok (Err e) xs h = cc

-- a cell in another type, joined
pub cast_joins : (from to : Kind) (o : CastOptions) {a b : Cell} (c d : Cell) → Alike a b → cast_cell from to o a ≡ Ok c → cast_cell from to o b ≡ Ok d → Joint (cast_cell from to o (joined a b)) c d
cast_joins from to o c d (same_unit s) h g =
    let t = result_bound (cast_slot from to o s) _ c h in
    let u = result_bound (cast_slot from to o s) _ d g in
    let same : Ok t.0 ≡ Ok u.0 = sym t.1 ∙ u.1 in
    as_units _ t.0 c d (λ i. t.1 i >>> λ x. Ok (unit x)) (cc (t.2)) (let e : t.0 ≡ u.0 = cc in ap unit e ∙ (let f : unit u.0 ≡ d = cc (u.2) in f))
cast_joins from to o c d (two_lists xs ys) h g =
    let t = result_bound (cast_slots from to o xs) _ c h in
    let u = result_bound (cast_slots from to o ys) _ d g in
    let ds = both_ok (items_cast to o (slots xs)) t.0 t.1 in
    let es = both_ok (items_cast to o (slots ys)) u.0 u.1 in
    let all = items_join from to o xs ys ds.0 es.0 ds.1 es.1 in
    as_lists _ t.0 u.0 c d ((λ i. result_map_both items (λ e. e) (all.1 i) >>> λ x. Ok (rows x)) ∙ ap (λ zs. Ok (rows zs)) (all.2 ∙ (λ i. ds.2 i ++ es.2 i))) (cc (t.2)) (cc (u.2))

-- neither of two tests holds
pub neither : (a b : Bool) → (a || b) ≡ false → (a ≡ false) × (b ≡ false)
neither true b h = cc
neither false b h = (refl, h)

-- no name of two lists is one of a column of another height
pub no_misfits : (frame : Frame) (xs ys : List (List ℕ)) → list_any (is_misfit frame) (xs ++ ys) ≡ false → (list_any (is_misfit frame) xs ≡ false) × (list_any (is_misfit frame) ys ≡ false)
no_misfits frame xs ys h = neither _ _ (sym (list_any-append (is_misfit frame) xs ys) ∙ h)

-- a column beside the frame keeps its name on some rows
same_name : (n : List ℕ) (h : ℕ) (p : List ℕ) (s : Series) → has_name n (external_at h p s) ≡ has_name n s
same_name n h p s = by (length s.slots == h)
  where
    by : (b : Bool) → has_name n (cond b (series_at p s) s) ≡ has_name n s
    by true = refl
    by false = refl

-- and is found by it
look_external : (n : List ℕ) (h : ℕ) (external : List Series) (p : List ℕ) → look n (map (external_at h p) external) ≡ option_map (external_at h p) (look n external)
look_external n h [] p = refl
look_external n h (s ∷ external) p =
    ap (λ b. cond b (Some (external_at h p s)) (find (has_name n) (map (external_at h p) external))) (same_name n h p s) ∙ by (has_name n s) (look_external n h external p)
  where
    by : (b : Bool) → find (has_name n) (map (external_at h p) external) ≡ option_map (external_at h p) (find (has_name n) external)
        → cond b (Some (external_at h p s)) (find (has_name n) (map (external_at h p) external)) ≡ option_map (external_at h p) (cond b (Some s) (find (has_name n) external))
    by true rest = refl
    by false rest = rest

-- what is not untrue is true
is_true_not : (b : Bool) → not b ≡ false → b ≡ true
is_true_not true h = refl
is_true_not false h = cc

-- a column is found on some rows of a frame as those rows of it
pub look_rows : (n : List ℕ) (frame : Frame) (p : List ℕ) → is_misfit frame n ≡ false → look_in n (rows_of_frame frame p) ≡ option_map (series_at p) (look_in n frame)
look_rows n frame p h =
    (λ i. option_or (look_columns n frame.columns p i) (look_external n (height frame) frame.external p i)) ∙ by (look n frame.columns) (look n frame.external) h
  where
    by : (o e : Option Series) → (not (is_some o) && option_map_or (λ (s : Series). not (has_height (height frame) s)) e false) ≡ false
        → option_or (option_map (series_at p) o) (option_map (external_at (height frame) p) e) ≡ option_map (series_at p) (option_or o e)
    by (Some s) e g = refl
    by None None g = refl
    by None (Some s) g = ap (λ b. Some (cond b (series_at p s) s)) (is_true_not (length s.slots == height frame) g)

-- a column's values on some rows
pub column_rows : (n : List ℕ) (frame : Frame) (p : List ℕ) → is_misfit frame n ≡ false → value_on (column n) (rows_of_frame frame p) ≡ option_map (λ (s : Series). rows (slots_at s.slots p)) (look_in n frame)
column_rows n frame p h = ap (λ o. made (option_map (λ (s : Series). Ok (rows s.slots)) o)) (look_rows n frame p h) ∙ by (look_in n frame)
  where
    by : (o : Option Series) → made (option_map (λ (s : Series). Ok (rows s.slots)) (option_map (series_at p) o)) ≡ option_map (λ (s : Series). rows (slots_at s.slots p)) o
    by None = refl
    by (Some s) = refl

-- a value under another name
pub under_name : (o : Option Cell) → made (option_map Ok o) ≡ o
under_name None = refl
under_name (Some c) = refl

-- what there is of a tree on some rows and on others, on both
abbrev pub JointOn : Option Cell → Cell → Cell → Type 0
JointOn o a b = (o ≡ Some (joined a b)) × Alike a b

-- what an outcome makes of two, joined
of_result : (o : Option (Result Cell PxError)) (r : Result Cell PxError) (a b : Cell) → o ≡ Some r → Joint r a b → JointOn (made o) a b
of_result o r a b h j = (ap made h ∙ ap (λ x. made (Some x)) j.0, j.1)

-- a column's values, joined
column_joins : (o : Option Series) (x : Option Cell) (p q : List ℕ) (a b : Cell) → x ≡ option_map (λ (s : Series). rows (slots_at s.slots (p ++ q))) o
    → option_map (λ (s : Series). rows (slots_at s.slots p)) o ≡ Some a → option_map (λ (s : Series). rows (slots_at s.slots q)) o ≡ Some b → JointOn x a b
column_joins None x p q a b e h g = cc
column_joins (Some s) x p q a b e h g =
    let ea : rows (slots_at s.slots p) ≡ a = cc in
    let eb : rows (slots_at s.slots q) ≡ b = cc in
    let j = as_lists (Ok (rows (slots_at s.slots (p ++ q)))) (slots_at s.slots p) (slots_at s.slots q) a b (ap (λ zs. Ok (rows zs)) (map-append (slot_at s.slots) p q)) ea eb in
    (e ∙ ap (λ r. made (Some r)) j.0, j.1)

-- a literal's value, joined
literal_joins : (v : Literal) (s : Scope) (frame : Frame) (a b : Cell) → is_elementwise (literal v) s ≡ true → value_on (literal v) frame ≡ Some a → value_on (literal v) frame ≡ Some b → JointOn (value_on (literal v) frame) a b
literal_joins (single k x) s frame a b e h g = let j = as_units (Ok (unit x)) x a b refl (cc) (cc) in (ap (λ r. made (Some r)) j.0, j.1)
literal_joins (range low high k) s frame a b e h g = cc
literal_joins (series t) s frame a b e h g = cc

-- a row function of cells, joined
function_joins : (f : FunctionExpr) (k : Kind) {cs ds : List Cell} (c d : Cell) → is_row_function f ≡ true → AllAlike cs ds → function_cell f k cs ≡ Ok c → function_cell f k ds ≡ Ok d → Joint (function_cell f k (all_joined cs ds)) c d
function_joins IsNull k c d e none_alike h g = cc
function_joins IsNull k c d e (more_alike a b cs ds s none_alike) h g = map_joins is_null_slot c d s (cc) (cc)
function_joins IsNull k c d e (more_alike a b cs ds s (more_alike u v es fs t more)) h g = cc
function_joins IsNotNull k c d e none_alike h g = cc
function_joins IsNotNull k c d e (more_alike a b cs ds s none_alike) h g = map_joins is_not_null_slot c d s (cc) (cc)
function_joins IsNotNull k c d e (more_alike a b cs ds s (more_alike u v es fs t more)) h g = cc
function_joins Not k c d e none_alike h g = cc
function_joins Not k c d e (more_alike a b cs ds s none_alike) h g = map_joins not_slot c d s (cc) (cc)
function_joins Not k c d e (more_alike a b cs ds s (more_alike u v es fs t more)) h g = cc
function_joins (IsBetween closed) k c d e none_alike h g = cc
function_joins (IsBetween closed) k c d e (more_alike a b cs ds s none_alike) h g = cc
function_joins (IsBetween closed) k c d e (more_alike a b cs ds s (more_alike u v es fs t none_alike)) h g = cc
function_joins (IsBetween closed) k c d e (more_alike a b cs ds s (more_alike u v es fs t (more_alike x y gs hs r none_alike))) h g = zip_three_joins (between_slot k closed) c d s t r h g
function_joins (IsBetween closed) k c d e (more_alike a b cs ds s (more_alike u v es fs t (more_alike x y gs hs r (more_alike w z is js q more)))) h g = cc
function_joins IsIn k c d e more h g = cc
function_joins Reverse k c d e more h g = cc
function_joins (Shift n) k c d e more h g = cc
function_joins DropNulls k c d e more h g = cc
function_joins NullCount k c d e more h g = cc
function_joins Explode k c d e more h g = cc

-- the types of a tree on the rows of a frame are those on others
same_kind : (e : Tree) (frame : Frame) (p q : List ℕ) (j k : Kind) → kind_in e (scope_of (rows_of_frame frame p)) ≡ Some j → kind_in e (scope_of (rows_of_frame frame q)) ≡ Some k → k ≡ j
same_kind e frame p q j k h g = let same : Some k ≡ Some j = sym g ∙ ap (kind_in e) (scope_of_rows frame q ∙ sym (scope_of_rows frame p)) ∙ h in cc

-- a type on some rows is that on others
kind_on : (e : Tree) (frame : Frame) (p q : List ℕ) (k : Option Kind) → kind_in e (scope_of (rows_of_frame frame p)) ≡ k → kind_in e (scope_of (rows_of_frame frame q)) ≡ k
kind_on e frame p q k h = ap (kind_in e) (scope_of_rows frame q ∙ sym (scope_of_rows frame p)) ∙ h

-- so the types of several trees
kinds_on : (es : Trees) (frame : Frame) (p q : List ℕ) (k : Option (List Kind)) → kinds_in es (scope_of (rows_of_frame frame p)) ≡ k → kinds_in es (scope_of (rows_of_frame frame q)) ≡ k
kinds_on es frame p q k h = ap (kinds_in es) (scope_of_rows frame q ∙ sym (scope_of_rows frame p)) ∙ h

-- so where they are there
same_kinds : (es : Trees) (frame : Frame) (p q : List ℕ) (j k : List Kind) → kinds_in es (scope_of (rows_of_frame frame p)) ≡ Some j → kinds_in es (scope_of (rows_of_frame frame q)) ≡ Some k → k ≡ j
same_kinds es frame p q j k h g = let same : Some k ≡ Some j = sym (kinds_on es frame q p (Some k) g) ∙ h in cc

mutual
  pub value_joins : (e : Tree) (s : Scope) (frame : Frame) (p q : List ℕ) (a b : Cell) → is_elementwise e s ≡ true → list_any (is_misfit frame) (leaf_names e) ≡ false
      → value_on e (rows_of_frame frame p) ≡ Some a → value_on e (rows_of_frame frame q) ≡ Some b → JointOn (value_on e (rows_of_frame frame (p ++ q))) a b
  value_joins (column n) s frame p q a b w m h g =
      let fit = (neither (is_misfit frame n) false m).0 in
      column_joins (look_in n frame) _ p q a b (column_rows n frame (p ++ q) fit) (sym (column_rows n frame p fit) ∙ h) (sym (column_rows n frame q fit) ∙ g)
  value_joins (literal v) s frame p q a b w m h g = literal_joins v s frame a b w h g
  value_joins (alias e n) s frame p q a b w m h g =
      let j = value_joins e s frame p q a b w m (sym (under_name _) ∙ h) (sym (under_name _) ∙ g) in
      (under_name _ ∙ j.0, j.1)
  value_joins (binary l op r) s frame p q a b w m h g =
      let ew = both_true (is_elementwise l s) (is_elementwise r s) w in
      let ms = no_misfits frame (leaf_names l) (leaf_names r) m in
      let k = made_bound (kind_in l (scope_of (rows_of_frame frame p))) _ a h in
      let x = made_bound (made (outcome_on l (rows_of_frame frame p))) _ a k.2 in
      let y = made_bound (made (outcome_on r (rows_of_frame frame p))) _ a x.2 in
      let j = made_bound (kind_in l (scope_of (rows_of_frame frame q))) _ b g in
      let u = made_bound (made (outcome_on l (rows_of_frame frame q))) _ b j.2 in
      let v = made_bound (made (outcome_on r (rows_of_frame frame q))) _ b u.2 in
      let left = value_joins l s frame p q x.0 u.0 ew.0 ms.0 x.1 u.1 in
      let right = value_joins r s frame p q y.0 v.0 ew.1 ms.1 y.1 v.1 in
      let after = subst (λ i. binary_cell i op u.0 v.0 ≡ Ok b) (same_kind l frame p q k.0 j.0 k.1 j.1) (made_ok _ b v.2) in
      of_result _ (binary_cell k.0 op (joined x.0 u.0) (joined y.0 v.0)) a b
      (λ i. kind_on l frame p (p ++ q) (Some k.0) k.1 i >>= λ t. left.0 i >>= λ c. right.0 i >>= λ d. Some (binary_cell t op c d))
      (zip_joins (operated k.0 op) a b left.1 right.1 (made_ok _ a y.2) after)
  value_joins (ternary t l r) s frame p q a b w m h g =
      let ew = both_true (is_elementwise t s) (is_elementwise l s && is_elementwise r s) w in
      let ev = both_true (is_elementwise l s) (is_elementwise r s) ew.1 in
      let ms = no_misfits frame (leaf_names t) (leaf_names l ++ leaf_names r) m in
      let ns = no_misfits frame (leaf_names l) (leaf_names r) ms.1 in
      let k = made_bound (made (outcome_on t (rows_of_frame frame p))) _ a h in
      let x = made_bound (made (outcome_on l (rows_of_frame frame p))) _ a k.2 in
      let y = made_bound (made (outcome_on r (rows_of_frame frame p))) _ a x.2 in
      let j = made_bound (made (outcome_on t (rows_of_frame frame q))) _ b g in
      let u = made_bound (made (outcome_on l (rows_of_frame frame q))) _ b j.2 in
      let v = made_bound (made (outcome_on r (rows_of_frame frame q))) _ b u.2 in
      let mask = value_joins t s frame p q k.0 j.0 ew.0 ms.0 k.1 j.1 in
      let left = value_joins l s frame p q x.0 u.0 ev.0 ns.0 x.1 u.1 in
      let right = value_joins r s frame p q y.0 v.0 ev.1 ns.1 y.1 v.1 in
      of_result _ (ternary_cell (joined k.0 j.0) (joined x.0 u.0) (joined y.0 v.0)) a b
      (λ i. mask.0 i >>= λ z. left.0 i >>= λ c. right.0 i >>= λ d. Some (ternary_cell z c d))
      (zip_three_joins chosen a b mask.1 left.1 right.1 (made_ok _ a y.2) (made_ok _ b v.2))
  value_joins (cast e to o) s frame p q a b w m h g =
      let k = made_bound (kind_in e (scope_of (rows_of_frame frame p))) _ a h in
      let x = made_bound (made (outcome_on e (rows_of_frame frame p))) _ a k.2 in
      let j = made_bound (kind_in e (scope_of (rows_of_frame frame q))) _ b g in
      let u = made_bound (made (outcome_on e (rows_of_frame frame q))) _ b j.2 in
      let inner = value_joins e s frame p q x.0 u.0 w m x.1 u.1 in
      let after = subst (λ i. cast_cell i to o u.0 ≡ Ok b) (same_kind e frame p q k.0 j.0 k.1 j.1) (made_ok _ b u.2) in
      of_result _ (cast_cell k.0 to o (joined x.0 u.0)) a b
      (λ i. kind_on e frame p (p ++ q) (Some k.0) k.1 i >>= λ t. inner.0 i >>= λ c. Some (cast_cell t to o c))
      (cast_joins k.0 to o a b inner.1 (made_ok _ a x.2) after)
  value_joins (function es f) s frame p q a b w m h g =
      let ew = both_true (is_row_function (called f)) (are_elementwise es s) w in
      let k = made_bound (kinds_in es (scope_of (rows_of_frame frame p))) _ a h in
      let x = made_bound (cells_on es (rows_of_frame frame p)) _ a k.2 in
      let j = made_bound (kinds_in es (scope_of (rows_of_frame frame q))) _ b g in
      let u = made_bound (cells_on es (rows_of_frame frame q)) _ b j.2 in
      let inner = cells_join es s frame p q x.0 u.0 ew.1 m x.1 u.1 in
      let after = subst (λ i. function_cell (called f) (first_kind i) u.0 ≡ Ok b) (same_kinds es frame p q k.0 j.0 k.1 j.1) (made_ok _ b u.2) in
      of_result _ (function_cell (called f) (first_kind k.0) (all_joined x.0 u.0)) a b
      (λ i. kinds_on es frame p (p ++ q) (Some k.0) k.1 i >>= λ t. inner.0 i >>= λ c. Some (function_cell (called f) (first_kind t) c))
      (function_joins (called f) (first_kind k.0) a b ew.0 inner.1 (made_ok _ a x.2) after)
  value_joins (filter e by) s frame p q a b w m h g = cc
  value_joins (slice e offset size) s frame p q a b w m h g = cc
  value_joins (gather e idx one) s frame p q a b w m h g = cc
  value_joins (sort e o) s frame p q a b w m h g = cc
  value_joins (sort_by e by o) s frame p q a b w m h g = cc
  value_joins (agg f e) s frame p q a b w m h g = cc
  value_joins len s frame p q a b w m h g = cc
  value_joins (window f keys order mapping) s frame p q a b w m h g = cc

  -- so the values of several trees
  cells_join : (es : Trees) (s : Scope) (frame : Frame) (p q : List ℕ) (xa xb : List Cell) → are_elementwise es s ≡ true → list_any (is_misfit frame) (all_leaf_names es) ≡ false
      → cells_on es (rows_of_frame frame p) ≡ Some xa → cells_on es (rows_of_frame frame q) ≡ Some xb → (cells_on es (rows_of_frame frame (p ++ q)) ≡ Some (all_joined xa xb)) × AllAlike xa xb
  cells_join no_trees s frame p q xa xb w m h g =
      let ea : [] ≡ xa = cc in
      let eb : [] ≡ xb = cc in
      subst (λ (xs : List Cell). (Some [] ≡ Some (all_joined xs xb)) × AllAlike xs xb) ea (subst (λ (ys : List Cell). (Some [] ≡ Some (all_joined [] ys)) × AllAlike [] ys) eb (refl, none_alike))
  cells_join (one_tree t ts) s frame p q xa xb w m h g =
      let ew = both_true (is_elementwise t s) (are_elementwise ts s) w in
      let ms = no_misfits frame (leaf_names t) (all_leaf_names ts) m in
      let x = bound (made (outcome_on t (rows_of_frame frame p))) _ xa h in
      let xs = bound (cells_on ts (rows_of_frame frame p)) _ xa x.2 in
      let u = bound (made (outcome_on t (rows_of_frame frame q))) _ xb g in
      let us = bound (cells_on ts (rows_of_frame frame q)) _ xb u.2 in
      let one = value_joins t s frame p q x.0 u.0 ew.0 ms.0 x.1 u.1 in
      let more = cells_join ts s frame p q xs.0 us.0 ew.1 ms.1 xs.1 us.1 in
      let ea : x.0 ∷ xs.0 ≡ xa = cc (xs.2) in
      let eb : u.0 ∷ us.0 ≡ xb = cc (us.2) in
      let whole : cells_on (one_tree t ts) (rows_of_frame frame (p ++ q)) ≡ Some (joined x.0 u.0 ∷ all_joined xs.0 us.0) = (λ i. one.0 i >>= λ c. more.0 i >>= λ cs. Some (c ∷ cs)) in
      let Goal : List Cell → List Cell → Type 0 = λ cs ds. (cells_on (one_tree t ts) (rows_of_frame frame (p ++ q)) ≡ Some (all_joined cs ds)) × AllAlike cs ds in
      subst (λ cs. Goal cs xb) ea (subst (λ ds. Goal (x.0 ∷ xs.0) ds) eb (whole, more_alike x.0 u.0 xs.0 us.0 one.1 more.1))
