-- What a node makes of its inputs' cells is like the values of its type.
use Rattle.std.proofs.Common.{◌≡◌, ℕ, ◌==◌, Bool, true, false, cond, not, ◌&&◌, List, [], ◌∷◌, ◌++◌, Some, None, Result, Ok, Err, length, map, filter, replicate, subst, refl, sym, ◌∙◌, ap}
use Rattle.std.specs.List.{find, list_all, range_with_len, zip}
use Rattle.std.specs.Option.{option_map_or}
use Rattle.px_column.specs.Cast.{cast_slot, cast_slots}
use Rattle.px_column.specs.Chosen.{chosen}
use Rattle.px_column.specs.Column.{null_count}
use Rattle.px_column.specs.Function.{is_null_slot, is_not_null_slot, not_slot, between_slot, in_slot}
use Rattle.px_column.specs.Operator.{operated, operator_kind}
use Rattle.px_column.specs.Prelude.{Slot, Kind, booleans, uint32s, slot_at}
use Rattle.px_column.specs.Reduction.{reduced_kind, reduced_slot, count_slot}
use Rattle.px_column.specs.Rows.{kept_rows, is_true}
use Rattle.px_value.proofs.FitLaws.{both, all_append}
use Rattle.px_value.specs.declared.cast_options.CastOptions.{CastOptions}
use Rattle.px_value.specs.declared.error.ComputeWhy.TheVariants.{NullIndex, WindowLength}
use Rattle.px_value.specs.declared.error.PxError.{PxError}
use Rattle.px_value.specs.declared.error.PxError.TheVariants.{ComputeError, OutOfBounds}
use Rattle.px_value.specs.declared.method.GroupByMethod.{GroupByMethod}
use Rattle.px_value.specs.declared.operator.Operator.{Operator}
use Rattle.px_value.specs.declared.sort_options.SortMultipleOptions.{SortMultipleOptions}
use Rattle.px_operation.proofs.CastLaws.{fits_cast, fits_cast_slots}
use Rattle.px_frame.specs.Cell.{Cell, unit, rows, list_of, is_unit_cell, cell_of, value_of_cell}
use Rattle.px_frame.specs.Frame.{slots_at}
use Rattle.px_frame.specs.Spread.{spread, rows_beside}
use Rattle.px_tree.specs.Node.{map_cell, zip_cells, zip_three_cells, binary_cell, ternary_cell, cast_cell, function_cell, filter_cell, slice_cell, one_value, offset_of, length_of, gather_cell, is_null_unit, is_index, indexed, sort_by_cell, spread_keys, reduction_cell}
use Rattle.px_tree.specs.Shape.{is_implode}
use Rattle.px_tree.specs.Typing.{made_kind, function_kind, window_kind}
use Rattle.px_tree.specs.Value.{first_kind}
use Rattle.px_tree.specs.Window.{placed, part_slots, slot_of_row, in_row_order, joined, window_cell}
use Rattle.px_tree.specs.declared.function.FunctionExpr.{FunctionExpr}
use Rattle.px_tree.specs.declared.function.FunctionExpr.TheVariants.{IsNull, IsNotNull, Not, IsBetween, IsIn, Reverse, Shift, DropNulls, NullCount, Explode}
use Rattle.px_tree.specs.declared.window.WindowMapping.{WindowMapping}
use Rattle.px_tree.specs.declared.window.WindowMapping.TheVariants as win
use Rattle.px_tree.specs.declared.window.WindowMapping.TheVariants.{GroupsToRows, Join}
use Rattle.px_laws.proofs.Joining.{same_list}
use Rattle.px_laws.proofs.Like.{is_slot_like, are_slots_like, slot_fit_is_like, slots_fit_are_like, slots_like, at_like, where_kind, compared_is, operated_like, chosen_like, not_like, between_like, in_like, shifted_like, indexed_like, exploded_like, reduced_like}
use Rattle.px_laws.proofs.Passing.{all_window, all_reverse, all_filter, all_replicate, all_made, all_flat, all_beside, all_seconds}
use Rattle.px_laws.proofs.Shapes.{result_bound}

-- a cell whose values are like those of a type
abbrev pub is_cell_like : Kind → Cell → Bool
is_cell_like k c = are_slots_like k (list_of c)

-- the cell of a type that is the same
kind_of_cell : (i k : Kind) (c : Cell) → i ≡ k → is_cell_like i c ≡ true → is_cell_like k c ≡ true
kind_of_cell i k c e h = subst (λ j. is_cell_like j c ≡ true) e h

-- a cell that is what was made
pub unit_like : (k : Kind) (s : Slot) (c : Cell) → unit s ≡ c → is_slot_like k s ≡ true → is_cell_like k c ≡ true
unit_like k s c e h = ap (is_cell_like k) (sym e) ∙ (λ i. h i && true)

pub rows_like : (k : Kind) (xs : List Slot) (c : Cell) → rows xs ≡ c → are_slots_like k xs ≡ true → is_cell_like k c ≡ true
rows_like k xs c e h = ap (is_cell_like k) (sym e) ∙ h

-- a cell at some rows
spread_like : (k : Kind) (n : ℕ) (c : Cell) (xs : List Slot) → is_cell_like k c ≡ true → spread n c ≡ Ok xs → are_slots_like k xs ≡ true
spread_like k n (unit s) xs h g =
    let e : replicate n s ≡ xs = cc in
    ap (are_slots_like k) (sym e) ∙ all_replicate (is_slot_like k) n s (both (is_slot_like k s) true h).0
spread_like k n (rows ys) xs h g = ap (are_slots_like k) (sym (same_list n ys xs g).0) ∙ h

-- rows as a unit or as a list
cell_like : (k : Kind) (b : Bool) (xs : List Slot) (c : Cell) → cell_of b xs ≡ c → are_slots_like k xs ≡ true → is_cell_like k c ≡ true
cell_like k true xs c e h = unit_like k (slot_at xs 0) c e (at_like k xs 0 h)
cell_like k false xs c e h = rows_like k xs c e h

-- each row by itself
map_like : (k : Kind) (f : Slot → Slot) (a c : Cell) → ((s : Slot) → is_slot_like k (f s) ≡ true) → map_cell f a ≡ c → is_cell_like k c ≡ true
map_like k f (unit s) c h e = unit_like k (f s) c e (h s)
map_like k f (rows xs) c h e = rows_like k (map f xs) c e (all_made (is_slot_like k) f xs h)

-- what is made of pairs, where the first of each is like the values of a type
pairs_like : (j k : Kind) (f : Slot → Slot → Slot) (xs ys : List Slot) → ((a b : Slot) → is_slot_like j a ≡ true → is_slot_like k (f a b) ≡ true) → are_slots_like j xs ≡ true → are_slots_like k (map (λ (p : Slot × Slot). f p.0 p.1) (zip xs ys)) ≡ true
pairs_like j k f [] ys g h = refl
pairs_like j k f (x ∷ xs) [] g h = refl
pairs_like j k f (x ∷ xs) (y ∷ ys) g h =
    let p = both (is_slot_like j x) (are_slots_like j xs) h in
    λ i. g x y p.0 i && pairs_like j k f xs ys g p.1 i

-- two cells row by row
zip_like : (j k : Kind) (f : Slot → Slot → Slot) (a b c : Cell) → ((s t : Slot) → is_slot_like j s ≡ true → is_slot_like k (f s t) ≡ true) → is_cell_like j a ≡ true → zip_cells f a b ≡ Ok c → is_cell_like k c ≡ true
zip_like j k f a b c g h z =
    let xs = result_bound (spread (rows_beside (a ∷ b ∷ [])) a) _ c z in
    let ys = result_bound (spread (rows_beside (a ∷ b ∷ [])) b) _ c xs.2 in
    let all = map (λ (p : Slot × Slot). f p.0 p.1) (zip xs.0 ys.0) in
    let e : cell_of (is_unit_cell a && is_unit_cell b) all ≡ c = cc (ys.2) in
    cell_like k _ all c e (pairs_like j k f xs.0 ys.0 g (spread_like j _ a xs.0 h xs.1))

-- an operator
pub binary_like : (op : Operator) (i j k : Kind) (a b c : Cell) → made_kind (operator_kind op i j) ≡ Some k → is_cell_like i a ≡ true → binary_cell i op a b ≡ Ok c → is_cell_like k c ≡ true
binary_like op i j k a b c kind h z = zip_like i k (operated i op) a b c (λ s t g. operated_like op i j k s t kind g) h z

-- what is made of three, of which the last two are like the values of a type
triples_like : (k : Kind) (f : Slot → Slot → Slot → Slot) (ps xs ys : List Slot) → ((p a b : Slot) → is_slot_like k a ≡ true → is_slot_like k b ≡ true → is_slot_like k (f p a b) ≡ true) → are_slots_like k xs ≡ true → are_slots_like k ys ≡ true
    → are_slots_like k (map (λ (p : Slot × (Slot × Slot)). f p.0 p.1.0 p.1.1) (zip ps (zip xs ys))) ≡ true
triples_like k f [] xs ys g h e = refl
triples_like k f (p ∷ ps) [] ys g h e = refl
triples_like k f (p ∷ ps) (x ∷ xs) [] g h e = refl
triples_like k f (p ∷ ps) (x ∷ xs) (y ∷ ys) g h e =
    let s = both (is_slot_like k x) (are_slots_like k xs) h in
    let t = both (is_slot_like k y) (are_slots_like k ys) e in
    λ i. g p x y s.0 t.0 i && triples_like k f ps xs ys g s.1 t.1 i

-- a choice
pub ternary_like : (k : Kind) (p a b c : Cell) → is_cell_like k a ≡ true → is_cell_like k b ≡ true → ternary_cell p a b ≡ Ok c → is_cell_like k c ≡ true
ternary_like k p a b c h e z =
    let n = rows_beside (p ∷ a ∷ b ∷ []) in
    let ps = result_bound (spread n p) _ c z in
    let xs = result_bound (spread n a) _ c ps.2 in
    let ys = result_bound (spread n b) _ c xs.2 in
    let all = map (λ (q : Slot × (Slot × Slot)). chosen q.0 q.1.0 q.1.1) (zip ps.0 (zip xs.0 ys.0)) in
    let same : cell_of (is_unit_cell p && (is_unit_cell a && is_unit_cell b)) all ≡ c = cc (ys.2) in
    cell_like k _ all c same (triples_like k chosen ps.0 xs.0 ys.0 (chosen_like k) (spread_like k n a xs.0 h xs.1) (spread_like k n b ys.0 e ys.1))

-- three cells row by row, where all that is made is a truth or a null
truths_like : (f : Slot → Slot → Slot → Slot) (a b d c : Cell) → ((s t u : Slot) → is_slot_like booleans (f s t u) ≡ true) → zip_three_cells f a b d ≡ Ok c → is_cell_like booleans c ≡ true
truths_like f a b d c h z =
    let each_three = λ (q : Slot × (Slot × Slot)). f q.0 q.1.0 q.1.1 in
    let n = rows_beside (a ∷ b ∷ d ∷ []) in
    let xs = result_bound (spread n a) _ c z in
    let ys = result_bound (spread n b) _ c xs.2 in
    let zs = result_bound (spread n d) _ c ys.2 in
    let threes = zip xs.0 (zip ys.0 zs.0) in
    let e : cell_of (is_unit_cell a && (is_unit_cell b && is_unit_cell d)) (map each_three threes) ≡ c = cc (zs.2) in
    cell_like booleans _ (map each_three threes) c e (all_made (is_slot_like booleans) each_three threes (λ q. h q.0 q.1.0 q.1.1))

-- a cast
pub cast_like : (from to : Kind) (o : CastOptions) (a c : Cell) → cast_cell from to o a ≡ Ok c → is_cell_like to c ≡ true
cast_like from to o (unit s) c h =
    let t = result_bound (cast_slot from to o s) _ c h in
    unit_like to t.0 c (cc (t.2)) (slot_fit_is_like to t.0 (fits_cast from to o s t.0 t.1))
cast_like from to o (rows xs) c h =
    let t = result_bound (cast_slots from to o xs) _ c h in
    rows_like to t.0 c (cc (t.2)) (slots_fit_are_like to t.0 (fits_cast_slots from to o xs t.0 t.1))

-- cells whose values are like those of some types, side by side
pub data AreLike : List Kind → List Cell → Type 0 where
  none_like : AreLike [] []
  more_like : (k : Kind) (c : Cell) (ks : List Kind) (cs : List Cell) → is_cell_like k c ≡ true → AreLike ks cs → AreLike (k ∷ ks) (c ∷ cs)

-- what is answered
abbrev pub answer : Cell → Result Cell PxError
answer c = Ok c

-- a list that is answered
pub listed : (k : Kind) (xs : List Slot) (c : Cell) → answer (rows xs) ≡ Ok c → are_slots_like k xs ≡ true → is_cell_like k c ≡ true
listed k xs c e h = rows_like k xs c (cc) h

-- a type that is answered
answered_kind : (i k : Kind) → made_kind (Ok i) ≡ Some k → i ≡ k
answered_kind i k h = cc

-- a function
pub function_like : (f : FunctionExpr) {ks : List Kind} {cs : List Cell} (k : Kind) (c : Cell) → AreLike ks cs → made_kind (function_kind f ks) ≡ Some k → function_cell f (first_kind ks) cs ≡ Ok c → is_cell_like k c ≡ true
function_like IsNull k c (more_like i a ks cs x none_like) kind h = kind_of_cell booleans k c (answered_kind booleans k kind) (map_like booleans is_null_slot a c (λ s. refl) (cc))
function_like IsNull k c l kind h = cc
function_like IsNotNull k c (more_like i a ks cs x none_like) kind h = kind_of_cell booleans k c (answered_kind booleans k kind) (map_like booleans is_not_null_slot a c (λ s. refl) (cc))
function_like IsNotNull k c l kind h = cc
function_like Not k c (more_like i a ks cs x none_like) kind h = kind_of_cell booleans k c (where_kind _ booleans k kind) (map_like booleans not_slot a c not_like (cc))
function_like Not k c l kind h = cc
function_like (IsBetween closed) k c (more_like i a ks cs x (more_like j b js ds y (more_like l d ls es z none_like))) kind h =
    kind_of_cell booleans k c (compared_is _ _ _ k kind) (truths_like (between_slot i closed) a b d c (between_like i closed) h)
function_like (IsBetween closed) k c l kind h = cc
function_like IsIn k c (more_like i a ks cs x (more_like j b js ds y none_like)) kind h =
    kind_of_cell booleans k c (compared_is _ _ _ k kind) (map_like booleans (in_slot (list_of b)) a c (in_like (list_of b)) (cc))
function_like IsIn k c l kind h = cc
function_like Reverse k c (more_like i a ks cs x none_like) kind h = kind_of_cell i k c (answered_kind i k kind) (listed i _ c h (all_reverse (is_slot_like i) (list_of a) x))
function_like Reverse k c l kind h = cc
function_like (Shift n) k c (more_like i a ks cs x none_like) kind h = kind_of_cell i k c (answered_kind i k kind) (listed i _ c h (shifted_like i n (list_of a) x))
function_like (Shift n) k c l kind h = cc
function_like DropNulls k c (more_like i a ks cs x none_like) kind h = kind_of_cell i k c (answered_kind i k kind) (listed i _ c h (all_filter (is_slot_like i) _ (list_of a) x))
function_like DropNulls k c l kind h = cc
function_like NullCount k c (more_like i a ks cs x none_like) kind h =
    kind_of_cell uint32s k c (answered_kind uint32s k kind) (unit_like uint32s (count_slot (null_count (list_of a))) c (cc) refl)
function_like NullCount k c l kind h = cc
function_like Explode k c (more_like i a ks cs x none_like) kind h = listed k _ c h (exploded_like i k (list_of a) kind x)
function_like Explode k c l kind h = cc

-- a filter
pub filter_like : (k : Kind) (a mask c : Cell) → is_cell_like k a ≡ true → filter_cell a mask ≡ Ok c → is_cell_like k c ≡ true
filter_like k a mask c h z =
    let ts = result_bound (spread (length (list_of a)) mask) _ c z in
    let keep = λ (p : Slot × Slot). is_true p.0 in
    let pairs = zip ts.0 (list_of a) in
    listed k (kept_rows ts.0 (list_of a)) c ts.2 (all_seconds (is_slot_like k) (filter keep pairs) (all_filter (λ (p : Slot × Slot). is_slot_like k p.1) keep pairs (all_beside (is_slot_like k) ts.0 (list_of a) h)))

-- a slice
pub slice_like : (k : Kind) (a o l c : Cell) → is_cell_like k a ≡ true → slice_cell a o l ≡ Ok c → is_cell_like k c ≡ true
slice_like k a o l c h z =
    let one = result_bound (one_value o) _ c z in
    let two = result_bound (one_value l) _ c one.2 in
    let start = result_bound (offset_of one.0) _ c two.2 in
    let limit = result_bound (length_of two.0) _ c start.2 in
    listed k _ c limit.2 (all_window (is_slot_like k) _ _ (list_of a) h)

-- a gather
pub gather_like : (k : Kind) (one lit : Bool) (a idx c : Cell) → is_cell_like k a ≡ true → gather_cell one lit a idx ≡ Ok c → is_cell_like k c ≡ true
gather_like k one lit a idx c h z = by (lit && is_null_unit idx) (list_all (is_index (length (list_of a))) (list_of idx)) z
  where
    all : List Slot
    all = map (indexed (list_of a)) (list_of idx)

    by : (p q : Bool) → cond p (Err (ComputeError NullIndex)) (cond q (Ok (cell_of one all)) (Err OutOfBounds)) ≡ Ok c → is_cell_like k c ≡ true
    by true q g = cc
    by false true g = cell_like k one all c (cc) (all_made (is_slot_like k) (indexed (list_of a)) (list_of idx) (λ s. indexed_like k (list_of a) s h))
    by false false g = cc

-- rows in another order
pub ordered_like : (k : Kind) (xs : List Slot) (order : List ℕ) (c : Cell) → are_slots_like k xs ≡ true → answer (rows (slots_at xs order)) ≡ Ok c → is_cell_like k c ≡ true
ordered_like k xs order c h z = listed k _ c z (all_made (is_slot_like k) (slot_at xs) order (λ i. at_like k xs i h))

pub sort_by_like : (k : Kind) (options : SortMultipleOptions) (a : Cell) (keys : List Cell) (c : Cell) → is_cell_like k a ≡ true → sort_by_cell options a keys ≡ Ok c → is_cell_like k c ≡ true
sort_by_like k options a keys c h z =
    let by = result_bound (spread_keys (length (list_of a)) keys) _ c z in
    ordered_like k (list_of a) _ c h by.2

-- a reduction
pub reduction_like : (m : GroupByMethod) (j k : Kind) (a c : Cell) → made_kind (reduced_kind m j) ≡ Some k → is_cell_like j a ≡ true → answer (reduction_cell m j a) ≡ Ok c → is_cell_like k c ≡ true
reduction_like m j k a c kind h z = cell_like k (not (is_implode m)) (reduced_slot m j (list_of a) ∷ []) c (cc) (λ i. reduced_like m j k (list_of a) kind h i && true)

-- what stands at the rows of a part
abbrev is_place_like : Kind → ℕ × Slot → Bool
is_place_like k p = is_slot_like k p.1

part_like : (k : Kind) (part : List ℕ) (c : Cell) (xs : List Slot) → is_cell_like k c ≡ true → part_slots part c ≡ Ok xs → are_slots_like k xs ≡ true
part_like k part (unit s) xs h z =
    let e : replicate (length part) s ≡ xs = cc in
    ap (are_slots_like k) (sym e) ∙ all_replicate (is_slot_like k) (length part) s (both (is_slot_like k s) true h).0
part_like k part (rows ys) xs h z = by (length ys == length part) z
  where
    by : (b : Bool) → cond b (Ok ys) (Err (ComputeError WindowLength)) ≡ Ok xs → are_slots_like k xs ≡ true
    by true g = let e : ys ≡ xs = cc in ap (are_slots_like k) (sym e) ∙ h
    by false g = cc

placed_like : (k : Kind) (parts : List (List ℕ × Cell)) (places : List (ℕ × Slot)) → list_all (λ (p : List ℕ × Cell). is_cell_like k p.1) parts ≡ true → placed parts ≡ Ok places → list_all (is_place_like k) places ≡ true
placed_like k [] places h z = let e : [] ≡ places = cc in ap (list_all (is_place_like k)) (sym e)
placed_like k (p ∷ parts) places h z =
    let s = both (is_cell_like k p.1) (list_all (λ (p : List ℕ × Cell). is_cell_like k p.1) parts) h in
    let xs = result_bound (part_slots p.0 p.1) _ places z in
    let others = result_bound (placed parts) _ places xs.2 in
    let e : zip p.0 xs.0 ++ others.0 ≡ places = cc (others.2) in
    ap (list_all (is_place_like k)) (sym e)
    ∙ all_append (is_place_like k) (zip p.0 xs.0) others.0 (all_beside (is_slot_like k) p.0 xs.0 (part_like k p.0 p.1 xs.0 s.0 xs.1)) (placed_like k parts others.0 s.1 others.1)

-- what stands at each row
row_like : (k : Kind) (places : List (ℕ × Slot)) (row : ℕ) → list_all (is_place_like k) places ≡ true → is_slot_like k (slot_of_row places row) ≡ true
row_like k [] row h = refl
row_like k (p ∷ places) row h = let s = both (is_place_like k p) (list_all (is_place_like k) places) h in by (p.0 == row) s.0 (row_like k places row s.1)
  where
    by : (b : Bool) → is_place_like k p ≡ true → is_slot_like k (slot_of_row places row) ≡ true → is_slot_like k (option_map_or (λ (q : ℕ × Slot). q.1) (cond b (Some p) (find (λ (q : ℕ × Slot). q.0 == row) places)) None) ≡ true
    by true e g = e
    by false e g = g

in_rows_like : (k : Kind) (n : ℕ) (places : List (ℕ × Slot)) → list_all (is_place_like k) places ≡ true → are_slots_like k (in_row_order n places) ≡ true
in_rows_like k n places h = all_made (is_slot_like k) (slot_of_row places) (range_with_len 0 n) (λ i. row_like k places i h)

-- a cell for a part, as a window has it
abbrev pub is_part_like : WindowMapping → Bool → Kind → Cell → Bool
is_part_like Join one k c = is_slot_like (window_kind Join one k) (value_of_cell c)
is_part_like mapping one k c = is_cell_like k c

-- a cell whose values are like those of a type, of the shape of its expression
pub part_is_like : (mapping : WindowMapping) (one : Bool) (k : Kind) (c : Cell) → is_unit_cell c ≡ one → is_cell_like k c ≡ true → is_part_like mapping one k c ≡ true
part_is_like GroupsToRows one k c e h = h
part_is_like win.Explode one k c e h = h
part_is_like Join true k (unit s) e h = (both (is_slot_like k s) true h).0
part_is_like Join false k (unit s) e h = cc
part_is_like Join true k (rows xs) e h = cc
part_is_like Join false k (rows xs) e h = slots_like k xs ∙ h

joined_like : (k : Kind) (p : List ℕ × Cell) → is_slot_like k (value_of_cell p.1) ≡ true → list_all (is_place_like k) (joined p) ≡ true
joined_like k p h = all_made (is_place_like k) _ p.0 (λ row. h)

-- a window
pub window_like : (mapping : WindowMapping) (one : Bool) (k : Kind) (n : ℕ) (parts : List (List ℕ)) (cs : List Cell) (c : Cell) → list_all (is_part_like mapping one k) cs ≡ true → window_cell mapping n (zip parts cs) ≡ Ok c → is_cell_like (window_kind mapping one k) c ≡ true
window_like GroupsToRows one k n parts cs c h z =
    let places = result_bound (placed (zip parts cs)) _ c z in
    listed k _ c places.2 (in_rows_like k n places.0 (placed_like k (zip parts cs) places.0 (all_beside (is_cell_like k) parts cs h) places.1))
window_like Join one k n parts cs c h z =
    let kind = window_kind Join one k in
    let test = λ (d : Cell). is_slot_like kind (value_of_cell d) in
    listed kind _ c z (in_rows_like kind n _ (all_flat (is_place_like kind) (λ (p : List ℕ × Cell). test p.1) joined (zip parts cs) (joined_like kind) (all_beside test parts cs h)))
window_like win.Explode one k n parts cs c h z =
    listed k _ c z (all_flat (is_slot_like k) (λ (p : List ℕ × Cell). is_cell_like k p.1) (λ (p : List ℕ × Cell). list_of p.1) (zip parts cs) (λ p e. e) (all_beside (is_cell_like k) parts cs h))
