-- An expression that is not refused has faults of values and of lengths alone.
use Rattle.std.proofs.Common.{◌≡◌, ℕ, ◌==◌, ℤ, pos, Bool, true, false, cond, ◌&&◌, ◌||◌, List, [], ◌∷◌, ◌++◌, Option, Some, None, Result, Ok, Err, length, map, refl, sym, ◌∙◌, ap}
use Rattle.std.specs.List.{list_all, zip}
use Rattle.std.specs.Result.{result_map_both}
use Rattle.px_column.specs.Cast.{is_cast, lost, number_cast, number_written, written_cast, boolean_cast, integer_cast, text_cast, bytes_cast, before, list_slot, datum_cast, items_cast, cast_slot, cast_slots, cast_kind}
use Rattle.px_column.specs.Chosen.{chosen}
use Rattle.px_column.specs.Function.{between_slot}
use Rattle.px_column.specs.Operator.{operated, is_integer_kind, is_boolean_kind, is_string_kind}
use Rattle.px_column.specs.Prelude.{Datum, boolean, integer, text, bytes, list, Slots, no_slots, absent, present, Slot, slots, items, Kind, booleans, strings, binaries, nulls, lists, fits, Series}
use Rattle.px_column.specs.Result.{◌>>=◌}
use Rattle.px_column.specs.Wrap.{is_in_range, wrapped_in}
use Rattle.px_value.proofs.FitLaws.{both, all_append}
use Rattle.px_value.specs.declared.cast_options.CastOptions.{CastOptions}
use Rattle.px_value.specs.declared.cast_options.CastOptions.TheVariants.{Strict, NonStrict, Overflowing}
use Rattle.px_value.specs.declared.error.ComputeWhy.TheVariants.{NullIndex, RangeBound, WindowLength}
use Rattle.px_value.specs.declared.error.PxError.{PxError}
use Rattle.px_value.specs.declared.error.PxError.TheVariants.{InvalidOperation, ComputeError, OutOfBounds, ShapeMismatch}
use Rattle.px_value.specs.declared.error.InvalidWhy.TheVariants.{Types}
use Rattle.px_frame.specs.Cell.{Cell, unit, rows, list_of, cell_of}
use Rattle.px_frame.specs.External.{Frame, height, scope_of, rows_of_frame}
use Rattle.px_frame.specs.Spread.{NamedCell, spread, rows_beside, with_slots, spread_column, before_all, spread_all}
use Rattle.px_tree.specs.Node.{zip_cells, zip_three_cells, literal_cell, integers, binary_cell, ternary_cell, cast_cell, function_cell, filter_cell, one_value, offset_of, length_of, slice_cell, is_null_unit, is_index, indexed, gather_cell, spread_keys, sort_by_cell}
use Rattle.px_tree.specs.Shape.{is_literal_tree}
use Rattle.px_tree.specs.Tree.{Tree, called, Trees, Order, Literal, single, range, series, no_trees, one_tree, no_order, ordered, column, literal, alias, binary, ternary, cast, function, filter, slice, gather, sort, sort_by, agg, len, window}
use Rattle.px_tree.specs.Typing.{kind_in, kinds_in, function_kind, refusals_of, all_refusals_of, order_refusals_of, refused_where, refusal_of, refusal_of_one, refusal_of_all, on_groups, grouped_function_refusals, is_one_input_missing}
use Rattle.px_tree.specs.Value.{outcome_on, made, cells_on, named_on, order_on, first_kind, whole_window, window_parts, fault_in, parts_on, faults_on, all_faults_on, order_faults_on}
use Rattle.px_tree.specs.Window.{OrderCell, order_column, parts_by, part_slots, placed, window_cell}
use Rattle.px_tree.specs.declared.context.Context.{Context}
use Rattle.px_tree.specs.declared.context.Context.TheVariants.{Default, Aggregation}
use Rattle.px_tree.specs.declared.function.FunctionExpr.{FunctionExpr}
use Rattle.px_tree.specs.declared.function.FunctionExpr.TheVariants.{IsNull, IsNotNull, Not, IsBetween, IsIn, Reverse, Shift, DropNulls, NullCount, Explode}
use Rattle.px_tree.specs.declared.window.WindowMapping.{WindowMapping}
use Rattle.px_tree.specs.declared.window.WindowMapping.TheVariants as win
use Rattle.px_tree.specs.declared.window.WindowMapping.TheVariants.{GroupsToRows, Join}
use Rattle.px_tree.proofs.KindLaws.{none_left, none_right, none_first, none_own, kind_there, kinds_there}
use Rattle.px_laws.proofs.Defined.{scope_of_rows}
use Rattle.px_laws.proofs.Like.{is_like, are_like, is_slot_like, are_slots_like, slots_like}
use Rattle.px_laws.proofs.LikeCells.{is_cell_like, AreLike, none_like, more_like}
use Rattle.px_laws.proofs.Passing.{all_flat}
use Rattle.px_laws.proofs.Shapes.{bound, mapped}
use Rattle.px_laws.proofs.Typed.{frame_fits, where_holds, value_like, cells_like}
use Rattle.px_laws.specs.Faults.{is_value_fault}
use Rattle.px_laws.specs.Fitting.{has_fitting_columns, has_fitting_literals, have_fitting_literals, has_fitting_order}

-- an answer that is refused by such a fault alone, if at all
abbrev pub fails_by_value : {A : Type 0} → Result A PxError → Bool
fails_by_value (Ok a) = true
fails_by_value (Err e) = is_value_fault e

-- so two answers, one after the other
then_fails : {A B : Type 0} (r : Result A PxError) (f : A → Result B PxError) → fails_by_value r ≡ true → ((a : A) → fails_by_value (f a) ≡ true) → fails_by_value (r >>= f) ≡ true
then_fails (Ok a) f h g = g a
then_fails (Err e) f h g = h

-- a cell at some rows
pub spread_fails : (n : ℕ) (c : Cell) → fails_by_value (spread n c) ≡ true
spread_fails n (unit s) = refl
spread_fails n (rows xs) = by (length xs == n)
  where
    by : (b : Bool) → fails_by_value (cond b (Ok xs) (Err ShapeMismatch)) ≡ true
    by true = refl
    by false = refl

-- cells row by row
zip_fails : (f : Slot → Slot → Slot) (a b : Cell) → fails_by_value (zip_cells f a b) ≡ true
zip_fails f a b = then_fails (spread (rows_beside (a ∷ b ∷ [])) a) _ (spread_fails _ a) (λ xs. then_fails (spread (rows_beside (a ∷ b ∷ [])) b) _ (spread_fails _ b) (λ ys. refl))

zip_three_fails : (f : Slot → Slot → Slot → Slot) (a b c : Cell) → fails_by_value (zip_three_cells f a b c) ≡ true
zip_three_fails f a b c =
    then_fails (spread (rows_beside (a ∷ b ∷ c ∷ [])) a) _ (spread_fails _ a)
    (λ xs. then_fails (spread (rows_beside (a ∷ b ∷ c ∷ [])) b) _ (spread_fails _ b) (λ ys. then_fails (spread (rows_beside (a ∷ b ∷ c ∷ [])) c) _ (spread_fails _ c) (λ zs. refl)))

-- a literal
literal_fails : (v : Literal) → fails_by_value (literal_cell v) ≡ true
literal_fails (single k s) = refl
literal_fails (range low high k) = by (fits k (integer low) && fits k (integer high))
  where
    by : (b : Bool) → fails_by_value (cond b (Ok (rows (integers low high))) (Err (ComputeError RangeBound))) ≡ true
    by true = refl
    by false = refl
literal_fails (series s) = refl

-- casts of one value, where the types are accepted and the value is like those of its type
lost_fails : (o : CastOptions) (left : Slot) → fails_by_value (lost o left) ≡ true
lost_fails Strict left = refl
lost_fails NonStrict left = refl
lost_fails Overflowing left = refl

number_fails : (to : Kind) (o : CastOptions) (z : ℤ) → fails_by_value (number_cast to o z) ≡ true
number_fails to o z = by (is_in_range to z)
  where
    by : (b : Bool) → fails_by_value (cond b (Ok (Some (integer z))) (lost o (Some (integer (wrapped_in to z))))) ≡ true
    by true = refl
    by false = lost_fails o _

written_fails : (to : Kind) (o : CastOptions) (w : Option ℤ) → fails_by_value (written_cast to o w) ≡ true
written_fails to o None = lost_fails o None
written_fails to o (Some z) = number_fails to o z

boolean_fails : (to : Kind) (b : Bool) → is_cast booleans to ≡ true → fails_by_value (boolean_cast to b) ≡ true
boolean_fails binaries b w = cc
boolean_fails nulls b w = cc
boolean_fails (lists j) b w = cc
boolean_fails to b w = refl

integer_fails : (to : Kind) (o : CastOptions) (z : ℤ) → (is_integer_kind to || (is_boolean_kind to || is_string_kind to)) ≡ true → fails_by_value (integer_cast to o z) ≡ true
integer_fails booleans o z w = refl
integer_fails strings o z w = refl
integer_fails binaries o z w = cc
integer_fails nulls o z w = cc
integer_fails (lists j) o z w = cc
integer_fails to o z w = number_fails to o z

text_fails : (to : Kind) (o : CastOptions) (t : List ℕ) → is_cast strings to ≡ true → fails_by_value (text_cast to o t) ≡ true
text_fails strings o t w = refl
text_fails binaries o t w = refl
text_fails booleans o t w = cc
text_fails nulls o t w = cc
text_fails (lists j) o t w = cc
text_fails to o t w = written_fails to o (number_written t)

bytes_fails : (to : Kind) (t : List ℕ) → is_cast binaries to ≡ true → fails_by_value (bytes_cast to t) ≡ true
bytes_fails binaries t w = refl
bytes_fails to t w = cc

before_fails : (p : Result Slot PxError) (q : Result Slots PxError) → fails_by_value p ≡ true → fails_by_value q ≡ true → fails_by_value (before p q) ≡ true
before_fails (Err e) q h g = h
before_fails (Ok s) (Err e) h g = g
before_fails (Ok None) (Ok ds) h g = refl
before_fails (Ok (Some d)) (Ok ds) h g = refl

list_fails : (q : Result Slots PxError) → fails_by_value q ≡ true → fails_by_value (list_slot q) ≡ true
list_fails (Ok ds) h = refl
list_fails (Err e) h = h

-- the types of integers are cast alike
cast_of_integers : (from to : Kind) → is_integer_kind from ≡ true → is_cast from to ≡ true → (is_integer_kind to || (is_boolean_kind to || is_string_kind to)) ≡ true
cast_of_integers booleans to h w = cc
cast_of_integers strings to h w = cc
cast_of_integers binaries to h w = cc
cast_of_integers nulls to h w = cc
cast_of_integers (lists j) to h w = cc
cast_of_integers from to h w = w

mutual
  datum_fails : (from to : Kind) (o : CastOptions) (d : Datum) → is_cast from to ≡ true → is_like from d ≡ true → fails_by_value (datum_cast to o d) ≡ true
  datum_fails booleans to o (boolean b) w h = boolean_fails to b w
  datum_fails from to o (boolean b) w h = cc
  datum_fails from to o (integer z) w h = integer_fails to o z (cast_of_integers from to h w)
  datum_fails strings to o (text t) w h = text_fails to o t w
  datum_fails from to o (text t) w h = cc
  datum_fails binaries to o (bytes t) w h = bytes_fails to t w
  datum_fails from to o (bytes t) w h = cc
  datum_fails (lists j) (lists k) o (list ds) w h = list_fails (items_cast k o ds) (items_fail j k o ds w h)
  datum_fails from to o (list ds) w h = cc

  items_fail : (from to : Kind) (o : CastOptions) (ds : Slots) → is_cast from to ≡ true → are_like from ds ≡ true → fails_by_value (items_cast to o ds) ≡ true
  items_fail from to o no_slots w h = refl
  items_fail from to o (absent ds) w h = before_fails (Ok None) (items_cast to o ds) refl (items_fail from to o ds w h)
  items_fail from to o (present d ds) w h =
      let p = both (is_like from d) (are_like from ds) h in
      before_fails (datum_cast to o d) (items_cast to o ds) (datum_fails from to o d w p.0) (items_fail from to o ds w p.1)

slot_fails : (from to : Kind) (o : CastOptions) (s : Slot) → is_cast from to ≡ true → is_slot_like from s ≡ true → fails_by_value (cast_slot from to o s) ≡ true
slot_fails from to o None w h = refl
slot_fails from to o (Some d) w h = datum_fails from to o d w h

slots_fail : (from to : Kind) (o : CastOptions) (xs : List Slot) → is_cast from to ≡ true → are_slots_like from xs ≡ true → fails_by_value (cast_slots from to o xs) ≡ true
slots_fail from to o xs w h = by (items_cast to o (slots xs)) (items_fail from to o (slots xs) w (slots_like from xs ∙ h))
  where
    by : (q : Result Slots PxError) → fails_by_value q ≡ true → fails_by_value (result_map_both {E = PxError} items (λ (e : PxError). e) q) ≡ true
    by (Ok ds) g = refl
    by (Err e) g = g

cast_fails : (from to : Kind) (o : CastOptions) (c : Cell) → is_cast from to ≡ true → is_cell_like from c ≡ true → fails_by_value (cast_cell from to o c) ≡ true
cast_fails from to o (unit s) w h = then_fails (cast_slot from to o s) _ (slot_fails from to o s w (both (is_slot_like from s) true h).0) (λ t. refl)
cast_fails from to o (rows xs) w h = then_fails (cast_slots from to o xs) _ (slots_fail from to o xs w h) (λ ys. refl)

-- a function of as many cells as it takes
function_fails : (f : FunctionExpr) {ks : List Kind} {cs : List Cell} (k : Kind) → AreLike ks cs → refusal_of (function_kind f ks) ≡ [] → fails_by_value (function_cell f k cs) ≡ true
function_fails IsNull k (more_like i a ks cs x none_like) h = refl
function_fails IsNull k l h = cc
function_fails IsNotNull k (more_like i a ks cs x none_like) h = refl
function_fails IsNotNull k l h = cc
function_fails Not k (more_like i a ks cs x none_like) h = refl
function_fails Not k l h = cc
function_fails (IsBetween closed) k (more_like i a ks cs x (more_like j b js ds y (more_like l d ls es z none_like))) h = zip_three_fails (between_slot k closed) a b d
function_fails (IsBetween closed) k l h = cc
function_fails IsIn k (more_like i a ks cs x (more_like j b js ds y none_like)) h = refl
function_fails IsIn k l h = cc
function_fails Reverse k (more_like i a ks cs x none_like) h = refl
function_fails Reverse k l h = cc
function_fails (Shift n) k (more_like i a ks cs x none_like) h = refl
function_fails (Shift n) k l h = cc
function_fails DropNulls k (more_like i a ks cs x none_like) h = refl
function_fails DropNulls k l h = cc
function_fails NullCount k (more_like i a ks cs x none_like) h = refl
function_fails NullCount k l h = cc
function_fails Explode k (more_like i a ks cs x none_like) h = refl
function_fails Explode k l h = cc

-- the arguments of a slice
one_fails : (c : Cell) → fails_by_value (one_value c) ≡ true
one_fails (unit s) = refl
one_fails (rows (s ∷ [])) = refl
one_fails (rows xs) = refl

offset_fails : (s : Slot) → fails_by_value (offset_of s) ≡ true
offset_fails (Some (integer z)) = refl
offset_fails s = refl

length_fails : (s : Slot) → fails_by_value (length_of s) ≡ true
length_fails None = refl
length_fails (Some (integer (pos n))) = refl
length_fails s = refl

slice_fails : (c o l : Cell) → fails_by_value (slice_cell c o l) ≡ true
slice_fails c o l =
    then_fails (one_value o) _ (one_fails o)
    (λ s. then_fails (one_value l) _ (one_fails l) (λ t. then_fails (offset_of s) _ (offset_fails s) (λ start. then_fails (length_of t) _ (length_fails t) (λ limit. refl))))

gather_fails : (one lit : Bool) (c idx : Cell) → fails_by_value (gather_cell one lit c idx) ≡ true
gather_fails one lit c idx = by (lit && is_null_unit idx) (list_all (is_index (length (list_of c))) (list_of idx))
  where
    by : (p q : Bool) → fails_by_value (cond p (Err (ComputeError NullIndex)) (cond q (Ok (cell_of one (map (indexed (list_of c)) (list_of idx)))) (Err OutOfBounds))) ≡ true
    by true q = refl
    by false true = refl
    by false false = refl

keys_fail : (n : ℕ) (cs : List Cell) → fails_by_value (spread_keys n cs) ≡ true
keys_fail n [] = refl
keys_fail n (c ∷ cs) = then_fails (spread n c) _ (spread_fails n c) (λ xs. then_fails (spread_keys n cs) _ (keys_fail n cs) (λ others. refl))

-- the parts of a window, and its cells
column_fails : (n : ℕ) (c : NamedCell) → fails_by_value (spread_column n c) ≡ true
column_fails n c = by (spread n c.cell) (spread_fails n c.cell)
  where
    by : (r : Result (List Slot) PxError) → fails_by_value r ≡ true → fails_by_value (with_slots c r) ≡ true
    by (Ok xs) h = refl
    by (Err e) h = h

pub columns_fail : (n : ℕ) (cs : List NamedCell) → fails_by_value (spread_all n cs) ≡ true
columns_fail n [] = refl
columns_fail n (c ∷ cs) = by (spread_column n c) (spread_all n cs) (column_fails n c) (columns_fail n cs)
  where
    by : (p : Result Series PxError) (q : Result (List Series) PxError) → fails_by_value p ≡ true → fails_by_value q ≡ true → fails_by_value (before_all p q) ≡ true
    by (Ok s) (Ok ss) h g = refl
    by (Ok s) (Err e) h g = g
    by (Err e) q h g = h

order_fails : (n : ℕ) (o : OrderCell) → fails_by_value (order_column n o) ≡ true
order_fails n None = refl
order_fails n (Some o) = then_fails (spread_column n o.0) _ (column_fails n o.0) (λ s. refl)

parts_fail : (by : List NamedCell) (o : OrderCell) (n : ℕ) → fails_by_value (parts_by by o n) ≡ true
parts_fail by o n = then_fails (spread_all n by) _ (columns_fail n by) (λ ss. then_fails (order_column n o) _ (order_fails n o) (λ order. refl))

part_fails : (part : List ℕ) (c : Cell) → fails_by_value (part_slots part c) ≡ true
part_fails part (unit s) = refl
part_fails part (rows xs) = by (length xs == length part)
  where
    by : (b : Bool) → fails_by_value (cond b (Ok xs) (Err (ComputeError WindowLength))) ≡ true
    by true = refl
    by false = refl

placed_fails : (parts : List (List ℕ × Cell)) → fails_by_value (placed parts) ≡ true
placed_fails [] = refl
placed_fails (p ∷ parts) = then_fails (part_slots p.0 p.1) _ (part_fails p.0 p.1) (λ xs. then_fails (placed parts) _ (placed_fails parts) (λ others. refl))

window_fails : (mapping : WindowMapping) (n : ℕ) (parts : List (List ℕ × Cell)) → fails_by_value (window_cell mapping n parts) ≡ true
window_fails GroupsToRows n parts = then_fails (placed parts) _ (placed_fails parts) (λ places. refl)
window_fails Join n parts = refl
window_fails win.Explode n parts = refl

-- the fault in an answer, whichever it is
own_fault : (o : Option (Result Cell PxError)) → ((r : Result Cell PxError) → o ≡ Some r → fails_by_value r ≡ true) → list_all is_value_fault (fault_in o) ≡ true
own_fault None h = refl
own_fault (Some (Ok c)) h = refl
own_fault (Some (Err e)) h = λ i. h (Err e) refl i && true

-- an answer is what was made
answered : (r s : Result Cell PxError) → Some r ≡ Some s → fails_by_value r ≡ true → fails_by_value s ≡ true
answered r s e h = let same : r ≡ s = cc in ap (λ (t : Result Cell PxError). fails_by_value t) (sym same) ∙ h

whole_fails : (mapping : WindowMapping) (frame : Frame) (found : Result (List (List ℕ)) PxError) (cells : List (List ℕ) → Option (List Cell)) (r : Result Cell PxError)
    → fails_by_value found ≡ true → whole_window mapping frame found cells ≡ Some r → fails_by_value r ≡ true
whole_fails mapping frame (Err e) cells r h g = answered (Err e) r g h
whole_fails mapping frame (Ok parts) cells r h g =
    let cs = mapped (cells parts) (λ cs. window_cell mapping (height frame) (zip parts cs)) r g in
    ap (λ (t : Result Cell PxError). fails_by_value t) (sym cs.2) ∙ window_fails mapping (height frame) (zip parts cs.0)

-- faults one after another
two : (xs ys : List PxError) → list_all is_value_fault xs ≡ true → list_all is_value_fault ys ≡ true → list_all is_value_fault (xs ++ ys) ≡ true
two xs ys h g = all_append is_value_fault xs ys h g

three : (xs ys zs : List PxError) → list_all is_value_fault xs ≡ true → list_all is_value_fault ys ≡ true → list_all is_value_fault zs ≡ true → list_all is_value_fault (xs ++ ys ++ zs) ≡ true
three xs ys zs h g e = two (xs ++ ys) zs (two xs ys h g) e

four : (xs ys zs us : List PxError) → list_all is_value_fault xs ≡ true → list_all is_value_fault ys ≡ true → list_all is_value_fault zs ≡ true → list_all is_value_fault us ≡ true → list_all is_value_fault (xs ++ ys ++ zs ++ us) ≡ true
four xs ys zs us h g e f = two (xs ++ ys ++ zs) us (three xs ys zs h g e) f

-- a test that anything passes
any_pass : {A : Type 0} (us : List A) → list_all (λ (a : A). true) us ≡ true
any_pass [] = refl
any_pass (a ∷ us) = any_pass us

mutual
  -- the faults of an expression that is not refused, where columns and literals fit their types
  pub value_faults : (e : Tree) (frame : Frame) (place : Context) → has_fitting_columns frame ≡ true → has_fitting_literals e ≡ true → refusals_of e (scope_of frame) place ≡ [] → list_all is_value_fault (faults_on e frame) ≡ true
  value_faults (column n) frame place fit lits r = refl
  value_faults (literal v) frame place fit lits r = own_fault (outcome_on (literal v) frame) (λ t g. answered (literal_cell v) t g (literal_fails v))
  value_faults (alias e n) frame place fit lits r = value_faults e frame place fit lits r
  value_faults (binary l op x) frame place fit lits r =
      let el = both (has_fitting_literals l) (has_fitting_literals x) lits in
      let inputs = none_first _ _ r in
      let own = λ (t : Result Cell PxError) (g : outcome_on (binary l op x) frame ≡ Some t).
      let k = bound (kind_in l (scope_of frame)) _ t g in
      let a = bound (made (outcome_on l frame)) _ t k.2 in
      let b = bound (made (outcome_on x frame)) _ t a.2 in
      answered (binary_cell k.0 op a.0 b.0) t b.2 (zip_fails (operated k.0 op) a.0 b.0) in
      three (faults_on l frame) (faults_on x frame) _ (value_faults l frame place fit el.0 (none_left _ _ inputs)) (value_faults x frame place fit el.1 (none_right (refusals_of l (scope_of frame) place) _ inputs))
      (own_fault (outcome_on (binary l op x) frame) own)
  value_faults (ternary p l x) frame place fit lits r =
      let s = scope_of frame in
      let el = both (has_fitting_literals p) (has_fitting_literals l && has_fitting_literals x) lits in
      let em = both (has_fitting_literals l) (has_fitting_literals x) el.1 in
      let inputs = none_first _ _ r in
      let early = none_left (refusals_of p s place ++ refusals_of l s place) _ inputs in
      let own = λ (t : Result Cell PxError) (g : outcome_on (ternary p l x) frame ≡ Some t).
      let q = bound (made (outcome_on p frame)) _ t g in
      let a = bound (made (outcome_on l frame)) _ t q.2 in
      let b = bound (made (outcome_on x frame)) _ t a.2 in
      answered (ternary_cell q.0 a.0 b.0) t b.2 (zip_three_fails chosen q.0 a.0 b.0) in
      four (faults_on p frame) (faults_on l frame) (faults_on x frame) _ (value_faults p frame place fit el.0 (none_left _ _ early)) (value_faults l frame place fit em.0 (none_right (refusals_of p s place) _ early))
      (value_faults x frame place fit em.1 (none_right (refusals_of p s place ++ refusals_of l s place) _ inputs)) (own_fault (outcome_on (ternary p l x) frame) own)
  value_faults (cast e to o) frame place fit lits r =
      let inputs = none_first _ _ r in
      let from = kind_there e (scope_of frame) place inputs in
      let typed : refusal_of (cast_kind from.0 to) ≡ [] = ap (refusal_of_one (λ j. cast_kind j to)) (sym from.1) ∙ none_own (refusals_of e (scope_of frame) place) _ r in
      let own = λ (t : Result Cell PxError) (g : outcome_on (cast e to o) frame ≡ Some t).
      let k = bound (kind_in e (scope_of frame)) _ t g in
      let a = bound (made (outcome_on e frame)) _ t k.2 in
      let same : Some k.0 ≡ Some from.0 = sym k.1 ∙ from.1 in
      let e1 : k.0 ≡ from.0 = cc in
      let like = value_like e frame place from.0 a.0 fit lits inputs from.1 a.1 in
      answered (cast_cell k.0 to o a.0) t a.2 (ap (λ j. fails_by_value (cast_cell j to o a.0)) e1 ∙ cast_fails from.0 to o a.0 (where_holds (is_cast from.0 to) to typed) like) in
      two (faults_on e frame) _ (value_faults e frame place fit lits inputs) (own_fault (outcome_on (cast e to o) frame) own)
  value_faults (function es f) frame place fit lits r =
      let inputs = none_first _ _ r in
      let ks = kinds_there es (scope_of frame) place inputs in
      let typed : refusal_of (function_kind (called f) ks.0) ≡ [] =
      ap (refusal_of_all (function_kind (called f))) (sym ks.1)
      ∙ none_right (refused_where (is_one_input_missing (called f) es) (InvalidOperation Types) ++ on_groups place (grouped_function_refusals (called f) es)) _ (none_own (all_refusals_of es (scope_of frame) place) _ r) in
      let own = λ (t : Result Cell PxError) (g : outcome_on (function es f) frame ≡ Some t).
      let js = bound (kinds_in es (scope_of frame)) _ t g in
      let cs = bound (cells_on es frame) _ t js.2 in
      answered (function_cell (called f) (first_kind js.0) cs.0) t cs.2 (function_fails (called f) (first_kind js.0) (cells_like es frame place ks.0 cs.0 fit lits inputs ks.1 cs.1) typed) in
      two (all_faults_on es frame) _ (all_value_faults es frame place fit lits inputs) (own_fault (outcome_on (function es f) frame) own)
  value_faults (filter e by) frame place fit lits r =
      let el = both (has_fitting_literals e) (has_fitting_literals by) lits in
      let inputs = none_first _ _ r in
      let own = λ (t : Result Cell PxError) (g : outcome_on (filter e by) frame ≡ Some t).
      let a = bound (made (outcome_on e frame)) _ t g in
      let m = bound (made (outcome_on by frame)) _ t a.2 in
      answered (filter_cell a.0 m.0) t m.2 (then_fails (spread (length (list_of a.0)) m.0) _ (spread_fails _ m.0) (λ ts. refl)) in
      three (faults_on e frame) (faults_on by frame) _ (value_faults e frame place fit el.0 (none_left _ _ inputs)) (value_faults by frame place fit el.1 (none_right (refusals_of e (scope_of frame) place) _ inputs))
      (own_fault (outcome_on (filter e by) frame) own)
  value_faults (slice e offset size) frame place fit lits r =
      let s = scope_of frame in
      let el = both (has_fitting_literals e) (has_fitting_literals offset && has_fitting_literals size) lits in
      let em = both (has_fitting_literals offset) (has_fitting_literals size) el.1 in
      let inputs = none_first _ _ r in
      let early = none_left (refusals_of e s place ++ refusals_of offset s place) _ inputs in
      let own = λ (t : Result Cell PxError) (g : outcome_on (slice e offset size) frame ≡ Some t).
      let a = bound (made (outcome_on e frame)) _ t g in
      let o = bound (made (outcome_on offset frame)) _ t a.2 in
      let l = bound (made (outcome_on size frame)) _ t o.2 in
      answered (slice_cell a.0 o.0 l.0) t l.2 (slice_fails a.0 o.0 l.0) in
      four (faults_on e frame) (faults_on offset frame) (faults_on size frame) _ (value_faults e frame place fit el.0 (none_left _ _ early)) (value_faults offset frame place fit em.0 (none_right (refusals_of e s place) _ early))
      (value_faults size frame place fit em.1 (none_right (refusals_of e s place ++ refusals_of offset s place) _ inputs)) (own_fault (outcome_on (slice e offset size) frame) own)
  value_faults (gather e idx one) frame place fit lits r =
      let el = both (has_fitting_literals e) (has_fitting_literals idx) lits in
      let inputs = none_first _ _ r in
      let own = λ (t : Result Cell PxError) (g : outcome_on (gather e idx one) frame ≡ Some t).
      let a = bound (made (outcome_on e frame)) _ t g in
      let j = bound (made (outcome_on idx frame)) _ t a.2 in
      answered (gather_cell one (is_literal_tree idx) a.0 j.0) t j.2 (gather_fails one (is_literal_tree idx) a.0 j.0) in
      three (faults_on e frame) (faults_on idx frame) _ (value_faults e frame place fit el.0 (none_left _ _ inputs)) (value_faults idx frame place fit el.1 (none_right (refusals_of e (scope_of frame) place) _ inputs))
      (own_fault (outcome_on (gather e idx one) frame) own)
  value_faults (sort e options) frame place fit lits r = value_faults e frame place fit lits (none_first _ _ r)
  value_faults (sort_by e by options) frame place fit lits r =
      let el = both (has_fitting_literals e) (have_fitting_literals by) lits in
      let inputs = none_first _ _ r in
      let own = λ (t : Result Cell PxError) (g : outcome_on (sort_by e by options) frame ≡ Some t).
      let a = bound (made (outcome_on e frame)) _ t g in
      let keys = bound (cells_on by frame) _ t a.2 in
      answered (sort_by_cell options a.0 keys.0) t keys.2 (then_fails (spread_keys (length (list_of a.0)) keys.0) _ (keys_fail _ keys.0) (λ ks. refl)) in
      three (faults_on e frame) (all_faults_on by frame) _ (value_faults e frame place fit el.0 (none_left _ _ inputs)) (all_value_faults by frame place fit el.1 (none_right (refusals_of e (scope_of frame) place) _ inputs))
      (own_fault (outcome_on (sort_by e by options) frame) own)
  value_faults (agg m e) frame place fit lits r = value_faults e frame place fit lits (none_first _ _ r)
  value_faults len frame place fit lits r = refl
  value_faults (window f keys order mapping) frame place fit lits r =
      let s = scope_of frame in
      let el = both (has_fitting_literals f) (have_fitting_literals keys && has_fitting_order order) lits in
      let em = both (have_fitting_literals keys) (has_fitting_order order) el.1 in
      let inputs = none_first _ _ r in
      let early = none_left (refusals_of f s Aggregation ++ all_refusals_of keys s Default) _ inputs in
      let of_part = λ (p : List ℕ). value_faults f (rows_of_frame frame p) Aggregation (frame_fits frame p fit) el.0 (ap (λ scope. refusals_of f scope Aggregation) (scope_of_rows frame p) ∙ none_left _ _ early) in
      let own = λ (t : Result Cell PxError) (g : outcome_on (window f keys order mapping) frame ≡ Some t).
      let found = bound (window_parts (named_on keys frame) (order_on order frame) frame) _ t g in
      let by = bound (named_on keys frame) _ found.0 found.1 in
      let o = bound (order_on order frame) _ found.0 by.2 in
      let same : parts_by by.0 o.0 (height frame) ≡ found.0 = cc (o.2) in
      whole_fails mapping frame found.0 _ t (ap (λ (q : Result (List (List ℕ)) PxError). fails_by_value q) (sym same) ∙ parts_fail by.0 o.0 (height frame)) found.2 in
      four (all_faults_on keys frame) (order_faults_on order frame) _ _ (all_value_faults keys frame Default fit em.0 (none_right (refusals_of f s Aggregation) _ early))
      (order_value_faults order frame Default fit em.1 (none_right (refusals_of f s Aggregation ++ all_refusals_of keys s Default) _ inputs))
      (all_flat is_value_fault (λ (p : List ℕ). true) (λ p. faults_on f (rows_of_frame frame p)) (parts_on keys order frame) (λ p e. of_part p) (any_pass (parts_on keys order frame)))
      (own_fault (outcome_on (window f keys order mapping) frame) own)

  -- those of some expressions
  all_value_faults : (es : Trees) (frame : Frame) (place : Context) → has_fitting_columns frame ≡ true → have_fitting_literals es ≡ true → all_refusals_of es (scope_of frame) place ≡ [] → list_all is_value_fault (all_faults_on es frame) ≡ true
  all_value_faults no_trees frame place fit lits r = refl
  all_value_faults (one_tree t ts) frame place fit lits r =
      let el = both (has_fitting_literals t) (have_fitting_literals ts) lits in
      two (faults_on t frame) (all_faults_on ts frame) (value_faults t frame place fit el.0 (none_left _ _ r)) (all_value_faults ts frame place fit el.1 (none_right (refusals_of t (scope_of frame) place) _ r))

  -- those of what an order is by
  order_value_faults : (order : Order) (frame : Frame) (place : Context) → has_fitting_columns frame ≡ true → has_fitting_order order ≡ true → order_refusals_of order (scope_of frame) place ≡ [] → list_all is_value_fault (order_faults_on order frame) ≡ true
  order_value_faults no_order frame place fit lits r = refl
  order_value_faults (ordered t options) frame place fit lits r = value_faults t frame place fit lits r
