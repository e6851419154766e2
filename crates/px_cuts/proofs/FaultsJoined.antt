-- The faults of an elementwise expression on some rows are casts that lose a value, and are faults on more rows too.
use Rattle.std.proofs.Common.{◌≡◌, ◌⊎◌, inl, inr, ℕ, Bool, true, false, cond, ◌&&◌, List, [], ◌∷◌, ◌++◌, Option, Some, None, Result, Ok, Err, length, refl, sym, ◌∙◌, ap, subst}
use Rattle.std.specs.Prelude.{ℤ}
use Rattle.std.specs.List.{flat_map, list_all, list_any}
use Rattle.std.specs.Result.{result_map_both}
use Rattle.std.proofs.lemmas.List.Folds.{list_all-append}
use Rattle.px_column.specs.Cast.{cast_slot, items_cast, datum_cast, boolean_cast, integer_cast, text_cast, bytes_cast, number_cast, written_cast, number_written, before, list_slot, lost}
use Rattle.px_column.specs.Chosen.{chosen}
use Rattle.px_column.specs.Function.{between_slot}
use Rattle.px_column.specs.Operator.{operated}
use Rattle.px_column.specs.Result.{◌>>=◌ as ◌>>>◌}
use Rattle.px_column.specs.Prelude.{Datum, boolean, integer, text, bytes, list, Slot, Slots, no_slots, absent, present, slots, items, Kind, booleans, strings, binaries, nulls, lists}
use Rattle.px_operation.specs.Wrap.{is_in_range, wrapped_in}
use Rattle.px_value.proofs.FitLaws.{both as both_true}
use Rattle.px_value.specs.declared.cast_options.CastOptions.{CastOptions}
use Rattle.px_value.specs.declared.cast_options.CastOptions.TheVariants.{Strict, NonStrict, Overflowing}
use Rattle.px_value.specs.declared.error.PxError.{PxError}
use Rattle.px_value.specs.declared.error.PxError.TheVariants.{InvalidOperation}
use Rattle.px_value.specs.declared.error.InvalidWhy.TheVariants.{Types, CastLost}
use Rattle.px_frame.specs.Cell.{Cell, unit, rows}
use Rattle.px_frame.specs.External.{Frame, scope_of, rows_of_frame}
use Rattle.px_tree.specs.Node.{binary_cell, ternary_cell, cast_cell, function_cell}
use Rattle.px_tree.specs.Nodes.{leaf_names, all_leaf_names}
use Rattle.px_tree.specs.Partition.{is_elementwise, are_elementwise, is_row_function}
use Rattle.px_tree.specs.Tree.{Tree, called, Trees, single, range, series, no_trees, one_tree, column, literal, alias, binary, ternary, cast, function, filter, slice, gather, sort, sort_by, agg, len, window}
use Rattle.px_tree.specs.Typing.{Scope, kind_in, kinds_in, refusals_of}
use Rattle.px_tree.specs.Value.{outcome_on, made, cells_on, first_kind, is_misfit, fault_in, faults_on, all_faults_on}
use Rattle.px_tree.specs.declared.context.Context.{Context}
use Rattle.px_tree.specs.declared.function.FunctionExpr.{FunctionExpr}
use Rattle.px_tree.specs.declared.function.FunctionExpr.TheVariants.{IsNull, IsNotNull, Not, IsBetween, IsIn, Reverse, Shift, DropNulls, NullCount, Explode}
use Rattle.px_laws.proofs.Defined.{scope_of_rows, value_there, value_sound}
use Rattle.px_laws.proofs.Joining.{no_misfits}
use Rattle.px_laws.proofs.RowCount.{value_long}
use Rattle.px_laws.proofs.Shapes.{bound}
use Rattle.px_laws.specs.Faults.{is_value_fault}
use Rattle.px_laws.specs.Fitting.{has_fitting_columns, has_fitting_literals}
use Rattle.px_laws.proofs.Typed.{frame_fits}
use Rattle.px_laws.proofs.ValueFaults.{value_faults}
use Rattle.px_cuts.specs.Cut.{joined}
use Rattle.px_cuts.specs.Faults.{IsRowWise, HasNoFaultOnEither, IsOneOf}
use Rattle.px_cuts.proofs.Splits.{zip_there, zip_three_there, value_splits, AreLong, cells_long}

-- an operation that is not to be had
abbrev pub is_invalid : PxError → Bool
is_invalid (InvalidOperation why) = true
is_invalid _ = false

-- where something is refused, it is so
abbrev invalid_only : {A : Type 0} → Result A PxError → Bool
invalid_only (Ok a) = true
invalid_only (Err e) = is_invalid e

lost_only : (o : CastOptions) (left : Slot) → invalid_only (lost o left) ≡ true
lost_only Strict left = refl
lost_only NonStrict left = refl
lost_only Overflowing left = refl

choice_only : {A : Type 0} (b : Bool) (p q : Result A PxError) → invalid_only p ≡ true → invalid_only q ≡ true → invalid_only (cond b p q) ≡ true
choice_only true p q h g = h
choice_only false p q h g = g

number_only : (to : Kind) (o : CastOptions) (z : ℤ) → invalid_only (number_cast to o z) ≡ true
number_only to o z = choice_only (is_in_range to z) (Ok (Some (integer z))) (lost o (Some (integer (wrapped_in to z)))) refl (lost_only o (Some (integer (wrapped_in to z))))

written_only : (to : Kind) (o : CastOptions) (z : Option ℤ) → invalid_only (written_cast to o z) ≡ true
written_only to o None = lost_only o None
written_only to o (Some z) = number_only to o z

boolean_only : (to : Kind) (b : Bool) → invalid_only (boolean_cast to b) ≡ true
boolean_only booleans b = refl
boolean_only strings b = refl
boolean_only to b = refl

integer_only : (to : Kind) (o : CastOptions) (z : ℤ) → invalid_only (integer_cast to o z) ≡ true
integer_only booleans o z = refl
integer_only strings o z = refl
integer_only binaries o z = refl
integer_only nulls o z = refl
integer_only (lists j) o z = refl
integer_only to o z = number_only to o z

text_only : (to : Kind) (o : CastOptions) (t : List ℕ) → invalid_only (text_cast to o t) ≡ true
text_only strings o t = refl
text_only binaries o t = refl
text_only booleans o t = refl
text_only nulls o t = refl
text_only (lists j) o t = refl
text_only to o t = written_only to o (number_written t)

bytes_only : (to : Kind) (t : List ℕ) → invalid_only (bytes_cast to t) ≡ true
bytes_only binaries t = refl
bytes_only to t = refl

before_only : (p : Result Slot PxError) (q : Result Slots PxError) → invalid_only p ≡ true → invalid_only q ≡ true → invalid_only (before p q) ≡ true
before_only (Err e) q h g = h
before_only (Ok s) (Err e) h g = g
before_only (Ok None) (Ok ds) h g = refl
before_only (Ok (Some d)) (Ok ds) h g = refl

list_only : (q : Result Slots PxError) → invalid_only q ≡ true → invalid_only (list_slot q) ≡ true
list_only (Ok ds) h = refl
list_only (Err e) h = h

mutual
  datum_only : (to : Kind) (o : CastOptions) (d : Datum) → invalid_only (datum_cast to o d) ≡ true
  datum_only to o (boolean b) = boolean_only to b
  datum_only to o (integer z) = integer_only to o z
  datum_only to o (text t) = text_only to o t
  datum_only to o (bytes t) = bytes_only to t
  datum_only (lists to) o (list ds) = list_only (items_cast to o ds) (items_only to o ds)
  datum_only to o (list ds) = refl

  items_only : (to : Kind) (o : CastOptions) (ds : Slots) → invalid_only (items_cast to o ds) ≡ true
  items_only to o no_slots = refl
  items_only to o (absent ds) = before_only (Ok None) (items_cast to o ds) refl (items_only to o ds)
  items_only to o (present d ds) = before_only (datum_cast to o d) (items_cast to o ds) (datum_only to o d) (items_only to o ds)

slot_only : (from to : Kind) (o : CastOptions) (s : Slot) → invalid_only (cast_slot from to o s) ≡ true
slot_only from to o None = refl
slot_only from to o (Some d) = datum_only to o d

cast_only : (from to : Kind) (o : CastOptions) (c : Cell) → invalid_only (cast_cell from to o c) ≡ true
cast_only from to o (unit s) = by (cast_slot from to o s) (slot_only from to o s)
  where
    by : (r : Result Slot PxError) → invalid_only r ≡ true → invalid_only (r >>> λ t. Ok (unit t)) ≡ true
    by (Ok t) h = refl
    by (Err e) h = h
cast_only from to o (rows xs) = by (items_cast to o (slots xs)) (items_only to o (slots xs))
  where
    by : (q : Result Slots PxError) → invalid_only q ≡ true → invalid_only (result_map_both {E = PxError} items (λ (e : PxError). e) q >>> λ ys. Ok (rows ys)) ≡ true
    by (Ok ds) h = refl
    by (Err e) h = h

-- an outcome's fault, where it has one
fault_only : (test : PxError → Bool) (o : Option (Result Cell PxError)) → ((x : PxError) → o ≡ Some (Err x) → test x ≡ true) → list_all test (fault_in o) ≡ true
fault_only test None h = refl
fault_only test (Some (Ok c)) h = refl
fault_only test (Some (Err x)) h = λ i. h x refl i && true

-- what is there is no fault
never : (r : Result Cell PxError) (x : PxError) → (c : Cell) × (r ≡ Ok c) → r ≡ Err x → ⊥
never r x m h = let no : Ok m.0 ≡ Err x = sym m.1 ∙ h in cc

-- two lists of which each passes
two : (test : PxError → Bool) (xs ys : List PxError) → list_all test xs ≡ true → list_all test ys ≡ true → list_all test (xs ++ ys) ≡ true
two test xs ys h g = list_all-append test xs ys ∙ (λ i. h i && g i)

-- a row function refuses no cells of as many rows, but a wrong number of them
function_only : (f : FunctionExpr) (k : Kind) (n : ℕ) (cs : List Cell) (x : PxError) → is_row_function f ≡ true → AreLong n cs → function_cell f k cs ≡ Err x → is_invalid x ≡ true
function_only IsNull k n [] x w l h = let e : InvalidOperation Types ≡ x = cc in sym (ap is_invalid e)
function_only IsNull k n (a ∷ []) x w l h = cc
function_only IsNull k n (a ∷ b ∷ cs) x w l h = let e : InvalidOperation Types ≡ x = cc in sym (ap is_invalid e)
function_only IsNotNull k n [] x w l h = let e : InvalidOperation Types ≡ x = cc in sym (ap is_invalid e)
function_only IsNotNull k n (a ∷ []) x w l h = cc
function_only IsNotNull k n (a ∷ b ∷ cs) x w l h = let e : InvalidOperation Types ≡ x = cc in sym (ap is_invalid e)
function_only Not k n [] x w l h = let e : InvalidOperation Types ≡ x = cc in sym (ap is_invalid e)
function_only Not k n (a ∷ []) x w l h = cc
function_only Not k n (a ∷ b ∷ cs) x w l h = let e : InvalidOperation Types ≡ x = cc in sym (ap is_invalid e)
function_only (IsBetween closed) k n (a ∷ b ∷ c ∷ []) x w l h = absurd (never _ x (zip_three_there (between_slot k closed) n a b c l.0 l.1.0 l.1.1.0) h)
function_only (IsBetween closed) k n [] x w l h = let e : InvalidOperation Types ≡ x = cc in sym (ap is_invalid e)
function_only (IsBetween closed) k n (a ∷ []) x w l h = let e : InvalidOperation Types ≡ x = cc in sym (ap is_invalid e)
function_only (IsBetween closed) k n (a ∷ b ∷ []) x w l h = let e : InvalidOperation Types ≡ x = cc in sym (ap is_invalid e)
function_only (IsBetween closed) k n (a ∷ b ∷ c ∷ d ∷ cs) x w l h = let e : InvalidOperation Types ≡ x = cc in sym (ap is_invalid e)
function_only IsIn k n cs x w l h = cc
function_only Reverse k n cs x w l h = cc
function_only (Shift m) k n cs x w l h = cc
function_only DropNulls k n cs x w l h = cc
function_only NullCount k n cs x w l h = cc
function_only Explode k n cs x w l h = cc

mutual
  -- each fault of an elementwise expression is an invalid operation
  pub faults_invalid : (e : Tree) (s : Scope) (frame : Frame) (p : List ℕ) → is_elementwise e s ≡ true → list_any (is_misfit frame) (leaf_names e) ≡ false → list_all is_invalid (faults_on e (rows_of_frame frame p)) ≡ true
  faults_invalid (column n) s frame p w m = refl
  faults_invalid (literal (single k x)) s frame p w m = refl
  faults_invalid (literal (range low high k)) s frame p w m = cc
  faults_invalid (literal (series t)) s frame p w m = cc
  faults_invalid (alias e n) s frame p w m = faults_invalid e s frame p w m
  faults_invalid (binary l op r) s frame p w m =
      let ew = both_true (is_elementwise l s) (is_elementwise r s) w in
      let ms = no_misfits frame (leaf_names l) (leaf_names r) m in
      two is_invalid (faults_on l (rows_of_frame frame p) ++ faults_on r (rows_of_frame frame p)) (fault_in (outcome_on (binary l op r) (rows_of_frame frame p)))
      (two is_invalid (faults_on l (rows_of_frame frame p)) (faults_on r (rows_of_frame frame p)) (faults_invalid l s frame p ew.0 ms.0) (faults_invalid r s frame p ew.1 ms.1))
      (fault_only is_invalid (outcome_on (binary l op r) (rows_of_frame frame p)) (λ x h.
      let k = bound (kind_in l (scope_of (rows_of_frame frame p))) _ (Err x) h in
      let a = bound (made (outcome_on l (rows_of_frame frame p))) _ (Err x) k.2 in
      let b = bound (made (outcome_on r (rows_of_frame frame p))) _ (Err x) a.2 in
      let refused : binary_cell k.0 op a.0 b.0 ≡ Err x = let all : Some (binary_cell k.0 op a.0 b.0) ≡ Some (Err x) = b.2 in cc in
      absurd (never _ x (zip_there (operated k.0 op) (length p) a.0 b.0 (value_long l s frame p a.0 ew.0 ms.0 a.1) (value_long r s frame p b.0 ew.1 ms.1 b.1)) refused)))
  faults_invalid (ternary t l r) s frame p w m =
      let ew = both_true (is_elementwise t s) (is_elementwise l s && is_elementwise r s) w in
      let ev = both_true (is_elementwise l s) (is_elementwise r s) ew.1 in
      let ms = no_misfits frame (leaf_names t) (leaf_names l ++ leaf_names r) m in
      let ns = no_misfits frame (leaf_names l) (leaf_names r) ms.1 in
      two is_invalid (faults_on t (rows_of_frame frame p) ++ faults_on l (rows_of_frame frame p) ++ faults_on r (rows_of_frame frame p)) (fault_in (outcome_on (ternary t l r) (rows_of_frame frame p)))
      (two is_invalid (faults_on t (rows_of_frame frame p) ++ faults_on l (rows_of_frame frame p)) (faults_on r (rows_of_frame frame p))
      (two is_invalid (faults_on t (rows_of_frame frame p)) (faults_on l (rows_of_frame frame p)) (faults_invalid t s frame p ew.0 ms.0) (faults_invalid l s frame p ev.0 ns.0)) (faults_invalid r s frame p ev.1 ns.1))
      (fault_only is_invalid (outcome_on (ternary t l r) (rows_of_frame frame p)) (λ x h.
      let z = bound (made (outcome_on t (rows_of_frame frame p))) _ (Err x) h in
      let a = bound (made (outcome_on l (rows_of_frame frame p))) _ (Err x) z.2 in
      let b = bound (made (outcome_on r (rows_of_frame frame p))) _ (Err x) a.2 in
      let refused : ternary_cell z.0 a.0 b.0 ≡ Err x = let all : Some (ternary_cell z.0 a.0 b.0) ≡ Some (Err x) = b.2 in cc in
      absurd (never _ x (zip_three_there chosen (length p) z.0 a.0 b.0 (value_long t s frame p z.0 ew.0 ms.0 z.1) (value_long l s frame p a.0 ev.0 ns.0 a.1) (value_long r s frame p b.0 ev.1 ns.1 b.1)) refused)))
  faults_invalid (cast e to o) s frame p w m =
      two is_invalid (faults_on e (rows_of_frame frame p)) (fault_in (outcome_on (cast e to o) (rows_of_frame frame p))) (faults_invalid e s frame p w m)
      (fault_only is_invalid (outcome_on (cast e to o) (rows_of_frame frame p)) (λ x h.
      let k = bound (kind_in e (scope_of (rows_of_frame frame p))) _ (Err x) h in
      let a = bound (made (outcome_on e (rows_of_frame frame p))) _ (Err x) k.2 in
      let refused : cast_cell k.0 to o a.0 ≡ Err x = let all : Some (cast_cell k.0 to o a.0) ≡ Some (Err x) = a.2 in cc in
      ap invalid_only (sym refused) ∙ cast_only k.0 to o a.0))
  faults_invalid (function es f) s frame p w m =
      let ew = both_true (is_row_function (called f)) (are_elementwise es s) w in
      two is_invalid (all_faults_on es (rows_of_frame frame p)) (fault_in (outcome_on (function es f) (rows_of_frame frame p))) (all_faults_invalid es s frame p ew.1 m)
      (fault_only is_invalid (outcome_on (function es f) (rows_of_frame frame p)) (λ x h.
      let k = bound (kinds_in es (scope_of (rows_of_frame frame p))) _ (Err x) h in
      let cs = bound (cells_on es (rows_of_frame frame p)) _ (Err x) k.2 in
      let refused : function_cell (called f) (first_kind k.0) cs.0 ≡ Err x = let all : Some (function_cell (called f) (first_kind k.0) cs.0) ≡ Some (Err x) = cs.2 in cc in
      function_only (called f) (first_kind k.0) (length p) cs.0 x ew.0 (cells_long es s frame p cs.0 ew.1 m cs.1) refused))
  faults_invalid (filter e by) s frame p w m = cc
  faults_invalid (slice e offset size) s frame p w m = cc
  faults_invalid (gather e idx one) s frame p w m = cc
  faults_invalid (sort e o) s frame p w m = cc
  faults_invalid (sort_by e by o) s frame p w m = cc
  faults_invalid (agg f e) s frame p w m = cc
  faults_invalid len s frame p w m = cc
  faults_invalid (window f keys order mapping) s frame p w m = cc

  all_faults_invalid : (es : Trees) (s : Scope) (frame : Frame) (p : List ℕ) → are_elementwise es s ≡ true → list_any (is_misfit frame) (all_leaf_names es) ≡ false → list_all is_invalid (all_faults_on es (rows_of_frame frame p)) ≡ true
  all_faults_invalid no_trees s frame p w m = refl
  all_faults_invalid (one_tree t ts) s frame p w m =
      let ew = both_true (is_elementwise t s) (are_elementwise ts s) w in
      let ms = no_misfits frame (leaf_names t) (all_leaf_names ts) m in
      two is_invalid (faults_on t (rows_of_frame frame p)) (all_faults_on ts (rows_of_frame frame p)) (faults_invalid t s frame p ew.0 ms.0) (all_faults_invalid ts s frame p ew.1 ms.1)

-- without a fault on some rows and others together there is none on each
pub no_fault_splits : (e : Tree) (s : Scope) (frame : Frame) (place : Context) (p q : List ℕ) → is_elementwise e s ≡ true → list_any (is_misfit frame) (leaf_names e) ≡ false → refusals_of e (scope_of frame) place ≡ []
    → faults_on e (rows_of_frame frame (p ++ q)) ≡ [] → (faults_on e (rows_of_frame frame p) ≡ []) × (faults_on e (rows_of_frame frame q) ≡ [])
no_fault_splits e s frame place p q w m r h =
    let accepted = ap (λ t. refusals_of e t place) (scope_of_rows frame (p ++ q)) ∙ r in
    let c = value_there e (rows_of_frame frame (p ++ q)) place accepted h in
    let v = value_splits e s frame p q c.0 w m c.1 in
    (value_sound e (rows_of_frame frame p) v.0.0 v.0.1, value_sound e (rows_of_frame frame q) v.1.0 v.1.1)

pub no_fault_on_either : (e : Tree) (frame : Frame) (place : Context) (p q : List ℕ) → IsRowWise e frame place → faults_on e (rows_of_frame frame (p ++ q)) ≡ [] → HasNoFaultOnEither e frame p q
no_fault_on_either e frame place p q r h = let s = no_fault_splits e (scope_of frame) frame place p q r.rows r.even r.accepted h in record { first = s.0; second = s.1 }

-- a value fault that is an invalid operation is a cast that loses a value
lost_cast : (x : PxError) → is_value_fault x ≡ true → is_invalid x ≡ true → x ≡ InvalidOperation CastLost
lost_cast (InvalidOperation CastLost) v i = refl
lost_cast x v i = cc

-- so is each fault of an elementwise expression over columns and literals that fit their types
pub only_lost : (e : Tree) (frame : Frame) (place : Context) (p : List ℕ) → IsRowWise e frame place → has_fitting_columns frame ≡ true → has_fitting_literals e ≡ true
    → (x : PxError) → IsOneOf x (faults_on e (rows_of_frame frame p)) → x ≡ InvalidOperation CastLost
only_lost e frame place p r fit lits x one =
    let accepted = ap (λ t. refusals_of e t place) (scope_of_rows frame p) ∙ r.accepted in
    member (faults_on e (rows_of_frame frame p)) (value_faults e (rows_of_frame frame p) place (frame_fits frame p fit) lits accepted) (faults_invalid e (scope_of frame) frame p r.rows r.even) one
  where
    member : (xs : List PxError) → list_all is_value_fault xs ≡ true → list_all is_invalid xs ≡ true → IsOneOf x xs → x ≡ InvalidOperation CastLost
    member [] v i o = absurd o
    member (y ∷ ys) v i (inl e) =
        let a = both_true (is_value_fault y) (list_all is_value_fault ys) v in
        let b = both_true (is_invalid y) (list_all is_invalid ys) i in
        e ∙ lost_cast y a.0 b.0
    member (y ∷ ys) v i (inr o) =
        member ys (both_true (is_value_fault y) (list_all is_value_fault ys) v).1 (both_true (is_invalid y) (list_all is_invalid ys) i).1 o

-- what is no empty list of one thing holds it
holds : (xs : List PxError) (x : PxError) → ((y : PxError) → IsOneOf y xs → y ≡ x) → (xs ≡ [] → ⊥) → IsOneOf x xs
holds [] x all some = some refl
holds (y ∷ ys) x all some = inl (sym (all y (inl refl)))

-- a fault on some rows is a fault on these and others together
pub fault_stays : (e : Tree) (frame : Frame) (place : Context) (p q : List ℕ) → IsRowWise e frame place → has_fitting_columns frame ≡ true → has_fitting_literals e ≡ true
    → (x : PxError) → IsOneOf x (faults_on e (rows_of_frame frame p)) ⊎ IsOneOf x (faults_on e (rows_of_frame frame q)) → IsOneOf x (faults_on e (rows_of_frame frame (p ++ q)))
fault_stays e frame place p q r fit lits x (inl one) =
    let lost_x = only_lost e frame place p r fit lits x one in
    holds (faults_on e (rows_of_frame frame (p ++ q))) x (λ y o. only_lost e frame place (p ++ q) r fit lits y o ∙ sym lost_x)
    (λ none. subst (IsOneOf x) (no_fault_on_either e frame place p q r none).first one)
fault_stays e frame place p q r fit lits x (inr one) =
    let lost_x = only_lost e frame place q r fit lits x one in
    holds (faults_on e (rows_of_frame frame (p ++ q))) x (λ y o. only_lost e frame place (p ++ q) r fit lits y o ∙ sym lost_x)
    (λ none. subst (IsOneOf x) (no_fault_on_either e frame place p q r none).second one)

-- one of two lists' things is one of a list's
one_of_two : (x : PxError) (xs ys : List PxError) → IsOneOf x (xs ++ ys) → IsOneOf x xs ⊎ IsOneOf x ys
one_of_two x [] ys o = inr o
one_of_two x (z ∷ xs) ys (inl e) = inl (inl e)
one_of_two x (z ∷ xs) ys (inr o) = by (one_of_two x xs ys o)
  where
    by : IsOneOf x xs ⊎ IsOneOf x ys → IsOneOf x (z ∷ xs) ⊎ IsOneOf x ys
    by (inl l) = inl (inr l)
    by (inr r) = inr r

-- a fault on some of several lists of rows is a fault on all of them together
pub fault_joins : (e : Tree) (frame : Frame) (place : Context) (ps : List (List ℕ)) → IsRowWise e frame place → has_fitting_columns frame ≡ true → has_fitting_literals e ≡ true
    → (x : PxError) → IsOneOf x (flat_map (λ p. faults_on e (rows_of_frame frame p)) ps) → IsOneOf x (faults_on e (rows_of_frame frame (joined ps)))
fault_joins e frame place [] r fit lits x one = absurd one
fault_joins e frame place (p ∷ ps) r fit lits x one = by (one_of_two x (faults_on e (rows_of_frame frame p)) (flat_map (λ q. faults_on e (rows_of_frame frame q)) ps) one) (fault_joins e frame place ps r fit lits x)
  where
    by : IsOneOf x (faults_on e (rows_of_frame frame p)) ⊎ IsOneOf x (flat_map (λ q. faults_on e (rows_of_frame frame q)) ps) → (IsOneOf x (flat_map (λ q. faults_on e (rows_of_frame frame q)) ps) → IsOneOf x (faults_on e (rows_of_frame frame (joined ps))))
        → IsOneOf x (faults_on e (rows_of_frame frame (p ++ joined ps)))
    by (inl l) rest = fault_stays e frame place p (joined ps) r fit lits x (inl l)
    by (inr o) rest = fault_stays e frame place p (joined ps) r fit lits x (inr (rest o))

-- without one on all of them together there is none on any
pub none_joins : (e : Tree) (frame : Frame) (place : Context) (ps : List (List ℕ)) → IsRowWise e frame place → faults_on e (rows_of_frame frame (joined ps)) ≡ [] → flat_map (λ p. faults_on e (rows_of_frame frame p)) ps ≡ []
none_joins e frame place [] r h = refl
none_joins e frame place (p ∷ ps) r h = let s = no_fault_on_either e frame place p (joined ps) r h in λ i. s.first i ++ none_joins e frame place ps r s.second i
