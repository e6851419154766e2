-- The value and the causes of a function, from the cells of its inputs.
use Rattle.std.proofs.Common.{◌≡◌, ℕ, ◌≤◌, ◌^◌, Bool, true, false, not, ◌&&◌, nat_lt, nat_eq, cond, List, [], ◌∷◌, ◌++◌, Some, Result, Ok, Err, ◌⊎◌, inl, inr, length, map, refl, sym, ◌∙◌, ap, subst, arith}
use Rattle.std.specs.List.{list_any}
use Rattle.std.proofs.lemmas.Bool.{ltb-false}
use Rattle.px_column.specs.Exploded.{element_kind}
use Rattle.px_column.specs.Interval.{compared_kind}
use Rattle.px_column.specs.Operator.{is_boolean_kind, kind_where}
use Rattle.px_column.specs.Prelude.{Kind, Slot, Refuses, booleans, lists, is_list_kind, kind_eq}
use Rattle.px_column.specs.Result.{◌>>=◌}
use Rattle.px_value.specs.declared.error.PxError.{PxError}
use Rattle.px_value.specs.declared.error.PxError.TheVariants.{InvalidOperation, ComputeError, ShapeMismatch}
use Rattle.px_value.specs.declared.error.InvalidWhy.{InvalidWhy}
use Rattle.px_value.specs.declared.error.InvalidWhy.TheVariants.{ListKey, Types}
use Rattle.px_value.specs.declared.error.ComputeWhy.TheVariants.{TooLong}
use Rattle.px_frame.specs.Cell.{Cell, unit, rows, list_of, count_of, cell_of, is_unit_cell}
use Rattle.px_frame.specs.External.{Frame, scope_of}
use Rattle.px_frame.specs.Spread.{NamedCell, column_of_cell, spread, rows_beside}
use Rattle.px_nodes.specs.Named.{function_named, kinds_of, cells_in, first_name, short, under}
use Rattle.px_column.specs.Function.{between_slot, is_null_slot, is_not_null_slot, not_slot, in_slot}
use Rattle.px_tree.specs.Node.{function_cell, map_cell, zip_three_cells}
use Rattle.px_tree.specs.Shape.{is_unit_call, is_unit_first, are_units}
use Rattle.px_tree.specs.Size.{count_on, size_on, sizes_on}
use Rattle.px_tree.specs.Tree.{Tree, Trees, called, no_trees, one_tree}
use Rattle.px_tree.specs.Typing.{function_kind, is_one_input_missing, or_first, own_refusals, refused_where}
use Rattle.px_tree.specs.Value.{fault_in, faults_on, all_faults_on, first_kind, outcome_on}
use Rattle.px_tree.specs.Value.{made as valued}
use Rattle.px_tree.specs.declared.context.Context.TheVariants.{Default}
use Rattle.px_tree.specs.declared.function.FunctionExpr.{FunctionExpr}
use Rattle.px_tree.specs.declared.function.FunctionExpr.TheVariants.{IsNull, IsNotNull, Not, IsBetween, IsIn, Explode}
use Rattle.px_answers.specs.Parts.{PlannedApply, apply_plan, plan_trees}
use Rattle.px_answers.specs.Planned.{Planned}
use Rattle.px_answers.specs.Value.{AreCellsOf, IsCause, IsCauseOfAny, IsCellOf, IsOneOf, IsValue, causes_on}
use Rattle.px_answers.proofs.Cells.{cell_is_value}
use Rattle.px_answers.proofs.Inputs.{IsAnswer, IsNode, all_faults_apart, all_refusals_apart, refused_cause}
use Rattle.px_answers.proofs.Plain.{is_plain}
use Rattle.px_answers.proofs.InputLists.{AreAsMany, AreInputs, among_right, are_unit_cells, cause_of_inputs, inputs_of, is_unit_first_cell}

-- an invalid operation, and rows that do not fit, are told as causes
pub invalid_cause : (e : PxError) (w : InvalidWhy) (p : Planned) (f : Frame) → e ≡ InvalidOperation w → IsOneOf e (causes_on p f) → IsCause e p f
invalid_cause e w p f i h = subst (λ x. IsCause x p f) (sym i) (subst (λ x. IsOneOf x (causes_on p f)) i h)

pub shape_cause : (e : PxError) (p : Planned) (f : Frame) → e ≡ ShapeMismatch → IsOneOf e (causes_on p f) → IsCause e p f
shape_cause e p f i h = subst (λ x. IsCause x p f) (sym i) (subst (λ x. IsOneOf x (causes_on p f)) i h)

-- how many inputs a function takes
pub no_input : (g : FunctionExpr) → function_kind g [] ≡ Err (InvalidOperation Types)
no_input IsNull = refl
no_input _ = refl

pub one_input : (g : FunctionExpr) (t : Tree) → is_one_input_missing g (one_tree t no_trees) ≡ false
one_input IsNull t = refl
one_input _ t = refl

pub more_inputs : (g : FunctionExpr) (t u : Tree) (ts : Trees) (j k : Kind) (ks : List Kind) → (is_one_input_missing g (one_tree t (one_tree u ts)) ≡ false) ⊎ (function_kind g (j ∷ k ∷ ks) ≡ Err (InvalidOperation Types))
more_inputs (IsBetween closed) t u ts j k ks = inl refl
more_inputs IsIn t u ts j k ks = inl refl
more_inputs _ t u ts j k ks = inr refl

-- where an input is missing, the types are refused
pub number_of_inputs : (g : FunctionExpr) (ts : Trees) (cs : List NamedCell) → AreAsMany ts cs → (is_one_input_missing g ts ≡ false) ⊎ (function_kind g (kinds_of cs) ≡ Err (InvalidOperation Types))
number_of_inputs g no_trees [] h = inr (no_input g)
number_of_inputs g no_trees (c ∷ cs) h = absurd h
number_of_inputs g (one_tree t ts) [] h = absurd h
number_of_inputs g (one_tree t no_trees) (c ∷ []) h = inl (one_input g t)
number_of_inputs g (one_tree t no_trees) (c ∷ d ∷ cs) h = absurd h
number_of_inputs g (one_tree t (one_tree u ts)) (c ∷ []) h = absurd h
number_of_inputs g (one_tree t (one_tree u ts)) (c ∷ d ∷ cs) h = more_inputs g t u ts c.kind d.kind (kinds_of cs)

-- why a function's types are refused
where_refused : (b : Bool) (k : Kind) (e : PxError) → kind_where b k ≡ Err e → e ≡ InvalidOperation Types
where_refused true k e h = absurd (cc h)
where_refused false k e h = let same : InvalidOperation Types ≡ e = cc in sym same

compared_refused : (k : Kind) (ks : List Kind) (e : PxError) → compared_kind k ks ≡ Err e → (w : InvalidWhy) × (e ≡ InvalidOperation w)
compared_refused k ks e h = by (list_any is_list_kind (k ∷ ks)) h
  where
    by : (b : Bool) → cond b (Err (InvalidOperation ListKey)) (kind_where (not (list_any (λ j. not (kind_eq k j)) ks)) booleans) ≡ Err e → (w : InvalidWhy) × (e ≡ InvalidOperation w)
    by true g = let same : InvalidOperation ListKey ≡ e = cc in (ListKey, sym same)
    by false g = (Types, where_refused (not (list_any (λ j. not (kind_eq k j)) ks)) booleans e g)

types_refused : {X : Type 0} (e : PxError) → ◌≡◌ {A = Result X PxError} (Err (InvalidOperation Types)) (Err e) → (w : InvalidWhy) × (e ≡ InvalidOperation w)
types_refused e h = let same : InvalidOperation Types ≡ e = cc in (Types, sym same)

element_refused : (k : Kind) (e : PxError) → element_kind k ≡ Err e → (w : InvalidWhy) × (e ≡ InvalidOperation w)
element_refused (lists k) e h = absurd (cc h)
element_refused _ e h = types_refused e h

one_refused : (g : FunctionExpr) (k : Kind) (e : PxError) → function_kind g (k ∷ []) ≡ Err e → (w : InvalidWhy) × (e ≡ InvalidOperation w)
one_refused Not k e h = (Types, where_refused (is_boolean_kind k) booleans e h)
one_refused (IsBetween closed) k e h = types_refused e h
one_refused IsIn k e h = types_refused e h
one_refused Explode k e h = element_refused k e h
one_refused _ k e h = absurd (cc h)

two_refused : (g : FunctionExpr) (j k : Kind) (e : PxError) → function_kind g (j ∷ k ∷ []) ≡ Err e → (w : InvalidWhy) × (e ≡ InvalidOperation w)
two_refused IsIn j k e h = compared_refused j (k ∷ []) e h
two_refused _ j k e h = types_refused e h

three_refused : (g : FunctionExpr) (i j k : Kind) (e : PxError) → function_kind g (i ∷ j ∷ k ∷ []) ≡ Err e → (w : InvalidWhy) × (e ≡ InvalidOperation w)
three_refused (IsBetween closed) i j k e h = compared_refused i (j ∷ k ∷ []) e h
three_refused _ i j k e h = types_refused e h

more_refused : (g : FunctionExpr) (i j k l : Kind) (ks : List Kind) (e : PxError) → function_kind g (i ∷ j ∷ k ∷ l ∷ ks) ≡ Err e → (w : InvalidWhy) × (e ≡ InvalidOperation w)
more_refused IsNull i j k l ks e h = types_refused e h
more_refused _ i j k l ks e h = types_refused e h

pub kind_refused : (g : FunctionExpr) (ks : List Kind) (e : PxError) → function_kind g ks ≡ Err e → (w : InvalidWhy) × (e ≡ InvalidOperation w)
kind_refused g [] e h = types_refused e (sym (no_input g) ∙ h)
kind_refused g (k ∷ []) e h = one_refused g k e h
kind_refused g (j ∷ k ∷ []) e h = two_refused g j k e h
kind_refused g (i ∷ j ∷ k ∷ []) e h = three_refused g i j k e h
kind_refused g (i ∷ j ∷ k ∷ l ∷ ks) e h = more_refused g i j k l ks e h

-- why a function has a fault
abbrev IsFaultKind : PxError → Type 0
IsFaultKind e = (e ≡ ShapeMismatch) ⊎ (e ≡ InvalidOperation Types)

pub spread_refused : (n : ℕ) (c : Cell) (e : PxError) → spread n c ≡ Err e → e ≡ ShapeMismatch
spread_refused n (unit s) e h = absurd (cc h)
spread_refused n (rows xs) e h = by (nat_eq (length xs) n) h
  where
    by : (b : Bool) → cond b (Ok xs) (Err ShapeMismatch) ≡ Err e → e ≡ ShapeMismatch
    by true g = absurd (cc g)
    by false g = let same : ShapeMismatch ≡ e = cc in sym same

-- three answers in a row
three_refusals : {X Y : Type 0} (a b c : Result X PxError) (make : X → X → X → Y) (e : PxError) → (a >>= λ x. b >>= λ y. c >>= λ z. Ok (make x y z)) ≡ Err e → (a ≡ Err e) ⊎ ((b ≡ Err e) ⊎ (c ≡ Err e))
three_refusals (Err w) b c make e h = let same : w ≡ e = cc in inl (ap Err same)
three_refusals (Ok x) (Err w) c make e h = let same : w ≡ e = cc in inr (inl (ap Err same))
three_refusals (Ok x) (Ok y) (Err w) make e h = let same : w ≡ e = cc in inr (inr (ap Err same))
three_refusals (Ok x) (Ok y) (Ok z) make e h = absurd (cc h)

three_made : {X : Type 0} (a b c : Result X PxError) (u : Bool) (make : X → X → X → List Slot) (d : Cell) → (a >>= λ x. b >>= λ y. c >>= λ z. Ok (cell_of u (make x y z))) ≡ Ok d → is_unit_cell d ≡ u
three_made (Err w) b c u make d h = absurd (cc h)
three_made (Ok x) (Err w) c u make d h = absurd (cc h)
three_made (Ok x) (Ok y) (Err w) u make d h = absurd (cc h)
three_made (Ok x) (Ok y) (Ok z) u make d h = let same : cell_of u (make x y z) ≡ d = cc in ap is_unit_cell (sym same) ∙ by u (make x y z)
  where
    by : (v : Bool) (xs : List Slot) → is_unit_cell (cell_of v xs) ≡ v
    by true xs = refl
    by false xs = refl

three_fault : (g : Slot → Slot → Slot → Slot) (a b c : Cell) (e : PxError) → zip_three_cells g a b c ≡ Err e → IsFaultKind e
three_fault g a b c e h =
    by (three_refusals (spread (rows_beside (a ∷ b ∷ c ∷ [])) a) (spread (rows_beside (a ∷ b ∷ c ∷ [])) b) (spread (rows_beside (a ∷ b ∷ c ∷ [])) c) _ e h)
  where
    by : (spread (rows_beside (a ∷ b ∷ c ∷ [])) a ≡ Err e) ⊎ ((spread (rows_beside (a ∷ b ∷ c ∷ [])) b ≡ Err e) ⊎ (spread (rows_beside (a ∷ b ∷ c ∷ [])) c ≡ Err e)) → IsFaultKind e
    by (inl k) = inl (spread_refused (rows_beside (a ∷ b ∷ c ∷ [])) a e k)
    by (inr (inl k)) = inl (spread_refused (rows_beside (a ∷ b ∷ c ∷ [])) b e k)
    by (inr (inr k)) = inl (spread_refused (rows_beside (a ∷ b ∷ c ∷ [])) c e k)

types_fault : {X : Type 0} (e : PxError) → ◌≡◌ {A = Result X PxError} (Err (InvalidOperation Types)) (Err e) → IsFaultKind e
types_fault e h = let same : InvalidOperation Types ≡ e = cc in inr (sym same)

no_fault : (g : FunctionExpr) (k : Kind) (e : PxError) → function_cell g k [] ≡ Err e → IsFaultKind e
no_fault IsNull k e h = types_fault e h
no_fault _ k e h = types_fault e h

one_fault : (g : FunctionExpr) (k : Kind) (a : Cell) (e : PxError) → function_cell g k (a ∷ []) ≡ Err e → IsFaultKind e
one_fault (IsBetween closed) k a e h = types_fault e h
one_fault IsIn k a e h = types_fault e h
one_fault _ k a e h = absurd (cc h)

two_fault : (g : FunctionExpr) (k : Kind) (a b : Cell) (e : PxError) → function_cell g k (a ∷ b ∷ []) ≡ Err e → IsFaultKind e
two_fault IsIn k a b e h = absurd (cc h)
two_fault _ k a b e h = types_fault e h

between_fault : (g : FunctionExpr) (k : Kind) (a b c : Cell) (e : PxError) → function_cell g k (a ∷ b ∷ c ∷ []) ≡ Err e → IsFaultKind e
between_fault (IsBetween closed) k a b c e h = three_fault (between_slot k closed) a b c e h
between_fault _ k a b c e h = types_fault e h

more_fault : (g : FunctionExpr) (k : Kind) (a b c d : Cell) (cs : List Cell) (e : PxError) → function_cell g k (a ∷ b ∷ c ∷ d ∷ cs) ≡ Err e → IsFaultKind e
more_fault IsNull k a b c d cs e h = types_fault e h
more_fault _ k a b c d cs e h = types_fault e h

function_fault : (g : FunctionExpr) (k : Kind) (cs : List Cell) (e : PxError) → function_cell g k cs ≡ Err e → IsFaultKind e
function_fault g k [] e h = no_fault g k e h
function_fault g k (a ∷ []) e h = one_fault g k a e h
function_fault g k (a ∷ b ∷ []) e h = two_fault g k a b e h
function_fault g k (a ∷ b ∷ c ∷ []) e h = between_fault g k a b c e h
function_fault g k (a ∷ b ∷ c ∷ d ∷ cs) e h = more_fault g k a b c d cs e h

-- a function's value is a unit where its inputs' are
map_unit : (g : Slot → Slot) (a d : Cell) → ◌≡◌ {A = Result Cell PxError} (Ok (map_cell g a)) (Ok d) → is_unit_cell d ≡ is_unit_cell a
map_unit g (unit s) d h = let same : unit (g s) ≡ d = cc in ap is_unit_cell (sym same)
map_unit g (rows xs) d h = let same : rows (map g xs) ≡ d = cc in ap is_unit_cell (sym same)

made_unit : (a d : Cell) → ◌≡◌ {A = Result Cell PxError} (Ok a) (Ok d) → is_unit_cell d ≡ is_unit_cell a
made_unit a d h = let same : a ≡ d = cc in ap is_unit_cell (sym same)

none_unit : (g : FunctionExpr) (k : Kind) (d : Cell) → function_cell g k [] ≡ Ok d → is_unit_cell d ≡ is_unit_call g false true
none_unit IsNull k d h = absurd (cc h)
none_unit _ k d h = absurd (cc h)

one_unit : (g : FunctionExpr) (k : Kind) (a d : Cell) → function_cell g k (a ∷ []) ≡ Ok d → is_unit_cell d ≡ is_unit_call g (is_unit_cell a) (is_unit_cell a && true)
one_unit IsNull k a d h = map_unit is_null_slot a d h
one_unit IsNotNull k a d h = map_unit is_not_null_slot a d h
one_unit Not k a d h = map_unit not_slot a d h
one_unit (IsBetween closed) k a d h = absurd (cc h)
one_unit IsIn k a d h = absurd (cc h)
one_unit _ k a d h = made_unit _ d h

two_unit : (g : FunctionExpr) (k : Kind) (a b d : Cell) (all : Bool) → function_cell g k (a ∷ b ∷ []) ≡ Ok d → is_unit_cell d ≡ is_unit_call g (is_unit_cell a) all
two_unit IsIn k a b d all h = map_unit (in_slot (list_of b)) a d h
two_unit _ k a b d all h = absurd (cc h)

three_unit : (g : FunctionExpr) (k : Kind) (a b c d : Cell) → function_cell g k (a ∷ b ∷ c ∷ []) ≡ Ok d → is_unit_cell d ≡ is_unit_call g (is_unit_cell a) (is_unit_cell a && (is_unit_cell b && (is_unit_cell c && true)))
three_unit (IsBetween closed) k a b c d h =
    three_made (spread (rows_beside (a ∷ b ∷ c ∷ [])) a) (spread (rows_beside (a ∷ b ∷ c ∷ [])) b) (spread (rows_beside (a ∷ b ∷ c ∷ [])) c) (is_unit_cell a && (is_unit_cell b && is_unit_cell c)) _ d h
    ∙ ap (λ x. is_unit_cell a && (is_unit_cell b && x)) (by (is_unit_cell c))
  where
    by : (x : Bool) → x ≡ (x && true)
    by true = refl
    by false = refl
three_unit _ k a b c d h = absurd (cc h)

more_unit : (g : FunctionExpr) (k : Kind) (a b c l : Cell) (cs : List Cell) (d : Cell) (all : Bool) → function_cell g k (a ∷ b ∷ c ∷ l ∷ cs) ≡ Ok d → is_unit_cell d ≡ is_unit_call g (is_unit_cell a) all
more_unit IsNull k a b c l cs d all h = absurd (cc h)
more_unit _ k a b c l cs d all h = absurd (cc h)

pub function_unit : (g : FunctionExpr) (k : Kind) (cs : List Cell) (d : Cell) → function_cell g k cs ≡ Ok d → is_unit_cell d ≡ is_unit_call g (is_unit_first_cell cs) (are_unit_cells cs)
function_unit g k [] d h = none_unit g k d h
function_unit g k (a ∷ []) d h = one_unit g k a d h
function_unit g k (a ∷ b ∷ []) d h = two_unit g k a b d (are_unit_cells (a ∷ b ∷ [])) h
function_unit g k (a ∷ b ∷ c ∷ []) d h = three_unit g k a b c d h
function_unit g k (a ∷ b ∷ c ∷ l ∷ cs) d h = more_unit g k a b c l cs d (are_unit_cells (a ∷ b ∷ c ∷ l ∷ cs)) h

-- what a named answer was made of
record IsMadeOf (kind : Result Kind PxError) (name : List ℕ) (made : Result Cell PxError) (c : NamedCell) : Type 0 where
  pub kind_is : kind ≡ Ok c.kind
  pub cell_is : made ≡ Ok c.cell
  pub name_is : name ≡ c.name

made_of : (kind : Result Kind PxError) (name : List ℕ) (made : Result Cell PxError) (c : NamedCell) → (kind >>= λ k. under name k (made >>= short)) ≡ Ok c → IsMadeOf kind name made c
made_of (Err w) name made c h = absurd (cc h)
made_of (Ok k) name (Err w) c h = absurd (cc h)
made_of (Ok k) name (Ok d) c h = by (nat_lt (count_of d) (2 ^ 32)) h
  where
    by : (b : Bool) → under name k (cond b (Ok d) (Err (ComputeError TooLong))) ≡ Ok c → IsMadeOf (Ok k) name (Ok d) c
    by true g =
        let same : record { name = name; kind = k; cell = d } ≡ c = cc in
        record { kind_is = ap (λ (x : NamedCell). Ok x.kind) same; cell_is = ap (λ (x : NamedCell). Ok x.cell) same; name_is = ap (λ (x : NamedCell). x.name) same }
    by false g = absurd (cc g)

-- why there is none
abbrev IsRefusedBy : Result Kind PxError → Result Cell PxError → PxError → Type 0
IsRefusedBy kind made e = (kind ≡ Err e) ⊎ ((made ≡ Err e) ⊎ ((e ≡ ComputeError TooLong) × ((d : Cell) × ((made ≡ Ok d) × (2 ^ 32 ≤ count_of d)))))

refused_by : (kind : Result Kind PxError) (name : List ℕ) (made : Result Cell PxError) (e : PxError) → (kind >>= λ k. under name k (made >>= short)) ≡ Err e → IsRefusedBy kind made e
refused_by (Err w) name made e h = let same : w ≡ e = cc in inl (ap Err same)
refused_by (Ok k) name (Err w) e h = let same : w ≡ e = cc in inr (inl (ap Err same))
refused_by (Ok k) name (Ok d) e h = by (nat_lt (count_of d) (2 ^ 32)) refl h
  where
    by : (b : Bool) → nat_lt (count_of d) (2 ^ 32) ≡ b → under name k (cond b (Ok d) (Err (ComputeError TooLong))) ≡ Err e → IsRefusedBy (Ok k) (Ok d) e
    by true l g = absurd (cc g)
    by false l g = let same : ComputeError TooLong ≡ e = cc in inr (inr (sym same, (d, (refl, ltb-false (count_of d) (2 ^ 32) l))))

module _ (a : PlannedApply) (f : Frame) (cs : List NamedCell) (are : AreCellsOf a.inputs f cs) where
  inputs : AreInputs a.inputs f cs
  inputs = inputs_of a.inputs f cs are

  outcome : outcome_on (apply_plan a).tree f ≡ Some (function_cell (called a.call) (first_kind (kinds_of cs)) (cells_in cs))
  outcome = rw (inputs.kinds, inputs.cells) refl

  -- its own refusal
  own_refusal : (b : Bool) (e w : PxError) (us ms fs : List PxError) → (b ≡ true → e ≡ w) → IsOneOf e (or_first [] (refused_where b w ++ [] ++ e ∷ []) ++ us ++ ms ++ fs)
  own_refusal true e w us ms fs h = inl (h refl)
  own_refusal false e w us ms fs h = inl refl

  kind_cause : (e : PxError) → function_kind (called a.call) (kinds_of cs) ≡ Err e → IsOneOf e (causes_on (apply_plan a) f)
  kind_cause e h = rw (inputs.refused, inputs.kinds, h) (own_refusal (is_one_input_missing (called a.call) (plan_trees a.inputs)) e (InvalidOperation Types) _ _ _ (λ m. by m (number_of_inputs (called a.call) (plan_trees a.inputs) cs inputs.as_many)))
    where
      by : is_one_input_missing (called a.call) (plan_trees a.inputs) ≡ true → (is_one_input_missing (called a.call) (plan_trees a.inputs) ≡ false) ⊎ (function_kind (called a.call) (kinds_of cs) ≡ Err (InvalidOperation Types)) → e ≡ InvalidOperation Types
      by m (inl n) = absurd (cc (sym m ∙ n))
      by m (inr n) = let same : ◌≡◌ {A = Result Kind PxError} (Err e) (Err (InvalidOperation Types)) = sym h ∙ n in cc

  fault_among : (e : PxError) → function_cell (called a.call) (first_kind (kinds_of cs)) (cells_in cs) ≡ Err e → IsOneOf e (faults_on (apply_plan a).tree f)
  fault_among e h = among_right e (all_faults_on (plan_trees a.inputs) f) (fault_in (outcome_on (apply_plan a).tree f)) (subst (λ o. IsOneOf e (fault_in o)) (sym (outcome ∙ ap Some h)) (inl refl))

  fault_cause : (e : PxError) → function_cell (called a.call) (first_kind (kinds_of cs)) (cells_in cs) ≡ Err e → IsOneOf e (causes_on (apply_plan a) f)
  fault_cause e h = among_right e _ (faults_on (apply_plan a).tree f) (fault_among e h)

  too_many : (d : Cell) → function_cell (called a.call) (first_kind (kinds_of cs)) (cells_in cs) ≡ Ok d → 2 ^ 32 ≤ count_of d → 2 ^ 32 ≤ count_on (apply_plan a).tree f
  too_many d h l = let count : count_on (apply_plan a).tree f ≡ count_of d = rw (outcome, h) refl in omega (arith, count, l)

  size_cause : (d : Cell) → function_cell (called a.call) (first_kind (kinds_of cs)) (cells_in cs) ≡ Ok d → 2 ^ 32 ≤ count_of d → 2 ^ 32 ≤ size_on (apply_plan a).tree (f ∷ [])
  size_cause d h l = let count = too_many d h l in omega (arith, count)

  pub apply_cell_of : (c : NamedCell) → function_named (called a.call) cs ≡ Ok c → IsCellOf (apply_plan a) f c
  apply_cell_of c h = record {
    sound = rw (inputs.refused, inputs.found, inputs.fits, inputs.faults, inputs.kinds, inputs.cells, made.kind_is, made.cell_is) (own_none (is_one_input_missing (called a.call) (plan_trees a.inputs)) (by (number_of_inputs (called a.call) (plan_trees a.inputs) cs inputs.as_many)));
    name = sym made.name_is ∙ inputs.name;
    kind = rw (inputs.kinds, made.kind_is) refl;
    value = ap valued (outcome ∙ ap Some made.cell_is);
    shape = is_unit;
  }
    where
      made : IsMadeOf (function_kind (called a.call) (kinds_of cs)) (first_name cs) (function_cell (called a.call) (first_kind (kinds_of cs)) (cells_in cs)) c
      made = made_of (function_kind (called a.call) (kinds_of cs)) (first_name cs) (function_cell (called a.call) (first_kind (kinds_of cs)) (cells_in cs)) c h

      by : (is_one_input_missing (called a.call) (plan_trees a.inputs) ≡ false) ⊎ (function_kind (called a.call) (kinds_of cs) ≡ Err (InvalidOperation Types)) → is_one_input_missing (called a.call) (plan_trees a.inputs) ≡ false
      by (inl n) = n
      by (inr n) = absurd (cc (sym n ∙ made.kind_is))

      own_none : (b : Bool) → b ≡ false → or_first [] (refused_where b (InvalidOperation Types) ++ [] ++ []) ++ [] ++ refused_where false ShapeMismatch ++ [] ≡ []
      own_none true g = absurd (cc g)
      own_none false g = refl

      is_unit : is_unit_cell c.cell ≡ is_unit_call (called a.call) (is_unit_first (plan_trees a.inputs)) (are_units (plan_trees a.inputs))
      is_unit = rw (← inputs.first, ← inputs.units) (function_unit (called a.call) (first_kind (kinds_of cs)) (cells_in cs) c.cell made.cell_is)

  plain_fault : (e : PxError) → IsFaultKind e → is_plain e ≡ true
  plain_fault e (inl i) = subst (λ x. is_plain x ≡ true) (sym i) refl
  plain_fault e (inr i) = subst (λ x. is_plain x ≡ true) (sym i) refl

  pub apply_answer : IsAnswer (apply_plan a) f (function_kind (called a.call) (kinds_of cs)) (function_named (called a.call) cs)
  apply_answer = by (function_named (called a.call) cs) refl
    where
      told : (e : PxError) → IsRefusedBy (function_kind (called a.call) (kinds_of cs)) (function_cell (called a.call) (first_kind (kinds_of cs)) (cells_in cs)) e → IsAnswer (apply_plan a) f (function_kind (called a.call) (kinds_of cs)) (Err e)
      told e (inl k) = inl k
      told e (inr (inl k)) = inr (inl (plain_fault e (function_fault (called a.call) (first_kind (kinds_of cs)) (cells_in cs) e k), fault_among e k))
      told e (inr (inr k)) = inr (inr (k.0, too_many k.1.0 k.1.1.0 k.1.1.1))

      by : (r : Result NamedCell PxError) → function_named (called a.call) cs ≡ r → IsAnswer (apply_plan a) f (function_kind (called a.call) (kinds_of cs)) r
      by (Ok c) h = apply_cell_of c h
      by (Err e) h = told e (refused_by (function_kind (called a.call) (kinds_of cs)) (first_name cs) (function_cell (called a.call) (first_kind (kinds_of cs)) (cells_in cs)) e h)

  pub apply_value : (c : NamedCell) → function_named (called a.call) cs ≡ Ok c → IsValue (apply_plan a) f (column_of_cell c)
  apply_value c h = cell_is_value (apply_plan a) f c (apply_cell_of c h)

  -- what is refused is among the causes, or there are too many values
  pub apply_lacks : (e : PxError) → function_named (called a.call) cs ≡ Err e → IsOneOf e (causes_on (apply_plan a) f) ⊎ (2 ^ 32 ≤ size_on (apply_plan a).tree (f ∷ []))
  apply_lacks e h = by (refused_by (function_kind (called a.call) (kinds_of cs)) (first_name cs) (function_cell (called a.call) (first_kind (kinds_of cs)) (cells_in cs)) e h)
    where
      by : IsRefusedBy (function_kind (called a.call) (kinds_of cs)) (function_cell (called a.call) (first_kind (kinds_of cs)) (cells_in cs)) e → IsOneOf e (causes_on (apply_plan a) f) ⊎ (2 ^ 32 ≤ size_on (apply_plan a).tree (f ∷ []))
      by (inl k) = inl (kind_cause e k)
      by (inr (inl k)) = inl (fault_cause e k)
      by (inr (inr k)) = inr (size_cause k.1.0 k.1.1.0 k.1.1.1)

  apply_cause : (e : PxError) → function_named (called a.call) cs ≡ Err e → IsCause e (apply_plan a) f
  apply_cause e h = by (refused_by (function_kind (called a.call) (kinds_of cs)) (first_name cs) (function_cell (called a.call) (first_kind (kinds_of cs)) (cells_in cs)) e h)
    where
      fault : function_cell (called a.call) (first_kind (kinds_of cs)) (cells_in cs) ≡ Err e → IsFaultKind e → IsCause e (apply_plan a) f
      fault k (inl i) = shape_cause e (apply_plan a) f i (fault_cause e k)
      fault k (inr i) = invalid_cause e Types (apply_plan a) f i (fault_cause e k)

      by : IsRefusedBy (function_kind (called a.call) (kinds_of cs)) (function_cell (called a.call) (first_kind (kinds_of cs)) (cells_in cs)) e → IsCause e (apply_plan a) f
      by (inl k) = let w = kind_refused (called a.call) (kinds_of cs) e k in invalid_cause e w.0 (apply_plan a) f w.1 (kind_cause e k)
      by (inr (inl k)) = fault k (function_fault (called a.call) (first_kind (kinds_of cs)) (cells_in cs) e k)
      by (inr (inr k)) = subst (λ x. IsCause x (apply_plan a) f) (sym k.0) (size_cause k.1.0 k.1.1.0 k.1.1.1)

  pub apply_refusal : (e : PxError) → Refuses e (function_named (called a.call) cs) → IsCause e (apply_plan a) f
  apply_refusal e h = refused_cause e (function_named (called a.call) cs) (apply_plan a) f (apply_cause e) h

-- what a function has of its inputs
pub apply_node : (a : PlannedApply) (f : Frame) → IsNode (apply_plan a) a.inputs f
apply_node a f = record {
  refusals = λ place. ap (λ rs. or_first rs (own_refusals (apply_plan a).tree (scope_of f) place)) (all_refusals_apart (scope_of f) place a.inputs);
  columns = refl;
  faults = ap (λ es. es ++ fault_in (outcome_on (apply_plan a).tree f)) (all_faults_apart f a.inputs);
  sizes = λ fs. omega arith;
}

-- an input's cause is the function's
pub apply_input_cause : (e : PxError) (a : PlannedApply) (f : Frame) → IsCauseOfAny e a.inputs f → IsCause e (apply_plan a) f
apply_input_cause e a f h =
    cause_of_inputs e a.inputs (apply_plan a) f (own_refusals (apply_plan a).tree (scope_of f) Default) (fault_in (outcome_on (apply_plan a).tree f)) refl refl refl
    (λ (b : 2 ^ 32 ≤ sizes_on (plan_trees a.inputs) (f ∷ [])). omega (arith, b)) h
