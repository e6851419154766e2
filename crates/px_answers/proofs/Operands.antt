-- Nodes that work row by row: operators, ternaries and casts, from the cells of their inputs.
use Rattle.std.proofs.Common.{◌≡◌, ℕ, Bool, true, false, cond, not, ◌&&◌, List, [], ◌∷◌, ◌++◌, Option, Some, Result, Ok, Err, IfOk, inl, inr, map, refl, sym, ◌∙◌, ap, subst, arith}
use Rattle.std.specs.List.{zip}
use Rattle.px_column.specs.Cast.{cast_kind, cast_slot, cast_slots, is_cast}
use Rattle.px_column.specs.Chosen.{chosen}
use Rattle.px_column.specs.Operator.{is_boolean_kind, kind_where, operated, operator_kind}
use Rattle.px_column.specs.Prelude.{Slot, Kind, Refuses, kind_eq}
use Rattle.px_column.specs.Result.{◌>>=◌}
use Rattle.px_value.specs.declared.cast_options.CastOptions.{CastOptions}
use Rattle.px_value.specs.declared.error.PxError.{PxError}
use Rattle.px_value.specs.declared.error.PxError.TheVariants.{SchemaMismatch}
use Rattle.px_frame.specs.Cell.{Cell, unit, rows, cell_of, is_unit_cell}
use Rattle.px_frame.specs.External.{Frame, scope_of}
use Rattle.px_frame.specs.Spread.{NamedCell, column_of_cell, rows_beside, spread}
use Rattle.px_nodes.specs.Named.{under, binary_named, ternary_named, cast_named}
use Rattle.px_tree.specs.Node.{binary_cell, ternary_cell, cast_cell, zip_cells, zip_three_cells}
use Rattle.px_tree.specs.Typing.{kind_in, made_kind, refusals_of, own_refusals, or_first, refusal_of, refused_where}
use Rattle.px_tree.specs.Value.{outcome_on, fault_in, faults_on}
use Rattle.px_tree.specs.declared.context.Context.TheVariants.{Default}
use Rattle.px_answers.proofs.Cells.{cell_is_value, unit_cell_of}
use Rattle.px_answers.proofs.Inputs.{IsNode, Decides, IsAnswer, answer_of, cause_above, made_among, made_cell, made_cause, refused_cause, one_apart, two_apart, three_apart, one_none, two_none, three_none}
use Rattle.px_answers.proofs.Plain.{Plain, plain_if, plain_then, plain_where, plain_operator, plain_spread, plain_cast_slot, plain_cast_slots}
use Rattle.px_answers.specs.Parts.{PlannedBinary, PlannedTernary, PlannedCast, binary_plan, ternary_plan, cast_plan}
use Rattle.px_answers.specs.Value.{IsCause, IsCellOf, IsOneOf, IsValue, causes_on}

-- the first refusal of a type is the whole of it
pub first_refusal : (r : Result Kind PxError) → or_first [] (refusal_of r) ≡ refusal_of r
first_refusal (Ok k) = refl
first_refusal (Err e) = refl

-- a refusal comes before that of a type
pub first_guarded : (t : Bool) (e : PxError) (r : Result Kind PxError) → or_first [] (refused_where (not t) e ++ refusal_of r) ≡ refusal_of (cond t r (Err e))
first_guarded true e r = first_refusal r
first_guarded false e r = refl

pub kind_made : (r : Result Kind PxError) → IfOk r (λ k. made_kind r ≡ Some k)
kind_made (Ok k) = refl
kind_made (Err e) = tt

-- a type behind a test
pub guarded_then : (t : Bool) (e : PxError) (r : Result Kind PxError) (next : Kind → Result NamedCell PxError) → cond t (r >>= next) (Err e) ≡ (cond t r (Err e) >>= next)
guarded_then true e r next = refl
guarded_then false e r next = refl

-- what is made of spread cells
spread_then : (n : ℕ) (c : Cell) (next : List Slot → Result Cell PxError) (u : Bool) → ((xs : List Slot) → IfOk (next xs) (λ d. is_unit_cell d ≡ u)) → IfOk (spread n c >>= next) (λ d. is_unit_cell d ≡ u)
spread_then n c next u w = by (spread n c)
  where
    by : (r : Result (List Slot) PxError) → IfOk (r >>= next) (λ d. is_unit_cell d ≡ u)
    by (Ok xs) = w xs
    by (Err e) = tt

-- cells row by row are a unit where each is one
zip_shape : (g : Slot → Slot → Slot) (a b : Cell) → IfOk (zip_cells g a b) (λ c. is_unit_cell c ≡ (is_unit_cell a && is_unit_cell b))
zip_shape g a b =
    let n = rows_beside (a ∷ b ∷ []) in
    let u = is_unit_cell a && is_unit_cell b in
    let result : List Slot → List Slot → Result Cell PxError = λ xs ys. Ok (cell_of u (map (λ (p : Slot × Slot). g p.0 p.1) (zip xs ys))) in
    spread_then n a (λ xs. spread n b >>= result xs) u (λ xs. spread_then n b (result xs) u (λ ys. unit_cell_of u (map (λ (p : Slot × Slot). g p.0 p.1) (zip xs ys))))

zip_plain : (g : Slot → Slot → Slot) (a b : Cell) → Plain (zip_cells g a b)
zip_plain g a b =
    let n = rows_beside (a ∷ b ∷ []) in
    let result : List Slot → List Slot → Result Cell PxError = λ xs ys. Ok (cell_of (is_unit_cell a && is_unit_cell b) (map (λ (p : Slot × Slot). g p.0 p.1) (zip xs ys))) in
    plain_then (spread n a) (λ xs. spread n b >>= result xs) (plain_spread n a) (λ xs. plain_then (spread n b) (result xs) (plain_spread n b) (λ ys. tt))

zip_three_shape : (g : Slot → Slot → Slot → Slot) (a b c : Cell) → IfOk (zip_three_cells g a b c) (λ d. is_unit_cell d ≡ (is_unit_cell a && (is_unit_cell b && is_unit_cell c)))
zip_three_shape g a b c =
    let n = rows_beside (a ∷ b ∷ c ∷ []) in
    let u = is_unit_cell a && (is_unit_cell b && is_unit_cell c) in
    let result : List Slot → List Slot → List Slot → Result Cell PxError = λ xs ys zs. Ok (cell_of u (map (λ (p : Slot × (Slot × Slot)). g p.0 p.1.0 p.1.1) (zip xs (zip ys zs)))) in
    spread_then n a (λ xs. spread n b >>= λ ys. spread n c >>= result xs ys) u
    (λ xs. spread_then n b (λ ys. spread n c >>= result xs ys) u
    (λ ys. spread_then n c (result xs ys) u
    (λ zs. unit_cell_of u (map (λ (p : Slot × (Slot × Slot)). g p.0 p.1.0 p.1.1) (zip xs (zip ys zs))))))

zip_three_plain : (g : Slot → Slot → Slot → Slot) (a b c : Cell) → Plain (zip_three_cells g a b c)
zip_three_plain g a b c =
    let n = rows_beside (a ∷ b ∷ c ∷ []) in
    let u = is_unit_cell a && (is_unit_cell b && is_unit_cell c) in
    let result : List Slot → List Slot → List Slot → Result Cell PxError = λ xs ys zs. Ok (cell_of u (map (λ (p : Slot × (Slot × Slot)). g p.0 p.1.0 p.1.1) (zip xs (zip ys zs)))) in
    plain_then (spread n a) (λ xs. spread n b >>= λ ys. spread n c >>= result xs ys) (plain_spread n a)
    (λ xs. plain_then (spread n b) (λ ys. spread n c >>= result xs ys) (plain_spread n b)
    (λ ys. plain_then (spread n c) (result xs ys) (plain_spread n c) (λ zs. tt)))

cast_shape : (from to : Kind) (o : CastOptions) (c : Cell) → IfOk (cast_cell from to o c) (λ d. is_unit_cell d ≡ is_unit_cell c)
cast_shape from to o (unit s) = by (cast_slot from to o s)
  where
    by : (r : Result Slot PxError) → IfOk (r >>= λ t. Ok (unit t)) (λ d. is_unit_cell d ≡ true)
    by (Ok t) = refl
    by (Err e) = tt
cast_shape from to o (rows xs) = by (cast_slots from to o xs)
  where
    by : (r : Result (List Slot) PxError) → IfOk (r >>= λ ys. Ok (rows ys)) (λ d. is_unit_cell d ≡ false)
    by (Ok ys) = refl
    by (Err e) = tt

cast_plain : (from to : Kind) (o : CastOptions) (c : Cell) → Plain (cast_cell from to o c)
cast_plain from to o (unit s) = plain_then (cast_slot from to o s) _ (plain_cast_slot from to o s) (λ t. tt)
cast_plain from to o (rows xs) = plain_then (cast_slots from to o xs) _ (plain_cast_slots from to o xs) (λ ys. tt)

-- operators
pub binary_node : (b : PlannedBinary) (f : Frame) → IsNode (binary_plan b) (b.left ∷ b.right ∷ []) f
binary_node b f = record {
  refusals = λ place. ap (λ rs. or_first rs (own_refusals (binary_plan b).tree (scope_of f) place)) (two_apart (refusals_of b.left.tree (scope_of f) place) (refusals_of b.right.tree (scope_of f) place));
  columns = two_apart b.left.columns b.right.columns;
  faults = ap (λ es. es ++ fault_in (outcome_on (binary_plan b).tree f)) (two_apart (faults_on b.left.tree f) (faults_on b.right.tree f));
  sizes = λ fs. omega arith;
}

binary_decides : (b : PlannedBinary) (f : Frame) (x y : NamedCell) → IsCellOf b.left f x → IsCellOf b.right f y
    → Decides (binary_plan b) (b.left ∷ b.right ∷ []) f x.name (operator_kind b.op x.kind y.kind) (binary_cell x.kind b.op x.cell y.cell)
binary_decides b f x y h k = record {
  node = binary_node b f;
  sound = two_none (causes_on b.left f) (causes_on b.right f) h.sound k.sound;
  own = rw (h.kind, k.kind) (first_refusal (operator_kind b.op x.kind y.kind));
  kind = rw (h.kind, k.kind) (kind_made (operator_kind b.op x.kind y.kind));
  outcome = rw (h.kind, h.value, k.value) refl;
  named = h.name;
  shape = rw (← h.shape, ← k.shape) (zip_shape (operated x.kind b.op) x.cell y.cell);
  plain_type = plain_operator b.op x.kind y.kind;
  plain_cell = zip_plain (operated x.kind b.op) x.cell y.cell;
}

pub binary_answer : (b : PlannedBinary) (f : Frame) (x y : NamedCell) → IsCellOf b.left f x → IsCellOf b.right f y → IsAnswer (binary_plan b) f (operator_kind b.op x.kind y.kind) (binary_named b.op x y)
binary_answer b f x y h k =
    answer_of (binary_plan b) (b.left ∷ b.right ∷ []) f x.name (operator_kind b.op x.kind y.kind) (binary_cell x.kind b.op x.cell y.cell) (binary_decides b f x y h k)

pub binary_cell_of : (b : PlannedBinary) (f : Frame) (x y c : NamedCell) → IsCellOf b.left f x → IsCellOf b.right f y → binary_named b.op x y ≡ Ok c → IsCellOf (binary_plan b) f c
binary_cell_of b f x y c h k m =
    made_cell (binary_plan b) (b.left ∷ b.right ∷ []) f x.name (operator_kind b.op x.kind y.kind) (binary_cell x.kind b.op x.cell y.cell) c (binary_decides b f x y h k) m

pub binary_value : (b : PlannedBinary) (f : Frame) (x y c : NamedCell) → IsCellOf b.left f x → IsCellOf b.right f y → binary_named b.op x y ≡ Ok c → IsValue (binary_plan b) f (column_of_cell c)
binary_value b f x y c h k m = cell_is_value (binary_plan b) f c (binary_cell_of b f x y c h k m)

pub binary_cause : (e : PxError) (b : PlannedBinary) (f : Frame) (x y : NamedCell) → IsCellOf b.left f x → IsCellOf b.right f y → Refuses e (binary_named b.op x y) → IsCause e (binary_plan b) f
binary_cause e b f x y h k =
    refused_cause e (binary_named b.op x y) (binary_plan b) f (made_cause (binary_plan b) (b.left ∷ b.right ∷ []) f x.name (operator_kind b.op x.kind y.kind) (binary_cell x.kind b.op x.cell y.cell) e (binary_decides b f x y h k))

pub left_cause : (e : PxError) (b : PlannedBinary) (f : Frame) → IsCause e b.left f → IsCause e (binary_plan b) f
left_cause e b f = cause_above e (binary_plan b) (b.left ∷ b.right ∷ []) b.left f (binary_node b f) (inl refl)

pub right_cause : (e : PxError) (b : PlannedBinary) (f : Frame) → IsCause e b.right f → IsCause e (binary_plan b) f
right_cause e b f = cause_above e (binary_plan b) (b.left ∷ b.right ∷ []) b.right f (binary_node b f) (inr (inl refl))

-- ternaries
pub ternary_node : (t : PlannedTernary) (f : Frame) → IsNode (ternary_plan t) (t.predicate ∷ t.truthy ∷ t.falsy ∷ []) f
ternary_node t f = record {
  refusals = λ place. ap (λ rs. or_first rs (own_refusals (ternary_plan t).tree (scope_of f) place)) (three_apart (refusals_of t.predicate.tree (scope_of f) place) (refusals_of t.truthy.tree (scope_of f) place) (refusals_of t.falsy.tree (scope_of f) place));
  columns = ap (λ cs. t.predicate.columns ++ cs) (two_apart t.truthy.columns t.falsy.columns);
  faults = ap (λ es. es ++ fault_in (outcome_on (ternary_plan t).tree f)) (three_apart (faults_on t.predicate.tree f) (faults_on t.truthy.tree f) (faults_on t.falsy.tree f));
  sizes = λ fs. omega arith;
}

pub ternary_typed : (t s : Bool) (k : Kind) (o : Option Kind) → o ≡ Some k → IfOk (cond t (kind_where s k) (Err SchemaMismatch)) (λ j. o ≡ Some j)
ternary_typed true true k o h = h
ternary_typed true false k o h = tt
ternary_typed false s k o h = tt

ternary_decides : (t : PlannedTernary) (f : Frame) (p a b : NamedCell) → IsCellOf t.predicate f p → IsCellOf t.truthy f a → IsCellOf t.falsy f b
    → Decides (ternary_plan t) (t.predicate ∷ t.truthy ∷ t.falsy ∷ []) f a.name (cond (is_boolean_kind p.kind) (kind_where (kind_eq a.kind b.kind) a.kind) (Err SchemaMismatch)) (ternary_cell p.cell a.cell b.cell)
ternary_decides t f p a b g h k = record {
  node = ternary_node t f;
  sound = three_none (causes_on t.predicate f) (causes_on t.truthy f) (causes_on t.falsy f) g.sound h.sound k.sound;
  own = rw (g.kind, h.kind, k.kind) (first_guarded (is_boolean_kind p.kind) SchemaMismatch (kind_where (kind_eq a.kind b.kind) a.kind));
  kind = ternary_typed (is_boolean_kind p.kind) (kind_eq a.kind b.kind) a.kind (kind_in t.truthy.tree (scope_of f)) h.kind;
  outcome = rw (g.value, h.value, k.value) refl;
  named = h.name;
  shape = rw (← g.shape, ← h.shape, ← k.shape) (zip_three_shape chosen p.cell a.cell b.cell);
  plain_type = plain_if (is_boolean_kind p.kind) (kind_where (kind_eq a.kind b.kind) a.kind) (Err SchemaMismatch) (plain_where (kind_eq a.kind b.kind) a.kind) refl;
  plain_cell = zip_three_plain chosen p.cell a.cell b.cell;
}

ternary_then : (p a b : NamedCell) → ternary_named p a b ≡ (cond (is_boolean_kind p.kind) (kind_where (kind_eq a.kind b.kind) a.kind) (Err SchemaMismatch) >>= λ k. under a.name k (ternary_cell p.cell a.cell b.cell))
ternary_then p a b = guarded_then (is_boolean_kind p.kind) SchemaMismatch (kind_where (kind_eq a.kind b.kind) a.kind) (λ k. under a.name k (ternary_cell p.cell a.cell b.cell))

pub ternary_answer : (t : PlannedTernary) (f : Frame) (p a b : NamedCell) → IsCellOf t.predicate f p → IsCellOf t.truthy f a → IsCellOf t.falsy f b
    → IsAnswer (ternary_plan t) f (cond (is_boolean_kind p.kind) (kind_where (kind_eq a.kind b.kind) a.kind) (Err SchemaMismatch)) (ternary_named p a b)
ternary_answer t f p a b g h k =
    let typed : Result Kind PxError = cond (is_boolean_kind p.kind) (kind_where (kind_eq a.kind b.kind) a.kind) (Err SchemaMismatch) in
    subst (IsAnswer (ternary_plan t) f typed) (sym (ternary_then p a b))
    (answer_of (ternary_plan t) (t.predicate ∷ t.truthy ∷ t.falsy ∷ []) f a.name typed (ternary_cell p.cell a.cell b.cell) (ternary_decides t f p a b g h k))

pub ternary_cell_of : (t : PlannedTernary) (f : Frame) (p a b c : NamedCell) → IsCellOf t.predicate f p → IsCellOf t.truthy f a → IsCellOf t.falsy f b → ternary_named p a b ≡ Ok c → IsCellOf (ternary_plan t) f c
ternary_cell_of t f p a b c g h k m =
    made_cell (ternary_plan t) (t.predicate ∷ t.truthy ∷ t.falsy ∷ []) f a.name (cond (is_boolean_kind p.kind) (kind_where (kind_eq a.kind b.kind) a.kind) (Err SchemaMismatch)) (ternary_cell p.cell a.cell b.cell) c
    (ternary_decides t f p a b g h k) (sym (ternary_then p a b) ∙ m)

pub ternary_value : (t : PlannedTernary) (f : Frame) (p a b c : NamedCell) → IsCellOf t.predicate f p → IsCellOf t.truthy f a → IsCellOf t.falsy f b → ternary_named p a b ≡ Ok c → IsValue (ternary_plan t) f (column_of_cell c)
ternary_value t f p a b c g h k m = cell_is_value (ternary_plan t) f c (ternary_cell_of t f p a b c g h k m)

pub ternary_cause : (e : PxError) (t : PlannedTernary) (f : Frame) (p a b : NamedCell) → IsCellOf t.predicate f p → IsCellOf t.truthy f a → IsCellOf t.falsy f b → Refuses e (ternary_named p a b) → IsCause e (ternary_plan t) f
ternary_cause e t f p a b g h k =
    refused_cause e (ternary_named p a b) (ternary_plan t) f
    (λ m. made_cause (ternary_plan t) (t.predicate ∷ t.truthy ∷ t.falsy ∷ []) f a.name (cond (is_boolean_kind p.kind) (kind_where (kind_eq a.kind b.kind) a.kind) (Err SchemaMismatch)) (ternary_cell p.cell a.cell b.cell) e
    (ternary_decides t f p a b g h k) (sym (ternary_then p a b) ∙ m))

pub predicate_cause : (e : PxError) (t : PlannedTernary) (f : Frame) → IsCause e t.predicate f → IsCause e (ternary_plan t) f
predicate_cause e t f = cause_above e (ternary_plan t) (t.predicate ∷ t.truthy ∷ t.falsy ∷ []) t.predicate f (ternary_node t f) (inl refl)

pub truthy_cause : (e : PxError) (t : PlannedTernary) (f : Frame) → IsCause e t.truthy f → IsCause e (ternary_plan t) f
truthy_cause e t f = cause_above e (ternary_plan t) (t.predicate ∷ t.truthy ∷ t.falsy ∷ []) t.truthy f (ternary_node t f) (inr (inl refl))

pub falsy_cause : (e : PxError) (t : PlannedTernary) (f : Frame) → IsCause e t.falsy f → IsCause e (ternary_plan t) f
falsy_cause e t f = cause_above e (ternary_plan t) (t.predicate ∷ t.truthy ∷ t.falsy ∷ []) t.falsy f (ternary_node t f) (inr (inr (inl refl)))

-- casts
pub cast_node : (c : PlannedCast) (f : Frame) → IsNode (cast_plan c) (c.input ∷ []) f
cast_node c f = record {
  refusals = λ place. ap (λ rs. or_first rs (own_refusals (cast_plan c).tree (scope_of f) place)) (one_apart (refusals_of c.input.tree (scope_of f) place));
  columns = one_apart c.input.columns;
  faults = ap (λ es. es ++ fault_in (outcome_on (cast_plan c).tree f)) (one_apart (faults_on c.input.tree f));
  sizes = λ fs. omega arith;
}

pub cast_typed : (t : Bool) (k : Kind) → IfOk (kind_where t k) (λ j. Some k ≡ Some j)
cast_typed true k = refl
cast_typed false k = tt

cast_decides : (c : PlannedCast) (f : Frame) (x : NamedCell) → IsCellOf c.input f x → Decides (cast_plan c) (c.input ∷ []) f x.name (cast_kind x.kind c.dtype) (cast_cell x.kind c.dtype c.options x.cell)
cast_decides c f x h = record {
  node = cast_node c f;
  sound = one_none (causes_on c.input f) h.sound;
  own = rw h.kind (first_refusal (cast_kind x.kind c.dtype));
  kind = cast_typed (is_cast x.kind c.dtype) c.dtype;
  outcome = rw (h.kind, h.value) refl;
  named = h.name;
  shape = rw (← h.shape) (cast_shape x.kind c.dtype c.options x.cell);
  plain_type = plain_where (is_cast x.kind c.dtype) c.dtype;
  plain_cell = cast_plain x.kind c.dtype c.options x.cell;
}

pub cast_answer : (c : PlannedCast) (f : Frame) (x : NamedCell) → IsCellOf c.input f x → IsAnswer (cast_plan c) f (cast_kind x.kind c.dtype) (cast_named c.dtype c.options x)
cast_answer c f x h = answer_of (cast_plan c) (c.input ∷ []) f x.name (cast_kind x.kind c.dtype) (cast_cell x.kind c.dtype c.options x.cell) (cast_decides c f x h)

pub cast_cell_of : (c : PlannedCast) (f : Frame) (x d : NamedCell) → IsCellOf c.input f x → cast_named c.dtype c.options x ≡ Ok d → IsCellOf (cast_plan c) f d
cast_cell_of c f x d h m =
    made_cell (cast_plan c) (c.input ∷ []) f x.name (cast_kind x.kind c.dtype) (cast_cell x.kind c.dtype c.options x.cell) d (cast_decides c f x h) m

pub cast_value : (c : PlannedCast) (f : Frame) (x d : NamedCell) → IsCellOf c.input f x → cast_named c.dtype c.options x ≡ Ok d → IsValue (cast_plan c) f (column_of_cell d)
cast_value c f x d h m = cell_is_value (cast_plan c) f d (cast_cell_of c f x d h m)

pub cast_cause : (e : PxError) (c : PlannedCast) (f : Frame) (x : NamedCell) → IsCellOf c.input f x → Refuses e (cast_named c.dtype c.options x) → IsCause e (cast_plan c) f
cast_cause e c f x h =
    refused_cause e (cast_named c.dtype c.options x) (cast_plan c) f (made_cause (cast_plan c) (c.input ∷ []) f x.name (cast_kind x.kind c.dtype) (cast_cell x.kind c.dtype c.options x.cell) e (cast_decides c f x h))

-- what is refused is among the causes
pub cast_lacks : (e : PxError) (c : PlannedCast) (f : Frame) (x : NamedCell) → IsCellOf c.input f x → cast_named c.dtype c.options x ≡ Err e → IsOneOf e (causes_on (cast_plan c) f)
cast_lacks e c f x h = made_among (cast_plan c) (c.input ∷ []) f x.name (cast_kind x.kind c.dtype) (cast_cell x.kind c.dtype c.options x.cell) e (cast_decides c f x h)

pub cast_input_cause : (e : PxError) (c : PlannedCast) (f : Frame) → IsCause e c.input f → IsCause e (cast_plan c) f
cast_input_cause e c f = cause_above e (cast_plan c) (c.input ∷ []) c.input f (cast_node c f) (inl refl)
