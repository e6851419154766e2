-- Nodes that choose or order rows: filters, slices, gathers and sorts, from the cells of their inputs.
use Rattle.std.proofs.Common.{◌≡◌, ℤ, pos, Bool, true, false, cond, not, ◌&&◌, ◌||◌, [], ◌∷◌, ◌++◌, Option, Some, None, Result, Ok, Err, IfOk, inl, inr, length, map, refl, sym, ◌∙◌, ap, subst, arith}
use Rattle.std.specs.List.{list_all}
use Rattle.std.specs.Prelude.{option_and_then}
use Rattle.px_column.specs.Datum.{integer}
use Rattle.px_column.specs.Function.{window_of}
use Rattle.px_column.specs.Operator.{is_boolean_kind, is_integer_kind}
use Rattle.px_column.specs.Prelude.{Slot, Kind, Refuses, is_list_kind}
use Rattle.px_column.specs.Result.{◌>>=◌}
use Rattle.px_column.specs.Rows.{kept_rows}
use Rattle.px_value.specs.declared.error.ComputeWhy.TheVariants.{NullIndex, SingleIndex}
use Rattle.px_value.specs.declared.error.InvalidWhy.TheVariants.{ListKey, Types}
use Rattle.px_value.specs.declared.error.PxError.{PxError}
use Rattle.px_value.specs.declared.error.PxError.TheVariants.{ComputeError, InvalidOperation, OutOfBounds, SchemaMismatch}
use Rattle.px_value.specs.declared.sort_options.SortOptions.{SortOptions}
use Rattle.px_frame.specs.Cell.{Cell, unit, rows, cell_of, is_unit_cell, list_of}
use Rattle.px_frame.specs.External.{Frame, scope_of}
use Rattle.px_frame.specs.Spread.{NamedCell, column_of_cell, spread}
use Rattle.px_nodes.specs.Named.{under, filter_named, slice_named, gather_named, sort_named}
use Rattle.px_tree.specs.Node.{filter_cell, slice_cell, gather_cell, sort_cell, one_value, offset_of, length_of, is_index, indexed, is_null_unit}
use Rattle.px_tree.specs.Shape.{is_literal_tree}
use Rattle.px_tree.specs.Tree.{Tree, sort}
use Rattle.px_tree.specs.Typing.{kind_in, refusals_of, own_refusals, or_first, refusal_of, refused_where, is_integer_or_null}
use Rattle.px_tree.specs.Value.{outcome_on, made, fault_in, faults_on}
use Rattle.px_tree.specs.declared.context.Context.TheVariants.{Default}
use Rattle.px_answers.proofs.Cells.{cell_is_value, unit_cell_of}
use Rattle.px_answers.proofs.Inputs.{IsNode, Decides, IsAnswer, answer_of, cause_above, made_cell, made_cause, refused_cause, one_apart, two_apart, three_apart, none_behind, one_none, two_none, three_none}
use Rattle.px_answers.proofs.Operands.{guarded_then}
use Rattle.px_answers.proofs.Plain.{Plain, plain_if, plain_then, plain_spread}
use Rattle.px_answers.specs.Parts.{PlannedFilter, PlannedSlice, PlannedGather, PlannedSort, filter_plan, slice_plan, gather_plan, sort_plan}
use Rattle.px_answers.specs.Value.{IsCause, IsCellOf, IsValue, causes_on}

-- a refusal alone, of a type that is kept
pub first_kept : (t : Bool) (e : PxError) (k : Kind) → or_first [] (refused_where (not t) e) ≡ refusal_of (cond t (Ok k) (Err e))
first_kept true e k = refl
first_kept false e k = refl

pub kept_kind : (t : Bool) (e : PxError) (k : Kind) (o : Option Kind) → o ≡ Some k → IfOk (cond t (Ok k) (Err e)) (λ j. o ≡ Some j)
kept_kind true e k o h = h
kept_kind false e k o h = tt

-- what is made after a step
ok_then : {X : Type 0} (r : Result X PxError) (next : X → Result Cell PxError) (u : Bool) → ((x : X) → IfOk (next x) (λ d. is_unit_cell d ≡ u)) → IfOk (r >>= next) (λ d. is_unit_cell d ≡ u)
ok_then (Ok x) next u w = w x
ok_then (Err e) next u w = tt

-- filters
filter_shape : (c mask : Cell) → IfOk (filter_cell c mask) (λ d. is_unit_cell d ≡ false)
filter_shape c mask = ok_then (spread (length (list_of c)) mask) (λ truths. Ok (rows (kept_rows truths (list_of c)))) false (λ truths. refl)

filter_plain : (c mask : Cell) → Plain (filter_cell c mask)
filter_plain c mask = plain_then (spread (length (list_of c)) mask) (λ truths. Ok (rows (kept_rows truths (list_of c)))) (plain_spread (length (list_of c)) mask) (λ truths. tt)

pub filter_node : (p : PlannedFilter) (f : Frame) → IsNode (filter_plan p) (p.input ∷ p.by ∷ []) f
filter_node p f = record {
  refusals = λ place. ap (λ rs. or_first rs (own_refusals (filter_plan p).tree (scope_of f) place)) (two_apart (refusals_of p.input.tree (scope_of f) place) (refusals_of p.by.tree (scope_of f) place));
  columns = two_apart p.input.columns p.by.columns;
  faults = ap (λ es. es ++ fault_in (outcome_on (filter_plan p).tree f)) (two_apart (faults_on p.input.tree f) (faults_on p.by.tree f));
  sizes = λ fs. omega arith;
}

filter_decides : (p : PlannedFilter) (f : Frame) (x y : NamedCell) → IsCellOf p.input f x → IsCellOf p.by f y
    → Decides (filter_plan p) (p.input ∷ p.by ∷ []) f x.name (cond (is_boolean_kind y.kind) (Ok x.kind) (Err SchemaMismatch)) (filter_cell x.cell y.cell)
filter_decides p f x y h k = record {
  node = filter_node p f;
  sound = two_none (causes_on p.input f) (causes_on p.by f) h.sound k.sound;
  own = rw k.kind (first_kept (is_boolean_kind y.kind) SchemaMismatch x.kind);
  kind = kept_kind (is_boolean_kind y.kind) SchemaMismatch x.kind (kind_in p.input.tree (scope_of f)) h.kind;
  outcome = rw (h.value, k.value) refl;
  named = h.name;
  shape = filter_shape x.cell y.cell;
  plain_type = plain_if (is_boolean_kind y.kind) (Ok x.kind) (Err SchemaMismatch) tt refl;
  plain_cell = filter_plain x.cell y.cell;
}

filter_then : (x y : NamedCell) → filter_named x y ≡ (cond (is_boolean_kind y.kind) (Ok x.kind) (Err SchemaMismatch) >>= λ k. under x.name k (filter_cell x.cell y.cell))
filter_then x y = guarded_then (is_boolean_kind y.kind) SchemaMismatch (Ok x.kind) (λ k. under x.name k (filter_cell x.cell y.cell))

pub filter_answer : (p : PlannedFilter) (f : Frame) (x y : NamedCell) → IsCellOf p.input f x → IsCellOf p.by f y → IsAnswer (filter_plan p) f (cond (is_boolean_kind y.kind) (Ok x.kind) (Err SchemaMismatch)) (filter_named x y)
filter_answer p f x y h k =
    let typed : Result Kind PxError = cond (is_boolean_kind y.kind) (Ok x.kind) (Err SchemaMismatch) in
    subst (IsAnswer (filter_plan p) f typed) (sym (filter_then x y)) (answer_of (filter_plan p) (p.input ∷ p.by ∷ []) f x.name typed (filter_cell x.cell y.cell) (filter_decides p f x y h k))

pub filter_cell_of : (p : PlannedFilter) (f : Frame) (x y c : NamedCell) → IsCellOf p.input f x → IsCellOf p.by f y → filter_named x y ≡ Ok c → IsCellOf (filter_plan p) f c
filter_cell_of p f x y c h k m =
    made_cell (filter_plan p) (p.input ∷ p.by ∷ []) f x.name (cond (is_boolean_kind y.kind) (Ok x.kind) (Err SchemaMismatch)) (filter_cell x.cell y.cell) c (filter_decides p f x y h k) (sym (filter_then x y) ∙ m)

pub filter_value : (p : PlannedFilter) (f : Frame) (x y c : NamedCell) → IsCellOf p.input f x → IsCellOf p.by f y → filter_named x y ≡ Ok c → IsValue (filter_plan p) f (column_of_cell c)
filter_value p f x y c h k m = cell_is_value (filter_plan p) f c (filter_cell_of p f x y c h k m)

pub filter_cause : (e : PxError) (p : PlannedFilter) (f : Frame) (x y : NamedCell) → IsCellOf p.input f x → IsCellOf p.by f y → Refuses e (filter_named x y) → IsCause e (filter_plan p) f
filter_cause e p f x y h k =
    refused_cause e (filter_named x y) (filter_plan p) f
    (λ m. made_cause (filter_plan p) (p.input ∷ p.by ∷ []) f x.name (cond (is_boolean_kind y.kind) (Ok x.kind) (Err SchemaMismatch)) (filter_cell x.cell y.cell) e (filter_decides p f x y h k) (sym (filter_then x y) ∙ m))

pub filter_input_cause : (e : PxError) (p : PlannedFilter) (f : Frame) → IsCause e p.input f → IsCause e (filter_plan p) f
filter_input_cause e p f = cause_above e (filter_plan p) (p.input ∷ p.by ∷ []) p.input f (filter_node p f) (inl refl)

pub mask_cause : (e : PxError) (p : PlannedFilter) (f : Frame) → IsCause e p.by f → IsCause e (filter_plan p) f
mask_cause e p f = cause_above e (filter_plan p) (p.input ∷ p.by ∷ []) p.by f (filter_node p f) (inr (inl refl))

-- slices
slice_shape : (c offset length : Cell) → IfOk (slice_cell c offset length) (λ d. is_unit_cell d ≡ false)
slice_shape c offset length =
    let made : ℤ → Option ℤ → Result Cell PxError = λ start limit. Ok (rows (window_of start limit (list_of c))) in
    ok_then (one_value offset) (λ o. one_value length >>= λ l. offset_of o >>= λ start. length_of l >>= made start) false
    (λ o. ok_then (one_value length) (λ l. offset_of o >>= λ start. length_of l >>= made start) false
    (λ l. ok_then (offset_of o) (λ start. length_of l >>= made start) false
    (λ start. ok_then (length_of l) (made start) false (λ limit. refl))))

plain_one : (c : Cell) → Plain (one_value c)
plain_one (unit s) = tt
plain_one (rows []) = refl
plain_one (rows (s ∷ [])) = tt
plain_one (rows (s ∷ t ∷ xs)) = refl

plain_offset : (s : Slot) → Plain (offset_of s)
plain_offset (Some (integer z)) = tt
plain_offset _ = refl

plain_length : (s : Slot) → Plain (length_of s)
plain_length None = tt
plain_length (Some (integer (pos n))) = tt
plain_length _ = refl

slice_plain : (c offset length : Cell) → Plain (slice_cell c offset length)
slice_plain c offset length =
    let made : ℤ → Option ℤ → Result Cell PxError = λ start limit. Ok (rows (window_of start limit (list_of c))) in
    plain_then (one_value offset) (λ o. one_value length >>= λ l. offset_of o >>= λ start. length_of l >>= made start) (plain_one offset)
    (λ o. plain_then (one_value length) (λ l. offset_of o >>= λ start. length_of l >>= made start) (plain_one length)
    (λ l. plain_then (offset_of o) (λ start. length_of l >>= made start) (plain_offset o)
    (λ start. plain_then (length_of l) (made start) (plain_length l) (λ limit. tt))))

pub slice_node : (s : PlannedSlice) (f : Frame) → IsNode (slice_plan s) (s.input ∷ s.offset ∷ s.length ∷ []) f
slice_node s f = record {
  refusals = λ place. ap (λ rs. or_first rs (own_refusals (slice_plan s).tree (scope_of f) place)) (three_apart (refusals_of s.input.tree (scope_of f) place) (refusals_of s.offset.tree (scope_of f) place) (refusals_of s.length.tree (scope_of f) place));
  columns = ap (λ cs. s.input.columns ++ cs) (two_apart s.offset.columns s.length.columns);
  faults = ap (λ es. es ++ fault_in (outcome_on (slice_plan s).tree f)) (three_apart (faults_on s.input.tree f) (faults_on s.offset.tree f) (faults_on s.length.tree f));
  sizes = λ fs. omega arith;
}

pub first_two : (a b : Bool) (e : PxError) (k : Kind) → or_first [] (refused_where (not a || not b) e) ≡ refusal_of (cond (a && b) (Ok k) (Err e))
first_two true true e k = refl
first_two true false e k = refl
first_two false b e k = refl

slice_decides : (s : PlannedSlice) (f : Frame) (x o l : NamedCell) → IsCellOf s.input f x → IsCellOf s.offset f o → IsCellOf s.length f l
    → Decides (slice_plan s) (s.input ∷ s.offset ∷ s.length ∷ []) f x.name (cond (is_integer_or_null o.kind && is_integer_or_null l.kind) (Ok x.kind) (Err (InvalidOperation Types))) (slice_cell x.cell o.cell l.cell)
slice_decides s f x o l g h k = record {
  node = slice_node s f;
  sound = three_none (causes_on s.input f) (causes_on s.offset f) (causes_on s.length f) g.sound h.sound k.sound;
  own = rw (h.kind, k.kind) (first_two (is_integer_or_null o.kind) (is_integer_or_null l.kind) (InvalidOperation Types) x.kind);
  kind = kept_kind (is_integer_or_null o.kind && is_integer_or_null l.kind) (InvalidOperation Types) x.kind (kind_in s.input.tree (scope_of f)) g.kind;
  outcome = rw (g.value, h.value, k.value) refl;
  named = g.name;
  shape = slice_shape x.cell o.cell l.cell;
  plain_type = plain_if (is_integer_or_null o.kind && is_integer_or_null l.kind) (Ok x.kind) (Err (InvalidOperation Types)) tt refl;
  plain_cell = slice_plain x.cell o.cell l.cell;
}

slice_then : (x o l : NamedCell) → slice_named x o l ≡ (cond (is_integer_or_null o.kind && is_integer_or_null l.kind) (Ok x.kind) (Err (InvalidOperation Types)) >>= λ k. under x.name k (slice_cell x.cell o.cell l.cell))
slice_then x o l = guarded_then (is_integer_or_null o.kind && is_integer_or_null l.kind) (InvalidOperation Types) (Ok x.kind) (λ k. under x.name k (slice_cell x.cell o.cell l.cell))

pub slice_answer : (s : PlannedSlice) (f : Frame) (x o l : NamedCell) → IsCellOf s.input f x → IsCellOf s.offset f o → IsCellOf s.length f l
    → IsAnswer (slice_plan s) f (cond (is_integer_or_null o.kind && is_integer_or_null l.kind) (Ok x.kind) (Err (InvalidOperation Types))) (slice_named x o l)
slice_answer s f x o l g h k =
    let typed : Result Kind PxError = cond (is_integer_or_null o.kind && is_integer_or_null l.kind) (Ok x.kind) (Err (InvalidOperation Types)) in
    subst (IsAnswer (slice_plan s) f typed) (sym (slice_then x o l)) (answer_of (slice_plan s) (s.input ∷ s.offset ∷ s.length ∷ []) f x.name typed (slice_cell x.cell o.cell l.cell) (slice_decides s f x o l g h k))

pub slice_cell_of : (s : PlannedSlice) (f : Frame) (x o l c : NamedCell) → IsCellOf s.input f x → IsCellOf s.offset f o → IsCellOf s.length f l → slice_named x o l ≡ Ok c → IsCellOf (slice_plan s) f c
slice_cell_of s f x o l c g h k m =
    made_cell (slice_plan s) (s.input ∷ s.offset ∷ s.length ∷ []) f x.name (cond (is_integer_or_null o.kind && is_integer_or_null l.kind) (Ok x.kind) (Err (InvalidOperation Types))) (slice_cell x.cell o.cell l.cell) c
    (slice_decides s f x o l g h k) (sym (slice_then x o l) ∙ m)

pub slice_value : (s : PlannedSlice) (f : Frame) (x o l c : NamedCell) → IsCellOf s.input f x → IsCellOf s.offset f o → IsCellOf s.length f l → slice_named x o l ≡ Ok c → IsValue (slice_plan s) f (column_of_cell c)
slice_value s f x o l c g h k m = cell_is_value (slice_plan s) f c (slice_cell_of s f x o l c g h k m)

pub slice_cause : (e : PxError) (s : PlannedSlice) (f : Frame) (x o l : NamedCell) → IsCellOf s.input f x → IsCellOf s.offset f o → IsCellOf s.length f l → Refuses e (slice_named x o l) → IsCause e (slice_plan s) f
slice_cause e s f x o l g h k =
    refused_cause e (slice_named x o l) (slice_plan s) f
    (λ m. made_cause (slice_plan s) (s.input ∷ s.offset ∷ s.length ∷ []) f x.name (cond (is_integer_or_null o.kind && is_integer_or_null l.kind) (Ok x.kind) (Err (InvalidOperation Types))) (slice_cell x.cell o.cell l.cell) e
    (slice_decides s f x o l g h k) (sym (slice_then x o l) ∙ m))

pub slice_input_cause : (e : PxError) (s : PlannedSlice) (f : Frame) → IsCause e s.input f → IsCause e (slice_plan s) f
slice_input_cause e s f = cause_above e (slice_plan s) (s.input ∷ s.offset ∷ s.length ∷ []) s.input f (slice_node s f) (inl refl)

pub offset_cause : (e : PxError) (s : PlannedSlice) (f : Frame) → IsCause e s.offset f → IsCause e (slice_plan s) f
offset_cause e s f = cause_above e (slice_plan s) (s.input ∷ s.offset ∷ s.length ∷ []) s.offset f (slice_node s f) (inr (inl refl))

pub length_cause : (e : PxError) (s : PlannedSlice) (f : Frame) → IsCause e s.length f → IsCause e (slice_plan s) f
length_cause e s f = cause_above e (slice_plan s) (s.input ∷ s.offset ∷ s.length ∷ []) s.length f (slice_node s f) (inr (inr (inl refl)))

-- gathers
gather_shape : (one lit : Bool) (c idx : Cell) → IfOk (gather_cell one lit c idx) (λ d. is_unit_cell d ≡ one)
gather_shape one lit c idx = by (lit && is_null_unit idx) (list_all (is_index (length (list_of c))) (list_of idx))
  where
    by : (a b : Bool) → IfOk (cond a (Err (ComputeError NullIndex)) (cond b (Ok (cell_of one (map (indexed (list_of c)) (list_of idx)))) (Err OutOfBounds))) (λ d. is_unit_cell d ≡ one)
    by true b = tt
    by false true = unit_cell_of one (map (indexed (list_of c)) (list_of idx))
    by false false = tt

gather_plain : (one lit : Bool) (c idx : Cell) → Plain (gather_cell one lit c idx)
gather_plain one lit c idx = by (lit && is_null_unit idx) (list_all (is_index (length (list_of c))) (list_of idx))
  where
    by : (a b : Bool) → Plain (cond a (Err (ComputeError NullIndex)) (cond b (Ok (cell_of one (map (indexed (list_of c)) (list_of idx)))) (Err OutOfBounds)))
    by true b = refl
    by false true = tt
    by false false = refl

pub gather_node : (g : PlannedGather) (f : Frame) → IsNode (gather_plan g) (g.phys_expr ∷ g.idx ∷ []) f
gather_node g f = record {
  refusals = λ place. ap (λ rs. or_first rs (own_refusals (gather_plan g).tree (scope_of f) place)) (two_apart (refusals_of g.phys_expr.tree (scope_of f) place) (refusals_of g.idx.tree (scope_of f) place));
  columns = two_apart g.phys_expr.columns g.idx.columns;
  faults = ap (λ es. es ++ fault_in (outcome_on (gather_plan g).tree f)) (two_apart (faults_on g.phys_expr.tree f) (faults_on g.idx.tree f));
  sizes = λ fs. omega arith;
}

pub first_index : (t s : Bool) (k : Kind) → or_first [] (refused_where (not t) (InvalidOperation Types) ++ refused_where s (ComputeError SingleIndex)) ≡ refusal_of (cond t (cond s (Err (ComputeError SingleIndex)) (Ok k)) (Err (InvalidOperation Types)))
first_index true true k = refl
first_index true false k = refl
first_index false s k = refl

pub gather_kind : (t s : Bool) (k : Kind) (o : Option Kind) → o ≡ Some k → IfOk (cond t (cond s (Err (ComputeError SingleIndex)) (Ok k)) (Err (InvalidOperation Types))) (λ j. o ≡ Some j)
gather_kind true true k o h = tt
gather_kind true false k o h = h
gather_kind false s k o h = tt

pub plain_index : (t s : Bool) (k : Kind) → Plain (cond t (cond s (Err (ComputeError SingleIndex)) (Ok k)) (Err (InvalidOperation Types)))
plain_index true true k = refl
plain_index true false k = tt
plain_index false s k = refl

gather_decides : (g : PlannedGather) (f : Frame) (x i : NamedCell) → IsCellOf g.phys_expr f x → IsCellOf g.idx f i
    → Decides (gather_plan g) (g.phys_expr ∷ g.idx ∷ []) f x.name
    (cond (is_integer_kind i.kind) (cond (g.returns_scalar && not (is_unit_cell i.cell)) (Err (ComputeError SingleIndex)) (Ok x.kind)) (Err (InvalidOperation Types)))
    (gather_cell g.returns_scalar (is_literal_tree g.idx.tree) x.cell i.cell)
gather_decides g f x i h k = record {
  node = gather_node g f;
  sound = two_none (causes_on g.phys_expr f) (causes_on g.idx f) h.sound k.sound;
  own = rw (k.kind, ← k.shape) (first_index (is_integer_kind i.kind) (g.returns_scalar && not (is_unit_cell i.cell)) x.kind);
  kind = gather_kind (is_integer_kind i.kind) (g.returns_scalar && not (is_unit_cell i.cell)) x.kind (kind_in g.phys_expr.tree (scope_of f)) h.kind;
  outcome = rw (h.value, k.value) refl;
  named = h.name;
  shape = gather_shape g.returns_scalar (is_literal_tree g.idx.tree) x.cell i.cell;
  plain_type = plain_index (is_integer_kind i.kind) (g.returns_scalar && not (is_unit_cell i.cell)) x.kind;
  plain_cell = gather_plain g.returns_scalar (is_literal_tree g.idx.tree) x.cell i.cell;
}

index_then : (t s : Bool) (k : Kind) (next : Kind → Result NamedCell PxError)
    → cond t (cond s (Err (ComputeError SingleIndex)) (next k)) (Err (InvalidOperation Types)) ≡ (cond t (cond s (Err (ComputeError SingleIndex)) (Ok k)) (Err (InvalidOperation Types)) >>= next)
index_then true true k next = refl
index_then true false k next = refl
index_then false s k next = refl

gather_then : (one lit : Bool) (x i : NamedCell)
    → gather_named one lit x i ≡ (cond (is_integer_kind i.kind) (cond (one && not (is_unit_cell i.cell)) (Err (ComputeError SingleIndex)) (Ok x.kind)) (Err (InvalidOperation Types)) >>= λ k. under x.name k (gather_cell one lit x.cell i.cell))
gather_then one lit x i = index_then (is_integer_kind i.kind) (one && not (is_unit_cell i.cell)) x.kind (λ k. under x.name k (gather_cell one lit x.cell i.cell))

pub gather_answer : (g : PlannedGather) (f : Frame) (x i : NamedCell) → IsCellOf g.phys_expr f x → IsCellOf g.idx f i
    → IsAnswer (gather_plan g) f (cond (is_integer_kind i.kind) (cond (g.returns_scalar && not (is_unit_cell i.cell)) (Err (ComputeError SingleIndex)) (Ok x.kind)) (Err (InvalidOperation Types)))
    (gather_named g.returns_scalar (is_literal_tree g.idx.tree) x i)
gather_answer g f x i h k =
    let typed : Result Kind PxError = cond (is_integer_kind i.kind) (cond (g.returns_scalar && not (is_unit_cell i.cell)) (Err (ComputeError SingleIndex)) (Ok x.kind)) (Err (InvalidOperation Types)) in
    subst (IsAnswer (gather_plan g) f typed) (sym (gather_then g.returns_scalar (is_literal_tree g.idx.tree) x i))
    (answer_of (gather_plan g) (g.phys_expr ∷ g.idx ∷ []) f x.name typed (gather_cell g.returns_scalar (is_literal_tree g.idx.tree) x.cell i.cell) (gather_decides g f x i h k))

pub gather_cell_of : (g : PlannedGather) (f : Frame) (x i c : NamedCell) → IsCellOf g.phys_expr f x → IsCellOf g.idx f i → gather_named g.returns_scalar (is_literal_tree g.idx.tree) x i ≡ Ok c → IsCellOf (gather_plan g) f c
gather_cell_of g f x i c h k m =
    made_cell (gather_plan g) (g.phys_expr ∷ g.idx ∷ []) f x.name (cond (is_integer_kind i.kind) (cond (g.returns_scalar && not (is_unit_cell i.cell)) (Err (ComputeError SingleIndex)) (Ok x.kind)) (Err (InvalidOperation Types)))
    (gather_cell g.returns_scalar (is_literal_tree g.idx.tree) x.cell i.cell) c (gather_decides g f x i h k) (sym (gather_then g.returns_scalar (is_literal_tree g.idx.tree) x i) ∙ m)

pub gather_value : (g : PlannedGather) (f : Frame) (x i c : NamedCell) → IsCellOf g.phys_expr f x → IsCellOf g.idx f i → gather_named g.returns_scalar (is_literal_tree g.idx.tree) x i ≡ Ok c → IsValue (gather_plan g) f (column_of_cell c)
gather_value g f x i c h k m = cell_is_value (gather_plan g) f c (gather_cell_of g f x i c h k m)

pub gather_cause : (e : PxError) (g : PlannedGather) (f : Frame) (x i : NamedCell) → IsCellOf g.phys_expr f x → IsCellOf g.idx f i → Refuses e (gather_named g.returns_scalar (is_literal_tree g.idx.tree) x i) → IsCause e (gather_plan g) f
gather_cause e g f x i h k =
    refused_cause e (gather_named g.returns_scalar (is_literal_tree g.idx.tree) x i) (gather_plan g) f
    (λ m. made_cause (gather_plan g) (g.phys_expr ∷ g.idx ∷ []) f x.name (cond (is_integer_kind i.kind) (cond (g.returns_scalar && not (is_unit_cell i.cell)) (Err (ComputeError SingleIndex)) (Ok x.kind)) (Err (InvalidOperation Types)))
    (gather_cell g.returns_scalar (is_literal_tree g.idx.tree) x.cell i.cell) e (gather_decides g f x i h k) (sym (gather_then g.returns_scalar (is_literal_tree g.idx.tree) x i) ∙ m))

pub gathered_cause : (e : PxError) (g : PlannedGather) (f : Frame) → IsCause e g.phys_expr f → IsCause e (gather_plan g) f
gathered_cause e g f = cause_above e (gather_plan g) (g.phys_expr ∷ g.idx ∷ []) g.phys_expr f (gather_node g f) (inl refl)

pub index_cause : (e : PxError) (g : PlannedGather) (f : Frame) → IsCause e g.idx f → IsCause e (gather_plan g) f
index_cause e g f = cause_above e (gather_plan g) (g.phys_expr ∷ g.idx ∷ []) g.idx f (gather_node g f) (inr (inl refl))

-- sorts, which have no fault of their own
no_sort_fault : (e : Tree) (options : SortOptions) (f : Frame) → fault_in (outcome_on (sort e options) f) ≡ []
no_sort_fault e options f = by (made (outcome_on e f))
  where
    by : (o : Option Cell) → fault_in (option_and_then (λ c. Some (sort_cell options c)) o) ≡ []
    by None = refl
    by (Some c) = refl

pub sort_node : (s : PlannedSort) (f : Frame) → IsNode (sort_plan s) (s.physical_expr ∷ []) f
sort_node s f = record {
  refusals = λ place. ap (λ rs. or_first rs (own_refusals (sort_plan s).tree (scope_of f) place)) (one_apart (refusals_of s.physical_expr.tree (scope_of f) place));
  columns = one_apart s.physical_expr.columns;
  faults = none_behind (faults_on s.physical_expr.tree f) (fault_in (outcome_on (sort_plan s).tree f)) (no_sort_fault s.physical_expr.tree s.options f);
  sizes = λ fs. omega arith;
}

pub first_unless : (t : Bool) (e : PxError) (k : Kind) → or_first [] (refused_where (not (not t)) e) ≡ refusal_of (cond t (Err e) (Ok k))
first_unless true e k = refl
first_unless false e k = refl

pub unless_kind : (t : Bool) (e : PxError) (k : Kind) (o : Option Kind) → o ≡ Some k → IfOk (cond t (Err e) (Ok k)) (λ j. o ≡ Some j)
unless_kind true e k o h = tt
unless_kind false e k o h = h

sort_decides : (s : PlannedSort) (f : Frame) (x : NamedCell) → IsCellOf s.physical_expr f x → Decides (sort_plan s) (s.physical_expr ∷ []) f x.name (cond (is_list_kind x.kind) (Err (InvalidOperation ListKey)) (Ok x.kind)) (sort_cell s.options x.cell)
sort_decides s f x h = record {
  node = sort_node s f;
  sound = one_none (causes_on s.physical_expr f) h.sound;
  own = rw h.kind (first_unless (is_list_kind x.kind) (InvalidOperation ListKey) x.kind);
  kind = unless_kind (is_list_kind x.kind) (InvalidOperation ListKey) x.kind (kind_in s.physical_expr.tree (scope_of f)) h.kind;
  outcome = rw h.value refl;
  named = h.name;
  shape = refl;
  plain_type = plain_if (is_list_kind x.kind) (Err (InvalidOperation ListKey)) (Ok x.kind) refl tt;
  plain_cell = tt;
}

unless_then : (t : Bool) (e : PxError) (k : Kind) (next : Kind → Result NamedCell PxError) → cond t (Err e) (next k) ≡ (cond t (Err e) (Ok k) >>= next)
unless_then true e k next = refl
unless_then false e k next = refl

sort_then : (options : SortOptions) (x : NamedCell) → sort_named options x ≡ (cond (is_list_kind x.kind) (Err (InvalidOperation ListKey)) (Ok x.kind) >>= λ k. under x.name k (sort_cell options x.cell))
sort_then options x = unless_then (is_list_kind x.kind) (InvalidOperation ListKey) x.kind (λ k. under x.name k (sort_cell options x.cell))

pub sort_answer : (s : PlannedSort) (f : Frame) (x : NamedCell) → IsCellOf s.physical_expr f x → IsAnswer (sort_plan s) f (cond (is_list_kind x.kind) (Err (InvalidOperation ListKey)) (Ok x.kind)) (sort_named s.options x)
sort_answer s f x h =
    let typed : Result Kind PxError = cond (is_list_kind x.kind) (Err (InvalidOperation ListKey)) (Ok x.kind) in
    subst (IsAnswer (sort_plan s) f typed) (sym (sort_then s.options x)) (answer_of (sort_plan s) (s.physical_expr ∷ []) f x.name typed (sort_cell s.options x.cell) (sort_decides s f x h))

pub sort_cell_of : (s : PlannedSort) (f : Frame) (x c : NamedCell) → IsCellOf s.physical_expr f x → sort_named s.options x ≡ Ok c → IsCellOf (sort_plan s) f c
sort_cell_of s f x c h m =
    made_cell (sort_plan s) (s.physical_expr ∷ []) f x.name (cond (is_list_kind x.kind) (Err (InvalidOperation ListKey)) (Ok x.kind)) (sort_cell s.options x.cell) c (sort_decides s f x h) (sym (sort_then s.options x) ∙ m)

pub sort_value : (s : PlannedSort) (f : Frame) (x c : NamedCell) → IsCellOf s.physical_expr f x → sort_named s.options x ≡ Ok c → IsValue (sort_plan s) f (column_of_cell c)
sort_value s f x c h m = cell_is_value (sort_plan s) f c (sort_cell_of s f x c h m)

pub sort_cause : (e : PxError) (s : PlannedSort) (f : Frame) (x : NamedCell) → IsCellOf s.physical_expr f x → Refuses e (sort_named s.options x) → IsCause e (sort_plan s) f
sort_cause e s f x h =
    refused_cause e (sort_named s.options x) (sort_plan s) f
    (λ m. made_cause (sort_plan s) (s.physical_expr ∷ []) f x.name (cond (is_list_kind x.kind) (Err (InvalidOperation ListKey)) (Ok x.kind)) (sort_cell s.options x.cell) e (sort_decides s f x h) (sym (sort_then s.options x) ∙ m))

pub sorted_cause : (e : PxError) (s : PlannedSort) (f : Frame) → IsCause e s.physical_expr f → IsCause e (sort_plan s) f
sorted_cause e s f = cause_above e (sort_plan s) (s.physical_expr ∷ []) s.physical_expr f (sort_node s f) (inl refl)
