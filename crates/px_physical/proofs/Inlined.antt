-- Values without a frame: of literals, and of aliases, casts and functions of what has one.
use Rattle.std.proofs.Common.{◌≡◌, ◌≢◌, ◌^◌, ◌<◌, ◌≤◌, ◌+◌, ◌-◌, ℕ, zero, suc, Bool, true, false, ◌&&◌, ◌==◌, List, [], ◌∷◌, ◌++◌, Option, Some, None, Result, Ok, Err, ◌⊎◌, inl, inr, length, map, drop, get_or, option_map, append_assoc, refl, sym, ◌∙◌, ap, subst, arith}
use Rattle.std.specs.List.{list_any}
use Rattle.std.specs.Option.{option_map_or}
use Rattle.std.proofs.lemmas.Bool.Decides.{nat_tests}
use Rattle.std.proofs.lemmas.List.{at_drop_more, at_drop_all, append-nil, map-append}
use Rattle.px_column.specs.Prelude.{Slot, Series}
use Rattle.px_value.specs.declared.error.PxError.{PxError}
use Rattle.px_value.specs.declared.error.PxError.TheVariants.{ShapeMismatch}
use Rattle.px_frame.specs.Cell.{cell_of, count_of}
use Rattle.px_frame.specs.CellView.{named_cell}
use Rattle.px_frame.specs.Spread.{NamedCell, column_of_cell}
use Rattle.px_frame.specs.declared.cell.Cell.{Cell}
use Rattle.px_nodes.specs.Named.{cast_named, function_named}
use Rattle.px_tree.proofs.KindLaws.{none_left, none_right, none_first}
use Rattle.px_tree.specs.Nodes.{leaf_names}
use Rattle.px_tree.specs.Shape.{is_unit}
use Rattle.px_tree.specs.Size.{size_on, sizes_on}
use Rattle.px_tree.specs.Tree.{Tree, Trees, Literal, single, range, series, literal, alias, cast, function, called}
use Rattle.px_tree.specs.Typing.{refusals_of, all_refusals_of, refused_where, own_refusals}
use Rattle.px_tree.specs.Value.{value_on, faults_on, all_faults_on, outcome_on, fault_in, made}
use Rattle.px_tree.specs.declared.context.Context.TheVariants.{Default}
use Rattle.px_answers.proofs.Applied.{apply_value, apply_lacks}
use Rattle.px_answers.proofs.Cells.{unit_cell_of}
use Rattle.px_physical.proofs.CellsInOrder.{both_true}
use Rattle.px_answers.proofs.Operands.{cast_value, cast_lacks}
use Rattle.px_answers.specs.Inline.{AreInlineCells, HasNone, HaveNone, IsInline, IsInlineCell, are_inline, bare, column_or_none, has_one_row, is_inline, no_frame}
use Rattle.px_answers.specs.Literal.{kept_column}
use Rattle.px_physical.specs.NodeView.{plan_of}
use Rattle.px_answers.specs.Parts.{PlannedApply, PlannedCast, apply_plan, cast_plan, plan_columns, plan_trees}
use Rattle.px_answers.specs.Planned.{Planned, PlannedColumn}
use Rattle.px_answers.specs.Value.{AreCellsOf, IsCellOf, IsOneOf, IsValue, causes_on}
use Rattle.px_physical.specs.declared.phys_expr.PhysExpr.{PhysExpr}

-- without refusals and faults there is no cause
no_cause : (e : PxError) (t : Tree) → refusals_of t [] Default ≡ [] → faults_on t no_frame ≡ [] → IsOneOf e (causes_on (bare t) no_frame) → ⊥
no_cause e t r f h =
    let none : causes_on (bare t) no_frame ≡ [] = λ i. ((r i ++ []) ++ []) ++ f i in
    subst (IsOneOf e) none h

-- a refusal, a fault or a size leaves nothing
none_of : (e : PxError) (t : Tree) → IsOneOf e (causes_on (bare t) no_frame) ⊎ (2 ^ 32 ≤ size_on t (no_frame ∷ [])) → HasNone t
none_of e t (inl h) r f = absurd (no_cause e t r f h)
none_of e t (inr h) r f = h

-- a node that may not be evaluated so has nothing
pub not_inline : (n : ℕ) (t : Tree) → is_inline n t ≡ false → IsInline n t None
not_inline n t h i = absurd (cc (sym h ∙ i))

-- literals
literal_one : (n : ℕ) (v : Literal) → IsInline n (literal v) (kept_column v)
literal_one n (single k s) = (refl, record { sound = refl; name = refl; kind = refl; value = refl; unit = λ u. refl })
literal_one n (series s) = (refl, record { sound = refl; name = refl; kind = refl; value = refl; unit = λ u. absurd (cc u) })
literal_one n (range low high k) = λ h. absurd (cc h)

pub literal_inline : (n : ℕ) (t : Tree) (v : Literal) (o : Option Series) → t ≡ literal v → o ≡ kept_column v → IsInline n t o
literal_inline n t v o h k = rw (h, k) (literal_one n v)

-- a column under another name
abbrev pub rename : List ℕ → Series → Series
rename m s = record s { name = m }

-- an alias of a value
renamed : (e : Tree) (m : List ℕ) (s : Series) → IsValue (bare e) no_frame s → IsValue (bare (alias e m)) no_frame (rename m s)
renamed e m s h = record {
  sound = h.sound;
  name = refl;
  kind = h.kind;
  value = ap (λ o. made (option_map Ok o)) h.value;
  unit = h.unit;
}

alias_one : (levels : ℕ) (e : Tree) (m : List ℕ) (o : Option Series) → levels ≢ 0 → IsInline (levels - 1) e o → IsInline levels (alias e m) (option_map (rename m) o)
alias_one zero e m o z h = absurd (z refl)
alias_one (suc n) e m o z h = by o (subst (λ k. IsInline k e o) (omega arith) h)
  where
    by : (q : Option Series) → IsInline n e q → IsInline (suc n) (alias e m) (option_map (rename m) q)
    by (Some s) k = (k.0, renamed e m s k.1)
    by None k = λ i r f. let l = k i r f in omega (arith, l)

pub alias_inline : (levels : ℕ) (t e : Tree) (m : List ℕ) (o p : Option Series) → t ≡ alias e m → levels ≢ 0 → IsInline (levels - 1) e o → p ≡ option_map (rename m) o → IsInline levels t p
alias_inline levels t e m o p h z k g = rw (h, g) (alias_one levels e m o z k)

-- a value of one row as a cell
one_row : (t : Tree) (s : Series) → IsValue (bare t) no_frame s → length s.slots ≡ 1 → has_one_row t ≡ true
one_row t s h l = ap (λ o. option_map_or (λ c. count_of c == 1) o false) h.value ∙ by (is_unit t)
  where
    by : (u : Bool) → (count_of (cell_of u s.slots) == 1) ≡ true
    by true = refl
    by false = grind (arith, nat_tests)

other_rows : (t : Tree) (s : Series) → IsValue (bare t) no_frame s → length s.slots ≢ 1 → has_one_row t ≡ false
other_rows t s h l = ap (λ o. option_map_or (λ c. count_of c == 1) o false) h.value ∙ by (is_unit t) h.unit
  where
    by : (u : Bool) → (u ≡ true → length s.slots ≡ 1) → (count_of (cell_of u s.slots) == 1) ≡ false
    by true g = absurd (l (g refl))
    by false g = grind (arith, nat_tests)

and_true : (a b : Bool) → a ≡ true → b ≡ true → (a && b) ≡ true
and_true a b h k = rw (h, k) refl

pub inline_one : (n : ℕ) (t : Tree) (s : Series) (c : NamedCell) → IsInline n t (Some s) → length s.slots ≡ 1 → c ≡ record { name = s.name; kind = s.kind; cell = cell_of (is_unit t) s.slots } → IsInlineCell n t (Some c)
inline_one n t s c h l e = (
  and_true (is_inline n t) (has_one_row t) h.0 (one_row t s h.1 l),
  rw e (record {
    sound = h.1.sound;
    name = h.1.name;
    kind = h.1.kind;
    value = h.1.value;
    shape = unit_cell_of (is_unit t) s.slots;
  }),
)

pub inline_many : (n : ℕ) (t : Tree) (s : Series) → IsInline n t (Some s) → length s.slots ≢ 1 → IsInlineCell n t None
inline_many n t s h l i = absurd (cc (sym (other_rows t s h.1 l) ∙ (both_true (is_inline n t) (has_one_row t) i).1))

pub inline_nothing : (n : ℕ) (t : Tree) → IsInline n t None → IsInlineCell n t None
inline_nothing n t h i = h (both_true (is_inline n t) (has_one_row t) i).0

-- casts
abbrev bare_cast : PlannedCast → PlannedCast
bare_cast c = record c { input = bare c.input.tree }

cast_one : (n : ℕ) (c : PlannedCast) (x : NamedCell) (made : Result NamedCell PxError) → cast_named c.dtype c.options x ≡ made → IsInlineCell n c.input.tree (Some x) → IsInline (suc n) (cast_plan c).tree (column_or_none made)
cast_one n c x (Ok d) m h = (h.0, cast_value (bare_cast c) no_frame x d h.1 m)
cast_one n c x (Err e) m h = λ i. none_of e (cast_plan c).tree (inl (cast_lacks e (bare_cast c) no_frame x h.1 m))

pub cast_inline : (levels : ℕ) (c : PlannedCast) (x : NamedCell) (o : Option Series) → levels ≢ 0 → IsInlineCell (levels - 1) c.input.tree (Some x) → o ≡ column_or_none (cast_named c.dtype c.options x) → IsInline levels (cast_plan c).tree o
cast_inline zero c x o z h e = absurd (z refl)
cast_inline (suc n) c x o z h e = rw e (cast_one n c x (cast_named c.dtype c.options x) refl (subst (λ k. IsInlineCell k c.input.tree (Some x)) (omega arith) h))

pub cast_nothing : (levels : ℕ) (c : PlannedCast) → levels ≢ 0 → IsInlineCell (levels - 1) c.input.tree None → IsInline levels (cast_plan c).tree None
cast_nothing zero c z h = absurd (z refl)
cast_nothing (suc n) c z h = λ i r f.
    let below : IsInlineCell n c.input.tree None = subst (λ k. IsInlineCell k c.input.tree None) (omega arith) h in
    let size = below i (none_first (refusals_of c.input.tree [] Default) (own_refusals (cast_plan c).tree [] Default) r) (none_left (faults_on c.input.tree no_frame) (fault_in (outcome_on (cast_plan c).tree no_frame)) f) in
    omega (arith, size)

-- functions
abbrev bare_apply : PlannedApply → PlannedApply
bare_apply a = record a { inputs = map (λ p. bare p.tree) a.inputs }

same_trees : (ps : List Planned) → plan_trees (map (λ p. bare p.tree) ps) ≡ plan_trees ps
same_trees [] = refl
same_trees (p ∷ ps) = cc (same_trees ps)

no_columns : (ps : List Planned) → plan_columns (map (λ p. bare p.tree) ps) ≡ []
no_columns [] = refl
no_columns (p ∷ ps) = no_columns ps

bare_function : (a : PlannedApply) → apply_plan (bare_apply a) ≡ bare (apply_plan a).tree
bare_function a = λ i. record { tree = function (same_trees a.inputs i) a.call; columns = no_columns a.inputs i }

apply_one : (n : ℕ) (a : PlannedApply) (cs : List NamedCell) (made : Result NamedCell PxError) → function_named (called a.call) cs ≡ made → AreInlineCells n a.inputs (Some cs) → IsInline (suc n) (apply_plan a).tree (column_or_none made)
apply_one n a cs (Ok d) m h = (h.0, subst (λ (p : Planned). IsValue p no_frame (column_of_cell d)) (bare_function a) (apply_value (bare_apply a) no_frame cs h.1 d m))
apply_one n a cs (Err e) m h = λ i.
    none_of e (apply_plan a).tree
    (subst (λ (p : Planned). IsOneOf e (causes_on p no_frame) ⊎ (2 ^ 32 ≤ size_on p.tree (no_frame ∷ []))) (bare_function a) (apply_lacks (bare_apply a) no_frame cs h.1 e m))

pub apply_inline : (levels : ℕ) (a : PlannedApply) (cs : List NamedCell) (o : Option Series) → levels ≢ 0 → AreInlineCells (levels - 1) a.inputs (Some cs) → o ≡ column_or_none (function_named (called a.call) cs) → IsInline levels (apply_plan a).tree o
apply_inline zero a cs o z h e = absurd (z refl)
apply_inline (suc n) a cs o z h e = rw e (apply_one n a cs (function_named (called a.call) cs) refl (subst (λ k. AreInlineCells k a.inputs (Some cs)) (omega arith) h))

pub apply_nothing : (levels : ℕ) (a : PlannedApply) → levels ≢ 0 → AreInlineCells (levels - 1) a.inputs None → IsInline levels (apply_plan a).tree None
apply_nothing zero a z h = absurd (z refl)
apply_nothing (suc n) a z h = λ i r f.
    let below : AreInlineCells n a.inputs None = subst (λ k. AreInlineCells k a.inputs None) (omega arith) h in
    let es = plan_trees a.inputs in
    let size = below i (none_first (all_refusals_of es [] Default) (own_refusals (apply_plan a).tree [] Default) r) (none_left (all_faults_on es no_frame) (fault_in (outcome_on (apply_plan a).tree no_frame)) f) in
    omega (arith, size)

-- some nodes' cells, from those of the ones that are left
pub record InlineFront (n : ℕ) (ps rest : List Planned) (cells : List NamedCell) : Type 0 where
  pub values : (cs : List NamedCell) → AreInlineCells n rest (Some cs) → AreInlineCells n ps (Some (cells ++ cs))
  pub nothing : AreInlineCells n rest None → AreInlineCells n ps None

pub inline_begun : (n : ℕ) (ps : List Planned) → InlineFront n ps ps []
inline_begun n ps = record { values = λ cs h. h; nothing = λ h. h }

tail_nothing : (n : ℕ) (p : Planned) (rest : List Planned) → AreInlineCells n rest None → AreInlineCells n (p ∷ rest) None
tail_nothing n p rest h i r f =
    let size = h (both_true (is_inline n p.tree && has_one_row p.tree) (are_inline n (plan_trees rest)) i).1
    (none_right (refusals_of p.tree [] Default) (all_refusals_of (plan_trees rest) [] Default) r) (none_right (faults_on p.tree no_frame) (all_faults_on (plan_trees rest) no_frame) f) in
    omega (arith, size)

head_nothing : (n : ℕ) (p : Planned) (rest : List Planned) → IsInlineCell n p.tree None → AreInlineCells n (p ∷ rest) None
head_nothing n p rest h i r f =
    let size = h (both_true (is_inline n p.tree && has_one_row p.tree) (are_inline n (plan_trees rest)) i).0
    (none_left (refusals_of p.tree [] Default) (all_refusals_of (plan_trees rest) [] Default) r) (none_left (faults_on p.tree no_frame) (all_faults_on (plan_trees rest) no_frame) f) in
    omega (arith, size)

inline_next : (n : ℕ) (ps : List Planned) (p : Planned) (rest : List Planned) (cells : List NamedCell) (c : NamedCell) → InlineFront n ps (p ∷ rest) cells → IsInlineCell n p.tree (Some c) → InlineFront n ps rest (cells ++ c ∷ [])
inline_next n ps p rest cells c v is = record {
  values = λ cs h.
      subst (λ ds. AreInlineCells n ps (Some ds)) (sym (append_assoc cells (c ∷ []) cs))
      (v.values (c ∷ cs) (and_true (is_inline n p.tree && has_one_row p.tree) (are_inline n (plan_trees rest)) is.0 h.0, (is.1, h.1)));
  nothing = λ h. v.nothing (tail_nothing n p rest h);
}

-- the same of the nodes from a place on
abbrev pub InlineTo : ℕ → List PhysExpr → ℕ → List Cell → Type 0
InlineTo n nodes i cells = InlineFront n (map plan_of nodes) (map plan_of (drop i nodes)) (map named_cell cells)

module _ (n : ℕ) (nodes : List PhysExpr) (i : ℕ) (node : PhysExpr) (below : i < length nodes) (is : node ≡ get_or nodes i node) (cells : List Cell) (v : InlineTo n nodes i cells) where
  opened : InlineFront n (map plan_of nodes) (plan_of node ∷ map plan_of (drop (i + 1) nodes)) (map named_cell cells)
  opened =
      subst (λ (ms : List PhysExpr). InlineFront n (map plan_of nodes) (map plan_of ms) (map named_cell cells))
      (at_drop_more (λ (ms : List PhysExpr). ms) nodes i node below ∙ ap (λ m. m ∷ drop (i + 1) nodes) (sym is)) v

  pub inline_more : (more : List Cell) (c : Cell) → more ≡ cells ++ c ∷ [] → IsInlineCell n (plan_of node).tree (Some (named_cell c)) → InlineTo n nodes (i + 1) more
  inline_more more c added h =
      subst (λ cs. InlineFront n (map plan_of nodes) (map plan_of (drop (i + 1) nodes)) cs) (sym (ap (map named_cell) added ∙ map-append named_cell cells (c ∷ [])))
      (inline_next n (map plan_of nodes) (plan_of node) (map plan_of (drop (i + 1) nodes)) (map named_cell cells) (named_cell c) opened h)

  pub inline_stops : IsInlineCell n (plan_of node).tree None → AreInlineCells n (map plan_of nodes) None
  inline_stops h = opened.nothing (head_nothing n (plan_of node) (map plan_of (drop (i + 1) nodes)) h)

-- all of them
pub inline_done : (n : ℕ) (nodes : List PhysExpr) (i : ℕ) (cells : List Cell) → length nodes ≤ i → InlineTo n nodes i cells → AreInlineCells n (map plan_of nodes) (Some (map named_cell cells))
inline_done n nodes i cells h v = subst (λ cs. AreInlineCells n (map plan_of nodes) (Some cs)) (append-nil (map named_cell cells)) (closed.values [] (refl, tt))
  where
    closed : InlineFront n (map plan_of nodes) [] (map named_cell cells)
    closed = subst (λ (ms : List PhysExpr). InlineFront n (map plan_of nodes) (map plan_of ms) (map named_cell cells)) (at_drop_all (λ (ms : List PhysExpr). ms) nodes i h) v
