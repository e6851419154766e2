-- Nodes that work row by row, on groups: operators, ternaries and casts, from the contexts of their inputs; and names.
use Rattle.std.proofs.Common.{◌≡◌, ◌⊎◌, inl, inr, ℕ, Bool, true, false, cond, ◌&&◌, List, [], ◌∷◌, Option, Some, None, Result, Ok, Err, IfOk, IfErr, length, map, refl, sym, ◌∙◌, ap, subst, arith}
use Rattle.std.specs.Option.{option_map}
use Rattle.px_column.specs.Cast.{cast_kind}
use Rattle.px_column.specs.Operator.{is_boolean_kind, kind_where, operator_kind}
use Rattle.px_column.specs.Prelude.{Kind, Series, kind_eq}
use Rattle.px_value.specs.declared.cast_options.CastOptions.{CastOptions}
use Rattle.px_value.specs.declared.cast_options.CastOptions.TheVariants.{Strict, NonStrict, Overflowing}
use Rattle.px_value.specs.declared.error.PxError.{PxError}
use Rattle.px_value.specs.declared.error.PxError.TheVariants.{SchemaMismatch}
use Rattle.px_frame.specs.Cell.{Cell}
use Rattle.px_frame.specs.External.{Frame}
use Rattle.px_frame.specs.Groups.{Groups}
use Rattle.px_tree.specs.Cost.{is_flat_rows}
use Rattle.px_tree.specs.Tree.{Tree, cast}
use Rattle.px_tree.specs.Value.{made, outcome_on}
use Rattle.px_context.specs.Built.{renamed}
use Rattle.px_context.specs.Context.{Context, cell_kind, cells_in, cells_of, has_units}
use Rattle.px_context.specs.declared.agg_state.Layout.{Layout}
use Rattle.px_context.specs.declared.agg_state.Layout.TheVariants.{Lists, Scalars, Flat, Rows, Unit as Single}
use Rattle.px_nodes.specs.Named.{binary_named, ternary_named, cast_named}
use Rattle.px_lanes.specs.Casting.{IsCast, cast_answers, is_strict}
use Rattle.px_lanes.specs.Lane.{has_lane}
use Rattle.px_lanes.specs.Made.{IsRefusal, KeepsGroups, counts_in, named_in}
use Rattle.px_lanes.specs.Operator.{IsOperated, operator_answers}
use Rattle.px_group_nodes.specs.Ternary.{IsTernary, ternary_answers, ternary_kind}
use Rattle.px_answers.proofs.Counts.{and_left, and_right}
use Rattle.px_answers.proofs.Inputs.{one_none, two_none, three_none}
use Rattle.px_answers.proofs.Operands.{binary_answer, binary_node, cast_answer, cast_node, cast_typed, first_guarded, first_refusal, kind_made, ternary_answer, ternary_node, ternary_typed}
use Rattle.px_answers.proofs.Plain.{plain_if, plain_operator, plain_where}
use Rattle.px_answers.specs.Parts.{PlannedBinary, PlannedCast, PlannedTernary, alias_plan, binary_plan, cast_plan, ternary_plan}
use Rattle.px_answers.specs.Planned.{Planned}
use Rattle.px_answers.specs.Value.{IsCellOf}
use Rattle.px_group_answers.proofs.Above.{Answers, answers_in_size, cause_of, group_cause_above, made_context, made_group_cause}
use Rattle.px_group_answers.proofs.Pointwise.{one_answers, two_answers, three_answers}
use Rattle.px_group_answers.specs.OnGroups.{AreCellsOn, IsContextOf, IsGroupCause, group_frames, group_refusals}

module _ (b : PlannedBinary) (frame : Frame) (g : Groups) (x y : Context) (h : IsContextOf b.left frame g x) (k : IsContextOf b.right frame g y) where
  operated : Answers (binary_plan b) (b.left ∷ b.right ∷ []) frame g x.values.name (operator_kind b.op (cell_kind x) (cell_kind y)) (operator_answers b.op x y)
  operated = record {
    node = binary_node b;
    sound = two_none (group_refusals b.left frame) (group_refusals b.right frame) h.sound k.sound;
    own = rw (h.kind, k.kind) (first_refusal (operator_kind b.op (cell_kind x) (cell_kind y)));
    kind = rw (h.kind, k.kind) (kind_made (operator_kind b.op (cell_kind x) (cell_kind y)));
    named = h.name;
    plain_type = plain_operator b.op (cell_kind x) (cell_kind y);
    each = two_answers (binary_plan b) b.left b.right x y (operator_kind b.op (cell_kind x) (cell_kind y)) (binary_named b.op)
        (λ f u v p q. binary_answer b f (named_in x u) (named_in y v) p q) (group_frames frame g) (cells_of x) (cells_of y) h.cells k.cells;
  }

  -- the context that an operator makes
  pub binary_context : (r : Result Context PxError) → IfOk r (IsOperated b.op x y) → IfOk r (KeepsGroups (x ∷ y ∷ [])) → (has_lane x ≡ true → has_lane y ≡ true → IfOk r (λ c. has_lane c ≡ true)) → IfOk r (IsContextOf (binary_plan b) frame g)
  binary_context (Ok c) m keeps lane =
      made_context (binary_plan b) (b.left ∷ b.right ∷ []) frame g x.values.name (operator_kind b.op (cell_kind x) (cell_kind y)) (operator_answers b.op x y) (has_units x.layout && has_units y.layout) (length x.groups.groups) (x ∷ y ∷ []) c
      operated (h.kept, (k.kept, tt)) (rw (h.shape, k.shape) refl) h.count m keeps
      (λ t. lane (h.lane (and_left (is_flat_rows b.left.tree) (is_flat_rows b.right.tree) t)) (k.lane (and_right (is_flat_rows b.left.tree) (is_flat_rows b.right.tree) t)))
  binary_context (Err e) m keeps lane = tt

  -- why it makes none
  pub binary_refused : (r : Result Context PxError) → IfErr r (λ e. (operator_kind b.op (cell_kind x) (cell_kind y) ≡ Err e) ⊎ IsRefusal e (operator_answers b.op x y) (counts_in (operator_answers b.op x y))) → IfErr r (λ e. IsGroupCause e (binary_plan b) frame g)
  binary_refused (Ok c) w = tt
  binary_refused (Err e) w =
      made_group_cause e (binary_plan b) (b.left ∷ b.right ∷ []) frame g x.values.name (operator_kind b.op (cell_kind x) (cell_kind y)) (operator_answers b.op x y) (counts_in (operator_answers b.op x y)) operated
      (answers_in_size (binary_plan b) (b.left ∷ b.right ∷ []) frame g x.values.name (operator_kind b.op (cell_kind x) (cell_kind y)) (operator_answers b.op x y) operated) w

-- a cause of an operand is the operator's
pub left_group_cause : (e : PxError) (b : PlannedBinary) (frame : Frame) (g : Groups) → IsGroupCause e b.left frame g → IsGroupCause e (binary_plan b) frame g
left_group_cause e b frame g = group_cause_above (binary_plan b) (b.left ∷ b.right ∷ []) (binary_node b) e b.left frame g (inl refl)

pub right_group_cause : (e : PxError) (b : PlannedBinary) (frame : Frame) (g : Groups) → IsGroupCause e b.right frame g → IsGroupCause e (binary_plan b) frame g
right_group_cause e b frame g = group_cause_above (binary_plan b) (b.left ∷ b.right ∷ []) (binary_node b) e b.right frame g (inr (inl refl))

module _ (t : PlannedTernary) (frame : Frame) (g : Groups) (p x y : Context) (i : IsContextOf t.predicate frame g p) (h : IsContextOf t.truthy frame g x) (k : IsContextOf t.falsy frame g y) where
  chosen : Answers (ternary_plan t) (t.predicate ∷ t.truthy ∷ t.falsy ∷ []) frame g x.values.name (ternary_kind (cell_kind p) (cell_kind x) (cell_kind y)) (ternary_answers p x y)
  chosen = record {
    node = ternary_node t;
    sound = three_none (group_refusals t.predicate frame) (group_refusals t.truthy frame) (group_refusals t.falsy frame) i.sound h.sound k.sound;
    own = rw (i.kind, h.kind, k.kind) (first_guarded (is_boolean_kind (cell_kind p)) SchemaMismatch (kind_where (kind_eq (cell_kind x) (cell_kind y)) (cell_kind x)));
    kind = ternary_typed (is_boolean_kind (cell_kind p)) (kind_eq (cell_kind x) (cell_kind y)) (cell_kind x) _ h.kind;
    named = h.name;
    plain_type = plain_if (is_boolean_kind (cell_kind p)) (kind_where (kind_eq (cell_kind x) (cell_kind y)) (cell_kind x)) (Err SchemaMismatch) (plain_where (kind_eq (cell_kind x) (cell_kind y)) (cell_kind x)) refl;
    each = three_answers (ternary_plan t) t.predicate t.truthy t.falsy p x y (ternary_kind (cell_kind p) (cell_kind x) (cell_kind y)) ternary_named
        (λ f w u v o q r. ternary_answer t f (named_in p w) (named_in x u) (named_in y v) o q r) (group_frames frame g) (cells_of p) (cells_of x) (cells_of y) i.cells h.cells k.cells;
  }

  -- the context that a ternary makes
  pub ternary_context : (r : Result Context PxError) → IfOk r (IsTernary p x y) → IfOk r (KeepsGroups (p ∷ x ∷ y ∷ [])) → (has_lane p ≡ true → has_lane x ≡ true → has_lane y ≡ true → IfOk r (λ c. has_lane c ≡ true)) → IfOk r (IsContextOf (ternary_plan t) frame g)
  ternary_context (Ok c) m keeps lane =
      made_context (ternary_plan t) (t.predicate ∷ t.truthy ∷ t.falsy ∷ []) frame g x.values.name (ternary_kind (cell_kind p) (cell_kind x) (cell_kind y)) (ternary_answers p x y) (has_units p.layout && (has_units x.layout && has_units y.layout)) (length p.groups.groups)
      (p ∷ x ∷ y ∷ []) c chosen (i.kept, (h.kept, (k.kept, tt))) (rw (i.shape, h.shape, k.shape) refl) i.count m keeps
      (λ (rows : (is_flat_rows t.predicate.tree && (is_flat_rows t.truthy.tree && is_flat_rows t.falsy.tree)) ≡ true).
      let branches = and_right (is_flat_rows t.predicate.tree) (is_flat_rows t.truthy.tree && is_flat_rows t.falsy.tree) rows in
      lane (i.lane (and_left (is_flat_rows t.predicate.tree) (is_flat_rows t.truthy.tree && is_flat_rows t.falsy.tree) rows)) (h.lane (and_left (is_flat_rows t.truthy.tree) (is_flat_rows t.falsy.tree) branches))
      (k.lane (and_right (is_flat_rows t.truthy.tree) (is_flat_rows t.falsy.tree) branches)))
  ternary_context (Err e) m keeps lane = tt

  -- why it makes none
  pub ternary_refused : (r : Result Context PxError) → IfErr r (λ e. (ternary_kind (cell_kind p) (cell_kind x) (cell_kind y) ≡ Err e) ⊎ IsRefusal e (ternary_answers p x y) (counts_in (ternary_answers p x y))) → IfErr r (λ e. IsGroupCause e (ternary_plan t) frame g)
  ternary_refused (Ok c) w = tt
  ternary_refused (Err e) w =
      made_group_cause e (ternary_plan t) (t.predicate ∷ t.truthy ∷ t.falsy ∷ []) frame g x.values.name (ternary_kind (cell_kind p) (cell_kind x) (cell_kind y)) (ternary_answers p x y) (counts_in (ternary_answers p x y)) chosen
      (answers_in_size (ternary_plan t) (t.predicate ∷ t.truthy ∷ t.falsy ∷ []) frame g x.values.name (ternary_kind (cell_kind p) (cell_kind x) (cell_kind y)) (ternary_answers p x y) chosen) w

-- a cause of the predicate or of a branch is the ternary's
pub predicate_group_cause : (e : PxError) (t : PlannedTernary) (frame : Frame) (g : Groups) → IsGroupCause e t.predicate frame g → IsGroupCause e (ternary_plan t) frame g
predicate_group_cause e t frame g = group_cause_above (ternary_plan t) (t.predicate ∷ t.truthy ∷ t.falsy ∷ []) (ternary_node t) e t.predicate frame g (inl refl)

pub truthy_group_cause : (e : PxError) (t : PlannedTernary) (frame : Frame) (g : Groups) → IsGroupCause e t.truthy frame g → IsGroupCause e (ternary_plan t) frame g
truthy_group_cause e t frame g = group_cause_above (ternary_plan t) (t.predicate ∷ t.truthy ∷ t.falsy ∷ []) (ternary_node t) e t.truthy frame g (inr (inl refl))

pub falsy_group_cause : (e : PxError) (t : PlannedTernary) (frame : Frame) (g : Groups) → IsGroupCause e t.falsy frame g → IsGroupCause e (ternary_plan t) frame g
falsy_group_cause e t frame g = group_cause_above (ternary_plan t) (t.predicate ∷ t.truthy ∷ t.falsy ∷ []) (ternary_node t) e t.falsy frame g (inr (inr (inl refl)))

-- a cast that works on flat rows is not strict
pub flat_cast : (e : Tree) (to : Kind) (o : CastOptions) → is_flat_rows (cast e to o) ≡ true → (is_strict o ≡ false) × (is_flat_rows e ≡ true)
flat_cast e to Strict t = absurd (cc t)
flat_cast e to NonStrict t = (refl, t)
flat_cast e to Overflowing t = (refl, t)

module _ (p : PlannedCast) (frame : Frame) (g : Groups) (x : Context) (h : IsContextOf p.input frame g x) where
  casted : Answers (cast_plan p) (p.input ∷ []) frame g x.values.name (cast_kind (cell_kind x) p.dtype) (cast_answers p.dtype p.options x)
  casted = record {
    node = cast_node p;
    sound = one_none (group_refusals p.input frame) h.sound;
    own = rw h.kind (first_refusal (cast_kind (cell_kind x) p.dtype));
    kind = cast_typed _ p.dtype;
    named = h.name;
    plain_type = plain_where _ p.dtype;
    each = one_answers (cast_plan p) p.input x (cast_kind (cell_kind x) p.dtype) (cast_named p.dtype p.options) (λ f u q. cast_answer p f (named_in x u) q) (group_frames frame g) (cells_of x) h.cells;
  }

  -- the context that a cast makes
  pub cast_context : (r : Result Context PxError) → IfOk r (IsCast p.dtype p.options x) → IfOk r (KeepsGroups (x ∷ [])) → (is_strict p.options ≡ false → has_lane x ≡ true → IfOk r (λ c. has_lane c ≡ true)) → IfOk r (IsContextOf (cast_plan p) frame g)
  cast_context (Ok c) m keeps lane =
      made_context (cast_plan p) (p.input ∷ []) frame g x.values.name (cast_kind (cell_kind x) p.dtype) (cast_answers p.dtype p.options x) (has_units x.layout) (length x.groups.groups) (x ∷ []) c casted (h.kept, tt) h.shape h.count m keeps
      (λ t. let flat = flat_cast p.input.tree p.dtype p.options t in lane flat.0 (h.lane flat.1))
  cast_context (Err e) m keeps lane = tt

  -- why it makes none
  pub cast_refused : (r : Result Context PxError) → IfErr r (λ e. (cast_kind (cell_kind x) p.dtype ≡ Err e) ⊎ IsRefusal e (cast_answers p.dtype p.options x) (counts_in (cast_answers p.dtype p.options x))) → IfErr r (λ e. IsGroupCause e (cast_plan p) frame g)
  cast_refused (Ok c) w = tt
  cast_refused (Err e) w =
      made_group_cause e (cast_plan p) (p.input ∷ []) frame g x.values.name (cast_kind (cell_kind x) p.dtype) (cast_answers p.dtype p.options x) (counts_in (cast_answers p.dtype p.options x)) casted
      (answers_in_size (cast_plan p) (p.input ∷ []) frame g x.values.name (cast_kind (cell_kind x) p.dtype) (cast_answers p.dtype p.options x) casted) w

-- a cause of what is cast is the cast's
pub cast_group_cause : (e : PxError) (p : PlannedCast) (frame : Frame) (g : Groups) → IsGroupCause e p.input frame g → IsGroupCause e (cast_plan p) frame g
cast_group_cause e p frame g = group_cause_above (cast_plan p) (p.input ∷ []) (cast_node p) e p.input frame g (inl refl)

made_again : (o : Option (Result Cell PxError)) → made (option_map Ok (made o)) ≡ made o
made_again None = refl
made_again (Some (Ok c)) = refl
made_again (Some (Err e)) = refl

-- a name changes no cell
cells_same : (l : Layout) (s : Series) (g : Groups) (n : List ℕ) → cells_in l (record s { name = n }) g ≡ cells_in l s g
cells_same Lists s g n = refl
cells_same Scalars s g n = refl
cells_same Flat s g n = refl
cells_same Rows s g n = refl
cells_same Single s g n = refl

-- the cells under another name
cells_renamed : (p : Planned) (n : List ℕ) (c : Context) (fs : List Frame) (xs : List Cell) → AreCellsOn p fs (map (named_in c) xs) → AreCellsOn (alias_plan p n) fs (map (named_in (renamed c n)) xs)
cells_renamed p n c [] [] h = tt
cells_renamed p n c [] (x ∷ xs) h = absurd h
cells_renamed p n c (f ∷ fs) [] h = absurd h
cells_renamed p n c (f ∷ fs) (x ∷ xs) h =
    let here : IsCellOf p f (named_in c x) = h.0 in
    (record { sound = here.sound; name = refl; kind = here.kind; value = made_again (outcome_on p.tree f) ∙ here.value; shape = here.shape }, cells_renamed p n c fs xs h.1)

-- a context under another name is what an alias has
pub alias_context : (q p : Planned) (n : List ℕ) (frame : Frame) (g : Groups) (c : Context) (r : Result Context PxError) → q ≡ alias_plan p n → IsContextOf p frame g c → IfOk r (λ d. d ≡ renamed c n) → IfOk r (IsContextOf q frame g)
alias_context q p n frame g c (Err e) s h i = tt
alias_context q p n frame g c (Ok d) s h i =
    subst (λ (a : Planned). IsContextOf a frame g d) (sym s)
    (subst (IsContextOf (alias_plan p n) frame g) (sym i)
    (record { sound = h.sound; name = refl; kind = h.kind; cells = subst (λ xs. AreCellsOn (alias_plan p n) (group_frames frame g) (map (named_in (renamed c n)) xs)) (sym (cells_same c.layout c.values c.groups n)) (cells_renamed p n c (group_frames frame g) (cells_of c) h.cells); shape = h.shape; count = h.count; kept = h.kept; lane = h.lane }))

-- a cause of what has another name is the alias's
pub alias_group_cause : (e : PxError) (q p : Planned) (n : List ℕ) (frame : Frame) (g : Groups) → q ≡ alias_plan p n → IsGroupCause e p frame g → IsGroupCause e q frame g
alias_group_cause e q p n frame g s h = subst (λ (a : Planned). IsGroupCause e a frame g) (sym s) (cause_of e p (alias_plan p n) frame g (λ b. omega (arith, b)) (λ j. j) h)
