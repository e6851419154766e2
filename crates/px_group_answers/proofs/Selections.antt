-- Nodes that choose or order rows, on groups: filters, slices, gathers and sorts, from the contexts of their inputs.
use Rattle.std.proofs.Common.{◌≡◌, ◌⊎◌, inl, inr, Bool, true, false, cond, not, ◌&&◌, List, [], ◌∷◌, ◌++◌, Result, Ok, Err, IfOk, IfErr, length, refl, sym, ◌∙◌, subst}
use Rattle.px_column.specs.Operator.{is_boolean_kind, is_integer_kind}
use Rattle.px_column.specs.Prelude.{Kind, is_list_kind}
use Rattle.px_value.specs.declared.error.ComputeWhy.TheVariants.{SingleIndex}
use Rattle.px_value.specs.declared.error.InvalidWhy.TheVariants.{ListKey, Types}
use Rattle.px_value.specs.declared.error.PxError.{PxError}
use Rattle.px_value.specs.declared.error.PxError.TheVariants.{ComputeError, InvalidOperation, SchemaMismatch}
use Rattle.px_frame.specs.External.{Frame, scope_of}
use Rattle.px_frame.specs.Groups.{Groups}
use Rattle.px_tree.specs.Shape.{has_implode, is_literal_tree}
use Rattle.px_tree.specs.Typing.{fails, implode_refusal, is_integer_or_null, kind_in, or_first, refused_where, scalar_refusal}
use Rattle.px_context.specs.Context.{Context, cell_kind, cells_of, has_units}
use Rattle.px_nodes.specs.Named.{filter_named, gather_named, slice_named, sort_named}
use Rattle.px_lanes.specs.Made.{IsRefusal, KeepsGroups, counts_in, named_in}
use Rattle.px_group_nodes.specs.Filter.{IsFiltered, filter_answers, filtered_kind}
use Rattle.px_group_nodes.specs.Gather.{IsGathered, gather_answers, gathered_kind}
use Rattle.px_group_nodes.specs.Slice.{IsSliced, slice_answers, slice_kind}
use Rattle.px_group_nodes.specs.Sorting.{IsSorted, sort_answers, sorted_kind}
use Rattle.px_answers.proofs.Inputs.{IsAnswer, one_none, two_none, three_none}
use Rattle.px_answers.proofs.Plain.{plain_if}
use Rattle.px_answers.proofs.Selections.{filter_answer, filter_node, first_index, first_kept, first_two, first_unless, gather_answer, gather_kind, gather_node, kept_kind, plain_index, slice_answer, slice_node, sort_answer, sort_node, unless_kind}
use Rattle.px_answers.specs.Parts.{PlannedFilter, PlannedGather, PlannedSlice, PlannedSort, filter_plan, gather_plan, slice_plan, sort_plan}
use Rattle.px_group_answers.proofs.Above.{Answers, answers_in_size, group_cause_above, made_context, made_group_cause, own_group_cause}
use Rattle.px_group_answers.proofs.Pointwise.{one_answers, two_answers, three_answers}
use Rattle.px_group_answers.proofs.Refusing.{first_front, plain_above, plain_scalar}
use Rattle.px_group_answers.specs.OnGroups.{IsContextOf, IsGroupCause, group_frames, group_refusals}

-- filters
module _ (p : PlannedFilter) (frame : Frame) (g : Groups) (x y : Context) (h : IsContextOf p.input frame g x) (k : IsContextOf p.by frame g y) where
  -- rows are not chosen from one value
  pub filter_own_refused : (e : PxError) → or_first [] (scalar_refusal p.input.tree) ≡ e ∷ [] → IsGroupCause e (filter_plan p) frame g
  filter_own_refused e own =
      own_group_cause (filter_plan p) (p.input ∷ p.by ∷ []) (filter_node p) e frame g (two_none (group_refusals p.input frame) (group_refusals p.by frame) h.sound k.sound) (plain_scalar p.input.tree e own) (first_front e (scalar_refusal p.input.tree) _ own)

  module _ (rows : scalar_refusal p.input.tree ≡ []) where
    filtered : Answers (filter_plan p) (p.input ∷ p.by ∷ []) frame g x.values.name (filtered_kind x y) (filter_answers x y)
    filtered = record {
      node = filter_node p;
      sound = two_none (group_refusals p.input frame) (group_refusals p.by frame) h.sound k.sound;
      own = rw (rows, k.kind) (first_kept (is_boolean_kind (cell_kind y)) SchemaMismatch (cell_kind x));
      kind = kept_kind (is_boolean_kind (cell_kind y)) SchemaMismatch (cell_kind x) (kind_in p.input.tree (scope_of frame)) h.kind;
      named = h.name;
      plain_type = plain_if (is_boolean_kind (cell_kind y)) (Ok (cell_kind x)) (Err SchemaMismatch) tt refl;
      each = two_answers (filter_plan p) p.input p.by x y (filtered_kind x y) filter_named (λ f u v q r. filter_answer p f (named_in x u) (named_in y v) q r) (group_frames frame g) (cells_of x) (cells_of y) h.cells k.cells;
    }

    -- the context that a filter makes
    pub filter_context : (r : Result Context PxError) → IfOk r (IsFiltered x y) → IfOk r (KeepsGroups (x ∷ y ∷ [])) → IfOk r (IsContextOf (filter_plan p) frame g)
    filter_context (Ok c) m keeps =
        made_context (filter_plan p) (p.input ∷ p.by ∷ []) frame g x.values.name (filtered_kind x y) (filter_answers x y) false (length x.groups.groups) (x ∷ y ∷ []) c filtered (h.kept, (k.kept, tt)) refl h.count m keeps (λ t. absurd (cc t))
    filter_context (Err e) m keeps = tt

    -- why it makes none
    pub filter_refused : (r : Result Context PxError) → IfErr r (λ e. (filtered_kind x y ≡ Err e) ⊎ IsRefusal e (filter_answers x y) (counts_in (filter_answers x y))) → IfErr r (λ e. IsGroupCause e (filter_plan p) frame g)
    filter_refused (Ok c) w = tt
    filter_refused (Err e) w =
        made_group_cause e (filter_plan p) (p.input ∷ p.by ∷ []) frame g x.values.name (filtered_kind x y) (filter_answers x y) (counts_in (filter_answers x y)) filtered
        (answers_in_size (filter_plan p) (p.input ∷ p.by ∷ []) frame g x.values.name (filtered_kind x y) (filter_answers x y) filtered) w

-- a cause of the rows or of the mask is the filter's
pub filter_input_group_cause : (e : PxError) (p : PlannedFilter) (frame : Frame) (g : Groups) → IsGroupCause e p.input frame g → IsGroupCause e (filter_plan p) frame g
filter_input_group_cause e p frame g = group_cause_above (filter_plan p) (p.input ∷ p.by ∷ []) (filter_node p) e p.input frame g (inl refl)

pub mask_group_cause : (e : PxError) (p : PlannedFilter) (frame : Frame) (g : Groups) → IsGroupCause e p.by frame g → IsGroupCause e (filter_plan p) frame g
mask_group_cause e p frame g = group_cause_above (filter_plan p) (p.input ∷ p.by ∷ []) (filter_node p) e p.by frame g (inr (inl refl))

-- slices
module _ (s : PlannedSlice) (frame : Frame) (g : Groups) (x o l : Context) (i : IsContextOf s.input frame g x) (h : IsContextOf s.offset frame g o) (k : IsContextOf s.length frame g l) where
  -- rows are not chosen from one value, nor above an Implode
  pub slice_own_refused : (e : PxError) → or_first [] (implode_refusal (has_implode (slice_plan s).tree) ++ scalar_refusal s.input.tree) ≡ e ∷ [] → IsGroupCause e (slice_plan s) frame g
  slice_own_refused e own =
      own_group_cause (slice_plan s) (s.input ∷ s.offset ∷ s.length ∷ []) (slice_node s) e frame g (three_none (group_refusals s.input frame) (group_refusals s.offset frame) (group_refusals s.length frame) i.sound h.sound k.sound)
      (plain_above (has_implode (slice_plan s).tree) s.input.tree e own) (first_front e (implode_refusal (has_implode (slice_plan s).tree) ++ scalar_refusal s.input.tree) _ own)

  module _ (rows : implode_refusal (has_implode (slice_plan s).tree) ++ scalar_refusal s.input.tree ≡ []) where
    sliced : Answers (slice_plan s) (s.input ∷ s.offset ∷ s.length ∷ []) frame g x.values.name (slice_kind (cell_kind x) (cell_kind o) (cell_kind l)) (slice_answers x o l)
    sliced = record {
      node = slice_node s;
      sound = three_none (group_refusals s.input frame) (group_refusals s.offset frame) (group_refusals s.length frame) i.sound h.sound k.sound;
      own = rw (rows, h.kind, k.kind) (first_two (is_integer_or_null (cell_kind o)) (is_integer_or_null (cell_kind l)) (InvalidOperation Types) (cell_kind x));
      kind = kept_kind (is_integer_or_null (cell_kind o) && is_integer_or_null (cell_kind l)) (InvalidOperation Types) (cell_kind x) (kind_in s.input.tree (scope_of frame)) i.kind;
      named = i.name;
      plain_type = plain_if (is_integer_or_null (cell_kind o) && is_integer_or_null (cell_kind l)) (Ok (cell_kind x)) (Err (InvalidOperation Types)) tt refl;
      each = three_answers (slice_plan s) s.input s.offset s.length x o l (slice_kind (cell_kind x) (cell_kind o) (cell_kind l)) slice_named
          (λ f u v w p q r. slice_answer s f (named_in x u) (named_in o v) (named_in l w) p q r) (group_frames frame g) (cells_of x) (cells_of o) (cells_of l) i.cells h.cells k.cells;
    }

    -- the context that a slice makes
    pub slice_context : (r : Result Context PxError) → IfOk r (IsSliced x o l) → IfOk r (KeepsGroups (x ∷ o ∷ l ∷ [])) → IfOk r (IsContextOf (slice_plan s) frame g)
    slice_context (Ok c) m keeps =
        made_context (slice_plan s) (s.input ∷ s.offset ∷ s.length ∷ []) frame g x.values.name (slice_kind (cell_kind x) (cell_kind o) (cell_kind l)) (slice_answers x o l) false (length x.groups.groups) (x ∷ o ∷ l ∷ []) c sliced
        (i.kept, (h.kept, (k.kept, tt))) refl i.count m keeps (λ t. absurd (cc t))
    slice_context (Err e) m keeps = tt

    -- why it makes none
    pub slice_refused : (r : Result Context PxError) → IfErr r (λ e. (slice_kind (cell_kind x) (cell_kind o) (cell_kind l) ≡ Err e) ⊎ IsRefusal e (slice_answers x o l) (counts_in (slice_answers x o l))) → IfErr r (λ e. IsGroupCause e (slice_plan s) frame g)
    slice_refused (Ok c) w = tt
    slice_refused (Err e) w =
        made_group_cause e (slice_plan s) (s.input ∷ s.offset ∷ s.length ∷ []) frame g x.values.name (slice_kind (cell_kind x) (cell_kind o) (cell_kind l)) (slice_answers x o l) (counts_in (slice_answers x o l)) sliced
        (answers_in_size (slice_plan s) (s.input ∷ s.offset ∷ s.length ∷ []) frame g x.values.name (slice_kind (cell_kind x) (cell_kind o) (cell_kind l)) (slice_answers x o l) sliced) w

-- a cause of the rows, of the offset or of the length is the slice's
pub slice_input_group_cause : (e : PxError) (s : PlannedSlice) (frame : Frame) (g : Groups) → IsGroupCause e s.input frame g → IsGroupCause e (slice_plan s) frame g
slice_input_group_cause e s frame g = group_cause_above (slice_plan s) (s.input ∷ s.offset ∷ s.length ∷ []) (slice_node s) e s.input frame g (inl refl)

pub offset_group_cause : (e : PxError) (s : PlannedSlice) (frame : Frame) (g : Groups) → IsGroupCause e s.offset frame g → IsGroupCause e (slice_plan s) frame g
offset_group_cause e s frame g = group_cause_above (slice_plan s) (s.input ∷ s.offset ∷ s.length ∷ []) (slice_node s) e s.offset frame g (inr (inl refl))

pub length_group_cause : (e : PxError) (s : PlannedSlice) (frame : Frame) (g : Groups) → IsGroupCause e s.length frame g → IsGroupCause e (slice_plan s) frame g
length_group_cause e s frame g = group_cause_above (slice_plan s) (s.input ∷ s.offset ∷ s.length ∷ []) (slice_node s) e s.length frame g (inr (inr (inl refl)))

-- gathers
module _ (p : PlannedGather) (frame : Frame) (g : Groups) (x y : Context) (h : IsContextOf p.phys_expr frame g x) (k : IsContextOf p.idx frame g y) where
  -- rows are not chosen from one value
  pub gather_own_refused : (e : PxError) → or_first [] (scalar_refusal p.phys_expr.tree) ≡ e ∷ [] → IsGroupCause e (gather_plan p) frame g
  gather_own_refused e own =
      own_group_cause (gather_plan p) (p.phys_expr ∷ p.idx ∷ []) (gather_node p) e frame g (two_none (group_refusals p.phys_expr frame) (group_refusals p.idx frame) h.sound k.sound) (plain_scalar p.phys_expr.tree e own)
      (first_front e (scalar_refusal p.phys_expr.tree ++ refused_where (fails is_integer_kind (kind_in p.idx.tree (scope_of frame))) (InvalidOperation Types)) _ (first_front e (scalar_refusal p.phys_expr.tree) _ own))

  module _ (rows : scalar_refusal p.phys_expr.tree ≡ []) where
    gathered : Answers (gather_plan p) (p.phys_expr ∷ p.idx ∷ []) frame g x.values.name (gathered_kind p.returns_scalar x y) (gather_answers p.returns_scalar (is_literal_tree p.idx.tree) x y)
    gathered = record {
      node = gather_node p;
      sound = two_none (group_refusals p.phys_expr frame) (group_refusals p.idx frame) h.sound k.sound;
      own = rw (rows, k.kind, ← k.shape) (first_index (is_integer_kind (cell_kind y)) (p.returns_scalar && not (has_units y.layout)) (cell_kind x));
      kind = gather_kind (is_integer_kind (cell_kind y)) (p.returns_scalar && not (has_units y.layout)) (cell_kind x) (kind_in p.phys_expr.tree (scope_of frame)) h.kind;
      named = h.name;
      plain_type = plain_index (is_integer_kind (cell_kind y)) (p.returns_scalar && not (has_units y.layout)) (cell_kind x);
      each = two_answers (gather_plan p) p.phys_expr p.idx x y (gathered_kind p.returns_scalar x y) (gather_named p.returns_scalar (is_literal_tree p.idx.tree))
          (λ f u v q r. subst (λ (b : Bool). IsAnswer (gather_plan p) f (cond (is_integer_kind (cell_kind y)) (cond (p.returns_scalar && not b) (Err (ComputeError SingleIndex)) (Ok (cell_kind x))) (Err (InvalidOperation Types))) (gather_named p.returns_scalar (is_literal_tree p.idx.tree) (named_in x u) (named_in y v)))
          (r.shape ∙ sym k.shape) (gather_answer p f (named_in x u) (named_in y v) q r))
          (group_frames frame g) (cells_of x) (cells_of y) h.cells k.cells;
    }

    -- the context that a gather makes
    pub gather_context : (r : Result Context PxError) → IfOk r (IsGathered p.returns_scalar (is_literal_tree p.idx.tree) x y) → IfOk r (KeepsGroups (x ∷ y ∷ [])) → IfOk r (IsContextOf (gather_plan p) frame g)
    gather_context (Ok c) m keeps =
        made_context (gather_plan p) (p.phys_expr ∷ p.idx ∷ []) frame g x.values.name (gathered_kind p.returns_scalar x y) (gather_answers p.returns_scalar (is_literal_tree p.idx.tree) x y) p.returns_scalar (length x.groups.groups) (x ∷ y ∷ []) c gathered
        (h.kept, (k.kept, tt)) refl h.count m keeps (λ t. absurd (cc t))
    gather_context (Err e) m keeps = tt

    -- why it makes none
    pub gather_refused : (r : Result Context PxError) → IfErr r (λ e. (gathered_kind p.returns_scalar x y ≡ Err e) ⊎ IsRefusal e (gather_answers p.returns_scalar (is_literal_tree p.idx.tree) x y) (counts_in (gather_answers p.returns_scalar (is_literal_tree p.idx.tree) x y)))
        → IfErr r (λ e. IsGroupCause e (gather_plan p) frame g)
    gather_refused (Ok c) w = tt
    gather_refused (Err e) w =
        made_group_cause e (gather_plan p) (p.phys_expr ∷ p.idx ∷ []) frame g x.values.name (gathered_kind p.returns_scalar x y) (gather_answers p.returns_scalar (is_literal_tree p.idx.tree) x y) (counts_in (gather_answers p.returns_scalar (is_literal_tree p.idx.tree) x y)) gathered
        (answers_in_size (gather_plan p) (p.phys_expr ∷ p.idx ∷ []) frame g x.values.name (gathered_kind p.returns_scalar x y) (gather_answers p.returns_scalar (is_literal_tree p.idx.tree) x y) gathered) w

-- a cause of the rows or of the indices is the gather's
pub gathered_group_cause : (e : PxError) (p : PlannedGather) (frame : Frame) (g : Groups) → IsGroupCause e p.phys_expr frame g → IsGroupCause e (gather_plan p) frame g
gathered_group_cause e p frame g = group_cause_above (gather_plan p) (p.phys_expr ∷ p.idx ∷ []) (gather_node p) e p.phys_expr frame g (inl refl)

pub index_group_cause : (e : PxError) (p : PlannedGather) (frame : Frame) (g : Groups) → IsGroupCause e p.idx frame g → IsGroupCause e (gather_plan p) frame g
index_group_cause e p frame g = group_cause_above (gather_plan p) (p.phys_expr ∷ p.idx ∷ []) (gather_node p) e p.idx frame g (inr (inl refl))

-- sorts
module _ (s : PlannedSort) (frame : Frame) (g : Groups) (x : Context) (h : IsContextOf s.physical_expr frame g x) where
  -- one value has no order
  pub sort_own_refused : (e : PxError) → or_first [] (scalar_refusal s.physical_expr.tree) ≡ e ∷ [] → IsGroupCause e (sort_plan s) frame g
  sort_own_refused e own =
      own_group_cause (sort_plan s) (s.physical_expr ∷ []) (sort_node s) e frame g (one_none (group_refusals s.physical_expr frame) h.sound) (plain_scalar s.physical_expr.tree e own) (first_front e (scalar_refusal s.physical_expr.tree) _ own)

  module _ (rows : scalar_refusal s.physical_expr.tree ≡ []) where
    sorted : Answers (sort_plan s) (s.physical_expr ∷ []) frame g x.values.name (sorted_kind (cell_kind x)) (sort_answers s.options x)
    sorted = record {
      node = sort_node s;
      sound = one_none (group_refusals s.physical_expr frame) h.sound;
      own = rw (rows, h.kind) (first_unless (is_list_kind (cell_kind x)) (InvalidOperation ListKey) (cell_kind x));
      kind = unless_kind (is_list_kind (cell_kind x)) (InvalidOperation ListKey) (cell_kind x) (kind_in s.physical_expr.tree (scope_of frame)) h.kind;
      named = h.name;
      plain_type = plain_if (is_list_kind (cell_kind x)) (Err (InvalidOperation ListKey)) (Ok (cell_kind x)) refl tt;
      each = one_answers (sort_plan s) s.physical_expr x (sorted_kind (cell_kind x)) (sort_named s.options) (λ f u q. sort_answer s f (named_in x u) q) (group_frames frame g) (cells_of x) h.cells;
    }

    -- the context that a sort makes
    pub sort_context : (r : Result Context PxError) → IfOk r (IsSorted s.options x) → IfOk r (KeepsGroups (x ∷ [])) → IfOk r (IsContextOf (sort_plan s) frame g)
    sort_context (Ok c) m keeps =
        made_context (sort_plan s) (s.physical_expr ∷ []) frame g x.values.name (sorted_kind (cell_kind x)) (sort_answers s.options x) false (length x.groups.groups) (x ∷ []) c sorted (h.kept, tt) refl h.count m keeps (λ t. absurd (cc t))
    sort_context (Err e) m keeps = tt

    -- why it makes none
    pub sort_refused : (r : Result Context PxError) → IfErr r (λ e. (sorted_kind (cell_kind x) ≡ Err e) ⊎ IsRefusal e (sort_answers s.options x) (counts_in (sort_answers s.options x))) → IfErr r (λ e. IsGroupCause e (sort_plan s) frame g)
    sort_refused (Ok c) w = tt
    sort_refused (Err e) w =
        made_group_cause e (sort_plan s) (s.physical_expr ∷ []) frame g x.values.name (sorted_kind (cell_kind x)) (sort_answers s.options x) (counts_in (sort_answers s.options x)) sorted
        (answers_in_size (sort_plan s) (s.physical_expr ∷ []) frame g x.values.name (sorted_kind (cell_kind x)) (sort_answers s.options x) sorted) w

-- a cause of what is sorted is the sort's
pub sorted_group_cause : (e : PxError) (s : PlannedSort) (frame : Frame) (g : Groups) → IsGroupCause e s.physical_expr frame g → IsGroupCause e (sort_plan s) frame g
sorted_group_cause e s frame g = group_cause_above (sort_plan s) (s.physical_expr ∷ []) (sort_node s) e s.physical_expr frame g (inl refl)
