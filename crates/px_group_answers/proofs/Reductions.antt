-- Reductions on groups, from the context of what is reduced.
use Rattle.std.proofs.Common.{◌≡◌, ◌⊎◌, inl, ℕ, ◌+◌, ◌^◌, ◌≤◌, Bool, true, false, cond, not, List, [], ◌∷◌, Some, Result, Ok, Err, IfOk, IfErr, length, map, sum, refl, sym, ◌∙◌, subst, arith}
use Rattle.px_column.specs.Reduction.{reduced_kind}
use Rattle.px_value.specs.declared.error.PxError.{PxError}
use Rattle.px_frame.specs.Cell.{Cell, count_of}
use Rattle.px_frame.specs.External.{Frame}
use Rattle.px_frame.specs.Groups.{Groups}
use Rattle.px_tree.specs.Shape.{is_implode}
use Rattle.px_tree.specs.Size.{count_on, counts_on, size_on}
use Rattle.px_tree.specs.Typing.{grouped_reduction_refusals, or_first}
use Rattle.px_context.specs.Changes.{counts_of}
use Rattle.px_context.specs.Context.{Context, cell_kind, cells_of}
use Rattle.px_nodes.specs.Named.{aggregation_named}
use Rattle.px_lanes.specs.Made.{IsRefusal, KeepsGroups, counts_in, named_in}
use Rattle.px_group_nodes.specs.Reduction.{IsReduced, laid_count, reduction_answers}
use Rattle.px_answers.proofs.Inputs.{one_none}
use Rattle.px_answers.proofs.Operands.{first_refusal, kind_made}
use Rattle.px_answers.proofs.Plain.{plain_reduced}
use Rattle.px_answers.proofs.Reductions.{reduction_answer, reduction_node, unit_of_reduction}
use Rattle.px_answers.specs.Parts.{PlannedReduction, reduction_plan}
use Rattle.px_answers.specs.Planned.{Planned}
use Rattle.px_answers.specs.Value.{IsCellOf}
use Rattle.px_group_answers.proofs.Above.{Answers, answers_in_size, counts_in_size, group_cause_above, made_context, made_group_cause, own_group_cause}
use Rattle.px_group_answers.proofs.Pointwise.{one_answers, sum_more}
use Rattle.px_group_answers.proofs.Refusing.{first_front, plain_reduction}
use Rattle.px_group_answers.specs.OnGroups.{AreCellsOn, IsContextOf, IsGroupCause, group_frames, group_refusals}

-- the values of all cells are the expression's
cells_counted : (p : Planned) (c : Context) (fs : List Frame) (xs : List Cell) → AreCellsOn p fs (map (named_in c) xs) → sum (map count_of xs) ≤ counts_on p.tree fs
cells_counted p c [] [] h = omega arith
cells_counted p c [] (x ∷ xs) h = absurd h
cells_counted p c (f ∷ fs) [] h = absurd h
cells_counted p c (f ∷ fs) (x ∷ xs) h =
    let here : IsCellOf p f (named_in c x) = h.0 in
    let one : count_on p.tree f ≡ count_of x = rw here.value refl in
    let rest = cells_counted p c fs xs h.1 in
    let left : sum (map count_of (x ∷ xs)) ≡ count_of x + sum (map count_of xs) = sum_more count_of x xs in
    let right : counts_on p.tree (f ∷ fs) ≡ count_on p.tree f + counts_on p.tree fs = sum_more (count_on p.tree) f fs in
    omega (arith, one, rest, left, right)

module _ (r : PlannedReduction) (frame : Frame) (g : Groups) (x : Context) (h : IsContextOf r.input frame g x) where
  -- a reduction is refused above an Implode and a literal, and of one value
  pub reduction_own_refused : (e : PxError) → or_first [] (grouped_reduction_refusals r.method r.input.tree) ≡ e ∷ [] → IsGroupCause e (reduction_plan r) frame g
  reduction_own_refused e own =
      own_group_cause (reduction_plan r) (r.input ∷ []) (reduction_node r) e frame g (one_none (group_refusals r.input frame) h.sound) (plain_reduction r.method r.input.tree e own) (first_front e (grouped_reduction_refusals r.method r.input.tree) _ own)

  module _ (rows : grouped_reduction_refusals r.method r.input.tree ≡ []) where
    reduced : Answers (reduction_plan r) (r.input ∷ []) frame g x.values.name (reduced_kind r.method (cell_kind x)) (reduction_answers r.method x)
    reduced = record {
      node = reduction_node r;
      sound = one_none (group_refusals r.input frame) h.sound;
      own = rw (rows, h.kind) (first_refusal (reduced_kind r.method (cell_kind x)));
      kind = rw h.kind (kind_made (reduced_kind r.method (cell_kind x)));
      named = h.name;
      plain_type = plain_reduced r.method (cell_kind x);
      each = one_answers (reduction_plan r) r.input x (reduced_kind r.method (cell_kind x)) (aggregation_named r.method) (λ f u q. reduction_answer r f (named_in x u) q) (group_frames frame g) (cells_of x) h.cells;
    }

    -- the context that a reduction makes
    pub reduction_context : (c : Result Context PxError) → IfOk c (IsReduced r.method x) → IfOk c (KeepsGroups (x ∷ [])) → IfOk c (IsContextOf (reduction_plan r) frame g)
    reduction_context (Ok c) m keeps =
        made_context (reduction_plan r) (r.input ∷ []) frame g x.values.name (reduced_kind r.method (cell_kind x)) (reduction_answers r.method x) (not (is_implode r.method)) (length x.groups.groups) (x ∷ []) c reduced (h.kept, tt) (unit_of_reduction r.method r.input.tree)
        h.count m keeps (λ t. absurd (cc t))
    reduction_context (Err e) m keeps = tt

    -- what a reduction lays out is no more than it, or what it reduces, has
    laid_in_size : 2 ^ 32 ≤ laid_count r.method x → 2 ^ 32 ≤ size_on (reduction_plan r).tree (group_frames frame g)
    laid_in_size = by (is_implode r.method)
      where
        own : 2 ^ 32 ≤ counts_in (reduction_answers r.method x) → 2 ^ 32 ≤ size_on (reduction_plan r).tree (group_frames frame g)
        own = answers_in_size (reduction_plan r) (r.input ∷ []) frame g x.values.name (reduced_kind r.method (cell_kind x)) (reduction_answers r.method x) reduced

        of_input : 2 ^ 32 ≤ sum (counts_of x) → 2 ^ 32 ≤ size_on (reduction_plan r).tree (group_frames frame g)
        of_input b =
            let cells = cells_counted r.input x (group_frames frame g) (cells_of x) h.cells in
            let size = counts_in_size r.input.tree (group_frames frame g) in
            omega (arith, b, cells, size)

        by : (i : Bool) → 2 ^ 32 ≤ cond i (sum (counts_of x)) (counts_in (reduction_answers r.method x)) → 2 ^ 32 ≤ size_on (reduction_plan r).tree (group_frames frame g)
        by true b = of_input b
        by false b = own b

    -- why it makes none
    pub reduction_refused : (c : Result Context PxError) → IfErr c (λ e. (reduced_kind r.method (cell_kind x) ≡ Err e) ⊎ IsRefusal e (reduction_answers r.method x) (laid_count r.method x)) → IfErr c (λ e. IsGroupCause e (reduction_plan r) frame g)
    reduction_refused (Ok c) w = tt
    reduction_refused (Err e) w =
        made_group_cause e (reduction_plan r) (r.input ∷ []) frame g x.values.name (reduced_kind r.method (cell_kind x)) (reduction_answers r.method x) (laid_count r.method x) reduced laid_in_size w

-- a cause of what is reduced is the reduction's
pub reduced_group_cause : (e : PxError) (r : PlannedReduction) (frame : Frame) (g : Groups) → IsGroupCause e r.input frame g → IsGroupCause e (reduction_plan r) frame g
reduced_group_cause e r frame g = group_cause_above (reduction_plan r) (r.input ∷ []) (reduction_node r) e r.input frame g (inl refl)
