-- A reduction's value, type and causes, from those of its input.
use Rattle.std.proofs.Common.{◌≡◌, ℕ, not, List, [], ◌∷◌, Option, Some, None, Result, Ok, Err, inl, refl, ◌∙◌, ap, arith}
use Rattle.std.specs.Prelude.{option_and_then}
use Rattle.px_column.specs.Prelude.{Refuses, Kind}
use Rattle.px_column.specs.Result.{◌>>=◌}
use Rattle.px_column.specs.Reduction.{reduced_kind, reduced_slot}
use Rattle.px_value.specs.declared.error.PxError.{PxError}
use Rattle.px_value.specs.declared.method.GroupByMethod.{GroupByMethod}
use Rattle.px_value.specs.declared.method.GroupByMethod.TheVariants.{Min, Max, Sum, First, Last, NUnique, Count, Implode}
use Rattle.px_frame.specs.Cell.{Cell, list_of}
use Rattle.px_frame.specs.External.{Frame, scope_of}
use Rattle.px_frame.specs.Schema.{FieldKind}
use Rattle.px_frame.specs.Spread.{NamedCell, column_of_cell}
use Rattle.px_nodes.specs.Named.{aggregation_named}
use Rattle.px_tree.specs.Node.{reduction_cell}
use Rattle.px_tree.specs.Shape.{is_unit, is_implode, name_of}
use Rattle.px_tree.specs.Tree.{Tree, agg}
use Rattle.px_tree.specs.Typing.{Scope, kind_in, refusals_of, own_refusals, refusal_of, or_first, first_or_kind, made_kind}
use Rattle.px_tree.specs.Value.{outcome_on, made, fault_in, faults_on}
use Rattle.px_tree.specs.declared.context.Context.TheVariants.{Default}
use Rattle.px_answers.proofs.Cells.{cell_is_value, unit_cell_of}
use Rattle.px_answers.proofs.Inputs.{IsNode, Decides, IsAnswer, answer_of, cause_above, made_cell, made_cause, refused_cause, one_apart, none_behind, one_none}
use Rattle.px_answers.proofs.Operands.{first_refusal, kind_made}
use Rattle.px_answers.proofs.Plain.{plain_reduced}
use Rattle.px_answers.specs.Live.{field_of, field_on}
use Rattle.px_answers.specs.Parts.{PlannedReduction, reduction_plan}
use Rattle.px_answers.specs.Value.{IsCause, IsCellOf, IsValue, causes_on}

-- the shape of a reduction
pub unit_of_reduction : (m : GroupByMethod) (e : Tree) → not (is_implode m) ≡ is_unit (agg m e)
unit_of_reduction Min e = refl
unit_of_reduction Max e = refl
unit_of_reduction Sum e = refl
unit_of_reduction First e = refl
unit_of_reduction Last e = refl
unit_of_reduction NUnique e = refl
unit_of_reduction (Count b) e = refl
unit_of_reduction Implode e = refl

-- a reduction has no fault of its own
no_reduction_fault : (m : GroupByMethod) (e : Tree) (f : Frame) → fault_in (outcome_on (agg m e) f) ≡ []
no_reduction_fault m e f = by (kind_in e (scope_of f)) (made (outcome_on e f))
  where
    by : (k : Option Kind) (o : Option Cell) → fault_in (option_and_then (λ j. option_and_then (λ c. Some (Ok (reduction_cell m j c))) o) k) ≡ []
    by None o = refl
    by (Some k) None = refl
    by (Some k) (Some c) = refl

pub reduction_node : (r : PlannedReduction) (f : Frame) → IsNode (reduction_plan r) (r.input ∷ []) f
reduction_node r f = record {
  refusals = λ place. ap (λ rs. or_first rs (own_refusals (reduction_plan r).tree (scope_of f) place)) (one_apart (refusals_of r.input.tree (scope_of f) place));
  columns = one_apart r.input.columns;
  faults = none_behind (faults_on r.input.tree f) (fault_in (outcome_on (reduction_plan r).tree f)) (no_reduction_fault r.method r.input.tree f);
  sizes = λ fs. omega arith;
}

reduction_decides : (r : PlannedReduction) (f : Frame) (x : NamedCell) → IsCellOf r.input f x → Decides (reduction_plan r) (r.input ∷ []) f x.name (reduced_kind r.method x.kind) (Ok (reduction_cell r.method x.kind x.cell))
reduction_decides r f x h = record {
  node = reduction_node r f;
  sound = one_none (causes_on r.input f) h.sound;
  own = rw h.kind (first_refusal (reduced_kind r.method x.kind));
  kind = rw h.kind (kind_made (reduced_kind r.method x.kind));
  outcome = rw (h.kind, h.value) refl;
  named = h.name;
  shape = unit_cell_of (not (is_implode r.method)) (reduced_slot r.method x.kind (list_of x.cell) ∷ []) ∙ unit_of_reduction r.method r.input.tree;
  plain_type = plain_reduced r.method x.kind;
  plain_cell = tt;
}

pub reduction_answer : (r : PlannedReduction) (f : Frame) (x : NamedCell) → IsCellOf r.input f x → IsAnswer (reduction_plan r) f (reduced_kind r.method x.kind) (aggregation_named r.method x)
reduction_answer r f x h = answer_of (reduction_plan r) (r.input ∷ []) f x.name (reduced_kind r.method x.kind) (Ok (reduction_cell r.method x.kind x.cell)) (reduction_decides r f x h)

pub reduction_cell_of : (r : PlannedReduction) (f : Frame) (x c : NamedCell) → IsCellOf r.input f x → aggregation_named r.method x ≡ Ok c → IsCellOf (reduction_plan r) f c
reduction_cell_of r f x c h m =
    made_cell (reduction_plan r) (r.input ∷ []) f x.name (reduced_kind r.method x.kind) (Ok (reduction_cell r.method x.kind x.cell)) c (reduction_decides r f x h) m

pub reduction_value : (r : PlannedReduction) (f : Frame) (x c : NamedCell) → IsCellOf r.input f x → aggregation_named r.method x ≡ Ok c → IsValue (reduction_plan r) f (column_of_cell c)
reduction_value r f x c h m = cell_is_value (reduction_plan r) f c (reduction_cell_of r f x c h m)

pub reduction_cause : (e : PxError) (r : PlannedReduction) (f : Frame) (x : NamedCell) → IsCellOf r.input f x → Refuses e (aggregation_named r.method x) → IsCause e (reduction_plan r) f
reduction_cause e r f x h =
    refused_cause e (aggregation_named r.method x) (reduction_plan r) f (made_cause (reduction_plan r) (r.input ∷ []) f x.name (reduced_kind r.method x.kind) (Ok (reduction_cell r.method x.kind x.cell)) e (reduction_decides r f x h))

pub reduced_cause : (e : PxError) (r : PlannedReduction) (f : Frame) → IsCause e r.input f → IsCause e (reduction_plan r) f
reduced_cause e r f = cause_above e (reduction_plan r) (r.input ∷ []) r.input f (reduction_node r f) (inl refl)

-- what typing found of the input
found : (rs : List PxError) (o : Option Kind) (n : List ℕ) (f : FieldKind) → (first_or_kind rs o >>= field_of n) ≡ Ok f → (rs ≡ []) × ((o ≡ Some f.kind) × (n ≡ f.name))
found (r ∷ rs) o n f h = absurd (cc h)
found [] None n f h = absurd (cc h)
found [] (Some k) n f h =
    let same : record { name = n; kind = k } ≡ f = cc in
    (refl, (ap (λ (g : FieldKind). Some g.kind) same, ap (λ (g : FieldKind). g.name) same))

-- and so the reduction's field, or why it is refused
pub reduced_field : (r : PlannedReduction) (scope : Scope) (f : FieldKind) → field_on r.input.tree scope ≡ Ok f
    → field_on (agg r.method r.input.tree) scope ≡ (reduced_kind r.method f.kind >>= field_of f.name)
reduced_field r scope f h =
    let i = found (refusals_of r.input.tree scope Default) (kind_in r.input.tree scope) (name_of r.input.tree) f h in
    rw (i.0, i.1.0, i.1.1) (by (reduced_kind r.method f.kind))
  where
    by : (o : Result Kind PxError) → (first_or_kind (or_first [] (refusal_of o)) (made_kind o) >>= field_of f.name) ≡ (o >>= field_of f.name)
    by (Ok k) = refl
    by (Err e) = refl
