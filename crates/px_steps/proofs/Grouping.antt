-- What is found of expressions that are not refused.
use Rattle.std.proofs.Common.{◌≡◌, inl, ℕ, List, [], ◌∷◌, ◌++◌, Option, Some, None, Result, Ok, Err, option_map, option_and_then, refl, sym, ◌∙◌, ap, subst}
use Rattle.px_column.specs.Prelude.{Answers, Kind}
use Rattle.px_value.specs.declared.error.PxError.{PxError}
use Rattle.px_value.specs.declared.error.PxError.TheVariants.{OutOfMemory}
use Rattle.px_value.proofs.Refusing.{no_refusal}
use Rattle.px_expr.specs.Plan.{planned_over}
use Rattle.px_answers.specs.Planned.{Planned}
use Rattle.px_answers.specs.Value.{IsCause, IsCellOf, causes_on}
use Rattle.px_frame.specs.Cell.{Cell}
use Rattle.px_frame.specs.External.{Frame, scope_of}
use Rattle.px_frame.specs.Spread.{NamedCell}
use Rattle.px_tree.specs.Shape.{name_of}
use Rattle.px_tree.specs.Size.{size_on}
use Rattle.px_tree.specs.Tree.{Tree}
use Rattle.px_tree.specs.Typing.{Scope, kind_in, refusals_of}
use Rattle.px_tree.specs.Value.{faults_on, value_on}
use Rattle.px_tree.specs.declared.context.Context.{Context}
use Rattle.px_tree.specs.declared.context.Context.TheVariants.{Default}
use Rattle.px_steps.specs.Finds.{Finds, IsAccepted, Lacks, misfit_fault}
use Rattle.px_steps.specs.Meets.{IsFirst, unless_refused}
use Rattle.px_tree.specs.Grouped.{named_value}
use Rattle.px_steps.proofs.Selected.{cause_lacks, causes_told, cell_fits, lacks_swapped}

-- where there is no refusal, memory was wanting
pub no_first : (e : PxError) (refusals : List PxError) → refusals ≡ [] → IsFirst e refusals → e ≡ OutOfMemory
no_first e refusals n h = no_refusal e (unless_refused refusals) tt (ap unless_refused n) h

-- what is found where there is a value and no fault
pub finds_same : {X : Type 0} (r : Result X PxError) (y : X) (meant : Option X) (faults : List PxError) (n : ℕ) → Answers r (Ok y) → meant ≡ Some y → faults ≡ [] → Finds r meant faults n
finds_same (Ok x) y meant faults n a m f = let same : y ≡ x = cc in (f, m ∙ ap Some same)
finds_same {X} (Err e) y meant faults n a m f = inl (no_refusal {Y = X} e (Ok y) y refl a)

-- why an expression that is not refused has no value
pub accepted_lacks : (e : PxError) (p : Planned) (frame : Frame) → IsAccepted p frame Default → IsCause e p frame → Lacks e (faults_on p.tree frame ++ misfit_fault frame p.tree) (size_on p.tree (frame ∷ []))
accepted_lacks e p frame a c =
    let same : causes_on p frame ≡ misfit_fault frame p.tree ++ faults_on p.tree frame = ap (λ q. causes_on q frame) a.over ∙ causes_told frame p.tree a.accepted in
    lacks_swapped e (misfit_fault frame p.tree) (faults_on p.tree frame) _ (subst (λ (es : List PxError). Lacks e es (size_on p.tree (frame ∷ []))) same (cause_lacks e p frame c))

-- a named value is the value, with the expression's type
pub value_there : (frame : Frame) (t : Tree) (c : NamedCell) → named_value frame t ≡ Some c → (value_on t frame ≡ Some c.cell) × (kind_in t (scope_of frame) ≡ Some c.kind)
value_there frame t c h = by (value_on t frame) (kind_in t (scope_of frame)) h
  where
    by : (v : Option Cell) (k : Option Kind) → option_and_then (λ x. option_map (λ j. record { name = name_of t; kind = j; cell = x }) k) v ≡ Some c → (v ≡ Some c.cell) × (k ≡ Some c.kind)
    by None k h = cc
    by (Some v) None h = cc
    by (Some v) (Some k) h = let same : record { name = name_of t; kind = k; cell = v } ≡ c = cc in (ap (λ (x : NamedCell). Some x.cell) same, ap (λ (x : NamedCell). Some x.kind) same)

-- a planned expression that is not refused in its place
pub accepted_made : (p : Planned) (t : Tree) (frame : Frame) (scope : Scope) (place : Context) → Some (planned_over scope t) ≡ Some p → scope ≡ scope_of frame → refusals_of t (scope_of frame) place ≡ [] → IsAccepted p frame place
accepted_made p t frame scope place h s n =
    let made : planned_over scope t ≡ p = cc in
    subst (λ (q : Planned). IsAccepted q frame place) (ap (λ (over : Scope). planned_over over t) (sym s) ∙ made) (record { over = refl; accepted = n })

-- an accepted expression whose cell was made names no column beside the frame that has not its height
pub accepted_fits : (p : Planned) (frame : Frame) (c : NamedCell) → IsAccepted p frame Default → IsCellOf p frame c → misfit_fault frame p.tree ≡ []
accepted_fits p frame c a h = cell_fits p.tree frame c a.accepted (subst (λ (q : Planned). IsCellOf q frame c) a.over h)
