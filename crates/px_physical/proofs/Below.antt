-- What is known of a node below another, said of the part that stands for it in the other's view.
use Rattle.std.proofs.Common.{◌≡◌, ℕ, List, ◌++◌, ◌||◌, subst, refl}
use Rattle.px_column.specs.Prelude.{Series}
use Rattle.px_value.specs.declared.error.PxError.{PxError}
use Rattle.px_frame.specs.Groups.{Groups}
use Rattle.px_frame.specs.Spread.{NamedCell}
use Rattle.px_tree.specs.Shape.{has_implode}
use Rattle.px_tree.specs.Typing.{implode_refusal, scalar_refusal}
use Rattle.px_context.specs.Context.{Context}
use Rattle.px_answers.specs.Counted.{RunAtMost, RunExactly}
use Rattle.px_answers.specs.Planned.{Planned}
use Rattle.px_answers.specs.Value.{IsCause, IsCellOf}
use Rattle.px_group_answers.specs.Counted.{RunOnGroups}
use Rattle.px_group_answers.specs.OnGroups.{IsContextOf, IsGroupCause}
use Rattle.px_window.specs.State.{State, beside}

-- its context on groups
pub context_at : {p q : Planned} {c : Context} (columns : List Series) (s : State) (g : Groups) → p ≡ q → IsContextOf p (beside columns s) g c → IsContextOf q (beside columns s) g c
context_at {c = c} columns s g seen h = subst (λ (u : Planned). IsContextOf u (beside columns s) g c) seen h

-- the same where other nodes ran before it, which left the state as it was
pub context_below : {p q : Planned} {s u : State} {c : Context} (columns : List Series) (g : Groups) → p ≡ q → u ≡ s → IsContextOf p (beside columns u) g c → IsContextOf q (beside columns s) g c
context_below {p = p} {s = s} {c = c} columns g seen same h = context_at columns s g seen (subst (λ (v : State). IsContextOf p (beside columns v) g c) same h)

-- why it has no context
pub group_cause_at : {p q : Planned} (e : PxError) (columns : List Series) (s : State) (g : Groups) → p ≡ q → IsGroupCause e p (beside columns s) g → IsGroupCause e q (beside columns s) g
group_cause_at e columns s g seen h = subst (λ (u : Planned). IsGroupCause e u (beside columns s) g) seen h

pub group_cause_below : {p q : Planned} {s u : State} (e : PxError) (columns : List Series) (g : Groups) → p ≡ q → u ≡ s → IsGroupCause e p (beside columns u) g → IsGroupCause e q (beside columns s) g
group_cause_below {p = p} {s = s} e columns g seen same h = group_cause_at e columns s g seen (subst (λ (v : State). IsGroupCause e p (beside columns v) g) same h)

-- what it costs on groups
pub group_cost_at : {p q : Planned} {n i j : ℕ} → p ≡ q → RunOnGroups p.tree n i j → RunOnGroups q.tree n i j
group_cost_at {n = n} {i = i} {j = j} seen h = subst (λ (u : Planned). RunOnGroups u.tree n i j) seen h

-- its kernels
pub ticks_at : {p q : Planned} (i j : ℕ) → p ≡ q → RunExactly p.tree i j → RunExactly q.tree i j
ticks_at i j seen h = subst (λ (u : Planned). RunExactly u.tree i j) seen h

-- its cell on a frame
pub cell_at : {p q : Planned} {c : NamedCell} (columns : List Series) (s : State) → p ≡ q → IsCellOf p (beside columns s) c → IsCellOf q (beside columns s) c
cell_at {c = c} columns s seen h = subst (λ (u : Planned). IsCellOf u (beside columns s) c) seen h

pub cell_below : {p q : Planned} {s u : State} {c : NamedCell} (columns : List Series) → p ≡ q → u ≡ s → IsCellOf p (beside columns u) c → IsCellOf q (beside columns s) c
cell_below {p = p} {s = s} {c = c} columns seen same h = cell_at columns s seen (subst (λ (v : State). IsCellOf p (beside columns v) c) same h)

-- why it has no value
pub cause_at : {p q : Planned} (e : PxError) (columns : List Series) (s : State) → p ≡ q → IsCause e p (beside columns s) → IsCause e q (beside columns s)
cause_at e columns s seen h = subst (λ (u : Planned). IsCause e u (beside columns s)) seen h

pub cause_below : {p q : Planned} {s u : State} (e : PxError) (columns : List Series) → p ≡ q → u ≡ s → IsCause e p (beside columns u) → IsCause e q (beside columns s)
cause_below {p = p} {s = s} e columns seen same h = cause_at e columns s seen (subst (λ (v : State). IsCause e p (beside columns v)) same h)

-- what it costs on a frame
pub cost_at : {p q : Planned} {i j : ℕ} (columns : List Series) (s : State) → p ≡ q → RunAtMost p.tree (beside columns s) i j → RunAtMost q.tree (beside columns s) i j
cost_at {i = i} {j = j} columns s seen h = subst (λ (u : Planned). RunAtMost u.tree (beside columns s) i j) seen h

pub cost_below : {p q : Planned} {s u : State} {i j : ℕ} (columns : List Series) → p ≡ q → u ≡ s → RunAtMost p.tree (beside columns u) i j → RunAtMost q.tree (beside columns s) i j
cost_below {p = p} {s = s} {i = i} {j = j} columns seen same h = cost_at columns s seen (subst (λ (v : State). RunAtMost p.tree (beside columns v) i j) same h)

-- what is refused of a slice of such nodes
abbrev pub sliced_refusals : Planned → Planned → Planned → List PxError
sliced_refusals a b c = implode_refusal (has_implode a.tree || (has_implode b.tree || has_implode c.tree)) ++ scalar_refusal a.tree

pub sliced_same : (a b c p q r : Planned) → a ≡ p → b ≡ q → c ≡ r → sliced_refusals p q r ≡ sliced_refusals a b c
sliced_same a b c p q r h k l = rw (h, k, l) refl
