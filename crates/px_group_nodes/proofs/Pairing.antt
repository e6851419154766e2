-- What is made of two contexts, group by group.
use Rattle.std.proofs.Common.{◌≡◌, ◌⊎◌, inl, inr, ℕ, ◌^◌, ◌≤◌, Bool, List, Result, Ok, Err, IfOk, IfErr, map, subst, sum, sym}
use Rattle.px_column.specs.Prelude.{Kind, Refuses}
use Rattle.px_value.specs.declared.error.ComputeWhy.TheVariants.{TooLong}
use Rattle.px_value.specs.declared.error.PxError.{PxError}
use Rattle.px_value.specs.declared.error.PxError.TheVariants.{ComputeError, OutOfMemory}
use Rattle.px_frame.specs.Spread.{NamedCell}
use Rattle.px_context.specs.Context.{Context}
use Rattle.px_lanes.specs.Alike.{lengths_in}
use Rattle.px_lanes.specs.Made.{IsFault, IsMade, IsRefusal, counts_in}
use Rattle.px_lanes.proofs.Grouping.{refused_fault, refused_kind, refused_of}

-- a refusal of the context that is made of all answers is one of the node's
pub refusal_of : (r : Result Context PxError) (answers : List (Result NamedCell PxError)) (cs : List NamedCell) → answers ≡ map Ok cs
    → IfErr r (λ e. (e ≡ OutOfMemory) ⊎ ((e ≡ ComputeError TooLong) × (2 ^ 32 ≤ sum (lengths_in cs)))) → IfErr r (λ e. IsRefusal e answers (counts_in answers))
refusal_of (Ok c) answers cs a h = tt
refusal_of (Err e) answers cs a h = strip (refused_of (Err e) answers (λ _. ⊥) cs a h)
  where
    strip : ⊥ ⊎ IsRefusal e answers (counts_in answers) → IsRefusal e answers (counts_in answers)
    strip (inl x) = absurd x
    strip (inr x) = x

-- a context of this type is one of the type that is told so
pub made_with : (r : Result Context PxError) (answers : List (Result NamedCell PxError)) (name : List ℕ) (kind : Result Kind PxError) (k : Kind) (one : Bool) (count : ℕ)
    → kind ≡ Ok k → IfOk r (IsMade answers name (Ok k) one count) → IfOk r (IsMade answers name kind one count)
made_with r answers name kind k one count h made = subst (λ (t : Result Kind PxError). IfOk r (IsMade answers name t one count)) (sym h) made

-- a refusal of the answers is a refusal of the type or of the answers
pub refused_with : (r : Result Context PxError) (answers : List (Result NamedCell PxError)) (kind : Result Kind PxError)
    → IfErr r (λ e. IsRefusal e answers (counts_in answers)) → IfErr r (λ e. (kind ≡ Err e) ⊎ IsRefusal e answers (counts_in answers))
refused_with (Ok c) answers kind h = tt
refused_with (Err e) answers kind h = inr h

-- and so is a fault
pub fault_with : (r : Result Context PxError) (answers : List (Result NamedCell PxError)) (kind : Result Kind PxError) → IfErr r (λ e. IsFault e answers)
    → IfErr r (λ e. (kind ≡ Err e) ⊎ IsRefusal e answers (counts_in answers))
fault_with (Ok c) answers kind h = tt
fault_with (Err e) answers kind h = inr (inl h)

-- and a refusal of the type
pub kind_refused : (e : PxError) (kind : Result Kind PxError) (answers : List (Result NamedCell PxError)) → Refuses e kind → (kind ≡ Err e) ⊎ IsRefusal e answers (counts_in answers)
kind_refused e kind answers h = refused_fault e kind answers (counts_in answers) (refused_kind e kind answers h)
