-- What is made group by group.
use Rattle.std.proofs.Common.{◌≡◌, ◌⊎◌, inl, inr, ℕ, ◌^◌, ◌≤◌, Bool, List, [], ◌∷◌, Result, Ok, Err, IfOk, IfErr, length, map, refl, subst, sum, sym, ap, ◌∙◌}
use Rattle.px_column.specs.Prelude.{Kind, Refuses}
use Rattle.px_value.specs.declared.error.ComputeWhy.TheVariants.{TooLong}
use Rattle.px_value.specs.declared.error.PxError.{PxError}
use Rattle.px_value.specs.declared.error.PxError.TheVariants.{ComputeError, OutOfMemory}
use Rattle.px_frame.specs.Cell.{count_of}
use Rattle.px_frame.specs.Spread.{NamedCell}
use Rattle.px_context.specs.Context.{Context, cell_kind, has_units}
use Rattle.px_lanes.specs.Alike.{lengths_in}
use Rattle.px_lanes.specs.Made.{IsFault, IsMade, IsRefusal, count_in, counts_in, named_cells}
use Rattle.px_value.proofs.Refusing.{refuses_or}

-- the context of a node's answers
pub made_of : (r : Result Context PxError) (answers : List (Result NamedCell PxError)) (name : List ℕ) (kind : Result Kind PxError) (one : Bool) (count : ℕ) (cs : List NamedCell) (k : Kind)
    → answers ≡ map Ok cs → kind ≡ Ok k → IfOk r (λ c. named_cells c ≡ cs) → IfOk r (λ c. c.values.name ≡ name) → IfOk r (λ c. cell_kind c ≡ k) → IfOk r (λ c. has_units c.layout ≡ one)
    → IfOk r (λ c. length c.groups.groups ≡ count) → IfOk r (IsMade answers name kind one count)
made_of (Ok c) answers name kind one count cs k a t cells n q u len = record {
  cells = a ∙ ap (map Ok) (sym cells);
  name_is = n;
  kind_is = t ∙ ap Ok (sym q);
  shape = u;
  count_is = len;
}
made_of (Err e) answers name kind one count cs k a t cells n q u len = tt

counts_made : (cs : List NamedCell) → map count_in (map Ok cs) ≡ lengths_in cs
counts_made [] = refl
counts_made (c ∷ cs) = ap (λ ns. count_of c.cell ∷ ns) (counts_made cs)

-- a refusal of that context is one of the node's
pub refused_of : (r : Result Context PxError) (answers : List (Result NamedCell PxError)) (p : PxError → Type 0) (cs : List NamedCell) → answers ≡ map Ok cs
    → IfErr r (λ e. (e ≡ OutOfMemory) ⊎ ((e ≡ ComputeError TooLong) × (2 ^ 32 ≤ sum (lengths_in cs)))) → IfErr r (λ e. p e ⊎ IsRefusal e answers (counts_in answers))
refused_of (Ok c) answers p cs a h = tt
refused_of (Err e) answers p cs a h = by h
  where
    long : sum (lengths_in cs) ≡ counts_in answers
    long = sym (ap (λ rs. counts_in rs) a ∙ ap sum (counts_made cs))

    by : (e ≡ OutOfMemory) ⊎ ((e ≡ ComputeError TooLong) × (2 ^ 32 ≤ sum (lengths_in cs))) → p e ⊎ IsRefusal e answers (counts_in answers)
    by (inl m) = inr (inl (inl m))
    by (inr t) = inr (inr (t.0, subst (λ n. 2 ^ 32 ≤ n) long t.1))

-- a refusal of the type is the node's
pub refused_kind : (e : PxError) (kind : Result Kind PxError) (answers : List (Result NamedCell PxError)) → Refuses e kind → (kind ≡ Err e) ⊎ IsFault e answers
refused_kind e kind answers h = by (refuses_or e kind h)
  where
    by : (e ≡ OutOfMemory) ⊎ (kind ≡ Err e) → (kind ≡ Err e) ⊎ IsFault e answers
    by (inl m) = inr (inl m)
    by (inr f) = inl f

-- a fault is
pub refused_fault : (e : PxError) (kind : Result Kind PxError) (answers : List (Result NamedCell PxError)) (n : ℕ) → (kind ≡ Err e) ⊎ IsFault e answers → (kind ≡ Err e) ⊎ IsRefusal e answers n
refused_fault e kind answers n (inl t) = inl t
refused_fault e kind answers n (inr f) = inr (inl f)
