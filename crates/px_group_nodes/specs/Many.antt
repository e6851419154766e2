-- What a node of a list of inputs makes of contexts: group by group what it makes of their cells.
use Rattle.std.specs.Prelude.{◌≡◌, ℕ, List, [], ◌∷◌, Result, Some, map, replicate, slice_get}
use Rattle.std.specs.List.{zip}
use Rattle.px_value.specs.declared.error.PxError.{PxError}
use Rattle.px_frame.specs.Spread.{NamedCell}
use Rattle.px_context.specs.Context.{Context}
use Rattle.px_lanes.specs.Made.{ArePaired, named_cells}

-- for each of n groups the cells of all inputs
abbrev pub across : ℕ → List (List NamedCell) → List (List NamedCell)
across n [] = replicate n []
across n (xs ∷ xss) = map (λ p. p.0 ∷ p.1) (zip xs (across n xss))

-- what a node answers on the cells of n groups
abbrev pub answers_of_many : (List NamedCell → Result NamedCell PxError) → ℕ → List Context → List (Result NamedCell PxError)
answers_of_many node n cs = map node (across n (map named_cells cs))

-- these are the inputs' cells at a group
abbrev pub AreAt : ℕ → List (List NamedCell) → List NamedCell → Type 0
AreAt i [] [] = Unit {0}
AreAt i (xs ∷ xss) (c ∷ cs) = (slice_get xs i ≡ Some c) × AreAt i xss cs
AreAt i _ _ = ⊥

-- a context is paired with each of some others
abbrev pub IsPairedWith : Context → List Context → Type 0
IsPairedWith c [] = Unit {0}
IsPairedWith c (d ∷ ds) = ArePaired c d × IsPairedWith c ds

-- each two of some contexts are paired
abbrev pub AreAllPaired : List Context → Type 0
AreAllPaired [] = Unit {0}
AreAllPaired (c ∷ cs) = IsPairedWith c cs × AreAllPaired cs
