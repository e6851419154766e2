-- One more row in groups of rows that are kept beside their keys.
use Rattle.std.specs.Prelude.{◌≡◌, ℕ, Bool, List, [], ◌∷◌, ◌++◌, if◌then◌else◌}
use Rattle.std.specs.declared.alloc.Global.{Global}
use Rattle.smallvec.specs.declared.SmallVec.{SmallVec}

-- the row goes to the group of the key that is equal to k, or else begins a new last group
abbrev pub entered : {K : Type 0} → (K → K → Bool) → List K → List (List ℕ) → K → ℕ → List (List ℕ)
entered eq [] groups k row = groups ++ (row ∷ []) ∷ []
entered eq (x ∷ xs) [] k row = []
entered eq (x ∷ xs) (g ∷ gs) k row = if eq k x then (g ++ row ∷ []) ∷ gs else g ∷ entered eq xs gs k row

-- each group begins with the row that its number `first` says
abbrev pub AreStarted : List (ℕ × SmallVec ℕ 1 Global) → Type 0
AreStarted [] = Unit {0}
AreStarted (g ∷ gs) = ((rest : List ℕ) × (g.1.items ≡ g.0 ∷ rest)) × AreStarted gs
