-- Partial reductions of groups, which have absorbed some of their rows.
use Rattle.std.specs.Prelude.{◌≡◌, ℕ, ◌≤◌, List, [], ◌∷◌, length, take}
use Rattle.px_column.specs.Prelude.{Slot, Kind, Series}
use Rattle.px_frame.specs.Frame.{slots_at}
use Rattle.px_frame.specs.Groups.{Group}
use Rattle.px_frame.specs.declared.blocks.Partial.{Partial}

-- the state of what a column holds at a group's first rows, and how many they are
pub record IsPartial {R : Type 0} (stands_for : R → Kind → List Slot → Type 0) (s : Series) (p : Group) (b : Partial R) : Type 0 where
  pub stands : stands_for b.state s.kind (slots_at s.slots (take b.taken p.rows))
  pub within : b.taken ≤ length p.rows

-- one for each group
abbrev pub ArePartial : {R : Type 0} → (R → Kind → List Slot → Type 0) → Series → List Group → List (Partial R) → Type 0
ArePartial stands_for s [] [] = Unit {0}
ArePartial stands_for s (p ∷ ps) (b ∷ bs) = IsPartial stands_for s p b × ArePartial stands_for s ps bs
ArePartial stands_for s [] (b ∷ bs) = ⊥
ArePartial stands_for s (p ∷ ps) [] = ⊥
