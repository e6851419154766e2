-- What a sorted order is.
use Rattle.std.specs.Prelude.{◌≡◌, ◌⊎◌, ℕ, ◌<◌, true, List, [], ◌∷◌}
use Rattle.std.specs.List.{AllByRecursion}
use Rattle.std.specs.declared.cmp.Ordering.TheVariants.{Less, Equal}
use Rattle.px_column.specs.Order.{row_cmp}
use Rattle.px_column.specs.Prelude.{Kind, Slot, slots_fit}
use Rattle.px_value.specs.declared.sort_options.SortOptions.{SortOptions}

-- each key has values of one type
abbrev pub HaveTypes : List (SortOptions × List Slot) → Type 0
HaveTypes [] = Unit {0}
HaveTypes (key ∷ keys) = ((k : Kind) × (slots_fit k key.1 ≡ true)) × HaveTypes keys

-- by the first key that tells them apart a row comes before another; or no key does, and it has the lower number
abbrev pub Precedes : List (SortOptions × List Slot) → ℕ → ℕ → Type 0
Precedes keys i j = (row_cmp keys i j ≡ Less) ⊎ ((row_cmp keys i j ≡ Equal) × (i < j))

-- each row precedes all that stand behind it
abbrev pub AreInOrder : List (SortOptions × List Slot) → List ℕ → Type 0
AreInOrder keys [] = Unit {0}
AreInOrder keys (i ∷ rows) = AllByRecursion (Precedes keys i) rows × AreInOrder keys rows
