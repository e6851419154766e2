-- Reductions by states: what a state must stand for to take a slot more, or another state.
use Rattle.std.specs.Prelude.{◌≡◌, ◌+◌, ◌^◌, ◌<◌, Bool, true, ℤ, List, Some, length, is_ok}
use Rattle.std.specs.List.{reduce}
use Rattle.px_value.specs.Datum.{Datum, Slot}
use Rattle.px_value.specs.Kind.{Kind, slot_fits, slots_fit}
use Rattle.px_value.specs.declared.method.GroupByMethod.{GroupByMethod}
use Rattle.px_operation.specs.Reduction.{reduced_kind, values_of}
use Rattle.px_operation.specs.Sum.{sum_kind, total, IsWithin}

-- whether a reduction takes values of a type
abbrev pub is_taken : GroupByMethod → Kind → Bool
is_taken method k = is_ok (reduced_kind method k)

-- a state that stands for some rows of a type has room for one slot more, which fits
pub record CanAbsorb (stands_for : Kind → List Slot → Type 0) (s : Slot) : Type 0 where
  pub kind : Kind
  pub rows : List Slot
  pub stands : stands_for kind rows
  pub fits : slot_fits kind s ≡ true
  pub short : length rows + 1 < 2 ^ 32

-- two states that stand for rows of one type have room for each other
pub record CanMerge (stands_for later_stands_for : Kind → List Slot → Type 0) : Type 0 where
  pub kind : Kind
  pub rows : List Slot
  pub later : List Slot
  pub stands : stands_for kind rows
  pub later_stands : later_stands_for kind later
  pub short : length rows + length later < 2 ^ 32

-- the best of the present values of some rows of a type
pub record IsBest (f : Datum → Datum → Datum) (best : Slot) (k : Kind) (xs : List Slot) : Type 0 where
  pub fit : slots_fit k xs ≡ true
  pub value : best ≡ reduce f (values_of xs)

-- the whole sum of some rows of a type, with the type of their sum
pub record IsTotal (made : Kind) (z : ℤ) (k : Kind) (xs : List Slot) : Type 0 where
  pub kind : sum_kind k ≡ Some made
  pub total : z ≡ total xs
  pub within : IsWithin (length xs) z
