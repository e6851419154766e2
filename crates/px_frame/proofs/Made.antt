-- Rows that are made one for each group.
use Rattle.std.proofs.Common.{◌≡◌, ℕ, ◌+◌, List, [], ◌∷◌, ◌++◌, Option, Some, map, take, slice_get, sym, ◌∙◌, ap}
use Rattle.std.proofs.lemmas.List.{map_push}
use Rattle.px_column.specs.Prelude.{Slot, slot_of, slots_of}
use Rattle.px_value.specs.declared.value.Value.{Value}
use Rattle.px_frame.proofs.Each.{map_next}

pub made_next : {X : Type 0} (f : X → Slot) (xs : List X) (i : ℕ) (x : X) (rows new : List (Option Value)) (v : Option Value) → new ≡ rows ++ v ∷ [] → slots_of rows ≡ map f (take i xs)
    → slice_get xs i ≡ Some x → slot_of v ≡ f x → slots_of new ≡ map f (take (i + 1) xs)
made_next f xs i x rows new v e made at same =
    ap slots_of e ∙ map_push slot_of rows v ∙ (λ j. made j ++ same j ∷ []) ∙ sym (map_next f xs i x at)
