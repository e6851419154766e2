-- Lists of different length are not the same.
use Rattle.std.proofs.Common.{◌≡◌, ◌≢◌, Bool, true, false, List, length, map, refl, sym, ◌∙◌, ap}
use Rattle.std.specs.Bool.{Decides}
use Rattle.std.proofs.lemmas.List.{length-map}
use Rattle.px_value.specs.Datum.{Slot}
use Rattle.px_value.specs.Equality.{row_eq}
use Rattle.px_value.specs.Decided.{row_decides}

refuted : {P : Type 0} (r : Bool) → Decides r P → (P → ⊥) → false ≡ r
refuted true d n = absurd (n (d.0 refl))
refuted false d n = refl

pub differ_len : (xs ys : List Slot) → length xs ≢ length ys → false ≡ row_eq xs ys
differ_len xs ys h = refuted _ (row_decides xs ys) (λ e. h (ap length e))

-- the same of what two functions make of their items
pub differ_len_map : {S T : Type 0} (f : S → Slot) (g : T → Slot) (xs : List S) (ys : List T) → length xs ≢ length ys → false ≡ row_eq (map f xs) (map g ys)
differ_len_map f g xs ys h = differ_len (map f xs) (map g ys) (λ e. h (sym (length-map xs f) ∙ e ∙ length-map ys g))
