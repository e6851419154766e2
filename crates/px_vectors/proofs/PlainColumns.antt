-- Columns that are made of the rows of others.
use Rattle.std.proofs.Common.{◌≡◌, ℕ, zero, suc, ◌+◌, Bool, true, List, [], ◌∷◌, Ok, Err, length, map, refl, sym, ◌∙◌, ap, if◌then◌else◌, add-one}
use Rattle.std.specs.List.{range_with_len}
use Rattle.px_column.specs.Column.{made}
use Rattle.px_column.specs.Prelude.{Slot, Kind, slots_fit, Series, slot_at}
use Rattle.px_value.specs.declared.error.PxError.TheVariants.{InvalidOperation}
use Rattle.px_value.specs.declared.error.InvalidWhy.TheVariants.{Types}
use Rattle.px_frame.specs.Frame.{slots_at}

-- a column of places that fit is made as it is
pub made_as : (s : Series) (name : List ℕ) (kind : Kind) (xs : List Slot) → name ≡ s.name → kind ≡ s.kind → xs ≡ s.slots → slots_fit s.kind s.slots ≡ true → made name kind xs ≡ Ok s
made_as s name kind xs n k x h = (λ i. made (n i) (k i) (x i)) ∙ ap (λ (b : Bool). if b then Ok s else Err (InvalidOperation Types)) h

range_shift : (a n : ℕ) → map suc (range_with_len a n) ≡ range_with_len (a + 1) n
range_shift a zero = refl
range_shift a (suc n) = λ i. sym (add-one a) i ∷ range_shift (a + 1) n i

shifted : (x : Slot) (xs : List Slot) (rows : List ℕ) → slots_at (x ∷ xs) (map suc rows) ≡ slots_at xs rows
shifted x xs [] = refl
shifted x xs (r ∷ rs) = ap (λ ys. slot_at xs r ∷ ys) (shifted x xs rs)

-- all rows in their order
pub all_slots : (xs : List Slot) → slots_at xs (range_with_len 0 (length xs)) ≡ xs
all_slots [] = refl
all_slots (x ∷ xs) = ap (λ ys. x ∷ ys) (ap (slots_at (x ∷ xs)) (sym (range_shift 0 (length xs))) ∙ shifted x xs (range_with_len 0 (length xs)) ∙ all_slots xs)
