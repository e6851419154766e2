-- Rows that are kept by a mask.
use Rattle.std.proofs.Common.{◌≡◌, ◌⊎◌, inl, inr, ℕ, List, [], ◌∷◌, Bool, true, false, replicate, length, refl, ap, sym, ◌∙◌, ◌==◌, ◌||◌, if◌then◌else◌, Ok, Err, eq-eqb, arith}
use Rattle.std.specs.Prelude.{Result}
use Rattle.px_value.specs.Datum.{Slot}
use Rattle.px_value.specs.Series.{Series, slot_at}
use Rattle.px_value.specs.declared.error.PxError.{PxError}
use Rattle.px_value.specs.declared.error.PxError.TheVariants.{ShapeMismatch, SchemaMismatch}
use Rattle.px_operation.specs.Operator.{is_boolean_kind}
use Rattle.px_column.specs.Beside.{rows_to}
use Rattle.px_column.specs.Rows.{kept_column, is_true, kept_rows, with_rows}

abbrev kept_ok : Series → List Slot → Result Series PxError
kept_ok s xs = Ok (with_rows s xs)

-- nothing is kept when either list is at its end
pub kept_at_end : (mask xs : List Slot) → ((u : List Slot) × ((mask ≡ []) × (u ≡ []))) ⊎ ((u : List Slot) × ((xs ≡ []) × (u ≡ []))) → kept_rows mask xs ≡ []
kept_at_end mask xs (inl (u, (h, e))) = ap (λ ms. kept_rows ms xs) h
kept_at_end [] xs (inr h) = refl
kept_at_end (m ∷ mask) xs (inr (u, (h, e))) = ap (kept_rows (m ∷ mask)) h

-- a mask that is true at each row keeps all
pub kept_all : (m : Slot) (xs : List Slot) → is_true m ≡ true → kept_rows (replicate (length xs) m) xs ≡ xs
kept_all m [] h = refl
kept_all m (x ∷ xs) h = rw h (ap (λ ys. x ∷ ys) (kept_all m xs h))

-- and one that is true at no row keeps none
pub kept_nothing : (m : Slot) (xs : List Slot) → is_true m ≡ false → kept_rows (replicate (length xs) m) xs ≡ []
kept_nothing m [] h = refl
kept_nothing m (x ∷ xs) h = rw h (kept_nothing m xs h)

rows_of_one : (mask : List Slot) (n : ℕ) → length mask ≡ 1 → rows_to n mask ≡ replicate n (slot_at mask 0)
rows_of_one [] n h = absurd (omega (arith, h))
rows_of_one (m ∷ []) n h = refl
rows_of_one (m ∷ k ∷ mask) n h = absurd (omega (arith, h))

rows_of_all : (mask : List Slot) (n : ℕ) → length mask ≡ n → rows_to n mask ≡ mask
rows_of_all [] n h = refl
rows_of_all (m ∷ []) n h = ap (λ k. replicate k m) (sym h)
rows_of_all (m ∷ k ∷ mask) n h = refl

chosen_by : (k a b : Bool) (xs : List Slot) (s : Series) → k ≡ true → (a || b) ≡ true → (if k then (if a || b then Ok (with_rows s xs) else Err ShapeMismatch) else Err SchemaMismatch) ≡ kept_ok s xs
chosen_by true a b xs s h e = rw e refl
chosen_by false a b xs s h e = cc

or_right : (a b : Bool) → b ≡ true → (a || b) ≡ true
or_right true b h = refl
or_right false b h = h

or_left : (a b : Bool) → a ≡ true → (a || b) ≡ true
or_left true b h = refl
or_left false b h = cc

-- a mask of as many rows
pub kept_column_beside : (s mask : Series) → is_boolean_kind mask.kind ≡ true → length mask.slots ≡ length s.slots → kept_column s mask ≡ Ok (with_rows s (kept_rows mask.slots s.slots))
kept_column_beside s mask k h =
    chosen_by (is_boolean_kind mask.kind) (length mask.slots == 1) (length mask.slots == length s.slots) (kept_rows (rows_to (length s.slots) mask.slots) s.slots) s k (or_right (length mask.slots == 1) (length mask.slots == length s.slots) (eq-eqb _ _ h))
    ∙ ap (λ ms. kept_ok s (kept_rows ms s.slots)) (rows_of_all mask.slots (length s.slots) h)

-- a mask of one row
pub kept_column_by_one : (s mask : Series) → is_boolean_kind mask.kind ≡ true → length mask.slots ≡ 1 → kept_column s mask ≡ Ok (with_rows s (kept_rows (replicate (length s.slots) (slot_at mask.slots 0)) s.slots))
kept_column_by_one s mask k h =
    chosen_by (is_boolean_kind mask.kind) (length mask.slots == 1) (length mask.slots == length s.slots) (kept_rows (rows_to (length s.slots) mask.slots) s.slots) s k (or_left (length mask.slots == 1) (length mask.slots == length s.slots) (eq-eqb _ _ h))
    ∙ ap (λ ms. kept_ok s (kept_rows ms s.slots)) (rows_of_one mask.slots (length s.slots) h)
