-- The frame of the rows that a mask keeps is a frame.
use Rattle.std.proofs.Common.{◌≡◌, suc, ◌==◌, Bool, true, false, ◌&&◌, List, [], ◌∷◌, Result, Ok, Err, length, map, refl, sym, ◌∙◌, ap, arith, if◌then◌else◌}
use Rattle.std.proofs.lemmas.Bool.Decides.{nat_tests}
use Rattle.px_column.specs.Prelude.{Slot, Series}
use Rattle.px_column.specs.Operator.{is_boolean_kind}
use Rattle.px_column.specs.Rows.{is_true, kept_column, kept_rows}
use Rattle.px_column.proofs.Keeping.{kept_column_beside}
use Rattle.px_value.proofs.FitLaws.{both}
use Rattle.px_value.specs.declared.error.PxError.{PxError}
use Rattle.px_value.specs.declared.error.PxError.TheVariants.{ShapeMismatch, SchemaMismatch}
use Rattle.px_frame.specs.Frame.{IsFrame, all_have_height, first_repeat, frame_of, has_height, height_of, kept_frame, kept_series, names_of}
use Rattle.px_frame.proofs.Each.{has_height_is}
use Rattle.px_frame.proofs.LookLaws.{even_from, has_length}
use Rattle.px_frame.proofs.Rows.{frame_of-IsFrame}

-- a mask of as many rows keeps rows of a column
pub kept_column_even : (s mask : Series) → is_boolean_kind mask.kind ≡ true → has_height (length mask.slots) s ≡ true → kept_column s mask ≡ Ok (kept_series mask.slots s)
kept_column_even s mask k h = kept_column_beside s mask k (sym (has_height_is (length mask.slots) s h))

-- a mask keeps as many rows of each list that is as long
kept_length : (mask xs : List Slot) → length xs ≡ length mask → length (kept_rows mask xs) ≡ length (kept_rows mask mask)
kept_length [] xs h = refl
kept_length (m ∷ mask) [] h = absurd (omega (arith, h))
kept_length (m ∷ mask) (x ∷ xs) h = by (is_true m) refl (kept_length mask xs (omega (arith, h)))
  where
    by : (b : Bool) → is_true m ≡ b → length (kept_rows mask xs) ≡ length (kept_rows mask mask) → length (kept_rows (m ∷ mask) (x ∷ xs)) ≡ length (kept_rows (m ∷ mask) (m ∷ mask))
    by true e rest = rw e (ap (λ n. suc n) rest)
    by false e rest = rw e rest

names_kept : (mask : List Slot) (frame : List Series) → names_of (map (kept_series mask) frame) ≡ names_of frame
names_kept mask [] = refl
names_kept mask (s ∷ frame) = ap (λ ns. s.name ∷ ns) (names_kept mask frame)

all_kept : (mask : List Slot) (frame : List Series) → all_have_height (length mask) frame ≡ true → all_have_height (length (kept_rows mask mask)) (map (kept_series mask) frame) ≡ true
all_kept mask [] h = refl
all_kept mask (s ∷ frame) h =
    let p = both (has_height (length mask) s) (all_have_height (length mask) frame) h in
    λ i. has_length (length (kept_rows mask mask)) (kept_series mask s) (kept_length mask s.slots (has_height_is (length mask) s p.0)) i && all_kept mask frame p.1 i

-- all columns are as long as a mask of the frame's height
pub all_as_mask : (mask : List Slot) (frame : List Series) → IsFrame frame → length mask ≡ height_of frame → all_have_height (length mask) frame ≡ true
all_as_mask mask frame f h = ap (λ n. all_have_height n frame) h ∙ f.even

-- the columns' rows that such a mask of truths keeps are the frame that is meant
pub frame_of-kept : (frame : List Series) (mask : Series) → IsFrame frame → is_boolean_kind mask.kind ≡ true → length mask.slots ≡ height_of frame → frame_of (map (kept_series mask.slots) frame) ≡ kept_frame frame mask
frame_of-kept frame mask f k h =
    let kept = map (kept_series mask.slots) frame in
    let frame_kept : IsFrame kept = record {
      distinct = ap (first_repeat []) (names_kept mask.slots frame) ∙ f.distinct;
      even = even_from (length (kept_rows mask.slots mask.slots)) kept (all_kept mask.slots frame (all_as_mask mask.slots frame f h));
    } in
    let high : (length mask.slots == height_of frame) ≡ true = grind (arith, nat_tests) in
    let whole : Result (List Series) PxError = Ok kept in
    frame_of-IsFrame kept frame_kept
    ∙ sym (ap (λ (b : Bool). if b then (if length mask.slots == height_of frame then whole else Err ShapeMismatch) else Err SchemaMismatch) k ∙ ap (λ (b : Bool). if b then whole else Err ShapeMismatch) high)
