-- The frame of some rows is a frame.
use Rattle.std.proofs.Common.{◌≡◌, ℕ, Bool, true, ◌&&◌, cond, List, [], ◌∷◌, Some, Result, Ok, Err, length, map, refl, ◌∙◌, ap, nat_lt, if◌then◌else◌}
use Rattle.std.proofs.lemmas.List.{length-map}
use Rattle.px_column.specs.Prelude.{Slot, Series, slot_at}
use Rattle.px_column.specs.Column.{taken, taken_at, all_within}
use Rattle.px_value.specs.declared.error.PxError.{PxError}
use Rattle.px_value.specs.declared.error.PxError.TheVariants.{OutOfBounds, ShapeMismatch}
use Rattle.px_frame.proofs.Each.{has_height_is}
use Rattle.px_value.proofs.FitLaws.{both}
use Rattle.px_frame.specs.Frame.{names_of, all_have_height, has_height, is_even, IsFrame, frame_of, first_repeat, unless_repeated, are_below, are_in_all, taken_series, series_at, slots_at, subframe}
use Rattle.px_frame.proofs.LookLaws.{has_length}

within_below : (n : ℕ) (rows : List ℕ) → all_within n (map Some rows) ≡ are_below n rows
within_below n [] = refl
within_below n (r ∷ rs) = ap (λ b. nat_lt r n && b) (within_below n rs)

pub in_all : (n : ℕ) (rows : List ℕ) (frame : List Series) → all_have_height n frame ≡ true → are_below n rows ≡ true → are_in_all (map Some rows) frame ≡ true
in_all n rows [] h b = refl
in_all n rows (s ∷ frame) h b =
    let p = both (has_height n s) (all_have_height n frame) h in
    λ i. (ap (λ m. all_within m (map Some rows)) (has_height_is n s p.0) ∙ within_below n rows ∙ b) i && in_all n rows frame p.1 b i

taken_slots : (xs : List Slot) (rows : List ℕ) → map (taken_at xs) (map Some rows) ≡ slots_at xs rows
taken_slots xs [] = refl
taken_slots xs (r ∷ rs) = ap (λ ys. slot_at xs r ∷ ys) (taken_slots xs rs)

-- rows that are there are taken
pub taken_there : (s : Series) (rows : List ℕ) → are_below (length s.slots) rows ≡ true → taken s (map Some rows) ≡ Ok (series_at rows s)
taken_there s rows below =
    ap (λ (b : Bool). cond b (Ok (taken_series (map Some rows) s)) (Err OutOfBounds)) (within_below (length s.slots) rows ∙ below)
    ∙ ap (λ ys. Ok (record s { slots = ys })) (taken_slots s.slots rows)

pub taken_frame : (rows : List ℕ) (frame : List Series) → map (taken_series (map Some rows)) frame ≡ subframe frame rows
taken_frame rows [] = refl
taken_frame rows (s ∷ frame) = λ i. record s { slots = taken_slots s.slots rows i } ∷ taken_frame rows frame i

names_of-subframe : (rows : List ℕ) (frame : List Series) → names_of (subframe frame rows) ≡ names_of frame
names_of-subframe rows [] = refl
names_of-subframe rows (s ∷ frame) = ap (λ ns. s.name ∷ ns) (names_of-subframe rows frame)

all_as_long : (rows : List ℕ) (frame : List Series) → all_have_height (length rows) (subframe frame rows) ≡ true
all_as_long rows [] = refl
all_as_long rows (s ∷ frame) = λ i. has_length (length rows) (series_at rows s) (length-map rows (slot_at s.slots)) i && all_as_long rows frame i

even_rows : (rows : List ℕ) (frame : List Series) → is_even (subframe frame rows) ≡ true
even_rows rows [] = refl
even_rows rows (s ∷ frame) = ap (λ n. all_have_height n (subframe (s ∷ frame) rows)) (length-map rows (slot_at s.slots)) ∙ all_as_long rows (s ∷ frame)

-- what is a frame is made as it is
pub frame_of-IsFrame : (frame : List Series) → IsFrame frame → frame_of frame ≡ Ok frame
frame_of-IsFrame frame h =
    let made : Result (List Series) PxError = if is_even frame then Ok frame else Err ShapeMismatch in
    ap (λ r. unless_repeated r made) h.distinct ∙ ap (λ (b : Bool). if b then Ok frame else Err ShapeMismatch) h.even

pub IsFrame-subframe : (rows : List ℕ) (frame : List Series) → IsFrame frame → IsFrame (subframe frame rows)
IsFrame-subframe rows frame h = record { distinct = ap (first_repeat []) (names_of-subframe rows frame) ∙ h.distinct; even = even_rows rows frame }

pub frame_of-rows : (rows : List ℕ) (frame made : List Series) → IsFrame frame → made ≡ map (taken_series (map Some rows)) frame → frame_of made ≡ Ok (subframe frame rows)
frame_of-rows rows frame made h e = ap frame_of (e ∙ taken_frame rows frame) ∙ frame_of-IsFrame (subframe frame rows) (IsFrame-subframe rows frame h)
